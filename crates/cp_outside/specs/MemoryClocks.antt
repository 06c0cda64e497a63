-- What callers see of a clock in memory.
use Rattle.std.specs.Prelude.{ℕ, List, drop}
use Rattle.cp_outside.specs.Causes.{one_more}

-- The moments to come, the numbers of the calls that fail, how many calls there were, and how many of them failed.
pub record ClockState : Type 0 where
  pub left : List ℕ
  pub fails : List ℕ
  pub calls : ℕ
  pub faults : ℕ

-- A clock before its first call.
abbrev pub new_clock : List ℕ → List ℕ → ClockState
new_clock moments fails = record { left = moments; fails = fails; calls = 0; faults = 0 }

-- A clock after it told a moment.
abbrev pub after_moment : ClockState → ClockState
after_moment s = record s { left = drop 1 s.left; calls = one_more s.calls }

-- A clock after a call that failed.
abbrev pub after_failed_call : ClockState → ClockState
after_failed_call s = record s { calls = one_more s.calls; faults = one_more s.faults }
