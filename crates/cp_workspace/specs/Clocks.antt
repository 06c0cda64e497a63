-- What is known of a clock at one moment, and how often it was asked since another.
use Rattle.std.specs.Prelude.{ℕ, ◌≡◌, List}
use Rattle.std.specs.declared.option.Option.{Option}
use Rattle.cp_outside.specs.declared.clock.Clock as clock
use Rattle.cp_workspace.specs.Files.{more}

-- a clock: the moments that are still to come, where they are known; how often it was asked, and how often it failed
pub record KnownClock : Type 0 where
  pub left : Option (List ℕ)
  pub asked : ℕ
  pub faults : ℕ

-- of the object that a call is given
abbrev pub known_clock : {K : Type 0} → clock.Ghosts K → K → KnownClock
known_clock g k = record { left = g.left k; asked = g.asked k; faults = g.faults k }

-- it was asked so often
abbrev pub HasAsked : KnownClock → KnownClock → ℕ → Type 0
HasAsked before now k = now.asked ≡ more before.asked k
