-- How long what was reached stood at its place.
use Rattle.std.specs.Prelude.{ℕ, ◌≡◌, ◌≤◌, ◌+◌, ◌^◌, Bool, true, false, List, nat_le}
use Rattle.std.specs.declared.option.Option.{Option}
use Rattle.std.specs.declared.option.Option.TheVariants.{None, Some}
use Rattle.cp_model.specs.Place.{in_target}
use Rattle.cp_model.specs.Rows.{Reading}
use Rattle.cp_model.specs.Changes.{change_at}
use Rattle.cp_model.specs.declared.kind.Kind.{Kind}
use Rattle.cp_model.specs.declared.record.Record.{Record}
use Rattle.cp_uses.specs.declared.reached.Reached.{Reached}
use Rattle.cp_uses.specs.declared.stay.Stay.{Stay}
use Rattle.cp_uses.specs.Onward.{is_early}

-- no step after its own, up to version v, changed its place
abbrev pub stands : Kind → List Record → Reached → ℕ → Bool
stands k rs x v = is_early x.tid (change_at k rs v x.place)

-- the step of a change, or 0
abbrev pub step_of : Option (ℕ × Reading) → ℕ
step_of None = 0
step_of (Some c) = c.0

-- the step is one up to version v
abbrev pub is_over : ℕ → Option ℕ → Bool
is_over v None = false
is_over v (Some u) = nat_le u v

-- what is known is so; before the store is asked that is its own step, and all of them where its place is one of a source
pub record IsKnown (k : Kind) (rs : List Record) (x : Reached) (s : Stay) : Type 0 where
  pub own : in_target x.place ≡ true → x.tid ≤ s.still
  pub source : in_target x.place ≡ false → 2 ^ 64 ≤ s.still + 1
  pub still : (v : ℕ) → v ≤ s.still → stands k rs x v ≡ true
  pub changed : (v : ℕ) → is_over v s.changed ≡ true → stands k rs x v ≡ false
