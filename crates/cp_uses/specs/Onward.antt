-- Where what was reached went from there, by what a store answers.
use Rattle.std.specs.Prelude.{ℕ, ◌+◌, ◌-◌, ◌≤◌, ◌≡◌, ◌==◌, ◌&&◌, Bool, true, false, List, [], ◌∷◌, ◌++◌, length, nat_lt, if◌then◌else◌}
use Rattle.std.specs.List.{list_all}
use Rattle.std.specs.declared.option.Option.{Option}
use Rattle.std.specs.declared.option.Option.TheVariants.{None, Some}
use Rattle.cp_path.specs.declared.loc.Loc.{Loc}
use Rattle.cp_model.specs.Place.{place_eq}
use Rattle.cp_model.specs.declared.effect.Effect.TheVariants.{Same as same, New as made, From as from}
use Rattle.cp_model.specs.Rows.{Reading, left, gone}
use Rattle.cp_model.specs.Changes.{change_at}
use Rattle.cp_model.specs.declared.kind.Kind.{Kind}
use Rattle.cp_model.specs.declared.record.Record.{Record}
use Rattle.cp_uses.specs.declared.reached.Reached.{Reached}
use Rattle.cp_uses.specs.Carrying.{landing}
use Rattle.cp_uses.specs.Front.{is_reached}

-- ---- what a store answers

-- there is no change after step t
abbrev pub is_early : ℕ → Option (ℕ × Reading) → Bool
is_early t None = true
is_early t (Some c) = nat_lt c.0 (t + 1)

-- what was reached stood there until before step u
abbrev pub stood : Kind → List Record → Reached → ℕ → Bool
stood k rs x u = is_early x.tid (change_at k rs (u - 1) x.place)

-- it is read as a copy of c
abbrev pub is_from : Loc → Reading → Bool
is_from c (left same) = false
is_from c (left made) = false
is_from c (left (from q)) = place_eq q c
is_from c gone = false

-- the change is that of step u, a copy of c
abbrev pub is_copy_in : ℕ → Loc → Option (ℕ × Reading) → Bool
is_copy_in u c None = false
is_copy_in u c (Some d) = (d.0 == u) && is_from c d.1

-- in its step it came from c
abbrev pub came : Kind → List Record → Reached → Loc → Bool
came k rs x c = is_copy_in x.tid c (change_at k rs x.tid x.place)

-- ---- one row

-- what this is, where it came from what was reached
abbrev pub if_came : Kind → List Record → Reached → Reached → List Reached
if_came k rs x y = if stood k rs x y.tid && came k rs y x.place then y ∷ [] else []

-- where step u took what was reached, if it took it there
abbrev pub onward_to : Kind → List Record → Reached → ℕ → Option Loc → List Reached
onward_to k rs x u None = []
onward_to k rs x u (Some p) = if_came k rs x (record { place = p; tid = u })

-- where the copy of a row took what was reached, if it took it along
abbrev pub onward : Kind → List Record → Reached → Record → List Reached
onward k rs x r = if nat_lt x.tid r.tid then onward_to k rs x r.tid (landing k r x.place) else []

-- ---- what is new

-- one more, unless it is there
abbrev pub add_one : List Reached → Reached → List Reached
add_one xs y = if is_reached y xs then xs else xs ++ y ∷ []

-- those that aren't there, each once
abbrev pub add_new : List Reached → List Reached → List Reached
add_new xs [] = xs
add_new xs (y ∷ ys) = add_new (add_one xs y) ys

-- behind the others at most n were added, each from a step after t on
pub record AddsLater (t n : ℕ) (old new : List Reached) : Type 0 where
  pub more : List Reached
  pub kept : new ≡ old ++ more
  pub later : list_all (λ y. nat_lt t y.tid) more ≡ true
  pub few : length more ≤ n
