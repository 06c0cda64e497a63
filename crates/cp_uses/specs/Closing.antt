-- All that is reached from what was.
use Rattle.std.specs.Prelude.{◌≡◌, ◌⊎◌, ⊤, true, false, List, [], ◌∷◌, ◌++◌}
use Rattle.std.specs.List.{flat_map}
use Rattle.cp_model.specs.declared.kind.Kind.{Kind}
use Rattle.cp_model.specs.declared.record.Record.{Record}
use Rattle.cp_uses.specs.declared.reached.Reached.{Reached}
use Rattle.cp_uses.specs.Front.{is_reached}
use Rattle.cp_uses.specs.Onward.{onward}
use Rattle.cp_uses.specs.Sources.{copies_along}

-- where the copies of these rows took it, by what a store that keeps rs answers
abbrev pub nexts : Kind → List Record → List Record → Reached → List Reached
nexts k rs rows x = flat_map (onward k rs x) (copies_along k rows x)

-- it stands in the list
abbrev pub Stands : List Reached → Reached → Type 0
Stands [] x = ⊥
Stands (y ∷ ys) x = (y ≡ x) ⊎ Stands ys x

-- none stands in the list twice
abbrev pub AreApart : List Reached → Type 0
AreApart [] = ⊤
AreApart (x ∷ xs) = (is_reached x xs ≡ false) × AreApart xs

-- to what was reached others were added, each of which is where a copy took one of them, and none is left out
pub record Closes (k : Kind) (rs rows : List Record) (old new : List Reached) : Type 0 where
  pub more : List Reached
  pub kept : new ≡ old ++ more
  pub closed : (x y : Reached) → Stands new x → Stands (nexts k rs rows x) y → is_reached y new ≡ true
  pub apart : AreApart old → AreApart new
  pub from : (y : Reached) → Stands more y → (x : Reached) × Stands new x × Stands (nexts k rs rows x) y
