-- Sums over a tree, as its number of places and its weight, after a subtree is replaced.
use Rattle.std.specs.Prelude.{ℕ, sum_by}
use Rattle.cp_model.specs.Place.{Path}
use Rattle.cp_model.specs.Keyed as keyed
use Rattle.cp_model.specs.Keyed.{Keyed}

-- the sum of f over the entries
abbrev pub total : {X : Type 0} → (Path × X → ℕ) → Keyed X → ℕ
total f m = sum_by f (keyed.entries m)
