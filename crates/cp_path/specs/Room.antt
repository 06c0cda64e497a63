-- A place in room of its own.
use Rattle.std.specs.Prelude.{ℕ, ◌≡◌, true, List, [], ◌∷◌, length, take, drop, sum, IsUtf8}
use Rattle.std.specs.List.{AllByRecursion}
use Rattle.cp_path.specs.Text.{is_name}
use Rattle.cp_path.specs.Place.{Path}

-- the labels of these lengths, one after another in the bytes
unfoldable pub labels_in : List ℕ → List ℕ → Path
labels_in [] bytes = []
labels_in (n ∷ ns) bytes = take n bytes ∷ labels_in ns (drop n bytes)

-- a name, and texts of these lengths that are all of the bytes
pub record IsRoom (db lengths bytes : List ℕ) : Type 0 where
  pub name : is_name db ≡ true
  pub whole : sum lengths ≡ length bytes
  pub texts : AllByRecursion IsUtf8 (labels_in lengths bytes)
