-- The trees of the versions, in their order.
use Rattle.std.specs.Prelude.{ℕ, Bool, false, List, [], ◌∷◌, map}
use Rattle.std.specs.List.{slice_get}
use Rattle.std.specs.declared.option.Option.{Option}
use Rattle.std.specs.declared.option.Option.TheVariants.{None, Some}
use Rattle.cp_model.specs.Place.{Path}
use Rattle.cp_model.specs.Keyed.{empty, entries}
use Rattle.cp_model.specs.Subtrees.{is_there}
use Rattle.cp_model.specs.Tree.{Tree}
use Rattle.cp_model.specs.declared.row.Row.{Row}
use Rattle.cp_tree.specs.Rows.{entry_row}

-- the last of t and the trees after it
abbrev pub newest_after : Tree → List Tree → Tree
newest_after t [] = t
newest_after t (u ∷ us) = newest_after u us

-- the tree of the last version; before the first nothing is there
abbrev pub newest : List Tree → Tree
newest ts = newest_after empty ts

-- p is there in this tree, if there is such a version
abbrev pub there_if : Option Tree → Path → Bool
there_if None p = false
there_if (Some t) p = is_there t p

-- p is there in version t
abbrev pub is_there_in : List Tree → ℕ → Path → Bool
is_there_in ts t p = there_if (slice_get ts t) p

-- the rows of a tree
abbrev pub rows_of_tree : Tree → List Row
rows_of_tree t = map entry_row (entries t)
