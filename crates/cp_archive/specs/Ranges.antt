-- The ranges of versions in which a path is there with one content.
use Rattle.std.specs.Prelude.{ℕ, ◌+◌, Bool, true, false, not, List, [], ◌∷◌, length, filter}
use Rattle.std.specs.Ordering.{int_eq}
use Rattle.std.specs.declared.option.Option.{Option}
use Rattle.std.specs.declared.option.Option.TheVariants.{None, Some}
use Rattle.cp_path.specs.Text.{text_eq}
use Rattle.cp_path.specs.declared.value.Value.{Value}
use Rattle.cp_path.specs.declared.value.Value.TheVariants.{Null, False, True, Whole, Text}
use Rattle.cp_model.specs.Place.{Path}
use Rattle.cp_model.specs.Keyed.{look, entries, empty}
use Rattle.cp_model.specs.Tree.{Tree}
use Rattle.cp_model.specs.declared.row.Content.{Content}
use Rattle.cp_model.specs.declared.row.Content.TheVariants.{Node, Leaf}

-- the same value
abbrev pub value_eq : Value → Value → Bool
value_eq Null Null = true
value_eq False False = true
value_eq True True = true
value_eq (Whole m) (Whole n) = int_eq m n
value_eq (Text s) (Text t) = text_eq s t
value_eq v w = false

-- the same content
abbrev pub content_eq : Content → Content → Bool
content_eq Node Node = true
content_eq (Leaf v) (Leaf w) = value_eq v w
content_eq c d = false

-- there is a content, and it is this one
abbrev pub is_content : Option Content → Content → Bool
is_content None c = false
is_content (Some d) c = content_eq d c

-- those entries of the new ones that the old ones don't have
abbrev pub begun : List (Path × Content) → List (Path × Content) → List (Path × Content)
begun old new = filter (λ e. not (is_content (look e.0 old) e.1)) new

-- how many ranges begin in these versions, which follow a version with the tree t
abbrev pub ranges_after : Tree → List Tree → ℕ
ranges_after t [] = 0
ranges_after t (u ∷ us) = length (begun (entries t) (entries u)) + ranges_after u us

-- how many ranges the versions with these trees have, over all paths; before the first nothing is there
abbrev pub range_count : List Tree → ℕ
range_count ts = ranges_after empty ts
