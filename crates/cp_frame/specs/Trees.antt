-- Trees as bytes: of each place its content, of a node the number of its children, and of each child its label and its tree.
use Rattle.std.specs.Prelude.{ℕ, suc, ◌≡◌, ◌+◌, ◌<◌, ◌^◌, Bool, true, List, [], ◌∷◌, ◌++◌, length, min, nat_eq, ⊤}
use Rattle.std.specs.List.{common_prefix_len}
use Rattle.std.specs.Int.{to_be_bytes, w32}
use Rattle.std.specs.Ordering.{is_lt}
use Rattle.std.specs.declared.option.Option.{Option}
use Rattle.std.specs.declared.option.Option.TheVariants.{None, Some}
use Rattle.cp_path.specs.Encoding.{counted_bytes}
use Rattle.cp_path.specs.Text.{text_cmp}
use Rattle.cp_path.specs.declared.value.Value.{Value}
use Rattle.cp_model.specs.Place.{Label, Path}
use Rattle.cp_model.specs.Literals.{literal_rows, rows_under, edge_rows}
use Rattle.cp_model.specs.declared.literal.Literal.{Literal}
use Rattle.cp_model.specs.declared.literal.LitEdge.{LitEdge}
use Rattle.cp_model.specs.declared.row.Content.{Content}
use Rattle.cp_model.specs.declared.row.Content.TheVariants.{Node, Leaf}
use Rattle.cp_record.specs.Kept.{IsLabel}
use Rattle.cp_format.specs.Contents.{IsContent, content_bytes}
use Rattle.cp_format.specs.Formats.{Check, moved}

-- a tree as it is written: a value, or a node and its children, in whatever order they come
mutual
  pub data Written : Type 0 where
    leaf : Value → Written
    node : Children → Written

  pub data Children : Type 0 where
    no_more : Children
    child : Label → Written → Children → Children

-- the rows of a written tree, from its root
abbrev mutual
  pub rows_of : Written → List (Path × Content)
  rows_of (leaf v) = ([], Leaf v) ∷ []
  rows_of (node cs) = ([], Node) ∷ rows_below cs

  -- the rows below a node
  pub rows_below : Children → List (Path × Content)
  rows_below no_more = []
  rows_below (child a t cs) = rows_under a (rows_of t) ++ rows_below cs

-- the number of children
abbrev pub number_of : Children → ℕ
number_of no_more = 0
number_of (child a t cs) = suc (number_of cs)

-- a value's content; or that of a node, the number of its children in four bytes, and these
abbrev mutual
  pub tree_bytes : Written → List ℕ
  tree_bytes (leaf v) = content_bytes (Leaf v)
  tree_bytes (node cs) = content_bytes Node ++ (to_be_bytes w32 (number_of cs) ++ children_bytes cs)

  -- of each child its label after its length, and its tree
  pub children_bytes : Children → List ℕ
  children_bytes no_more = []
  children_bytes (child a t cs) = counted_bytes a ++ (tree_bytes t ++ children_bytes cs)

-- the label comes after that of the child before, if there is one
abbrev pub comes_after : Option Label → Label → Bool
comes_after None a = true
comes_after (Some b) a = is_lt (text_cmp b a)

-- the byte of a label, its length before it, that decides how it stands to another: the first that isn't as in that one, or else its last
abbrev pub decided_at : Label → Label → ℕ
decided_at b a = min (common_prefix_len nat_eq b a + 1) (length a)

-- the byte at which a label is judged after that of the child before; after none it is as good as judged
abbrev pub judged_at : Option Label → Label → ℕ
judged_at None a = 0
judged_at (Some b) a = decided_at b a

-- each label has to come after that of the child before, and is judged at the byte that decides
abbrev mutual
  pub tree_checks : Written → List Check
  tree_checks (leaf v) = []
  tree_checks (node cs) = moved 5 (children_checks None cs)

  -- the same of the children that come after one with this label
  pub children_checks : Option Label → Children → List Check
  children_checks elder no_more = []
  children_checks elder (child a t cs) =
      record { last = judged_at elder a; holds = comes_after elder a }
      ∷ moved (length (counted_bytes a)) (tree_checks t ++ moved (length (tree_bytes t)) (children_checks (Some a) cs))

-- each label, each content and each number of children can be spelled
abbrev mutual
  pub HasParts : Written → Type 0
  HasParts (leaf v) = IsContent (Leaf v)
  HasParts (node cs) = (number_of cs < 2 ^ 32) × HaveParts cs

  -- the same of all children
  pub HaveParts : Children → Type 0
  HaveParts no_more = ⊤
  HaveParts (child a t cs) = IsLabel a × HasParts t × HaveParts cs

-- the bytes of a written tree, which has the rows of the literal, were appended
pub record HasPutTree (l : Literal) (old new : List ℕ) : Type 0 where
  pub tree : Written
  pub rows : rows_of tree ≡ literal_rows l
  pub parts : HasParts tree
  pub bytes : new ≡ old ++ tree_bytes tree

-- the bytes of so many children, which have the rows of these edges, were appended
pub record HasPutChildren (es : List LitEdge) (old new : List ℕ) : Type 0 where
  pub children : Children
  pub rows : rows_below children ≡ edge_rows es
  pub parts : HaveParts children
  pub number : number_of children ≡ length es
  pub bytes : new ≡ old ++ children_bytes children
