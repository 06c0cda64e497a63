-- What the reading of the parts of a tree gives: the literal, and the room that is left.
use Rattle.std.specs.Prelude.{ℕ, ◌+◌, ◌-◌, ◌*◌, ◌≡◌, ◌≤◌, List, [], ◌∷◌, ◌++◌, length, slice_get, sum_by}
use Rattle.std.specs.Borrow.{Bor}
use Rattle.std.specs.Option.{option_map}
use Rattle.std.specs.declared.option.Option.{Option}
use Rattle.std.specs.declared.option.Option.TheVariants.{None}
use Rattle.cp_path.specs.Encoding.{counted_bytes}
use Rattle.cp_model.specs.declared.limits.TheConstants.{PLACE_WEIGHT}
use Rattle.cp_model.specs.Place.{Label, Path}
use Rattle.cp_model.specs.Literals.{literal_rows}
use Rattle.cp_model.specs.Tree.{weight_of}
use Rattle.cp_model.specs.declared.literal.Literal.{Literal}
use Rattle.cp_model.specs.declared.literal.LitEdge.{LitEdge}
use Rattle.cp_model.specs.declared.row.Content.{Content}
use Rattle.cp_record.specs.Kept.{IsLabel}
use Rattle.cp_format.specs.Formats.{Check, Format, ReadsAt, moved}
use Rattle.cp_frame.specs.Trees.{Written, Children, rows_of, rows_below, tree_bytes, tree_checks, comes_after, judged_at}
use Rattle.cp_frame.specs.Rooms.{Room, FitsIn, tree_format, children_format, most_bytes, below_label, after_tree}

-- the label that a reference leads to, if there is one
abbrev pub label_in : Option (Bor Label) → Option Label
label_in o = option_map {T = Bor Label} {U = Label} (λ a. a.now) o

-- a label of so many bytes at most, after the label of the child before
abbrev pub next_label_format : ℕ → Option Label → Format Label
next_label_format most elder = record {
  fit = λ a. IsLabel a × (length a ≤ most);
  bytes = λ a. counted_bytes a;
  checks = λ a. record { last = judged_at elder a; holds = comes_after elder a } ∷ [];
}

-- the checks of a child: those of its label and of its tree
abbrev pub child_checks : Option Label → Label × Written → List Check
child_checks elder z = record { last = judged_at elder z.0; holds = comes_after elder z.0 } ∷ moved (length (counted_bytes z.0)) (tree_checks z.1)

-- a child, after one with this label
abbrev pub child_format : Option Label → Room → Format (Label × Written)
child_format elder r = record {
  fit = λ z. (IsLabel z.0 × (length z.0 ≤ most_bytes r)) × FitsIn (below_label z.0 r) z.1;
  bytes = λ z. counted_bytes z.0 ++ tree_bytes z.1;
  checks = λ z. child_checks elder z;
}

-- the label of the last edge, if there is one
abbrev pub label_of_last : List LitEdge → Option Label
label_of_last es = option_map (λ e. e.label) (slice_get es (length es - 1))

-- what a child takes of the room
abbrev pub after_child : Room → Label × Written → Room
after_child r z = record r { nodes = (after_tree (below_label z.0 r) z.1).nodes; weight = (after_tree (below_label z.0 r) z.1).weight }

-- what so many children take of the room that is left when they are announced
abbrev pub after_children : ℕ → Room → Children → Room
after_children n r cs = record r { nodes = r.nodes + n - length (rows_below cs); weight = r.weight + PLACE_WEIGHT * n - sum_by weight_of (rows_below cs) }

-- this literal was read as a tree in the room
pub record HasReadTree (r : Room) (bytes : List ℕ) (at : ℕ) (l : Literal) (next : ℕ) (less : Room) : Type 0 where
  pub tree : Written
  pub reads : ReadsAt (tree_format r) bytes at tree next
  pub rows : rows_of tree ≡ literal_rows l
  pub left : less ≡ after_tree r tree

-- this edge was read as a child in the room
pub record HasReadChild (elder : Option Label) (r : Room) (bytes : List ℕ) (at : ℕ) (e : LitEdge) (next : ℕ) (less : Room) : Type 0 where
  pub tree : Written
  pub reads : ReadsAt (child_format elder r) bytes at (e.label, tree) next
  pub rows : rows_of tree ≡ literal_rows e.tree
  pub left : less ≡ after_child r (e.label, tree)

-- these rows were read as so many children in the room
pub record HasReadChildren (n : ℕ) (r : Room) (bytes : List ℕ) (at : ℕ) (below : List (Path × Content)) (next : ℕ) (less : Room) : Type 0 where
  pub children : Children
  pub reads : ReadsAt (children_format n None r) bytes at children next
  pub rows : rows_below children ≡ below
  pub left : less ≡ after_children n r children
