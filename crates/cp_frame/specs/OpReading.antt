-- What the reading and the writing of operations rest on.
use Rattle.std.specs.Prelude.{ℕ, ◌≡◌, ◌≤◌, Bool, true, false, List, [], ◌∷◌, ◌++◌, length, ⊤}
use Rattle.std.specs.List.{AllByRecursion}
use Rattle.cp_path.specs.declared.limits.TheConstants.{TEXT_MAX}
use Rattle.cp_path.specs.declared.loc.Loc.{Loc}
use Rattle.cp_model.specs.declared.limits.TheConstants.{NODES_MAX}
use Rattle.cp_model.specs.Literals.{literal_rows}
use Rattle.cp_model.specs.Place.{Label, Path}
use Rattle.cp_model.specs.declared.row.Content.{Content}
use Rattle.cp_model.specs.Tree.{text_bytes}
use Rattle.cp_model.specs.declared.literal.Literal.{Literal}
use Rattle.cp_model.specs.declared.literal.Literal.TheVariants as literal
use Rattle.cp_model.specs.declared.op.Op.{Op}
use Rattle.cp_model.specs.declared.op.Op.TheVariants.{Ins, Del, Copy}
use Rattle.cp_record.specs.Kept.{IsLabel}
use Rattle.cp_format.specs.Formats.{Format, ReadsAt, moved}
use Rattle.cp_format.specs.Operations.{IsTarget}
use Rattle.cp_frame.specs.Trees.{Children, node, rows_below, tree_bytes, tree_checks}
use Rattle.cp_frame.specs.Rooms.{whole_room}
use Rattle.cp_frame.specs.Operations.{IsBranch, planted_front}

-- a node with children, in a tree of T
abbrev pub branch_format : Format Children
branch_format = record { fit = λ cs. IsBranch (whole_room 1) cs; bytes = λ cs. tree_bytes (node cs); checks = λ cs. tree_checks (node cs) }

-- these rows were read as those of the children of a node
pub record HasReadBranch (bytes : List ℕ) (at : ℕ) (below : List (Path × Content)) (next : ℕ) : Type 0 where
  pub children : Children
  pub reads : ReadsAt branch_format bytes at children next
  pub rows : rows_below children ≡ below

-- what follows the number of the form in the insertion of a tree: the place, the label and the tree
abbrev pub planted_format : Format (Loc × (Label × Children))
planted_format = record {
  fit = λ z. IsTarget z.0 × IsLabel z.1.0 × IsBranch (whole_room 1) z.1.1;
  bytes = λ z. planted_front z.0 z.1.0 ++ tree_bytes (node z.1.1);
  checks = λ z. moved (length (planted_front z.0 z.1.0)) (tree_checks (node z.1.1));
}

-- the operation was read as the insertion of a tree
pub record HasReadPlanted (bytes : List ℕ) (at : ℕ) (o : Op) (next : ℕ) : Type 0 where
  pub into : Loc
  pub label : Label
  pub children : Children
  pub reads : ReadsAt planted_format bytes at (into, (label, children)) next
  pub is : o ≡ Ins into label (literal.Node (rows_below children))

-- the literal is a node with children
abbrev pub has_children : Literal → Bool
has_children (literal.Leaf v) = false
has_children (literal.Node []) = false
has_children (literal.Node (e ∷ es)) = true

-- each text that the operation inserts is no longer than a text may be
abbrev pub HasShortTexts : Op → Type 0
HasShortTexts (Ins p a l) = AllByRecursion (λ e. text_bytes e.1 ≤ TEXT_MAX) (literal_rows l)
HasShortTexts (Del a p) = ⊤
HasShortTexts (Copy q p) = ⊤

-- it inserts no more places than a tree may have
abbrev pub HasFewPlaces : Op → Type 0
HasFewPlaces (Ins p a l) = length (literal_rows l) ≤ NODES_MAX
HasFewPlaces (Del a p) = ⊤
HasFewPlaces (Copy q p) = ⊤
