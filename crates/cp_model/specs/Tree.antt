-- Trees, their limits, and when an operation on one is refused.
use Rattle.cp_model.specs.declared.limits.TheConstants.{NODES_MAX, PLACE_WEIGHT, WEIGHT_MAX}
use Rattle.cp_path.specs.declared.limits.TheConstants.{LABEL_MAX, TEXT_MAX}
use Rattle.std.specs.Prelude.{ℕ, ◌+◌, ◌≤◌, ◌≡◌, Bool, true, false, not, List, [], ◌∷◌, ◌++◌, length, sum_by, nat_lt, if◌then◌else◌, ⊤}
use Rattle.std.specs.List.{list_any}
use Rattle.std.specs.declared.option.Option.{Option}
use Rattle.std.specs.declared.option.Option.TheVariants.{None, Some}
use Rattle.cp_model.specs.Place.{Label, Path, at_target, in_target, label_eq, child, below_place, over_limit}
use Rattle.cp_model.specs.Cases.{first_case}
use Rattle.cp_model.specs.Keyed as keyed
use Rattle.cp_model.specs.Keyed.{Keyed}
use Rattle.cp_model.specs.Subtrees.{below, without, with_subtree, is_there}
use Rattle.cp_model.specs.Literals.{literal_rows}
use Rattle.cp_path.specs.Whole.{IsWhole}
use Rattle.cp_path.specs.declared.loc.Loc.{Loc}
use Rattle.cp_path.specs.declared.value.Value.TheVariants.{Null, False, True, Whole, Text}
use Rattle.cp_model.specs.declared.row.Content.{Content}
use Rattle.cp_model.specs.declared.row.Content.TheVariants.{Node, Leaf}
use Rattle.cp_model.specs.declared.op.Op.{Op}
use Rattle.cp_model.specs.declared.op.Op.TheVariants.{Ins, Del, Copy}
use Rattle.cp_model.specs.declared.refusal.Refusal.{Refusal}
use Rattle.cp_model.specs.declared.refusal.Refusal.TheVariants.{NoPlace, LabelThere, NoLabel, NotANode, ReadOnly, NoSource, TooDeep, TooMany, TooBig, NoOrigin}

-- a tree maps its paths to what stands there
abbrev pub Tree : Type 0
Tree = Keyed Content

-- ---- limits

-- the bytes of a text leaf
abbrev pub text_bytes : Content → ℕ
text_bytes Node = 0
text_bytes (Leaf Null) = 0
text_bytes (Leaf False) = 0
text_bytes (Leaf True) = 0
text_bytes (Leaf (Whole n)) = 0
text_bytes (Leaf (Text bs)) = length bs

-- the bytes of the last label, and 0 at the root
abbrev pub last_bytes : Path → ℕ
last_bytes [] = 0
last_bytes (a ∷ []) = length a
last_bytes (a ∷ b ∷ p) = last_bytes (b ∷ p)

-- the weight of one place
abbrev pub weight_of : Path × Content → ℕ
weight_of e = PLACE_WEIGHT + last_bytes e.0 + text_bytes e.1

-- the sum, over every place, of 16, the bytes of its last label and those of its text
unfoldable pub weight : Tree → ℕ
weight t = sum_by weight_of (keyed.entries t)

-- within the limits of nodes and weight
pub record IsWithin (t : Tree) : Type 0 where
  pub nodes : keyed.len t ≤ NODES_MAX
  pub weighs : weight t ≤ WEIGHT_MAX

-- the root is there, and what is above a place is a node
pub record IsRooted (t : Tree) : Type 0 where
  pub root : is_there t [] ≡ true
  pub parents : (p : Path) (a : Label) → is_there t (child p a) ≡ true → keyed.get t p ≡ Some Node

-- a whole number is within its range
abbrev pub IsNumber : Content → Type 0
IsNumber Node = ⊤
IsNumber (Leaf Null) = ⊤
IsNumber (Leaf False) = ⊤
IsNumber (Leaf True) = ⊤
IsNumber (Leaf (Whole n)) = IsWhole n
IsNumber (Leaf (Text bs)) = ⊤

-- the last label of a place is short enough to be written, and so is a number that stands there
pub record CanBeSpelled (p : Path) (c : Content) : Type 0 where
  pub label : last_bytes p ≤ LABEL_MAX
  pub number : IsNumber c

-- a tree within every limit, its places with a name of one character included
pub record IsTree (t : Tree) : Type 0 where
  pub rooted : IsRooted t
  pub within : IsWithin t
  pub places : (p : Path) → is_there t p ≡ true → over_limit (at_target p) ≡ false
  pub texts : (p : Path) (c : Content) → keyed.get t p ≡ Some c → text_bytes c ≤ TEXT_MAX
  pub spelled : (p : Path) (c : Content) → keyed.get t p ≡ Some c → CanBeSpelled p c

-- ---- sources

-- a loaded source
pub record Source : Type 0 where
  pub name : List ℕ
  pub tree : Tree

-- the tree of the source with this name
abbrev pub source : List Source → List ℕ → Option Tree
source [] n = None
source (s ∷ ss) n = if label_eq s.name n then Some s.tree else source ss n

-- the tree that a place's database is
abbrev pub database : List Source → Tree → Loc → Option Tree
database ss t q = if in_target q then Some t else source ss q.db

-- ---- refusals

-- there is a node
abbrev pub is_node : Option Content → Bool
is_node (Some Node) = true
is_node (Some (Leaf v)) = false
is_node None = false

-- the subtree at q, if there is such a tree
abbrev pub subtree_at : Option Tree → Path → List (Path × Content)
subtree_at None q = []
subtree_at (Some t) q = below q t

-- the contents after the operation
unfoldable pub tree_after : List Source → Tree → Op → Tree
tree_after ss t (Ins p a l) = with_subtree (child p.path a) (literal_rows l) t
tree_after ss t (Del a p) = without (child p.path a) t
tree_after ss t (Copy q p) = with_subtree p.path (subtree_at (database ss t q) q.path) t

-- some place of the subtree would be over a limit of places when it stands at p
abbrev pub reaches_over : {X : Type 0} → Loc → List (Path × X) → Bool
reaches_over p es = list_any (λ e. over_limit (below_place p e.0)) es

-- the cases of a tree that is over a limit
abbrev pub limits_of : Tree → List (Bool × Refusal)
limits_of t = (nat_lt NODES_MAX (keyed.len t), TooMany) ∷ (nat_lt WEIGHT_MAX (weight t), TooBig) ∷ []

-- the cases of a destination that has to be a node of T
abbrev pub at_node : Tree → Loc → List (Bool × Refusal)
at_node t p = (not (in_target p), ReadOnly) ∷ (not (is_there t p.path), NoPlace) ∷ (not (is_node (keyed.get t p.path)), NotANode) ∷ []

-- the cases of a place to be copied from
abbrev pub origin_there : Option Tree → Path → List (Bool × Refusal)
origin_there None q = (true, NoSource) ∷ []
origin_there (Some t) q = (not (is_there t q), NoOrigin) ∷ []

-- the cases of each operation, in the order in which they are tested
unfoldable pub cases_of : List Source → Tree → Op → List (Bool × Refusal)
cases_of ss t (Ins p a l) =
    at_node t p
    ++ ((is_there t (child p.path a), LabelThere)
    ∷ (reaches_over (below_place p (a ∷ [])) (literal_rows l), TooDeep)
    ∷ limits_of (tree_after ss t (Ins p a l)))
cases_of ss t (Del a p) = at_node t p ++ ((not (is_there t (child p.path a)), NoLabel) ∷ [])
cases_of ss t (Copy q p) =
    (not (in_target p), ReadOnly)
    ∷ (not (is_there t p.path), NoPlace)
    ∷ (origin_there (database ss t q) q.path
    ++ ((reaches_over p (subtree_at (database ss t q) q.path), TooDeep)
    ∷ limits_of (tree_after ss t (Copy q p))))

-- why the operation is refused, if it is
unfoldable pub refusal : List Source → Tree → Op → Option Refusal
refusal ss t op = first_case (cases_of ss t op)
