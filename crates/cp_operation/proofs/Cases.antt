-- The first case that applies, for each operation behind the tests of its destination.
use Rattle.std.specs.Prelude.{◌≡◌, Bool, true, false, not, List, [], ◌∷◌, ◌++◌, if◌then◌else◌, refl}
use Rattle.std.proofs.Common.{ap, ◌∙◌}
use Rattle.std.specs.declared.option.Option.{Option}
use Rattle.std.specs.declared.option.Option.TheVariants.{None, Some}
use Rattle.cp_path.specs.declared.loc.Loc.{Loc}
use Rattle.cp_model.specs.declared.literal.Literal.{Literal}
use Rattle.cp_model.specs.declared.op.Op.TheVariants.{Ins, Del, Copy}
use Rattle.cp_model.specs.declared.refusal.Refusal.{Refusal}
use Rattle.cp_model.specs.declared.refusal.Refusal.TheVariants.{LabelThere, NoLabel, NoOrigin, NoPlace, NoSource, ReadOnly, TooDeep}
use Rattle.cp_model.specs.Place.{Label, Path, child, below_place, in_target}
use Rattle.cp_model.specs.Subtrees.{below, is_there, with_subtree}
use Rattle.cp_model.specs.Literals.{literal_rows}
use Rattle.cp_operation.specs.Reaching.{copied_cases}
use Rattle.cp_model.specs.Cases.{first_case}
use Rattle.cp_model.specs.Tree.{Tree, Source, refusal, cases_of, tree_after, at_node, reaches_over, limits_of, origin_there, subtree_at, database}

-- the first case of more cases is that of the first ones, if one of them applies
first-of : (xs ys : List (Bool × Refusal)) (r : Refusal) → first_case xs ≡ Some r → first_case (xs ++ ys) ≡ Some r
first-of [] ys r h = absurd (cc)
first-of (x ∷ xs) ys r h =
    elim (x.0) as (λ b. (if b then Some x.1 else first_case xs) ≡ Some r → (if b then Some x.1 else first_case (xs ++ ys)) ≡ Some r) [
      | true ↦ λ h. h
      | false ↦ λ h. first-of xs ys r h
    ] h

-- and otherwise that of the rest
first-behind : (xs ys : List (Bool × Refusal)) → first_case xs ≡ None → first_case (xs ++ ys) ≡ first_case ys
first-behind [] ys h = refl
first-behind (x ∷ xs) ys h =
    elim (x.0) as (λ b. (if b then Some x.1 else first_case xs) ≡ None → (if b then Some x.1 else first_case (xs ++ ys)) ≡ first_case ys) [
      | true ↦ λ h. absurd (cc)
      | false ↦ λ h. first-behind xs ys h
    ] h

-- a deletion at what isn't a node is refused for that
pub del-refused : (ss : List Source) (t : Tree) (a : Label) (p : Loc) (r : Refusal) → first_case (at_node t p) ≡ Some r → refusal ss t (Del a p) ≡ Some r
unfolding refusal cases_of
del-refused ss t a p r h = first-of (at_node t p) ((not (is_there t (child p.path a)), NoLabel) ∷ []) r h

-- a deletion at a node is decided by its label
pub del-decided : (ss : List Source) (t : Tree) (a : Label) (p : Loc) → first_case (at_node t p) ≡ None → refusal ss t (Del a p) ≡ first_case ((not (is_there t (child p.path a)), NoLabel) ∷ [])
unfolding refusal cases_of
del-decided ss t a p h = first-behind (at_node t p) ((not (is_there t (child p.path a)), NoLabel) ∷ []) h

-- the cases of an insertion at a free label
abbrev ins_limits : Tree → Loc → Label → Literal → List (Bool × Refusal)
ins_limits t p a l = (reaches_over (below_place p (a ∷ [])) (literal_rows l), TooDeep) ∷ limits_of (with_subtree (child p.path a) (literal_rows l) t)

-- the cases of an insertion into a node
abbrev ins_cases : Tree → Loc → Label → Literal → List (Bool × Refusal)
ins_cases t p a l = (is_there t (child p.path a), LabelThere) ∷ ins_limits t p a l

-- an insertion into what isn't a node is refused for that
pub ins-refused : (ss : List Source) (t : Tree) (p : Loc) (a : Label) (l : Literal) (r : Refusal) → first_case (at_node t p) ≡ Some r → refusal ss t (Ins p a l) ≡ Some r
unfolding refusal cases_of tree_after
ins-refused ss t p a l r h = first-of (at_node t p) (ins_cases t p a l) r h

-- an insertion into a node is decided by the other cases
ins-decided : (ss : List Source) (t : Tree) (p : Loc) (a : Label) (l : Literal) → first_case (at_node t p) ≡ None → refusal ss t (Ins p a l) ≡ first_case (ins_cases t p a l)
unfolding refusal cases_of tree_after
ins-decided ss t p a l h = first-behind (at_node t p) (ins_cases t p a l) h

-- a case that applies
pub case-is : (b : Bool) (r : Refusal) (cs : List (Bool × Refusal)) → b ≡ true → first_case ((b, r) ∷ cs) ≡ Some r
case-is b r cs h = ap (λ x. if x then Some r else first_case cs) h

-- a case that doesn't
pub case-not : (b : Bool) (r : Refusal) (cs : List (Bool × Refusal)) → b ≡ false → first_case ((b, r) ∷ cs) ≡ first_case cs
case-not b r cs h = ap (λ x. if x then Some r else first_case cs) h

-- the cases of a copy onto a place of the tree, from this tree, if there is one
abbrev copy_cases : Tree → Loc → Loc → Option Tree → List (Bool × Refusal)
copy_cases t q p o = origin_there o q.path ++ (reaches_over p (subtree_at o q.path), TooDeep) ∷ limits_of (with_subtree p.path (subtree_at o q.path) t)

-- a copy onto a place elsewhere is refused
pub copy-elsewhere : (ss : List Source) (t : Tree) (q p : Loc) → in_target p ≡ false → refusal ss t (Copy q p) ≡ Some ReadOnly
unfolding refusal cases_of tree_after
copy-elsewhere ss t q p h = case-is (not (in_target p)) ReadOnly ((not (is_there t p.path), NoPlace) ∷ copy_cases t q p (database ss t q)) (ap not h)

-- a copy onto a place that isn't there is refused
pub copy-nowhere : (ss : List Source) (t : Tree) (q p : Loc) → in_target p ≡ true → is_there t p.path ≡ false → refusal ss t (Copy q p) ≡ Some NoPlace
unfolding refusal cases_of tree_after
copy-nowhere ss t q p h i =
    case-not (not (in_target p)) ReadOnly ((not (is_there t p.path), NoPlace) ∷ copy_cases t q p (database ss t q)) (ap not h)
    ∙ case-is (not (is_there t p.path)) NoPlace (copy_cases t q p (database ss t q)) (ap not i)

-- a copy onto a place that is there is decided by the other cases
copy-decided : (ss : List Source) (t : Tree) (q p : Loc) → in_target p ≡ true → is_there t p.path ≡ true → refusal ss t (Copy q p) ≡ first_case (copy_cases t q p (database ss t q))
unfolding refusal cases_of tree_after
copy-decided ss t q p h i =
    case-not (not (in_target p)) ReadOnly ((not (is_there t p.path), NoPlace) ∷ copy_cases t q p (database ss t q)) (ap not h)
    ∙ case-not (not (is_there t p.path)) NoPlace (copy_cases t q p (database ss t q)) (ap not i)

-- a copy from a database that isn't there has no source
pub copy-sourceless : (ss : List Source) (t : Tree) (q p : Loc) → in_target p ≡ true → is_there t p.path ≡ true → database ss t q ≡ None → refusal ss t (Copy q p) ≡ Some NoSource
copy-sourceless ss t q p h i e = copy-decided ss t q p h i ∙ ap (λ o. first_case (copy_cases t q p o)) e

-- a copy from a place of a tree is decided by that place and the limits
pub copy-from : (ss : List Source) (t u : Tree) (q p : Loc) → in_target p ≡ true → is_there t p.path ≡ true → database ss t q ≡ Some u → refusal ss t (Copy q p) ≡ first_case (copied_cases u q.path t p)
copy-from ss t u q p h i e = copy-decided ss t q p h i ∙ ap (λ o. first_case (copy_cases t q p o)) e

-- an insertion at a label that is there is refused
pub ins-there : (ss : List Source) (t : Tree) (p : Loc) (a : Label) (l : Literal) → first_case (at_node t p) ≡ None → is_there t (child p.path a) ≡ true → refusal ss t (Ins p a l) ≡ Some LabelThere
ins-there ss t p a l n h = ins-decided ss t p a l n ∙ case-is (is_there t (child p.path a)) LabelThere (ins_limits t p a l) h

-- an insertion at a free label is decided by the limits
ins-free : (ss : List Source) (t : Tree) (p : Loc) (a : Label) (l : Literal) → first_case (at_node t p) ≡ None → is_there t (child p.path a) ≡ false → refusal ss t (Ins p a l) ≡ first_case (ins_limits t p a l)
ins-free ss t p a l n h = ins-decided ss t p a l n ∙ case-not (is_there t (child p.path a)) LabelThere (ins_limits t p a l) h

-- first by those of places
pub ins-deep : (ss : List Source) (t : Tree) (p : Loc) (a : Label) (l : Literal) → first_case (at_node t p) ≡ None → is_there t (child p.path a) ≡ false →
    reaches_over (below_place p (a ∷ [])) (literal_rows l) ≡ true → refusal ss t (Ins p a l) ≡ Some TooDeep
ins-deep ss t p a l n h i = ins-free ss t p a l n h ∙ case-is (reaches_over (below_place p (a ∷ [])) (literal_rows l)) TooDeep (limits_of (with_subtree (child p.path a) (literal_rows l) t)) i

-- and then by those of trees
pub ins-fits : (ss : List Source) (t : Tree) (p : Loc) (a : Label) (l : Literal) → first_case (at_node t p) ≡ None → is_there t (child p.path a) ≡ false →
    reaches_over (below_place p (a ∷ [])) (literal_rows l) ≡ false → refusal ss t (Ins p a l) ≡ first_case (limits_of (with_subtree (child p.path a) (literal_rows l) t))
ins-fits ss t p a l n h i = ins-free ss t p a l n h ∙ case-not (reaches_over (below_place p (a ∷ [])) (literal_rows l)) TooDeep (limits_of (with_subtree (child p.path a) (literal_rows l) t)) i

module _ (u : Tree) (q : Path) (t : Tree) (p : Loc) where
  -- the cases of a copy of what is there
  abbrev there_limits : List (Bool × Refusal)
  there_limits = (reaches_over p (below q u), TooDeep) ∷ limits_of (with_subtree p.path (below q u) t)

  -- a copy from a place that isn't there has no origin
  pub copied-originless : is_there u q ≡ false → first_case (copied_cases u q t p) ≡ Some NoOrigin
  copied-originless k = case-is (not (is_there u q)) NoOrigin there_limits (ap not k)

  copied-there : is_there u q ≡ true → first_case (copied_cases u q t p) ≡ first_case there_limits
  copied-there k = case-not (not (is_there u q)) NoOrigin there_limits (ap not k)

  -- a copy from a place that is there is decided by the limits, first by those of places
  pub copied-deep : is_there u q ≡ true → reaches_over p (below q u) ≡ true → first_case (copied_cases u q t p) ≡ Some TooDeep
  copied-deep k o = copied-there k ∙ case-is (reaches_over p (below q u)) TooDeep (limits_of (with_subtree p.path (below q u) t)) o

  -- and then by those of trees
  pub copied-fits : is_there u q ≡ true → reaches_over p (below q u) ≡ false → first_case (copied_cases u q t p) ≡ first_case (limits_of (with_subtree p.path (below q u) t))
  copied-fits k o = copied-there k ∙ case-not (reaches_over p (below q u)) TooDeep (limits_of (with_subtree p.path (below q u) t)) o
