-- Operations that are written.
use Rattle.std.proofs.Common.{◌≡◌, ◌≤◌, ◌==◌, ℕ, zero, suc, true, false, not, List, [], ◌∷◌, ◌++◌, Result, Ok, Err, OnOk, OnErr, refl, sym, ap, ◌∙◌, subst, append_assoc, append-nil, length, map, take, get_or, ◌<◌, ◌+◌, arith}
use Rattle.std.proofs.lemmas.Bool.Decides.{nat_tests}
use Rattle.std.proofs.lemmas.Grind.{flat_map-append}
use Rattle.std.proofs.lemmas.List.{map-append, take_more}
use Rattle.std.specs.Int.{to_be_bytes, w32}
use Rattle.std.specs.List.{AllByRecursion, flat_map}
use Rattle.cp_path.specs.Encoding.{counted_bytes, path_bytes}
use Rattle.cp_path.specs.declared.loc.Loc.{Loc}
use Rattle.cp_model.specs.Literals.{edge_rows, literal_rows, rows_under}
use Rattle.cp_model.specs.Place.{Label, Path}
use Rattle.cp_model.specs.declared.literal.LitEdge.{LitEdge}
use Rattle.cp_model.specs.declared.literal.Literal.{Literal}
use Rattle.cp_model.specs.declared.literal.Literal.TheVariants as literal
use Rattle.cp_model.specs.declared.op.Op.{Op}
use Rattle.cp_model.specs.declared.op.Op.TheVariants.{Ins, Del, Copy}
use Rattle.cp_model.specs.declared.row.Content.{Content}
use Rattle.cp_model.specs.declared.row.Content.TheVariants.{Leaf, Node}
use Rattle.cp_record.specs.Kept.{IsLabel, IsPath}
use Rattle.cp_record.specs.Packed.{Grew}
use Rattle.cp_format.specs.Operations.{HasSpelledParts, IsShort, op_bytes}
use Rattle.cp_format.proofs.Growing.{grew_then}
use Rattle.cp_frame.specs.OpReading.{HasFewPlaces, HasShortTexts, has_children}
use Rattle.cp_frame.specs.Operations.{HasPutOp, IsWellFormed, WrittenOp, op_of, planted, short, written_bytes}
use Rattle.cp_frame.specs.Sound.{IsSoundOp}
use Rattle.cp_frame.specs.Trees.{Children, HasParts, HasPutTree, Written, child, leaf, no_more, node, number_of, rows_below, rows_of, tree_bytes}
use Rattle.cp_frame.proofs.FoundRows.{sound_writable}

-- ---- nodes with children

edge_there : (a : Label) (t : Literal) (rows : List (Path × Content)) → has_children (literal.Node (rows_under a (literal_rows t) ++ rows)) ≡ true
edge_there a (literal.Leaf v) rows = refl
edge_there a (literal.Node below) rows = refl

-- a node has children where it has edges
pub edges_there : (es : List LitEdge) → has_children (literal.Node (edge_rows es)) ≡ not (length es == 0)
edges_there [] = refl
edges_there (e ∷ es) =
    let some : (suc (length es) == 0) ≡ false = grind (arith, nat_tests) in
    edge_there e.label e.tree (edge_rows es) ∙ sym (ap not some)

-- an insertion of a tree without children is short
pub bare_short : (o : Op) (p : Loc) (a : Label) (l : Literal) → o ≡ Ins p a l → has_children l ≡ false → IsShort o
bare_short o p a l e h = subst IsShort (sym e) (bare l h)
  where
    bare : (m : Literal) → has_children m ≡ false → IsShort (Ins p a m)
    bare (literal.Leaf v) k = refl
    bare (literal.Node []) k = refl
    bare (literal.Node (r ∷ rows)) k = absurd (cc)

-- a deletion or a copy is short
pub other_short : (o : Op) → ((p : Loc) (a : Label) (l : Literal) → o ≡ Ins p a l → ⊥) → IsShort o
other_short (Ins p a l) never = absurd (never p a l refl)
other_short (Del a p) never = tt
other_short (Copy q p) never = tt

-- a short operation was written
pub short_put : {T E : Type 0} (o : Op) (old new : List ℕ) (result : Result T E) → IsShort o → OnOk result (new ≡ old ++ op_bytes o) → OnOk result (HasSpelledParts o) → OnOk result (HasPutOp o old new)
short_put o old new (Ok x) s e parts = record { written = short o; is = refl; formed = (s, parts); bytes = e }
short_put o old new (Err x) s e parts = tt

-- ---- insertions of trees

planted_bytes : (old path label tree a b c new : List ℕ) → a ≡ old ++ 4 ∷ [] → b ≡ a ++ path → c ≡ b ++ label → new ≡ c ++ tree → new ≡ old ++ (4 ∷ ((path ++ label) ++ tree))
planted_bytes old path label tree a b c new e f g h = rw (h, g, f, e) (simp append_assoc)

-- a node has a child where it has rows
some_child : (cs : Children) → has_children (literal.Node (rows_below cs)) ≡ true → 1 ≤ number_of cs
some_child no_more h = absurd (cc)
some_child (child a t cs) h = omega arith

put_node_op : (p : Loc) (l : Label) (rows : List (Path × Content)) (old a b c new : List ℕ) (t : Written) →
    a ≡ old ++ 4 ∷ [] → b ≡ a ++ path_bytes p.path → c ≡ b ++ counted_bytes l → has_children (literal.Node rows) ≡ true → HasParts t → IsPath p.path → IsLabel l → rows_of t ≡ ([], Node) ∷ rows → new ≡ c ++ tree_bytes t → HasPutOp (Ins p l (literal.Node rows)) old new
put_node_op p l rows old a b c new (leaf v) e f g some parts path label same h =
    let root : ◌≡◌ {A = Path × Content} ([], Leaf v) ([], Node) = cc in
    let both : ◌≡◌ {A = Content} (Leaf v) Node = ap (λ e. e.1) root in
    absurd (cc)
put_node_op p l rows old a b c new (node cs) e f g some parts path label same h =
    let below : rows_below cs ≡ rows = cc in
    record {
      written = planted p l cs;
      is = ap (λ (x : List (Path × Content)). Ins p l (literal.Node x)) below;
      formed = (some_child cs (ap (λ (x : List (Path × Content)). has_children (literal.Node x)) below ∙ some), parts, path, label);
      bytes = planted_bytes old (path_bytes p.path) (counted_bytes l) (tree_bytes (node cs)) a b c new e f g h;
    }

-- the form, the place, the label and a node with children are an operation
pub planted_put : (p : Loc) (l : Label) (t : Literal) (old a b c new : List ℕ) → has_children t ≡ true →
    a ≡ old ++ 4 ∷ [] → b ≡ a ++ path_bytes p.path → c ≡ b ++ counted_bytes l → IsPath p.path → IsLabel l → HasPutTree t c new → HasPutOp (Ins p l t) old new
planted_put p l (literal.Leaf v) old a b c new some e f g path label h = absurd (cc)
planted_put p l (literal.Node rows) old a b c new some e f g path label h = put_node_op p l rows old a b c new h.tree e f g some h.parts path label h.rows h.bytes

-- a tree that was written, or of which a front was
tree_grew : {T E : Type 0} (t : Literal) (mid new : List ℕ) (result : Result T E) → OnOk result (HasPutTree t mid new) → OnErr result (Grew mid new) → Grew mid new
tree_grew t mid new (Ok x) h e = record { added = tree_bytes h.tree; is = h.bytes }
tree_grew t mid new (Err x) h e = e

-- what was there is still there, whether the tree was written or not
pub planted_grew : {T E : Type 0} (t : Literal) (path label old a b c new : List ℕ) (result : Result T E) → a ≡ old ++ 4 ∷ [] → b ≡ a ++ path → c ≡ b ++ label →
    OnOk result (HasPutTree t c new) → OnErr result (Grew c new) → Grew old new
planted_grew t path label old a b c new result e f g ok err =
    grew_then old (4 ∷ []) a new e (grew_then a path b new f (grew_then b label c new g (tree_grew t c new result ok err)))

-- ---- so many operations

-- what holds of all of two lists holds of all of one after the other
all_append : (P : WrittenOp → Type 0) (xs ys : List WrittenOp) → AllByRecursion P xs → AllByRecursion P ys → AllByRecursion P (xs ++ ys)
all_append P [] ys h k = k
all_append P (x ∷ xs) ys h k = (h.0, all_append P xs ys h.1 k)

-- the number of all these operations is written, and the first so many of them
pub record OpsPut (os : List Op) (old : List ℕ) (k : ℕ) (new : List ℕ) : Type 0 where
  pub written : List WrittenOp
  pub are : map op_of written ≡ take k os
  pub formed : AllByRecursion IsWellFormed written
  pub bytes : new ≡ old ++ (to_be_bytes w32 (length os) ++ flat_map written_bytes written)

more_bytes : (old number front one mid new : List ℕ) → mid ≡ old ++ (number ++ front) → new ≡ mid ++ one → new ≡ old ++ (number ++ (front ++ one))
more_bytes old number front one mid new e f = rw (f, e) (simp append_assoc)

-- one operation more is written
pub one_op_put : (os : List Op) (old : List ℕ) (k : ℕ) (mid new : List ℕ) (o : Op) → k < length os → o ≡ get_or os k o → OpsPut os old k mid → HasPutOp o mid new → OpsPut os old (k + 1) new
one_op_put os old k mid new o lt at s h =
    let fronts = flat_map written_bytes s.written in
    let all : flat_map written_bytes (s.written ++ h.written ∷ []) ≡ fronts ++ written_bytes h.written = flat_map-append written_bytes s.written (h.written ∷ []) ∙ ap (λ l. fronts ++ l) (append-nil (written_bytes h.written)) in
    record {
      written = s.written ++ h.written ∷ [];
      are = map-append op_of s.written (h.written ∷ []) ∙ (λ i. s.are i ++ h.is i ∷ []) ∙ ap (λ x. take k os ++ x ∷ []) at ∙ sym (take_more os k o lt);
      formed = all_append IsWellFormed s.written (h.written ∷ []) s.formed (h.formed, tt);
      bytes = more_bytes old (to_be_bytes w32 (length os)) fronts (written_bytes h.written) mid new s.bytes h.bytes ∙ ap (λ l. old ++ (to_be_bytes w32 (length os) ++ l)) (sym all);
    }

-- ---- what operations have to be

op_writable : (o : Op) → IsSoundOp true o → HasShortTexts o × HasFewPlaces o
op_writable (Ins p a l) h = sound_writable l h.1
op_writable (Del a p) h = (tt, tt)
op_writable (Copy q p) h = (tt, tt)

op_at : (os : List Op) (k : ℕ) (d : Op) → AllByRecursion (IsSoundOp true) os → k < length os → IsSoundOp true (get_or os k d)
op_at [] k d h lt = absurd (omega (arith, lt))
op_at (o ∷ os) zero d h lt = h.0
op_at (o ∷ os) (suc k) d h lt = op_at os k d h.1 (omega (arith, lt))

-- each of these operations has short texts and few places
pub op_at_writable : (os : List Op) (k : ℕ) (o : Op) → AllByRecursion (IsSoundOp true) os → k < length os → o ≡ get_or os k o → HasShortTexts o × HasFewPlaces o
op_at_writable os k o h lt at = op_writable o (subst (IsSoundOp true) (sym at) (op_at os k o h lt))
