-- The records of each kind of operation.
use Rattle.cp_path.specs.declared.limits.TheConstants.{LABELS_MAX}
use Rattle.std.specs.Prelude.{ℕ, ◌+◌, ◌≤◌, ◌<◌, ◌≡◌, Bool, true, false, List, [], ◌∷◌, ◌++◌, length, map, is_some, if◌then◌else◌, refl}
use Rattle.std.proofs.Common.{sym, ap, subst, ◌∙◌, arith, append-nil, length-append, Result, Ok, Err, OnOk}
use Rattle.std.specs.declared.option.Option.TheVariants.{None, Some}
use Rattle.cp_path.specs.declared.loc.Loc.{Loc}
use Rattle.cp_model.specs.declared.record.Record.{Record}
use Rattle.cp_model.specs.Place.{Label, Path, at_target, child, below_place, place_eq}
use Rattle.cp_path.proofs.Same.{place_eq-same, place_eq-refl}
use Rattle.cp_model.specs.Keyed.{look}
use Rattle.cp_model.specs.Subtrees.{below, is_there, entries_under}
use Rattle.cp_model.specs.Literals.{literal_rows}
use Rattle.cp_model.specs.History.{record_of, with_tid}
use Rattle.cp_model.specs.Tree.{Tree, Source, database, subtree_at, IsTree, refusal, reaches_over}
use Rattle.cp_model.proofs.Accepted.{ins_accepted, del_accepted}
use Rattle.cp_model.specs.declared.row.Content.{Content}
use Rattle.cp_model.specs.declared.row.Row.{Row}
use Rattle.cp_model.specs.declared.literal.Literal.{Literal}
use Rattle.cp_model.specs.declared.literal.Literal.TheVariants as literal
use Rattle.cp_model.specs.declared.op.Op.{Op}
use Rattle.cp_model.specs.declared.op.Op.TheVariants.{Ins, Del, Copy}
use Rattle.cp_model.specs.declared.record.RowMark.TheVariants as mark
use Rattle.cp_model.specs.declared.record.RecOp.{RecOp}
use Rattle.cp_model.specs.declared.record.RecOp.TheVariants as letter
use Rattle.cp_record.specs.Bytes.{record_below}
use Rattle.cp_tree.specs.Rows.{entry_row, greatest, deepest}
use Rattle.cp_operation.specs.Appending.{Appended}
use Rattle.cp_operation.specs.RowsAlone.{HasRoom, marks_below, op_rows, top_rows}
use Rattle.cp_operation.proofs.Depths.{deepest-within, deepest-rows, below-within}
use Rattle.cp_operation.proofs.RowsAloneLemmas.{root-below}
use Rattle.cp_operation.proofs.Recorded.{appended-none}

made_rows : (tid : ℕ) (base : Path) (es : List (Path × Content)) → map (λ (e : Path × Content). record_below tid letter.I base e.0 None) (entries_under [] es) ≡ with_tid tid (marks_below base (λ _. mark.Made) es)
unfolding entries_under
made_rows tid base [] = refl
made_rows tid base (e ∷ es) = ap (λ rs. record_below tid letter.I base e.0 None ∷ rs) (made_rows tid base es)

gone_rows : (tid : ℕ) (base : Path) (es : List (Path × Content)) → map (λ (r : Row). record_below tid letter.D base r.path None) (map entry_row es) ≡ with_tid tid (marks_below base (λ _. mark.Gone) es)
gone_rows tid base [] = refl
gone_rows tid base (e ∷ es) = ap (λ rs. record_below tid letter.D base e.0 None ∷ rs) (gone_rows tid base es)

copied_rows : (tid : ℕ) (base : Path) (q : Loc) (es : List (Path × Content)) →
    map (λ (r : Row). record_below tid letter.C base r.path (Some q)) (map entry_row es) ≡ with_tid tid (marks_below base (λ s. mark.Copied (below_place q s)) es)
copied_rows tid base q [] = refl
copied_rows tid base q (e ∷ es) = ap (λ rs. record_below tid letter.C base e.0 (Some q) ∷ rs) (copied_rows tid base q es)

-- ---- what the rows of each operation are

ins_is : (tid : ℕ) (ss : List Source) (t : Tree) (p : Loc) (a : Label) (l : Literal) → with_tid tid (marks_below (child p.path a) (λ _. mark.Made) (literal_rows l)) ≡ with_tid tid (op_rows ss t (Ins p a l))
unfolding op_rows
ins_is tid ss t p a l = refl

del_is : (tid : ℕ) (ss : List Source) (t : Tree) (p : Loc) (a : Label) → with_tid tid (marks_below (child p.path a) (λ _. mark.Gone) (below (child p.path a) t)) ≡ with_tid tid (op_rows ss t (Del a p))
unfolding op_rows
del_is tid ss t p a = refl

itself_is : (ss : List Source) (t : Tree) (q p : Loc) → place_eq q p ≡ true → op_rows ss t (Copy q p) ≡ []
unfolding op_rows
itself_is ss t q p e = ap (λ b. if b then [] else marks_below p.path (λ s. mark.Copied (below_place q s)) (subtree_at (database ss t q) q.path)) e

elsewhere_is : (ss : List Source) (t u : Tree) (q p : Loc) → place_eq q p ≡ false → database ss t q ≡ Some u → op_rows ss t (Copy q p) ≡ marks_below p.path (λ s. mark.Copied (below_place q s)) (below q.path u)
unfolding op_rows
elsewhere_is ss t u q p e d =
    ap (λ b. if b then [] else marks_below p.path (λ s. mark.Copied (below_place q s)) (subtree_at (database ss t q) q.path)) e
    ∙ ap (λ o. marks_below p.path (λ s. mark.Copied (below_place q s)) (subtree_at o q.path)) d

-- ---- insertions

-- what is inserted lies within the limit of places
pub ins-within : (ss : List Source) (t : Tree) (p : Loc) (a : Label) (l : Literal) → refusal ss t (Ins p a l) ≡ None → length (child p.path a) + deepest (literal_rows l) ≤ LABELS_MAX
ins-within ss t p a l n = deepest-within (below_place p (a ∷ [])) (literal_rows l) (root l) (ins_accepted ss t p a l n).places
  where
    root : (l : Literal) → is_some (look [] (literal_rows l)) ≡ true
    root (literal.Leaf v) = refl
    root (literal.Node es) = refl

-- there is room for one label
pub child-room : (p : Path) (a : Label) (d : ℕ) → length (child p a) + d ≤ LABELS_MAX → length p < LABELS_MAX
child-room p a d h = omega (arith, length-append p (a ∷ []))

-- a path is as long as the child that it is
pub made-within : (base root p : Path) (a : Label) (d : ℕ) → base ≡ child p a → root ≡ [] → length (child p a) + d ≤ LABELS_MAX → length base + (length root + d) ≤ LABELS_MAX
made-within base root p a d e r h = omega (arith, ap length e, ap length r)

-- the records of what is inserted
pub ins-added : {E : Type 0} (result : Result (Unit {0}) E) (tid : ℕ) (base root p : Path) (a : Label) (es : List (Path × Content)) (x y : List Record) → base ≡ child p a → root ≡ [] →
    OnOk result (Appended x y (map (λ (e : Path × Content). record_below tid letter.I base e.0 None) (entries_under root es))) → OnOk result (Appended x y (with_tid tid (marks_below (child p a) (λ _. mark.Made) es)))
ins-added result tid base root p a es x y e r h =
    subst (λ rs. OnOk result (Appended x y rs))
    (ap (λ q. map (λ (e : Path × Content). record_below tid letter.I base e.0 None) (entries_under q es)) r ∙ made_rows tid base es ∙ ap (λ q. with_tid tid (marks_below q (λ _. mark.Made) es)) e) h

pub ins-rows : {E : Type 0} (result : Result (Unit {0}) E) (tid : ℕ) (ss : List Source) (t : Tree) (p : Loc) (a : Label) (l : Literal) (op : Op) (x y : List Record) → op ≡ Ins p a l →
    OnOk result (Appended x y (with_tid tid (marks_below (child p.path a) (λ _. mark.Made) (literal_rows l)))) → OnOk result (Appended x y (with_tid tid (op_rows ss t op)))
ins-rows result tid ss t p a l op x y e h = subst (λ rs. OnOk result (Appended x y rs)) (ins_is tid ss t p a l ∙ ap (λ o. with_tid tid (op_rows ss t o)) (sym e)) h

-- ---- deletions

-- the subtree that is gone lies within the limit of places
pub rows-within : (t : Tree) (q base : Path) (list : List Row) → IsTree t → is_there t q ≡ true → base ≡ q → list ≡ map entry_row (below base t) → length base + greatest (λ (r : Row). length r.path) list ≤ LABELS_MAX
rows-within t q base list h i e k =
    let deep : greatest (λ (r : Row). length r.path) list ≡ deepest (below base t) = ap (greatest (λ (r : Row). length r.path)) k ∙ deepest-rows (below base t) in
    let same : length base + deepest (below base t) ≡ length q + deepest (below q t) = ap (λ q. length q + deepest (below q t)) e in
    omega (arith, deep, same, below-within t q h i)

-- and the records of what is gone
pub del-added : {E : Type 0} (result : Result (Unit {0}) E) (tid : ℕ) (ss : List Source) (t : Tree) (base : Path) (p : Loc) (a : Label) (list : List Row) (x y : List Record) → base ≡ child p.path a → list ≡ map entry_row (below base t) →
    OnOk result (Appended x y (map (λ (r : Row). record_below tid letter.D base r.path None) list)) → OnOk result (Appended x y (with_tid tid (op_rows ss t (Del a p))))
del-added result tid ss t base p a list x y e k h =
    subst (λ rs. OnOk result (Appended x y rs))
    (ap (map (λ (r : Row). record_below tid letter.D base r.path None)) k ∙ gone_rows tid base (below base t) ∙ ap (λ q. with_tid tid (marks_below q (λ _. mark.Gone) (below q t))) e ∙ del_is tid ss t p a) h

-- ---- copies

-- what is copied lies within the limit of places where it comes to stand
pub copy-within : (u : Tree) (q p : Loc) (list : List Row) → is_there u q.path ≡ true → reaches_over p (below q.path u) ≡ false → list ≡ map entry_row (below q.path u) → length p.path + greatest (λ (r : Row). length r.path) list ≤ LABELS_MAX
copy-within u q p list i n k = omega (arith, ap (greatest (λ (r : Row). length r.path)) k ∙ deepest-rows (below q.path u), deepest-within p (below q.path u) (root-below u q.path i) n)

-- the records of what is copied
pub subtree-added : {E : Type 0} (result : Result (Unit {0}) E) (tid : ℕ) (u : Tree) (q p : Loc) (list : List Row) (x y : List Record) → list ≡ map entry_row (below q.path u) →
    OnOk result (Appended x y (map (λ (r : Row). record_below tid letter.C p.path r.path (Some q)) list)) →
    OnOk result (Appended x y (with_tid tid (marks_below p.path (λ s. mark.Copied (below_place q s)) (below q.path u))))
subtree-added result tid u q p list x y k h =
    subst (λ rs. OnOk result (Appended x y rs)) (ap (map (λ (r : Row). record_below tid letter.C p.path r.path (Some q))) k ∙ copied_rows tid p.path q (below q.path u)) h

-- a place is copied onto itself with no records
pub copy-itself : (tid : ℕ) (ss : List Source) (t : Tree) (q p : Loc) (x : List Record) → q ≡ p → Appended x x (with_tid tid (op_rows ss t (Copy q p)))
copy-itself tid ss t q p x e = subst (λ rs. Appended x x (with_tid tid rs)) (sym (itself_is ss t q p (ap (λ r. place_eq q r) (sym e) ∙ place_eq-refl q))) (appended-none x)

-- places that differ are told apart
elsewhere : (q p : Loc) → ¬ (q ≡ p) → place_eq q p ≡ false
elsewhere q p d = other (place_eq q p) (λ e. d (place_eq-same q p e))
  where
    other : (b : Bool) → ¬ (b ≡ true) → b ≡ false
    other true n = absurd (n refl)
    other false n = refl

-- the records of a copy onto another place
pub copy-added : {E : Type 0} (result : Result (Unit {0}) E) (tid : ℕ) (ss : List Source) (t u : Tree) (q p : Loc) (x y : List Record) → ¬ (q ≡ p) → database ss t q ≡ Some u →
    OnOk result (Appended x y (with_tid tid (marks_below p.path (λ s. mark.Copied (below_place q s)) (below q.path u)))) → OnOk result (Appended x y (with_tid tid (op_rows ss t (Copy q p))))
copy-added result tid ss t u q p x y d e h =
    subst (λ rs. OnOk result (Appended x y (with_tid tid rs))) (sym (elsewhere_is ss t u q p (elsewhere q p d) e)) h

pub op-added : {E : Type 0} (result : Result (Unit {0}) E) (tid : ℕ) (ss : List Source) (t : Tree) (o op : Op) (x y : List Record) → op ≡ o → OnOk result (Appended x y (with_tid tid (op_rows ss t o))) → OnOk result (Appended x y (with_tid tid (op_rows ss t op)))
op-added result tid ss t o op x y e h = subst (λ o. OnOk result (Appended x y (with_tid tid (op_rows ss t o)))) (sym e) h

-- ---- the place that an operation writes, alone

-- the record below a place at its root is the one of the place
root_record : (tid : ℕ) (o : RecOp) (p : Path) → record_below tid o p [] None ≡ record { tid = tid; op = o; loc = at_target p; src = None }
root_record tid o p = ap (λ q. record { tid = tid; op = o; loc = at_target q; src = None }) (append-nil p)

-- and so is the one of a copy
root_copied : (tid : ℕ) (p root : Path) (q : Loc) → root ≡ [] → record_below tid letter.C p root (Some q) ≡ record_of tid p (mark.Copied q)
root_copied tid p root q r =
    ap (λ s. record_below tid letter.C p s (Some q)) r
    ∙ ap (λ s. record { tid = tid; op = letter.C; loc = at_target s; src = Some (below_place q []) }) (append-nil p)
    ∙ ap (λ s. record { tid = tid; op = letter.C; loc = at_target p; src = Some (record { db = q.db; path = s }) }) (append-nil q.path)

ins_top : (tid : ℕ) (p : Loc) (a : Label) (l : Literal) → record { tid = tid; op = letter.I; loc = at_target (child p.path a); src = None } ∷ [] ≡ with_tid tid (top_rows (Ins p a l))
unfolding top_rows
ins_top tid p a l = refl

del_top : (tid : ℕ) (p : Loc) (a : Label) → record { tid = tid; op = letter.D; loc = at_target (child p.path a); src = None } ∷ [] ≡ with_tid tid (top_rows (Del a p))
unfolding top_rows
del_top tid p a = refl

copy_top : (tid : ℕ) (q p : Loc) → place_eq q p ≡ false → record_of tid p.path (mark.Copied q) ∷ [] ≡ with_tid tid (top_rows (Copy q p))
unfolding top_rows
copy_top tid q p e = ap (λ b. with_tid tid (if b then [] else (p.path, mark.Copied q) ∷ [])) (sym e)

itself_top : (tid : ℕ) (q p : Loc) → place_eq q p ≡ true → [] ≡ with_tid tid (top_rows (Copy q p))
unfolding top_rows
itself_top tid q p e = ap (λ b. with_tid tid (if b then [] else (p.path, mark.Copied q) ∷ [])) (sym e)

one_added : {E : Type 0} (result : Result (Unit {0}) E) (tid : ℕ) (o op : Op) (r : Record) (x y : List Record) → op ≡ o → r ∷ [] ≡ with_tid tid (top_rows o) → OnOk result (y ≡ x ++ r ∷ []) → OnOk result (Appended x y (with_tid tid (top_rows op)))
one_added (Ok u) tid o op r x y e t h = record { is = h ∙ ap (λ rs. x ++ rs) (t ∙ ap (λ o. with_tid tid (top_rows o)) (sym e)) }
one_added (Err d) tid o op r x y e t h = tt

-- the record of what is inserted
pub ins-topped : {E : Type 0} (result : Result (Unit {0}) E) (tid : ℕ) (p : Loc) (a : Label) (l : Literal) (op : Op) (x y : List Record) → op ≡ Ins p a l →
    OnOk result (y ≡ x ++ record_below tid letter.I (child p.path a) [] None ∷ []) → OnOk result (Appended x y (with_tid tid (top_rows op)))
ins-topped result tid p a l op x y e h =
    one_added result tid (Ins p a l) op (record_below tid letter.I (child p.path a) [] None) x y e (ap (λ d. d ∷ []) (root_record tid letter.I (child p.path a)) ∙ ins_top tid p a l) h

-- the record of what is gone
pub del-topped : {E : Type 0} (result : Result (Unit {0}) E) (tid : ℕ) (p : Loc) (a : Label) (op : Op) (x y : List Record) → op ≡ Del a p →
    OnOk result (y ≡ x ++ record_below tid letter.D (child p.path a) [] None ∷ []) → OnOk result (Appended x y (with_tid tid (top_rows op)))
del-topped result tid p a op x y e h =
    one_added result tid (Del a p) op (record_below tid letter.D (child p.path a) [] None) x y e (ap (λ d. d ∷ []) (root_record tid letter.D (child p.path a)) ∙ del_top tid p a) h

-- the record of what is copied from another place
pub copy-topped : {E : Type 0} (result : Result (Unit {0}) E) (tid : ℕ) (root : Path) (q p : Loc) (x y : List Record) → ¬ (q ≡ p) → root ≡ [] →
    OnOk result (y ≡ x ++ record_below tid letter.C p.path root (Some q) ∷ []) → OnOk result (Appended x y (with_tid tid (top_rows (Copy q p))))
copy-topped result tid root q p x y d r h =
    one_added result tid (Copy q p) (Copy q p) (record_below tid letter.C p.path root (Some q)) x y refl (ap (λ d. d ∷ []) (root_copied tid p.path root q r) ∙ copy_top tid q p (elsewhere q p d)) h

-- a place that is copied onto itself is not written
pub itself-topped : (tid : ℕ) (q p : Loc) (x : List Record) → q ≡ p → Appended x x (with_tid tid (top_rows (Copy q p)))
itself-topped tid q p x s = subst (Appended x x) (itself_top tid q p (ap (λ r. place_eq q r) (sym s) ∙ place_eq-refl q)) (appended-none x)

-- an accepted operation has room for the label of its place
pub accepted-room : (ss : List Source) (t : Tree) (op : Op) → IsTree t → refusal ss t op ≡ None → HasRoom op
accepted-room ss t (Ins p a l) h n = child-room p.path a (deepest (literal_rows l)) (ins-within ss t p a l n)
accepted-room ss t (Del a p) h n = child-room p.path a (deepest (below (child p.path a) t)) (below-within t (child p.path a) h (del_accepted ss t p a n).there)
accepted-room ss t (Copy q p) h n = tt
