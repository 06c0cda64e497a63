-- The rows of a subtree, written in one walk over the edges below its root.
use Rattle.std.specs.Prelude.{◌≡◌, ℕ, ◌-◌, List, [], ◌∷◌, ◌++◌, map, length, refl}
use Rattle.std.proofs.Common.{sym, ap, ◌∙◌, arith, append_assoc, append-nil, take, length-append}
use Rattle.std.proofs.Math.Seq.{take-append_seam}
use Rattle.std.proofs.lemmas.List.{map-append}
use Rattle.cp_model.specs.declared.row.Content.{Content}
use Rattle.cp_model.specs.declared.row.Row.{Row}
use Rattle.cp_model.specs.Place.{Label, Path, child}
use Rattle.cp_model.specs.Keyed as keyed
use Rattle.cp_model.specs.Subtrees.{entries_under}
use Rattle.cp_model.specs.Tree.{Tree}
use Rattle.cp_tree.specs.Branch.{branch, child_rows, below_label}
use Rattle.cp_tree.specs.Good.{IsGood}
use Rattle.cp_tree.specs.Rows.{entry_row}
use Rattle.cp_tree.proofs.ListingLemmas.{moved-append, moved-below_label, moved-branch}

-- what is pushed and taken off again leaves a list
pub pop_push : {X : Type 0} (xs ys : List X) (x : X) (n : ℕ) → ys ≡ xs ++ x ∷ [] → n ≡ length ys → take (n - 1) ys ≡ xs
pop_push xs ys x n is len = (let e : n - 1 ≡ length xs = omega (arith, ap length is, length-append xs (x ∷ [])) in rw (e, is) (take-append_seam xs (x ∷ [])))

-- the rows of one edge more are written
pub rows_more : (out new total : List Row) (p : Path) (it rest : List (Label × Tree)) (a : Label) (k : Tree) → it ≡ (a, k) ∷ rest →
    new ≡ out ++ map entry_row (entries_under (child p a) (keyed.entries k)) → out ++ map entry_row (entries_under p (child_rows it)) ≡ total → new ++ map entry_row (entries_under p (child_rows rest)) ≡ total
rows_more out new total p it rest a k i n h =
    ap (λ z. z ++ map entry_row (entries_under p (child_rows rest))) n
    ∙ append_assoc out (map entry_row (entries_under (child p a) (keyed.entries k))) (map entry_row (entries_under p (child_rows rest)))
    ∙ ap (λ z. out ++ z) (sym (map-append entry_row (entries_under (child p a) (keyed.entries k)) (entries_under p (child_rows rest)))
    ∙ ap (map entry_row) (ap (λ z. z ++ entries_under p (child_rows rest)) (sym (moved-below_label p a (keyed.entries k))) ∙ sym (moved-append p (below_label a (keyed.entries k)) (child_rows rest)) ∙ ap (λ z. entries_under p (child_rows z)) (sym i)))
    ∙ h

moved-none : (p : Path) → entries_under {X = Content} p [] ≡ []
unfolding entries_under
moved-none p = refl

-- the rows of a root and all its edges are written
pub rows_all : (m : Tree) (x : Content) (es it all : List (Label × Tree)) (before first out : List Row) (p : Path) (row : Row) → branch x es ≡ m → IsGood x es → all ≡ es → it ≡ [] →
    first ≡ before ++ row ∷ [] → row.path ≡ p → row.content ≡ x →
    out ++ map entry_row (entries_under p (child_rows it)) ≡ first ++ map entry_row (entries_under p (child_rows all)) → out ≡ before ++ map entry_row (entries_under p (keyed.entries m))
rows_all m x es it all before first out p row view g a i f rp rx h =
    let ends : out ≡ first ++ map entry_row (entries_under p (child_rows all)) = sym (append-nil out) ∙ ap (λ z. out ++ map entry_row z) (sym (moved-none p)) ∙ ap (λ z. out ++ map entry_row (entries_under p (child_rows z))) (sym i) ∙ h in
    let is_row : row ≡ entry_row (p, x) = λ j. record { path = rp j; content = rx j } in
    let rows : map entry_row (entries_under p (keyed.entries m)) ≡ entry_row (p, x) ∷ map entry_row (entries_under p (child_rows all)) =
    ap (λ z. map entry_row (entries_under p (keyed.entries z))) (sym view) ∙ ap (map entry_row) (moved-branch p x es g.sorted) ∙ ap (λ z. entry_row (p, x) ∷ map entry_row (entries_under p (child_rows z))) (sym a) in
    ends ∙ ap (λ z. z ++ map entry_row (entries_under p (child_rows all))) f ∙ append_assoc before (row ∷ []) (map entry_row (entries_under p (child_rows all)))
    ∙ ap (λ z. before ++ z ∷ map entry_row (entries_under p (child_rows all))) is_row ∙ ap (λ z. before ++ z) (sym rows)

-- the rows of an edge's tree, written at the label's place
pub listed_child : (out new : List Row) (p at deeper : Path) (a b : Label) (k : Tree) → new ≡ out ++ map entry_row (entries_under deeper (keyed.entries k)) → deeper ≡ at ++ b ∷ [] → at ≡ p → b ≡ a →
    new ≡ out ++ map entry_row (entries_under (child p a) (keyed.entries k))
listed_child out new p at deeper a b k n d e l = n ∙ ap (λ q. out ++ map entry_row (entries_under q (keyed.entries k))) (d ∙ ap (λ q. q ++ b ∷ []) e ∙ ap (λ z. p ++ z ∷ []) l)

-- the rows of some edges and of others
pub child_rows-append : (es fs : List (Label × Tree)) → child_rows (es ++ fs) ≡ child_rows es ++ child_rows fs
child_rows-append [] fs = refl
child_rows-append (e ∷ es) fs = ap (λ z. below_label e.0 (keyed.entries e.1) ++ z) (child_rows-append es fs) ∙ sym (append_assoc (below_label e.0 (keyed.entries e.1)) (child_rows es) (child_rows fs))
