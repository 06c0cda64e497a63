-- The rows of siblings and of a node, written one after the other.
use Rattle.std.specs.Prelude.{◌≡◌, List, [], ◌∷◌, ◌++◌, map, Result, Ok, Err, OnOk}
use Rattle.std.proofs.Common.{sym, ap, ◌∙◌, append_assoc, append-nil}
use Rattle.std.proofs.lemmas.List.{map-append}
use Rattle.cp_model.specs.declared.row.Content.{Content}
use Rattle.cp_model.specs.declared.row.Row.{Row}
use Rattle.cp_model.specs.Place.{Label, Path, child}
use Rattle.cp_model.specs.Keyed as keyed
use Rattle.cp_model.specs.Subtrees.{entries_under}
use Rattle.cp_model.specs.Tree.{Tree}
use Rattle.cp_tree.specs.Branch.{branch, child_rows, below_label}
use Rattle.cp_tree.specs.Good.{IsGood}
use Rattle.cp_tree.specs.Rows.{entry_row}
use Rattle.cp_tree.proofs.ListingLemmas.{moved-append, moved-below_label, moved-branch}
use Rattle.cp_tree.proofs.Walking.{child_rows-append}

-- edges: labels, each with the tree that it leads to
abbrev pub Edges : Type 0
Edges = List (Label × Tree)

-- the rows of these edges, their parent being at p
abbrev pub rows_under : Path → Edges → List Row
rows_under p es = map entry_row (entries_under p (child_rows es))

-- no siblings have no rows
pub no_rows : (out : List Row) (p : Path) (es : Edges) → es ≡ [] → out ≡ out ++ rows_under p es
unfolding entries_under
no_rows out p es e = sym (append-nil out) ∙ ap (λ z. out ++ rows_under p z) (sym e)

rows-append : (p : Path) (l r : Edges) → rows_under p (l ++ r) ≡ rows_under p l ++ rows_under p r
rows-append p l r =
    ap (λ z. map entry_row (entries_under p z)) (child_rows-append l r) ∙ ap (map entry_row) (moved-append p (child_rows l) (child_rows r))
    ∙ map-append entry_row (entries_under p (child_rows l)) (entries_under p (child_rows r))

rows-edge : (p : Path) (a : Label) (k : Tree) (r : Edges) → rows_under p ((a, k) ∷ r) ≡ map entry_row (entries_under (child p a) (keyed.entries k)) ++ rows_under p r
rows-edge p a k r =
    ap (map entry_row) (moved-append p (below_label a (keyed.entries k)) (child_rows r) ∙ ap (λ z. z ++ entries_under p (child_rows r)) (moved-below_label p a (keyed.entries k)))
    ∙ map-append entry_row (entries_under (child p a) (keyed.entries k)) (entries_under p (child_rows r))

-- the siblings before one, it, and those after it are written
pub rows_fork : {E : Type 0} (result : Result (Unit {0}) E) (new first left mid : List Row) (p q deeper : Path) (s l r : Edges) (a b : Label) (k : Tree) → s ≡ l ++ (a, k) ∷ r →
    left ≡ first ++ rows_under p l → mid ≡ left ++ map entry_row (entries_under deeper (keyed.entries k)) → deeper ≡ p ++ b ∷ [] → b ≡ a → q ≡ p →
    OnOk result (new ≡ mid ++ rows_under q r) → OnOk result (new ≡ first ++ rows_under p s)
rows_fork (Err y) new first left mid p q deeper s l r a b k e f m d n i h = tt
rows_fork (Ok u) new first left mid p q deeper s l r a b k e f m d n i h =
    let here = λ (z : Path). map entry_row (entries_under z (keyed.entries k)) in
    h ∙ ap (λ z. mid ++ rows_under z r) i ∙ ap (λ z. z ++ rows_under p r) (m ∙ ap (λ z. left ++ here z) (d ∙ ap (λ z. p ++ z ∷ []) n) ∙ ap (λ z. z ++ here (child p a)) f)
    ∙ append_assoc (first ++ rows_under p l) (here (child p a)) (rows_under p r) ∙ append_assoc first (rows_under p l) (here (child p a) ++ rows_under p r)
    ∙ ap (λ z. first ++ z) (ap (λ z. rows_under p l ++ z) (sym (rows-edge p a k r)) ∙ sym (rows-append p l ((a, k) ∷ r)) ∙ ap (rows_under p) (sym e))

-- a root and its edges are written
pub rows_node : {E : Type 0} (result : Result (Unit {0}) E) (new first out : List Row) (p : Path) (row : Row) (m : Tree) (x : Content) (es : Edges) → branch x es ≡ m → IsGood x es → first ≡ out ++ row ∷ [] → row.path ≡ p → row.content ≡ x →
    OnOk result (new ≡ first ++ rows_under p es) → OnOk result (new ≡ out ++ map entry_row (entries_under p (keyed.entries m)))
rows_node (Err y) new first out p row m x es view g f rp rx h = tt
rows_node (Ok u) new first out p row m x es view g f rp rx h =
    let is_row : row ≡ entry_row (p, x) = λ j. record { path = rp j; content = rx j } in
    h ∙ ap (λ z. z ++ rows_under p es) (f ∙ ap (λ z. out ++ z ∷ []) is_row) ∙ append_assoc out (entry_row (p, x) ∷ []) (rows_under p es)
    ∙ ap (λ z. out ++ map entry_row z) (sym (moved-branch p x es g.sorted)) ∙ ap (λ z. out ++ map entry_row (entries_under p (keyed.entries z))) view
