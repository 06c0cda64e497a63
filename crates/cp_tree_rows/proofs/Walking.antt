-- Walks over siblings, one after another with all that lies below each.
use Rattle.std.specs.Prelude.{◌≡◌, ℕ, ◌+◌, ◌-◌, ◌≤◌, ◌<◌, List, [], ◌∷◌, ◌++◌, map, max, take, drop, length, refl}
use Rattle.std.proofs.Common.{sym, ap, subst, ◌∙◌, T, arith, length-append, append_assoc, append-nil, get_or, rules, nat_cmp}
use Rattle.std.proofs.lemmas.List.{length-drop, map-append}
use Rattle.std.proofs.lemmas.List.Sums.{sum_by-cons, sum_by-append}
use Rattle.std.proofs.Math.ListN.{drop_of_length-le}
use Rattle.std.specs.Ordering.{ord_max}
use Rattle.cp_model.specs.declared.limits.TheConstants.{PLACE_WEIGHT}
use Rattle.cp_model.specs.declared.row.Content.{Content}
use Rattle.cp_model.specs.declared.row.Row.{Row}
use Rattle.cp_model.specs.Place.{Label, Path, child}
use Rattle.cp_model.specs.Keyed as keyed
use Rattle.cp_model.specs.Subtrees.{entries_under}
use Rattle.cp_model.specs.Tree.{Tree, weight, text_bytes}
use Rattle.cp_tree.specs.Branch.{below_label, child_rows, children_len}
use Rattle.cp_tree.specs.Rows.{entry_row, path_size, deepest, reach_of}
use Rattle.cp_tree.specs.declared.reach.Reach.{Reach}
use Rattle.cp_tree.proofs.BranchLemmas.{entries-branch}
use Rattle.cp_tree.proofs.Counted.{greatest-append}
use Rattle.cp_tree.proofs.ListingLemmas.{moved-append, moved-below_label, moved-first}
use Rattle.cp_tree.specs.Sums.{children_weight}
use Rattle.cp_tree.proofs.Totals.{weight-branch, len-branch}
use Rattle.cp_tree_rows.specs.declared.row.TreeRow.{TreeRow}
use Rattle.cp_tree_rows.specs.Forest.{edges, nests, is_part, tree_of, row_weight, rows_weight}
use Rattle.cp_tree.specs.Sums.{largest}
use Rattle.cp_tree_rows.proofs.Reading.{IsRow, facts, rows_ind, row_parts, good_part, edges-none, edges_around, shorter_take}
use Rattle.cp_tree_rows.proofs.Stretches.{from_row, drop_on}

-- the rows below a row that is at i
abbrev pub rows_inside : List TreeRow → ℕ → TreeRow → List TreeRow
rows_inside rs i r = take (i + 1 + r.below - (i + 1)) (drop (i + 1) rs)

-- one sibling, with all below it, and the later ones
pub record OneOn (rs : List TreeRow) (i : ℕ) (r : TreeRow) : Type 0 where
  pub within : i + 1 + r.below ≤ length rs
  pub back : T (nests (drop (i + 1 + r.below) rs))
  pub part : T (is_part r.item r.last (rows_inside rs i r))
  pub shorter : length (rows_inside rs i r) < length rs
  pub edges_are : edges (drop i rs) ≡ (r.label, tree_of r.item (rows_inside rs i r)) ∷ edges (drop (i + 1 + r.below) rs)

pub one_on : (rs : List TreeRow) (i : ℕ) (r : TreeRow) → i < length rs → r ≡ get_or rs i r → T (nests (drop i rs)) → OneOn rs i r
one_on rs i r lt item back =
    let at : drop i rs ≡ r ∷ drop (i + 1) rs = from_row rs i r lt item in
    let p = row_parts r (drop (i + 1) rs) (subst (λ z. T (nests z)) at back) in
    let inner = take r.below (drop (i + 1) rs) in
    let n : i + 1 + r.below - (i + 1) ≡ r.below = omega arith in
    let same : rows_inside rs i r ≡ inner = ap (λ k. take k (drop (i + 1) rs)) n in
    let later : drop (i + 1 + r.below) rs ≡ drop r.below (drop (i + 1) rs) = drop_on rs (i + 1) r.below (omega arith) in
    record {
      within = omega (arith, length-drop (i + 1) rs, ap length p.1, length-append inner (drop r.below (drop (i + 1) rs)), p.0.below);
      back = subst (λ z. T (nests z)) (sym later) p.0.others;
      part = subst (λ z. T (is_part r.item r.last z)) (sym same) p.0.part;
      shorter = omega (arith, ap length same, shorter_take r.below (drop (i + 1) rs), length-drop (i + 1) rs);
      edges_are = ap edges (at ∙ ap (λ z. r ∷ z) (sym p.1)) ∙ edges_around r inner (drop r.below (drop (i + 1) rs)) p.0.below ∙ (λ j. (r.label, tree_of r.item (sym same j)) ∷ edges (sym later j));
    }

-- after the last there is none
pub none_on : (rs : List TreeRow) (i : ℕ) → length rs ≤ i → edges (drop i rs) ≡ []
none_on rs i h = ap edges (drop_of_length-le rs h) ∙ edges-none

-- ---- labels

pub labels_on : (rs : List TreeRow) (i : ℕ) (r : TreeRow) (old new all : List Label) (a : Label) → OneOn rs i r → a ≡ r.label → new ≡ old ++ a ∷ [] →
    old ++ map (λ e. e.0) (edges (drop i rs)) ≡ all → new ++ map (λ e. e.0) (edges (drop (i + 1 + r.below) rs)) ≡ all
labels_on rs i r old new all a w e n h =
    let later = map (λ (e : Label × Tree). e.0) (edges (drop (i + 1 + r.below) rs)) in
    (λ j. n j ++ later) ∙ append_assoc old (a ∷ []) later ∙ (λ j. old ++ e j ∷ later) ∙ ap (λ z. old ++ map (λ (e : Label × Tree). e.0) z) (sym w.edges_are) ∙ h

pub labels_end : (rs : List TreeRow) (i : ℕ) (old all : List Label) → length rs ≤ i → old ++ map (λ e. e.0) (edges (drop i rs)) ≡ all → old ≡ all
labels_end rs i old all h e = sym (append-nil old) ∙ ap (λ z. old ++ map (λ (e : Label × Tree). e.0) z) (sym (none_on rs i h)) ∙ e

-- ---- rows

-- the entries of a root and its rows
pub entries_part : (x : Content) (last : ℕ) (rs : List TreeRow) → T (is_part x last rs) → keyed.entries (tree_of x rs) ≡ ([], x) ∷ child_rows (edges rs)
entries_part x last rs h = entries-branch x (edges rs) (good_part x last rs h).sorted

-- the rows of a sibling with all below it, and of the later ones
listed_one : (rs : List TreeRow) (i : ℕ) (r : TreeRow) (p : Path) → OneOn rs i r →
    map entry_row (entries_under p (child_rows (edges (drop i rs)))) ≡ entry_row (child p r.label, r.item) ∷ (map entry_row (entries_under (child p r.label) (child_rows (edges (rows_inside rs i r)))) ++ map entry_row (entries_under p (child_rows (edges (drop (i + 1 + r.below) rs)))))
listed_one rs i r p w =
    let t = tree_of r.item (rows_inside rs i r) in
    let es = edges (drop (i + 1 + r.below) rs) in
    let below : entries_under p (below_label r.label (keyed.entries t)) ≡ (child p r.label, r.item) ∷ entries_under (child p r.label) (child_rows (edges (rows_inside rs i r))) =
    moved-below_label p r.label (keyed.entries t) ∙ ap (entries_under (child p r.label)) (entries_part r.item r.last (rows_inside rs i r) w.part) ∙ moved-first (child p r.label) r.item (child_rows (edges (rows_inside rs i r))) in
    ap (λ z. map entry_row (entries_under p (child_rows z))) w.edges_are
    ∙ ap (map entry_row) (moved-append p (below_label r.label (keyed.entries t)) (child_rows es))
    ∙ map-append entry_row (entries_under p (below_label r.label (keyed.entries t))) (entries_under p (child_rows es))
    ∙ ap (λ z. map entry_row z ++ map entry_row (entries_under p (child_rows es))) below

pub rows_on : (rs : List TreeRow) (i : ℕ) (r : TreeRow) (p q : Path) (old mid new all : List Row) → OneOn rs i r → q ≡ child p r.label →
    mid ≡ old ++ entry_row (q, r.item) ∷ [] → new ≡ mid ++ map entry_row (entries_under q (child_rows (edges (rows_inside rs i r)))) →
    old ++ map entry_row (entries_under p (child_rows (edges (drop i rs)))) ≡ all → new ++ map entry_row (entries_under p (child_rows (edges (drop (i + 1 + r.below) rs)))) ≡ all
rows_on rs i r p q old mid new all w e m n h =
    let later = map entry_row (entries_under p (child_rows (edges (drop (i + 1 + r.below) rs)))) in
    let inner = map entry_row (entries_under (child p r.label) (child_rows (edges (rows_inside rs i r)))) in
    let first = entry_row (child p r.label, r.item) in
    let built : new ≡ (old ++ first ∷ []) ++ inner = n ∙ (λ j. m j ++ map entry_row (entries_under q (child_rows (edges (rows_inside rs i r))))) ∙ (λ j. (old ++ entry_row (e j, r.item) ∷ []) ++ map entry_row (entries_under (e j) (child_rows (edges (rows_inside rs i r))))) in
    (λ j. built j ++ later) ∙ append_assoc (old ++ first ∷ []) inner later ∙ append_assoc old (first ∷ []) (inner ++ later) ∙ ap (λ z. old ++ z) (sym (listed_one rs i r p w)) ∙ h

no_rows_under : (p : Path) → map entry_row (entries_under p (child_rows [])) ≡ []
unfolding entries_under
no_rows_under p = refl

pub rows_end : (rs : List TreeRow) (i : ℕ) (p : Path) (old all : List Row) → length rs ≤ i → old ++ map entry_row (entries_under p (child_rows (edges (drop i rs)))) ≡ all → old ≡ all
rows_end rs i p old all h e = sym (append-nil old) ∙ ap (λ z. old ++ z) (sym (no_rows_under p)) ∙ ap (λ z. old ++ map entry_row (entries_under p (child_rows z))) (sym (none_on rs i h)) ∙ e

-- ---- depths and sizes

-- under a label rows lie one label deeper
deeper : (a : Label) (e : Path × Content) (es : List (Path × Content)) → deepest (below_label a (e ∷ es)) ≡ 1 + deepest (e ∷ es)
deeper a e [] = omega arith
deeper a e (d ∷ es) = ap (max (length (a ∷ e.0))) (deeper a d es) ∙ omega arith

-- and their size grows by the label's bytes and 1
larger : (a : Label) (e : Path × Content) (es : List (Path × Content)) → largest (below_label a (e ∷ es)) ≡ length a + 1 + largest (e ∷ es)
larger a e [] = omega (arith, sum_by-cons (λ (b : Label). length b + 1) a e.0)
larger a e (d ∷ es) = ap (max (path_size (a ∷ e.0))) (larger a d es) ∙ omega (arith, sum_by-cons (λ (b : Label). length b + 1) a e.0)

module _ (rs : List TreeRow) (i : ℕ) (r : TreeRow) (w : OneOn rs i r) where
  pub depth_one : deepest (child_rows (edges (drop i rs))) ≡ max (1 + deepest (child_rows (edges (rows_inside rs i r)))) (deepest (child_rows (edges (drop (i + 1 + r.below) rs))))
  depth_one =
      let t = tree_of r.item (rows_inside rs i r) in
      let es = edges (drop (i + 1 + r.below) rs) in
      let inner = child_rows (edges (rows_inside rs i r)) in
      let below : deepest (below_label r.label (keyed.entries t)) ≡ 1 + deepest inner = ap (λ z. deepest (below_label r.label z)) (entries_part r.item r.last (rows_inside rs i r) w.part) ∙ deeper r.label ([], r.item) inner ∙ omega arith in
      ap (λ z. deepest (child_rows z)) w.edges_are ∙ greatest-append (λ e. length e.0) (below_label r.label (keyed.entries t)) (child_rows es) ∙ ap (λ n. max n (deepest (child_rows es))) below

  pub size_one : largest (child_rows (edges (drop i rs))) ≡ max (length r.label + 1 + largest (child_rows (edges (rows_inside rs i r)))) (largest (child_rows (edges (drop (i + 1 + r.below) rs))))
  size_one =
      let t = tree_of r.item (rows_inside rs i r) in
      let es = edges (drop (i + 1 + r.below) rs) in
      let inner = child_rows (edges (rows_inside rs i r)) in
      let below : largest (below_label r.label (keyed.entries t)) ≡ length r.label + 1 + largest inner = ap (λ z. largest (below_label r.label z)) (entries_part r.item r.last (rows_inside rs i r) w.part) ∙ larger r.label ([], r.item) inner ∙ omega arith in
      ap (λ z. largest (child_rows z)) w.edges_are ∙ greatest-append (λ e. path_size e.0) (below_label r.label (keyed.entries t)) (child_rows es) ∙ ap (λ n. max n (largest (child_rows es))) below

pub depth_none : (rs : List TreeRow) (i : ℕ) → length rs ≤ i → deepest (child_rows (edges (drop i rs))) ≡ 0
depth_none rs i h = ap (λ z. deepest (child_rows z)) (none_on rs i h)

pub size_none : (rs : List TreeRow) (i : ℕ) → length rs ≤ i → largest (child_rows (edges (drop i rs))) ≡ 0
size_none rs i h = ap (λ z. largest (child_rows z)) (none_on rs i h)

-- ---- sums

edges_weight : (rs : List TreeRow) → T (nests rs) → children_weight (edges rs) ≡ rows_weight rs
edges_weight rs h = rows_ind (λ l. children_weight (edges l) ≡ rows_weight l) (ap children_weight edges-none) step rs h
  where
    step : (r : TreeRow) (inner rest : List TreeRow) → IsRow r inner rest → children_weight (edges inner) ≡ rows_weight inner → children_weight (edges rest) ≡ rows_weight rest → children_weight (edges (r ∷ inner ++ rest)) ≡ rows_weight (r ∷ inner ++ rest)
    step r inner rest w a b =
        ap children_weight (edges_around r inner rest w.below)
        ∙ omega (arith, weight-branch r.item (edges inner) (good_part r.item r.last inner w.part), a, b, sum_by-cons row_weight r (inner ++ rest), sum_by-append row_weight inner rest)

edges_len : (rs : List TreeRow) → T (nests rs) → children_len (edges rs) ≡ length rs
edges_len rs h = rows_ind (λ l. children_len (edges l) ≡ length l) (ap children_len edges-none) step rs h
  where
    step : (r : TreeRow) (inner rest : List TreeRow) → IsRow r inner rest → children_len (edges inner) ≡ length inner → children_len (edges rest) ≡ length rest → children_len (edges (r ∷ inner ++ rest)) ≡ length (r ∷ inner ++ rest)
    step r inner rest w a b =
        ap children_len (edges_around r inner rest w.below)
        ∙ omega (arith, len-branch r.item (edges inner) (good_part r.item r.last inner w.part).sorted, a, b, length-append inner rest)

module _ (x : Content) (last : ℕ) (rs : List TreeRow) (part : T (is_part x last rs)) where
  -- what a tree weighs
  pub tree_weight : weight (tree_of x rs) ≡ PLACE_WEIGHT + text_bytes x + rows_weight rs
  tree_weight = (let g = good_part x last rs part in weight-branch x (edges rs) g ∙ ap (λ n. PLACE_WEIGHT + text_bytes x + n) (edges_weight rs (facts x last rs part).nested))

  -- how many places it has
  pub tree_len : keyed.len (tree_of x rs) ≡ length rs + 1
  tree_len = (let g = good_part x last rs part in len-branch x (edges rs) g.sorted ∙ ap (λ n. n + 1) (edges_len rs (facts x last rs part).nested))

  pub tree_depth : deepest (keyed.entries (tree_of x rs)) ≡ deepest (child_rows (edges rs))
  tree_depth = ap deepest (entries_part x last rs part) ∙ omega arith

  pub tree_size : largest (keyed.entries (tree_of x rs)) ≡ largest (child_rows (edges rs))
  tree_size = ap largest (entries_part x last rs part) ∙ omega arith

  -- how far it reaches
  pub tree_reach : (z : Reach) → z.nodes ≡ length rs + 1 → z.inner ≡ weight (tree_of x rs) → z.depth ≡ deepest (child_rows (edges rs)) → z.size ≡ largest (child_rows (edges rs)) → z ≡ reach_of (keyed.entries (tree_of x rs))
  unfolding reach_of weight keyed.len keyed.entries
  tree_reach z n w d s =
      let nodes = n ∙ sym tree_len in
      let depth = d ∙ sym tree_depth in
      let size = s ∙ sym tree_size in
      λ i. record { nodes = nodes i; inner = w i; depth = depth i; size = size i }

-- the greater of two numbers, as it is computed
pub greater_is : (a b : ℕ) → ord_max nat_cmp a b ≡ max a b
greater_is a b = search rules

-- the greatest so far, with one more
pub greater_on : (d e inner later here all n : ℕ) → n ≡ ord_max nat_cmp d e → e ≡ inner → here ≡ max inner later → max d here ≡ all → max n later ≡ all
greater_on d e inner later here all n is same h m = omega (arith, is ∙ greater_is d e, same, h, m)
