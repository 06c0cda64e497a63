-- A list of rows from one row on, and the siblings before it and after what lies below it.
use Rattle.std.specs.Prelude.{◌≡◌, ℕ, suc, ◌+◌, ◌-◌, ◌≤◌, ◌<◌, Bool, true, false, ◌==◌, List, [], ◌∷◌, ◌++◌, take, drop, length, refl}
use Rattle.std.proofs.Common.{sym, ap, subst, ◌∙◌, T, arith, length-append, append-nil, get_or}
use Rattle.std.proofs.lemmas.List.{length-take-le, length-drop, take-append-drop, take_all}
use Rattle.std.proofs.lemmas.Bool.Decides.{nat_tests}
use Rattle.std.proofs.Math.Seq.{take-append-add, drop-append-add}
use Rattle.std.proofs.Math.ListN.{drop_of_length-le}
use Rattle.std.specs.declared.cmp.Ordering.TheVariants.{Less, Equal, Greater}
use Rattle.std.specs.declared.option.Option.TheVariants.{None, Some}
use Rattle.cp_model.specs.declared.row.Content.TheVariants.{Node}
use Rattle.std.specs.FinMap.Entries.{find, is_sorted, below_all}
use Rattle.std.specs.Ordering.{is_lt}
use Rattle.cp_path.specs.Text.{text_cmp}
use Rattle.cp_model.specs.Place.{Label}
use Rattle.cp_model.proofs.Sorted.{parts_of, all_of}
use Rattle.cp_tree.proofs.BranchLemmas.{label_total, label_same}
use Rattle.cp_tree.proofs.Edges.{drop-one}
use Rattle.cp_tree.proofs.Rising.{turned, less_all}
use Rattle.cp_tree_rows.specs.declared.row.TreeRow.{TreeRow}
use Rattle.cp_tree_rows.specs.Forest.{edges, nests, is_part, points_to_last, is_last, tree_of, SortedRows}
use Rattle.cp_tree_rows.specs.Spots.{AllBefore, IsChild, IsGap}
use Rattle.cp_tree_rows.proofs.Reading.{IsRow, row_parts, edges-none, edges_around, nests_around, edges-append, nests-append, nests-back}
use Rattle.cp_tree.proofs.Split.{sorted_back}
use Rattle.cp_tree_rows.proofs.Split.{before_mid, after_mid, before_later, before_both, find_gap, find_found}

-- the list from a row on
pub from_row : {X : Type 0} (xs : List X) (i : ℕ) (x : X) → i < length xs → x ≡ get_or xs i x → drop i xs ≡ x ∷ drop (i + 1) xs
from_row xs i x h e = drop-one xs i x h e

-- the list up to some later element, and from it on
pub take_on : {X : Type 0} (xs : List X) (i n : ℕ) → i ≤ length xs → take (i + n) xs ≡ take i xs ++ take n (drop i xs)
take_on xs i n h =
    ap (take (i + n)) (sym (take-append-drop i xs)) ∙ ap (λ k. take (k + n) (take i xs ++ drop i xs)) (sym (length-take-le i xs h)) ∙ take-append-add (take i xs) (drop i xs) n

pub drop_on : {X : Type 0} (xs : List X) (i n : ℕ) → i ≤ length xs → drop (i + n) xs ≡ drop n (drop i xs)
drop_on xs i n h =
    ap (drop (i + n)) (sym (take-append-drop i xs)) ∙ ap (λ k. drop (k + n) (take i xs ++ drop i xs)) (sym (length-take-le i xs h)) ∙ drop-append-add (take i xs) (drop i xs) n

-- the rows from one on fall into it, those below it and its later siblings
module _ (rs : List TreeRow) (i : ℕ) (r : TreeRow) (rest : List TreeRow) (within : i ≤ length rs) (at : drop i rs ≡ r ∷ rest) where
  past_index : i + (1 + r.below) ≡ i + suc r.below
  past_index = omega arith

  -- the index after all that lies below it
  past_take : take (i + (1 + r.below)) rs ≡ take i rs ++ r ∷ take r.below rest
  past_take = ap (λ n. take n rs) past_index ∙ take_on rs i (suc r.below) within ∙ ap (λ z. take i rs ++ take (suc r.below) z) at

  past_drop : drop (i + (1 + r.below)) rs ≡ drop r.below rest
  past_drop = ap (λ n. drop n rs) past_index ∙ drop_on rs i (suc r.below) within ∙ ap (drop (suc r.below)) at

  -- there are as many rows
  long : length rs ≡ i + (1 + length rest)
  long = omega (arith, length-drop i rs, ap length at)

-- no rows nest
pub no_nests : T (nests [])
unfolding nests
no_nests = tt

-- the siblings from one on rise
sorted_rest : (rs : List TreeRow) (i : ℕ) → T (nests (take i rs)) → SortedRows rs → SortedRows (drop i rs)
sorted_rest rs i f s = sorted_back (edges (take i rs)) (edges (drop i rs)) (subst (λ z. T (is_sorted text_cmp z)) (ap edges (sym (take-append-drop i rs)) ∙ edges-append (take i rs) (drop i rs) f) s)

-- the siblings up to an index come before a
pub record IsPassed (rs : List TreeRow) (a : Label) (i : ℕ) : Type 0 where
  pub within : i ≤ length rs
  pub front : T (nests (take i rs))
  pub back : T (nests (drop i rs))
  pub before : AllBefore a (edges (take i rs))

-- at the start none is passed
pub none_passed : (rs : List TreeRow) (a : Label) → T (nests rs) → IsPassed rs a 0
none_passed rs a h = record { within = omega arith; front = no_nests; back = h; before = subst (AllBefore a) (sym edges-none) tt }

-- at the end there is a gap
pub gap_end : (rs : List TreeRow) (a : Label) (i : ℕ) → IsPassed rs a i → length rs ≤ i → IsGap rs a i
gap_end rs a i p h = record {
  within = p.within;
  front = p.front;
  back = p.back;
  before = p.before;
  after = subst (λ z. T (below_all text_cmp a (edges z))) (sym (drop_of_length-le rs h)) (subst (λ z. T (below_all text_cmp a z)) (sym edges-none) tt);
}

module _ (rs : List TreeRow) (a : Label) (i : ℕ) (r : TreeRow) (lt : i < length rs) (item : r ≡ get_or rs i r) (front : T (nests (take i rs))) where
  at_row : drop i rs ≡ r ∷ drop (i + 1) rs
  at_row = from_row rs i r lt item

  -- the child is found
  pub child_found : text_cmp a r.label ≡ Equal → IsChild rs a i
  child_found e = record { row = r; rest = drop (i + 1) rs; at = at_row; label = sym (label_same a r.label e); front = front }

  module _ (back : T (nests (drop i rs))) where
    parts : IsRow r (take r.below (drop (i + 1) rs)) (drop r.below (drop (i + 1) rs)) × (take r.below (drop (i + 1) rs) ++ drop r.below (drop (i + 1) rs) ≡ drop (i + 1) rs)
    parts = row_parts r (drop (i + 1) rs) (subst (λ z. T (nests z)) at_row back)

    whole : T (nests (r ∷ take r.below (drop (i + 1) rs)))
    whole = subst (λ z. T (nests (r ∷ z))) (append-nil (take r.below (drop (i + 1) rs))) (nests_around r (take r.below (drop (i + 1) rs)) [] (record { below = parts.0.below; part = parts.0.part; others = no_nests }))

    fits : i + (1 + r.below) ≤ length rs
    fits = omega (arith, ap length at_row, length-drop i rs, ap length parts.1, length-append (take r.below (drop (i + 1) rs)) (drop r.below (drop (i + 1) rs)), parts.0.below)

    edges_whole : edges (r ∷ take r.below (drop (i + 1) rs)) ≡ (r.label, tree_of r.item (take r.below (drop (i + 1) rs))) ∷ []
    edges_whole =
        ap (λ z. edges (r ∷ z)) (sym (append-nil (take r.below (drop (i + 1) rs)))) ∙ edges_around r (take r.below (drop (i + 1) rs)) [] parts.0.below
        ∙ ap (λ z. (r.label, tree_of r.item (take r.below (drop (i + 1) rs))) ∷ z) edges-none

    module _ (before : AllBefore a (edges (take i rs))) where
      -- a row whose label comes before a is passed over, with all below it
      pub passed : text_cmp a r.label ≡ Greater → IsPassed rs a (i + (1 + r.below))
      passed gt =
          let t = past_take rs i r (drop (i + 1) rs) (omega arith) at_row in
          let d = past_drop rs i r (drop (i + 1) rs) (omega arith) at_row in
          record {
            within = fits;
            front = subst (λ z. T (nests z)) (sym t) (nests-append (take i rs) (r ∷ take r.below (drop (i + 1) rs)) front whole);
            back = subst (λ z. T (nests z)) (sym d) parts.0.others;
            before = subst (AllBefore a) (sym (ap edges t ∙ edges-append (take i rs) (r ∷ take r.below (drop (i + 1) rs)) front ∙ ap (λ z. edges (take i rs) ++ z) edges_whole))
                (before_both a (edges (take i rs)) ((r.label, tree_of r.item (take r.below (drop (i + 1) rs))) ∷ []) before (turned text_cmp label_total a r.label Greater gt, tt));
          }

      -- before a row whose label comes after a there is a gap for a
      pub gap_before : SortedRows rs → text_cmp a r.label ≡ Less → IsGap rs a i
      gap_before s less = record {
        within = omega arith;
        front = front;
        back = back;
        before = before;
        after =
            let later = edges (drop r.below (drop (i + 1) rs)) in
            let all : edges (drop i rs) ≡ (r.label, tree_of r.item (take r.below (drop (i + 1) rs))) ∷ later = ap edges (at_row ∙ ap (λ z. r ∷ z) (sym parts.1)) ∙ edges_around r (take r.below (drop (i + 1) rs)) (drop r.below (drop (i + 1) rs)) parts.0.below in
            let rises = subst (λ z. T (is_sorted text_cmp z)) all (sorted_rest rs i front s) in
            subst (λ z. T (below_all text_cmp a z)) (sym all)
            (all_of (is_lt (text_cmp a r.label)) (below_all text_cmp a later) (subst (λ o. T (is_lt o)) (sym less) tt)
            (less_all text_cmp label_total a r.label later less (parts_of (below_all text_cmp r.label later) (is_sorted text_cmp later) rises).0));
      }

-- where the rows rise, the child that is found, with its earlier and later siblings
pub record Around (rs : List TreeRow) (a : Label) (i : ℕ) (r : TreeRow) (inner rest : List TreeRow) : Type 0 where
  pub fits : i + (1 + r.below) ≤ length rs
  pub row : IsRow r inner rest
  pub label : r.label ≡ a
  pub front : T (nests (take i rs))
  pub rows : rs ≡ take i rs ++ (r ∷ inner ++ rest)
  pub edges_are : edges rs ≡ edges (take i rs) ++ (a, tree_of r.item inner) ∷ edges rest
  pub before : AllBefore a (edges (take i rs))
  pub after : T (below_all text_cmp a (edges rest))

pub around : (rs : List TreeRow) (a : Label) (i : ℕ) (r : TreeRow) → T (nests rs) → SortedRows rs → IsChild rs a i → r ≡ get_or rs i r → Around rs a i r (take r.below (drop (i + 1) rs)) (drop r.below (drop (i + 1) rs))
around rs a i r nested sorted w item =
    let lt : i < length rs = omega (arith, length-drop i rs, ap length w.at) in
    let at : drop i rs ≡ r ∷ drop (i + 1) rs = from_row rs i r lt item in
    let inner = take r.below (drop (i + 1) rs) in
    let rest = drop r.below (drop (i + 1) rs) in
    let same_row : w.row ≡ r = first_same w.row r w.rest (drop (i + 1) rs) (sym w.at ∙ at) in
    let label : r.label ≡ a = sym (ap (λ z. z.label) same_row) ∙ w.label in
    let back : T (nests (r ∷ drop (i + 1) rs)) = subst (λ z. T (nests z)) at (nests-back (take i rs) (drop i rs) w.front (subst (λ z. T (nests z)) (sym (take-append-drop i rs)) nested)) in
    let p = row_parts r (drop (i + 1) rs) back in
    let later : drop i rs ≡ r ∷ inner ++ rest = at ∙ ap (λ z. r ∷ z) (sym p.1) in
    let rows : rs ≡ take i rs ++ (r ∷ inner ++ rest) = sym (take-append-drop i rs) ∙ ap (λ z. take i rs ++ z) later in
    let all : edges rs ≡ edges (take i rs) ++ (a, tree_of r.item inner) ∷ edges rest =
    ap edges rows ∙ edges-append (take i rs) (r ∷ inner ++ rest) w.front
    ∙ ap (λ z. edges (take i rs) ++ z) (edges_around r inner rest p.0.below ∙ ap (λ z. (z, tree_of r.item inner) ∷ edges rest) label) in
    let rises = subst (λ z. T (is_sorted text_cmp z)) all sorted in
    record {
      fits = omega (arith, length-drop (i + 1) rs, ap length p.1, length-append inner rest, p.0.below);
      row = p.0;
      label = label;
      front = w.front;
      rows = rows;
      edges_are = all;
      before = before_mid (edges (take i rs)) (a, tree_of r.item inner) (edges rest) rises;
      after = after_mid (edges (take i rs)) (a, tree_of r.item inner) (edges rest) rises;
    }
  where
    first_same : (x y : TreeRow) (xs ys : List TreeRow) → x ∷ xs ≡ y ∷ ys → x ≡ y
    first_same x y xs ys e = cc

-- the part below it
pub record Inside (rs : List TreeRow) (a : Label) (i : ℕ) (r : TreeRow) : Type 0 where
  pub fits : i + 1 + r.below ≤ length rs
  pub part : T (is_part r.item r.last (take (i + 1 + r.below - (i + 1)) (drop (i + 1) rs)))
  pub found : find text_cmp a (edges rs) ≡ Some (tree_of r.item (take (i + 1 + r.below - (i + 1)) (drop (i + 1) rs)))

pub inside : (rs : List TreeRow) (a : Label) (i : ℕ) (r q : TreeRow) → T (nests rs) → SortedRows rs → IsChild rs a i → r ≡ get_or rs i r → q ≡ r → Inside rs a i q
inside rs a i r q nested sorted w item e =
    let d = around rs a i r nested sorted w item in
    let n : i + 1 + r.below - (i + 1) ≡ r.below = omega arith in
    subst (Inside rs a i) (sym e) (record {
      fits = omega (arith, d.fits);
      part = subst (λ k. T (is_part r.item r.last (take k (drop (i + 1) rs)))) (sym n) d.row.part;
      found = ap (find text_cmp a) d.edges_are ∙ find_found a (tree_of r.item (take r.below (drop (i + 1) rs))) (tree_of r.item (take r.below (drop (i + 1) rs))) (edges (drop r.below (drop (i + 1) rs))) d.after (edges (take i rs)) d.before
          ∙ ap (λ k. Some (tree_of r.item (take k (drop (i + 1) rs)))) (sym n);
    })

-- where there is a gap no edge is found
pub nothing_in_gap : (rs : List TreeRow) (a : Label) (i : ℕ) → IsGap rs a i → find text_cmp a (edges rs) ≡ None
nothing_in_gap rs a i g = ap (find text_cmp a) (ap edges (sym (take-append-drop i rs)) ∙ edges-append (take i rs) (drop i rs) g.front) ∙ find_gap a (tree_of Node []) (edges (drop i rs)) g.after (edges (take i rs)) g.before

-- all rows lie below the first of them
pub below_all_rows : (r : TreeRow) (zs : List TreeRow) → T (is_last (r ∷ zs)) → r.below ≡ length zs
below_all_rows r zs h = by (r.below == length zs) refl h
  where
    by : (b : Bool) → (r.below == length zs) ≡ b → T b → r.below ≡ length zs
    by true e t = grind (arith, nat_tests)
    by false e t = absurd t

-- the last child, where the number points to it
module _ (rs : List TreeRow) (a : Label) (last i : ℕ) (r : TreeRow) (nested : T (nests rs)) (sorted : SortedRows rs) (points : T (points_to_last nests last rs)) (is : last ≡ suc i) where
  pointed : T (nests (take i rs)) × T (is_last (drop i rs))
  pointed = parts_of (nests (take i rs)) (is_last (drop i rs)) (subst (λ n. T (points_to_last nests n rs)) is points)

  some_row : (zs : List TreeRow) → T (is_last zs) → 0 < length zs
  some_row [] h = absurd h
  some_row (z ∷ zs) h = omega arith

  -- it is among the rows
  pub last_within : i < length rs
  last_within = omega (arith, some_row (drop i rs) pointed.1, length-drop i rs)

  module _ (item : r ≡ get_or rs i r) where
    pub last_found : text_cmp a r.label ≡ Equal → IsChild rs a i
    last_found e = child_found rs a i r last_within item pointed.0 e

    pub gap_after_last : text_cmp a r.label ≡ Greater → IsGap rs a (length rs)
    gap_after_last gt =
        let at = at_row rs a i r last_within item pointed.0 in
        let back : T (nests (drop i rs)) = nests-back (take i rs) (drop i rs) pointed.0 (subst (λ z. T (nests z)) (sym (take-append-drop i rs)) nested) in
        let p = row_parts r (drop (i + 1) rs) (subst (λ z. T (nests z)) at back) in
        let all_below : r.below ≡ length (drop (i + 1) rs) = below_all_rows r (drop (i + 1) rs) (subst (λ z. T (is_last z)) at pointed.1) in
        let one : edges (drop i rs) ≡ (r.label, tree_of r.item (drop (i + 1) rs)) ∷ [] =
        ap edges (at ∙ ap (λ z. r ∷ z) (sym (append-nil (drop (i + 1) rs)))) ∙ edges_around r (drop (i + 1) rs) [] all_below ∙ ap (λ z. (r.label, tree_of r.item (drop (i + 1) rs)) ∷ z) edges-none in
        let all : edges rs ≡ edges (take i rs) ++ (r.label, tree_of r.item (drop (i + 1) rs)) ∷ [] =
        ap edges (sym (take-append-drop i rs)) ∙ edges-append (take i rs) (drop i rs) pointed.0 ∙ ap (λ z. edges (take i rs) ++ z) one in
        let less : text_cmp r.label a ≡ Less = turned text_cmp label_total a r.label Greater gt in
        let front = before_mid (edges (take i rs)) (r.label, tree_of r.item (drop (i + 1) rs)) [] (subst (λ z. T (is_sorted text_cmp z)) all sorted) in
        gap_end rs a (length rs) (record {
          within = omega arith;
          front = subst (λ z. T (nests z)) (sym (take_all (length rs) rs (omega arith))) nested;
          back = subst (λ z. T (nests z)) (sym (drop_of_length-le rs (omega arith))) no_nests;
          before = subst (λ z. AllBefore a (edges z)) (sym (take_all (length rs) rs (omega arith)))
              (subst (AllBefore a) (sym all) (before_both a (edges (take i rs)) ((r.label, tree_of r.item (drop (i + 1) rs)) ∷ []) (before_later r.label a (edges (take i rs)) less front) (less, tt)));
        }) (omega arith)
