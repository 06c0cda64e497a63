-- What rows read as once a piece is put into them.
use Rattle.std.specs.Prelude.{◌≡◌, ℕ, suc, ◌+◌, ◌-◌, ◌≤◌, ◌<◌, Bool, true, false, cond, ◌==◌, nat_lt, List, [], ◌∷◌, ◌++◌, take, drop, length, refl}
use Rattle.std.proofs.Common.{sym, ap, subst, ◌∙◌, T, arith, length-append, append_assoc, append-nil, get_or, set}
use Rattle.std.proofs.lemmas.List.{length-take-le, length-drop, take-append-drop, take-append-le, drop-append-le}
use Rattle.std.proofs.Math.Seq.{take-append-add, drop-append-add, take-append_seam, drop-append_seam, set-append_seam, get_or-append_seam}
use Rattle.std.proofs.Math.ListN.{drop_of_length-le}
use borrow.Rule.Slice.PartMut.{put_mid, same_len_mid}
use Rattle.std.proofs.lemmas.Bool.Decides.{nat_tests}
use Rattle.std.specs.declared.option.Option.{Option}
use Rattle.std.specs.declared.option.Option.TheVariants.{None, Some}
use Rattle.std.specs.FinMap.Entries.{find, put}
use Rattle.cp_path.specs.Text.{text_cmp}
use Rattle.cp_model.specs.declared.row.Content.{Content}
use Rattle.cp_model.specs.declared.row.Content.TheVariants.{Node}
use Rattle.cp_model.specs.Place.{Label, Path, child}
use Rattle.cp_model.specs.Keyed as keyed
use Rattle.cp_model.specs.Subtrees.{with_subtree}
use Rattle.cp_model.specs.Tree.{Tree}
use Rattle.cp_model.proofs.Sorted.{all_of}
use Rattle.cp_tree.specs.Branch.{branch, without_child}
use Rattle.cp_tree.specs.Good.{IsGood}
use Rattle.cp_tree.proofs.BranchLemmas.{get-branch_root, get-branch_child, get_in, without-replaced}
use Rattle.cp_tree.proofs.GoodLemmas.{IsNow, rooted-branch, changed_here, changed_below, dropped_here, node_of_root, node_of_child, get_below}
use Rattle.cp_tree_rows.specs.declared.row.TreeRow.{TreeRow}
use Rattle.cp_tree_rows.specs.Forest.{edges, nests, is_part, is_bare, points_to_last, is_last, tree_of}
use Rattle.cp_tree_rows.specs.Spots.{IsChild, IsGap, IsPiece, piece_entries, IsPut, IsOpened}
use Rattle.cp_tree_rows.proofs.Reading.{shorter_take, shorter_drop, IsRow, facts, part_of, good_part, row_parts, edges-none, edges_around, nests_around, edges-append, nests-append}
use Rattle.cp_tree_rows.proofs.Split.{put_gap, cut_gap, find_found, put_found, cut_found}
use Rattle.cp_tree_rows.proofs.Stretches.{Around, around, from_row, take_on, drop_on, no_nests, below_all_rows}

-- what isn't above 0 isn't above 0
pub never : (t : Bool) (n : ℕ) → t ≡ true → t ≡ nat_lt 0 n → n ≤ 0 → ⊥
never t n e f le = by (nat_lt 0 n) refl (sym e ∙ f)
  where
    by : (b : Bool) → nat_lt 0 n ≡ b → true ≡ b → ⊥
    by true is g = (let lt : 0 < n = grind (arith, nat_tests) in absurd (omega arith))
    by false is g = absurd (cc)

-- equal numbers are told
pub same_number : (m n : ℕ) → m ≡ n → (m == n) ≡ true
same_number m n e = grind (arith, nat_tests)

-- what is above a node is a node
pub node_above : (x : Content) (es : List (Label × Tree)) (q : Path) → IsGood x es → keyed.get (branch x es) q ≡ Some Node → x ≡ Node
node_above x es [] g h = node_of_root x es h
node_above x es (b ∷ q) g h = by (find text_cmp b es) refl (sym (get-branch_child x es b q g.sorted) ∙ h)
  where
    by : (o : Option Tree) → find text_cmp b es ≡ o → get_in o q ≡ Some Node → x ≡ Node
    by None e k = absurd (cc)
    by (Some n) e k = node_of_child x es b n g.bare e

-- the edges of a piece
pub piece_edges : (p : TreeRow) (ps : List TreeRow) (a : Label) → IsPiece a (p ∷ ps) → (edges (p ∷ ps) ≡ (a, tree_of p.item ps) ∷ []) × T (is_part p.item p.last ps)
piece_edges p ps a h =
    let all = below_all_rows p ps h.1 in
    let parts = row_parts p ps h.2 in
    let long = length-append (take p.below ps) (drop p.below ps) in
    let none : drop p.below ps ≡ [] = nothing_left (drop p.below ps) (omega (arith, all, ap length parts.1, long, parts.0.below)) in
    let whole : take p.below ps ≡ ps = sym (append-nil (take p.below ps)) ∙ ap (λ z. take p.below ps ++ z) (sym none) ∙ parts.1 in (
      ap (λ z. edges (p ∷ z)) (sym (append-nil ps)) ∙ edges_around p ps [] all ∙ (λ i. (h.0 i, tree_of p.item ps) ∷ edges-none i),
      subst (λ z. T (is_part p.item p.last z)) whole parts.0.part,
    )
  where
    nothing_left : (zs : List TreeRow) → length zs ≡ 0 → zs ≡ []
    nothing_left [] e = refl
    nothing_left (z ∷ zs) e = absurd (omega arith)

pub piece_nests : (a : Label) (piece : List TreeRow) → IsPiece a piece → T (nests piece)
piece_nests a [] h = no_nests
piece_nests a (p ∷ ps) h = h.2

-- the rows before and after the child a, or before and after where it would stand
module _ (rs front back : List TreeRow) (a : Label) (good : IsGood Node (edges rs)) (nf : T (nests front)) (nb : T (nests back))
    (cut : without_child a (edges rs) ≡ edges front ++ edges back) (puts : (n : Tree) → put text_cmp a n (edges rs) ≡ edges front ++ (a, n) ∷ edges back) where
  filled_edges : (piece : List TreeRow) → T (nests piece) → edges (front ++ (piece ++ back)) ≡ edges front ++ (edges piece ++ edges back)
  filled_edges piece h = edges-append front (piece ++ back) nf ∙ ap (λ z. edges front ++ z) (edges-append piece back h)

  -- with a piece between them
  pub filled : (piece : List TreeRow) → IsPiece a piece → IsNow Node (edges (front ++ (piece ++ back))) (with_subtree (a ∷ []) (piece_entries piece) (tree_of Node rs))
  filled [] h =
      let is : without_child a (edges rs) ≡ edges (front ++ ([] ++ back)) = cut ∙ ap (λ z. edges front ++ (z ++ edges back)) (sym edges-none) ∙ sym (filled_edges [] no_nests) in
      subst (λ t. IsNow Node (edges (front ++ back)) t) (sym (without-replaced (a ∷ []) (tree_of Node rs))) (dropped_here (tree_of Node rs) Node (edges rs) (edges (front ++ back)) a refl good is)
  filled (p ∷ ps) h =
      let e = piece_edges p ps a h in
      let n = tree_of p.item ps in
      let is : put text_cmp a n (edges rs) ≡ edges (front ++ ((p ∷ ps) ++ back)) = puts n ∙ ap (λ z. edges front ++ (z ++ edges back)) (sym e.0) ∙ sym (filled_edges (p ∷ ps) h.2) in
      changed_here (tree_of Node rs) Node (edges rs) (edges (front ++ ((p ∷ ps) ++ back))) a refl good n (get-branch_root Node (edges rs)) (rooted-branch p.item (edges ps) (good_part p.item p.last ps e.1)) is

  pub filled_nests : (piece : List TreeRow) → IsPiece a piece → T (nests (front ++ (piece ++ back)))
  filled_nests piece h = nests-append front (piece ++ back) nf (nests-append piece back (piece_nests a piece h) nb)

  -- no last child is pointed to
  pub filled_put : (piece : List TreeRow) → IsPiece a piece → IsPut rs (front ++ (piece ++ back)) 0 [] a piece
  filled_put piece h =
      let now = filled piece h in
      record { part = part_of Node 0 (front ++ (piece ++ back)) (record { bare = tt; sorted = now.good.sorted; points = tt; nested = filled_nests piece h }); tree = now.is }

  -- or the piece is
  pub filled_last : (i : ℕ) (piece : List TreeRow) → IsPiece a piece → length front ≡ i → back ≡ [] → 0 < length piece → IsPut rs (front ++ (piece ++ back)) (suc i) [] a piece
  filled_last i [] h l b lt = absurd (omega arith)
  filled_last i (p ∷ ps) h l b lt =
      let now = filled (p ∷ ps) h in
      let t : take i (front ++ ((p ∷ ps) ++ back)) ≡ front = ap (λ n. take n (front ++ ((p ∷ ps) ++ back))) (sym l) ∙ take-append_seam front ((p ∷ ps) ++ back) in
      let d : drop i (front ++ ((p ∷ ps) ++ back)) ≡ p ∷ ps = ap (λ n. drop n (front ++ ((p ∷ ps) ++ back))) (sym l) ∙ drop-append_seam front ((p ∷ ps) ++ back) ∙ ap (λ z. (p ∷ ps) ++ z) b ∙ append-nil (p ∷ ps) in
      record {
        part = part_of Node (suc i) (front ++ ((p ∷ ps) ++ back)) (record {
          bare = bare front;
          sorted = now.good.sorted;
          points = all_of (nests (take i (front ++ ((p ∷ ps) ++ back)))) (is_last (drop i (front ++ ((p ∷ ps) ++ back)))) (subst (λ z. T (nests z)) (sym t) nf) (subst (λ z. T (is_last z)) (sym d) h.1);
          nested = filled_nests (p ∷ ps) h;
        });
        tree = now.is;
      }
    where
      bare : (zs : List TreeRow) → Unit {0}
      bare zs = tt

-- ---- at the level of the child

-- the rows of a child that is there
pub opened_child : (rs : List TreeRow) (last : ℕ) (a : Label) (i : ℕ) (r : TreeRow) (added : ℕ) → T (is_part Node last rs) → IsChild rs a i → r ≡ get_or rs i r → IsOpened rs rs 0 i (i + 1 + r.below) [] a added
opened_child rs last a i r added part w item =
    let f = facts Node last rs part in
    let d = around rs a i r f.nested f.sorted w item in
    let g = good_part Node last rs part in
    let inner = take r.below (drop (i + 1) rs) in
    let rest = drop r.below (drop (i + 1) rs) in
    let k = tree_of r.item inner in
    let back : drop (i + 1 + r.below) rs ≡ rest = drop_on rs (i + 1) r.below (omega (arith, d.fits)) in
    record {
      order = omega arith;
      within = omega (arith, d.fits);
      long = refl;
      takes = λ piece n h. subst (λ z. IsPut rs (take i rs ++ (piece ++ z)) 0 [] a piece) (sym back)
          (filled_put rs (take i rs) rest a g d.front d.row.others
          (ap (without_child a) d.edges_are ∙ cut_found a k k (edges rest) d.after (edges (take i rs)) d.before)
          (λ t. ap (put text_cmp a t) d.edges_are ∙ put_found a t k (edges rest) d.after (edges (take i rs)) d.before)
          piece h);
    }

module _ (rs : List TreeRow) (last : ℕ) (a : Label) (i : ℕ) (added : ℕ) (part : T (is_part Node last rs)) (w : IsGap rs a i) where
  gap_edges : edges rs ≡ edges (take i rs) ++ edges (drop i rs)
  gap_edges = ap edges (sym (take-append-drop i rs)) ∙ edges-append (take i rs) (drop i rs) w.front

  gap_cut : without_child a (edges rs) ≡ edges (take i rs) ++ edges (drop i rs)
  gap_cut = ap (without_child a) gap_edges ∙ cut_gap a (tree_of Node []) (edges (drop i rs)) w.after (edges (take i rs)) w.before

  gap_puts : (t : Tree) → put text_cmp a t (edges rs) ≡ edges (take i rs) ++ (a, t) ∷ edges (drop i rs)
  gap_puts t = ap (put text_cmp a t) gap_edges ∙ put_gap a t (edges (drop i rs)) w.after (edges (take i rs)) w.before

  -- the place of a child that isn't there
  pub opened_gap : IsOpened rs rs 0 i i [] a added
  opened_gap = record {
    order = omega arith;
    within = w.within;
    long = refl;
    takes = λ piece n h. filled_put rs (take i rs) (drop i rs) a (good_part Node last rs part) w.front w.back gap_cut gap_puts piece h;
  }

  -- the same after all others
  pub opened_end : i ≡ length rs → 0 < added → IsOpened rs rs (suc i) i i [] a added
  opened_end e lt = record {
    order = omega arith;
    within = w.within;
    long = refl;
    takes = λ piece n h. filled_last rs (take i rs) (drop i rs) a (good_part Node last rs part) w.front w.back gap_cut gap_puts i piece h (length-take-le i rs w.within) (drop_of_length-le rs (omega (arith, e))) (omega (arith, n, lt));
  }

  -- in either case
  pub opened_either : (t : Bool) → (t ≡ true → (i ≡ length rs) × (0 < added)) → (n : ℕ) → n ≡ cond t (suc i) 0 → IsOpened rs rs n i i [] a added
  opened_either true h n e = subst (λ m. IsOpened rs rs m i i [] a added) (sym e) (let w = h refl in opened_end w.0 w.1)
  opened_either false h n e = subst (λ m. IsOpened rs rs m i i [] a added) (sym e) opened_gap

-- ---- further down

-- the rows after those below the row at i were changed, and then the row
pub rewritten : (rs ys : List TreeRow) (i n : ℕ) (r s : TreeRow) → i < length rs → r ≡ get_or rs i r → set (put_mid (i + 1) n rs ys) i s ≡ take i rs ++ (s ∷ (ys ++ drop n (drop (i + 1) rs)))
rewritten rs ys i n r s lt item =
    let one : take (i + 1) rs ≡ take i rs ++ r ∷ [] = take_on rs i 1 (omega arith) ∙ ap (λ z. take i rs ++ take 1 z) (from_row rs i r lt item) in
    let all : put_mid (i + 1) n rs ys ≡ take i rs ++ r ∷ (ys ++ drop n (drop (i + 1) rs)) = ap (λ z. z ++ (ys ++ drop n (drop (i + 1) rs))) one ∙ append_assoc (take i rs) (r ∷ []) (ys ++ drop n (drop (i + 1) rs)) in
    ap (λ z. set z i s) all ∙ ap (λ k. set (take i rs ++ r ∷ (ys ++ drop n (drop (i + 1) rs))) k s) (sym (length-take-le i rs (omega arith))) ∙ set-append_seam (take i rs) r (ys ++ drop n (drop (i + 1) rs)) s

-- the row at i is still there before
pub still_there : (rs ys : List TreeRow) (i n : ℕ) (r d : TreeRow) → i < length rs → r ≡ get_or rs i r → get_or (put_mid (i + 1) n rs ys) i d ≡ r
still_there rs ys i n r d lt item =
    let one : take (i + 1) rs ≡ take i rs ++ r ∷ [] = take_on rs i 1 (omega arith) ∙ ap (λ z. take i rs ++ take 1 z) (from_row rs i r lt item) in
    let all : put_mid (i + 1) n rs ys ≡ take i rs ++ r ∷ (ys ++ drop n (drop (i + 1) rs)) = ap (λ z. z ++ (ys ++ drop n (drop (i + 1) rs))) one ∙ append_assoc (take i rs) (r ∷ []) (ys ++ drop n (drop (i + 1) rs)) in
    ap (λ z. get_or z i d) all ∙ ap (λ k. get_or (take i rs ++ r ∷ (ys ++ drop n (drop (i + 1) rs))) k d) (sym (length-take-le i rs (omega arith))) ∙ get_or-append_seam (take i rs) r (ys ++ drop n (drop (i + 1) rs)) d

module _ (rs : List TreeRow) (last : ℕ) (a : Label) (i : ℕ) (r : TreeRow) (part : T (is_part Node last rs)) (w : IsChild rs a i) (item : r ≡ get_or rs i r) where
  abbrev pub inner : List TreeRow
  inner = take r.below (drop (i + 1) rs)

  abbrev pub rest : List TreeRow
  rest = drop r.below (drop (i + 1) rs)

  open_facts : Around rs a i r inner rest
  open_facts = (let f = facts Node last rs part in around rs a i r f.nested f.sorted w item)

  -- where a node stands below it, it is a node
  module _ (q : Path) (node : keyed.get (tree_of Node rs) (a ∷ q) ≡ Some Node) where
    found : find text_cmp a (edges rs) ≡ Some (tree_of r.item inner)
    found = ap (find text_cmp a) open_facts.edges_are ∙ find_found a (tree_of r.item inner) (tree_of r.item inner) (edges rest) open_facts.after (edges (take i rs)) open_facts.before

    pub node_inside : keyed.get (tree_of r.item inner) q ≡ Some Node
    node_inside = sym (get_below (tree_of Node rs) Node (edges rs) (edges rs) a refl (good_part Node last rs part) q (tree_of r.item inner) found) ∙ node

    pub is_inner_node : r.item ≡ Node
    is_inner_node = node_above r.item (edges inner) q (good_part r.item r.last inner open_facts.row.part) node_inside

    pub part_inside : T (is_part Node r.last inner)
    part_inside = subst (λ x. T (is_part x r.last inner)) is_inner_node open_facts.row.part

    pub node_below : keyed.get (tree_of Node inner) q ≡ Some Node
    node_below = subst (λ x. keyed.get (tree_of x inner) q ≡ Some Node) is_inner_node node_inside

    module _ (ys : List TreeRow) (s : TreeRow) (inner_last start end added : ℕ) (b : Label) (o : IsOpened inner ys inner_last start end q b added)
        (label : s.label ≡ r.label) (same_item : s.item ≡ r.item) (below : s.below ≡ r.below + added - (end - start)) (points : s.last ≡ inner_last) (now : List TreeRow) (is : now ≡ take i rs ++ (s ∷ (ys ++ rest))) where
      front_long : length (take i rs) ≡ i
      front_long = length-take-le i rs (omega (arith, open_facts.fits))

      front_now : take (i + 1 + start) now ≡ take i rs ++ s ∷ take start ys
      front_now =
          let n : i + 1 + start ≡ length (take i rs) + suc start = omega (arith, front_long) in
          ap (λ k. take k now) n ∙ ap (take (length (take i rs) + suc start)) is ∙ take-append-add (take i rs) (s ∷ (ys ++ rest)) (suc start)
          ∙ ap (λ z. take i rs ++ s ∷ z) (take-append-le start ys rest (omega (arith, o.order, o.within)))

      back_now : drop (i + 1 + end) now ≡ drop end ys ++ rest
      back_now =
          let n : i + 1 + end ≡ length (take i rs) + suc end = omega (arith, front_long) in
          ap (λ k. drop k now) n ∙ ap (drop (length (take i rs) + suc end)) is ∙ drop-append-add (take i rs) (s ∷ (ys ++ rest)) (suc end) ∙ drop-append-le end ys rest o.within

      long_inner : length ys ≡ r.below
      long_inner = o.long ∙ sym open_facts.row.below

      now_long : length now ≡ length rs
      now_long = omega (arith, ap length is, length-append (take i rs) (s ∷ (ys ++ rest)), length-append ys rest, ap length open_facts.rows, length-append (take i rs) (r ∷ (inner ++ rest)), length-append inner rest, o.long)

      module _ (piece : List TreeRow) (count : length piece ≡ added) (h : IsPiece b piece) where
        abbrev filling : List TreeRow
        filling = take start ys ++ (piece ++ drop end ys)

        put_in : IsPut inner filling inner_last q b piece
        put_in = o.takes piece count h

        put_in' : IsPut inner filling s.last q b piece
        put_in' = subst (λ n. IsPut inner filling n q b piece) (sym points) put_in

        all_rows : take (i + 1 + start) now ++ (piece ++ drop (i + 1 + end) now) ≡ take i rs ++ (s ∷ (filling ++ rest))
        all_rows =
            (λ j. front_now j ++ (piece ++ back_now j))
            ∙ append_assoc (take i rs) (s ∷ take start ys) (piece ++ (drop end ys ++ rest))
            ∙ ap (λ z. take i rs ++ s ∷ (take start ys ++ z)) (sym (append_assoc piece (drop end ys) rest))
            ∙ ap (λ z. take i rs ++ s ∷ z) (sym (append_assoc (take start ys) (piece ++ drop end ys) rest))

        row_now : IsRow s filling rest
        row_now = record {
          below = omega (arith, below, length-append (take start ys) (piece ++ drop end ys), length-append piece (drop end ys), length-take-le start ys (omega (arith, o.order, o.within)), length-drop end ys, long_inner, o.within, o.order, count);
          part = subst (λ x. T (is_part x s.last filling)) (sym (same_item ∙ is_inner_node)) put_in'.part;
          others = open_facts.row.others;
        }

        edges_now : edges (take i rs ++ (s ∷ (filling ++ rest))) ≡ edges (take i rs) ++ (a, tree_of Node filling) ∷ edges rest
        edges_now =
            edges-append (take i rs) (s ∷ (filling ++ rest)) open_facts.front
            ∙ ap (λ z. edges (take i rs) ++ z) (edges_around s filling rest row_now.below ∙ (λ j. ((label ∙ open_facts.label) j, tree_of ((same_item ∙ is_inner_node) j) filling) ∷ edges rest))

        good_inside : IsGood Node (edges filling)
        good_inside = good_part Node s.last filling put_in'.part

        is_now : IsNow Node (edges (take i rs ++ (s ∷ (filling ++ rest)))) (with_subtree (child (a ∷ q) b) (piece_entries piece) (tree_of Node rs))
        is_now = changed_below (tree_of Node rs) Node (edges rs) (edges (take i rs ++ (s ∷ (filling ++ rest)))) a refl (good_part Node last rs part) (child q b) (piece_entries piece) (tree_of r.item inner) (tree_of Node filling)
            found (rooted-branch Node (edges filling) good_inside)
            (put_in'.tree ∙ ap (λ x. with_subtree (child q b) (piece_entries piece) (tree_of x inner)) (sym is_inner_node))
            (ap (put text_cmp a (tree_of Node filling)) open_facts.edges_are ∙ put_found a (tree_of Node filling) (tree_of r.item inner) (edges rest) open_facts.after (edges (take i rs)) open_facts.before ∙ sym edges_now)

        nests_now : T (nests (take i rs ++ (s ∷ (filling ++ rest))))
        nests_now = nests-append (take i rs) (s ∷ (filling ++ rest)) open_facts.front (nests_around s filling rest row_now)

        points_now : rest ≡ [] → T (points_to_last nests (suc i) (take i rs ++ (s ∷ (filling ++ rest))))
        points_now e =
            let zs = take i rs ++ (s ∷ (filling ++ rest)) in
            let t : take i zs ≡ take i rs = ap (λ n. take n zs) (sym front_long) ∙ take-append_seam (take i rs) (s ∷ (filling ++ rest)) in
            let d : drop i zs ≡ s ∷ filling = ap (λ n. drop n zs) (sym front_long) ∙ drop-append_seam (take i rs) (s ∷ (filling ++ rest)) ∙ ap (λ z. s ∷ (filling ++ z)) e ∙ ap (λ z. s ∷ z) (append-nil filling) in
            all_of (nests (take i zs)) (is_last (drop i zs)) (subst (λ z. T (nests z)) (sym t) open_facts.front) (subst (λ z. T (is_last z)) (sym d) (ends s filling row_now.below))
          where
            ends : (x : TreeRow) (zs : List TreeRow) → x.below ≡ length zs → T (is_last (x ∷ zs))
            ends x zs e = subst T (sym (same_number x.below (length zs) e)) tt

        put_now : (new_last : ℕ) → T (points_to_last nests new_last (take i rs ++ (s ∷ (filling ++ rest)))) → IsPut rs (take (i + 1 + start) now ++ (piece ++ drop (i + 1 + end) now)) new_last (a ∷ q) b piece
        put_now n p = subst (λ z. IsPut rs z n (a ∷ q) b piece) (sym all_rows) (record {
          part = part_of Node n (take i rs ++ (s ∷ (filling ++ rest))) (record { bare = bare (take i rs ++ (s ∷ (filling ++ rest))); sorted = is_now.good.sorted; points = p; nested = nests_now });
          tree = is_now.is;
        })
          where
            bare : (zs : List TreeRow) → T (is_bare Node zs)
            bare zs = tt

      -- what was made ready below it is ready from above
      pub opened_below : (t : Bool) → ((i + 1 + r.below) == length rs) ≡ t → IsOpened rs now (cond t (suc i) 0) (i + 1 + start) (i + 1 + end) (a ∷ q) b added
      opened_below t e = record {
        order = omega (arith, o.order);
        within = omega (arith, o.within, long_inner, now_long, open_facts.fits);
        long = now_long;
        takes = λ piece count h. put_now piece count h (cond t (suc i) 0) (points_at piece count h t e);
      }
        where
          points_at : (piece : List TreeRow) (count : length piece ≡ added) (h : IsPiece b piece) (t : Bool) → ((i + 1 + r.below) == length rs) ≡ t → T (points_to_last nests (cond t (suc i) 0) (take i rs ++ (s ∷ (filling piece count h ++ rest))))
          points_at piece count h false e = tt
          points_at piece count h true e =
              let all : i + 1 + r.below ≡ length rs = grind (arith, nat_tests) in
              points_now piece count h (drop_of_length-le (drop (i + 1) rs) (omega (arith, all, length-drop (i + 1) rs)))

    -- the same, of the parts as a slice gives them
    module _ (z : TreeRow) (e : z ≡ r) where
      abbrev pub count_inside : ℕ
      count_inside = i + 1 + z.below - (i + 1)

      same_count : count_inside ≡ r.below
      same_count = omega (arith, ap (λ y. y.below) e)

      same_inside : take count_inside (drop (i + 1) rs) ≡ inner
      same_inside = ap (λ n. take n (drop (i + 1) rs)) same_count

      pub end_within : i + 1 + z.below ≤ length rs
      end_within = omega (arith, open_facts.fits, ap (λ y. y.below) e)

      pub part_at : T (is_part Node z.last (take count_inside (drop (i + 1) rs)))
      part_at = subst (λ xs. T (is_part Node z.last xs)) (sym same_inside) (subst (λ y. T (is_part Node y.last inner)) (sym e) part_inside)

      pub node_at : keyed.get (tree_of Node (take count_inside (drop (i + 1) rs))) q ≡ Some Node
      node_at = subst (λ xs. keyed.get (tree_of Node xs) q ≡ Some Node) (sym same_inside) node_below

      pub short_at : length (take count_inside (drop (i + 1) rs)) ≤ length rs
      short_at = omega (arith, shorter_take count_inside (drop (i + 1) rs), shorter_drop (i + 1) rs)

      module _ (ys : List TreeRow) (inner_last start end added : ℕ) (b : Label) (o : IsOpened (take count_inside (drop (i + 1) rs)) ys inner_last start end q b added) where
        pub as_long : length (put_mid (i + 1) count_inside rs ys) ≡ length rs
        as_long = same_len_mid (i + 1) count_inside rs ys o.long

        pub same_row : (d : TreeRow) → get_or (put_mid (i + 1) count_inside rs ys) i d ≡ r
        same_row d = still_there rs ys i count_inside r d (omega (arith, open_facts.fits)) item

        pub opened_row : (s : TreeRow) → s.label ≡ r.label → s.item ≡ r.item → s.below ≡ r.below + added - (end - start) → s.last ≡ inner_last → (t : Bool) → ((i + 1 + z.below) == length (put_mid (i + 1) count_inside rs ys)) ≡ t → (n : ℕ) → n ≡ cond t (suc i) 0 →
            IsOpened rs (set (put_mid (i + 1) count_inside rs ys) i s) n (i + 1 + start) (i + 1 + end) (a ∷ q) b added
        opened_row s label same_item below points t test n is_n =
            let o' : IsOpened inner ys inner_last start end q b added = subst (λ xs. IsOpened xs ys inner_last start end q b added) same_inside o in
            let is : set (put_mid (i + 1) count_inside rs ys) i s ≡ take i rs ++ (s ∷ (ys ++ rest)) = rewritten rs ys i count_inside r s (omega (arith, open_facts.fits)) item ∙ ap (λ k. take i rs ++ (s ∷ (ys ++ drop k (drop (i + 1) rs)))) same_count in
            let test' : ((i + 1 + r.below) == length rs) ≡ t = (λ j. (i + 1 + (sym e j).below) == sym as_long j) ∙ test in
            subst (λ m. IsOpened rs (set (put_mid (i + 1) count_inside rs ys) i s) m (i + 1 + start) (i + 1 + end) (a ∷ q) b added) (sym is_n)
            (opened_below ys s inner_last start end added b o' label same_item below points (set (put_mid (i + 1) count_inside rs ys) i s) is t test')
