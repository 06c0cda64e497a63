-- Edges in the order of their labels, around one of them and around a gap.
use Rattle.std.specs.Prelude.{◌≡◌, ◌++◌, List, [], ◌∷◌, refl}
use Rattle.std.proofs.Common.{ap, T}
use Rattle.std.specs.declared.option.Option.TheVariants.{None, Some}
use Rattle.std.specs.Ordering.{is_lt}
use Rattle.std.specs.declared.cmp.Ordering.TheVariants.{Less, Equal}
use Rattle.std.specs.Cmp.{tied_itself}
use Rattle.std.specs.FinMap.Entries.{find, put, is_sorted, below_all}
use Rattle.cp_path.specs.Text.{text_cmp}
use Rattle.cp_model.specs.Place.{Label}
use Rattle.cp_model.specs.Tree.{Tree}
use Rattle.cp_model.proofs.Sorted.{parts_of}
use Rattle.cp_tree.specs.Branch.{without_child}
use Rattle.cp_tree.proofs.BranchLemmas.{label_total}
use Rattle.cp_tree.proofs.Rising.{less_is, turned}
use Rattle.cp_tree.proofs.Split.{sorted_back}
use Rattle.cp_tree_rows.specs.Spots.{AllBefore}

mid_below : (x : Label) (l : List (Label × Tree)) (e : Label × Tree) (r : List (Label × Tree)) → T (below_all text_cmp x (l ++ e ∷ r)) → text_cmp x e.0 ≡ Less
mid_below x [] e r h = less_is (text_cmp x e.0) (parts_of (is_lt (text_cmp x e.0)) (below_all text_cmp x r) h).0
mid_below x (y ∷ l) e r h = mid_below x l e r (parts_of (is_lt (text_cmp x y.0)) (below_all text_cmp x (l ++ e ∷ r)) h).1

-- where edges rise, those before one of them come before its label, and those after it after
pub before_mid : (l : List (Label × Tree)) (e : Label × Tree) (r : List (Label × Tree)) → T (is_sorted text_cmp (l ++ e ∷ r)) → AllBefore e.0 l
before_mid [] e r s = tt
before_mid (y ∷ l) e r s = (let p = parts_of (below_all text_cmp y.0 (l ++ e ∷ r)) (is_sorted text_cmp (l ++ e ∷ r)) s in (mid_below y.0 l e r p.0, before_mid l e r p.1))

pub after_mid : (l : List (Label × Tree)) (e : Label × Tree) (r : List (Label × Tree)) → T (is_sorted text_cmp (l ++ e ∷ r)) → T (below_all text_cmp e.0 r)
after_mid l e r s = (parts_of (below_all text_cmp e.0 r) (is_sorted text_cmp r) (sorted_back l (e ∷ r) s)).0

-- what comes before a label comes before each later one
pub before_later : (x a : Label) (l : List (Label × Tree)) → text_cmp x a ≡ Less → AllBefore x l → AllBefore a l
before_later x a [] lt h = tt
before_later x a (y ∷ l) lt h = (label_total.trans y.0 x a h.0 lt, before_later x a l lt h.1)

-- two stretches before a label
pub before_both : (a : Label) (l m : List (Label × Tree)) → AllBefore a l → AllBefore a m → AllBefore a (l ++ m)
before_both a [] m h g = g
before_both a (y ∷ l) m h g = (h.0, before_both a l m h.1 g)

none_below : (a : Label) (r : List (Label × Tree)) → T (below_all text_cmp a r) → find text_cmp a r ≡ None
none_below a [] h = refl
none_below a (y ∷ r) h = (let p = parts_of (is_lt (text_cmp a y.0)) (below_all text_cmp a r) h in rw (less_is (text_cmp a y.0) p.0) (none_below a r p.1))

all_kept : (a : Label) (r : List (Label × Tree)) → T (below_all text_cmp a r) → without_child a r ≡ r
all_kept a [] h = refl
all_kept a (y ∷ r) h = (let p = parts_of (is_lt (text_cmp a y.0)) (below_all text_cmp a r) h in rw (less_is (text_cmp a y.0) p.0) (ap (λ z. y ∷ z) (all_kept a r p.1)))

module _ (a : Label) (n : Tree) where
  -- where no edge has the label
  module _ (r : List (Label × Tree)) (after : T (below_all text_cmp a r)) where
    pub find_gap : (l : List (Label × Tree)) → AllBefore a l → find text_cmp a (l ++ r) ≡ None
    find_gap [] h = none_below a r after
    find_gap (y ∷ l) h = rw (turned text_cmp label_total y.0 a Less h.0) (find_gap l h.1)

    pub put_gap : (l : List (Label × Tree)) → AllBefore a l → put text_cmp a n (l ++ r) ≡ l ++ (a, n) ∷ r
    put_gap [] h = first r after
      where
        first : (r : List (Label × Tree)) → T (below_all text_cmp a r) → put text_cmp a n r ≡ (a, n) ∷ r
        first [] h = refl
        first (y ∷ r) h = rw (less_is (text_cmp a y.0) (parts_of (is_lt (text_cmp a y.0)) (below_all text_cmp a r) h).0) refl
    put_gap (y ∷ l) h = rw (turned text_cmp label_total y.0 a Less h.0) (ap (λ z. y ∷ z) (put_gap l h.1))

    pub cut_gap : (l : List (Label × Tree)) → AllBefore a l → without_child a (l ++ r) ≡ l ++ r
    cut_gap [] h = all_kept a r after
    cut_gap (y ∷ l) h = rw (turned text_cmp label_total y.0 a Less h.0) (ap (λ z. y ∷ z) (cut_gap l h.1))

  -- where one has
  module _ (m : Tree) (r : List (Label × Tree)) (after : T (below_all text_cmp a r)) where
    itself : text_cmp a a ≡ Equal
    itself = tied_itself label_total a

    pub find_found : (l : List (Label × Tree)) → AllBefore a l → find text_cmp a (l ++ (a, m) ∷ r) ≡ Some m
    find_found [] h = rw itself refl
    find_found (y ∷ l) h = rw (turned text_cmp label_total y.0 a Less h.0) (find_found l h.1)

    pub put_found : (l : List (Label × Tree)) → AllBefore a l → put text_cmp a n (l ++ (a, m) ∷ r) ≡ l ++ (a, n) ∷ r
    put_found [] h = rw itself refl
    put_found (y ∷ l) h = rw (turned text_cmp label_total y.0 a Less h.0) (ap (λ z. y ∷ z) (put_found l h.1))

    pub cut_found : (l : List (Label × Tree)) → AllBefore a l → without_child a (l ++ (a, m) ∷ r) ≡ l ++ r
    cut_found [] h = rw itself (all_kept a r after)
    cut_found (y ∷ l) h = rw (turned text_cmp label_total y.0 a Less h.0) (ap (λ z. y ∷ z) (cut_found l h.1))
