-- What is read of a place, and of those at and below its children, against the sum over all places at and below it.
use Rattle.std.proofs.Common.{arith, ◌≡◌, ◌≤◌, ◌<◌, ◌+◌, ◌∙◌, ap, sym, refl, subst, T, ℕ, zero, suc, List, [], ◌∷◌, ◌++◌, true, false, length, take, map, get_or, Some, inl, inr, true≢false, append_assoc}
use Rattle.std.proofs.lemmas.List.{take_more}
use Rattle.std.specs.Prelude.{cond, is_some}
use Rattle.std.specs.List.{list_any, filter_map, AllByRecursion}
use Rattle.std.specs.FinMap.Entries.{is_sorted, below_all}
use Rattle.cp_path.proofs.Same.{path_eq-same}
use Rattle.cp_path.specs.PathOrder.{path_eq_equiv}
use Rattle.cp_model.specs.declared.row.Content.{Content}
use Rattle.cp_model.specs.Keyed as keyed
use Rattle.cp_model.specs.Keyed.{Keyed, look}
use Rattle.cp_model.specs.Place.{Label, Path, child, label_eq, path_eq, path_cmp, starts_with}
use Rattle.cp_model.specs.Subtrees.{below, is_there}
use Rattle.cp_model.specs.Tree.{Tree}
use Rattle.cp_model.proofs.Sorted.{parts_of, sorted-below}
use Rattle.cp_tree.specs.Rows.{only_label, labels_at}
use Rattle.cp_query.specs.Bounds.{paths_in, only_if, sum_below}
use Rattle.cp_store.proofs.RowsTold.{case_of}
use Rattle.cp_query.proofs.Nearby.{any_label}
use Rattle.cp_query.proofs.Parts.{sum_at, sum_children, DifferAll, children-add-up}
use Rattle.cp_query.proofs.PastsBelow.{none-before}

-- ---- the labels below a place differ

differ_in : (es : List (Path × Content)) → T (is_sorted path_cmp es) → DifferAll (filter_map (λ e. only_label e.0) es)
differ_in [] s = tt
differ_in (([], c) ∷ es) s = differ_in es (parts_of (below_all path_cmp [] es) (is_sorted path_cmp es) s).1
differ_in ((a ∷ [], c) ∷ es) s =
    let parts = parts_of (below_all path_cmp (a ∷ []) es) (is_sorted path_cmp es) s in
    (any_label a es ∙ ap is_some (none-before (a ∷ []) es parts.0), differ_in es parts.1)
differ_in ((a ∷ b ∷ p, c) ∷ es) s = differ_in es (parts_of (below_all path_cmp (a ∷ b ∷ p) es) (is_sorted path_cmp es) s).1

differ_at : (t : Tree) (p : Path) → DifferAll (labels_at t p)
unfolding labels_at
differ_at t p = differ_in (below p t) (sorted-below p t)

none_of : (a : Label) (i : ℕ) (ls : List Label) → list_any (label_eq a) ls ≡ false → list_any (label_eq a) (take i ls) ≡ false
none_of a zero ls h = refl
none_of a (suc i) [] h = refl
none_of a (suc i) (b ∷ ls) h = elim (case_of (label_eq a b)) [
  | inl same ↦ absurd (true≢false (rw same at h))
  | inr other ↦ rw other (none_of a i ls (rw other at h))
]

differ_front : (i : ℕ) (ls : List Label) → DifferAll ls → DifferAll (take i ls)
differ_front zero ls h = tt
differ_front (suc i) [] h = tt
differ_front (suc i) (a ∷ ls) h = (none_of a i ls h.0, differ_front i ls h.1)

-- ---- sums

module _ (cost : Path → ℕ) where
  -- a place that is there counts
  at_there : {X : Type 0} (p : Path) (es : List (Path × X)) → is_some (look p es) ≡ true → cost p ≤ sum_at cost p (map (λ e. e.0) es)
  at_there p [] h = absurd (cc)
  at_there p (e ∷ es) h = elim (case_of (path_eq p e.0)) [
    | inl here ↦
        let same : p ≡ e.0 = path_eq-same p e.0 here in
        let is : path_eq e.0 p ≡ true = ap (λ q. path_eq q p) (sym same) ∙ path_eq_equiv.refl p in
        let is_cost : cost e.0 ≡ cost p = ap cost (sym same) in
        rw is (omega (arith, is_cost))
    | inr off ↦ let on = at_there p es (rw off at h) in omega (arith, on)
  ]

  children_more : (p : Path) (ls : List Label) (a : Label) (rs : List Path) → sum_children cost p (ls ++ a ∷ []) rs ≡ sum_children cost p ls rs + sum_below cost (child p a) rs
  children_more p [] a rs = omega arith
  children_more p (b ∷ ls) a rs = let h = children_more p ls a rs in omega (arith, h)

  -- one child more
  pub child-more : (p : Path) (ls : List Label) (i : ℕ) (a : Label) (rs : List Path) → i < length ls → a ≡ get_or ls i a
      → sum_children cost p (take (i + 1) ls) rs ≡ sum_children cost p (take i ls) rs + sum_below cost (child p a) rs
  child-more p ls i a rs h e = ap (λ ls. sum_children cost p ls rs) (take_more ls i a h ∙ ap (λ b. take i ls ++ b ∷ []) (sym e)) ∙ children_more p (take i ls) a rs

  module _ (t : Tree) (p : Path) (there : is_there t p ≡ true) where
    own_at : cost p ≤ sum_at cost p (paths_in t)
    unfolding keyed.get keyed.entries
    own_at = at_there p t.list there

    -- the place and some of its children make up no more than all places at and below it
    pub children-within : (ls : List Label) (i : ℕ) → ls ≡ labels_at t p → cost p + sum_children cost p (take i ls) (paths_in t) ≤ sum_below cost p (paths_in t)
    children-within ls i e =
        let differ = differ_front i ls (subst DifferAll (sym e) (differ_at t p)) in
        let all = children-add-up cost p (take i ls) (paths_in t) differ in
        let own = own_at in
        omega (arith, all, own)

    -- the place alone
    pub place-within : cost p ≤ sum_below cost p (paths_in t)
    place-within = let all = children-add-up cost p [] (paths_in t) tt in let own = own_at in omega (arith, all, own)

-- ---- place by place

below_le : (f g : Path → ℕ) (p : Path) (rs : List Path) → AllByRecursion (λ r. f r ≤ g r) rs → sum_below f p rs ≤ sum_below g p rs
below_le f g p [] h = omega arith
below_le f g p (r ∷ rs) h =
    let on = below_le f g p rs h.1 in
    let here = h.0 in
    elim (starts_with r p) as (λ b. only_if b (f r) + sum_below f p rs ≤ only_if b (g r) + sum_below g p rs) [ true ↦ omega (arith, on, here) | false ↦ omega (arith, on) ]

look_middle : {X : Type 0} (pre : List (Path × X)) (e : Path × X) (es : List (Path × X)) → is_some (look e.0 (pre ++ e ∷ es)) ≡ true
look_middle [] e es = rw (path_eq_equiv.refl e.0) refl
look_middle (d ∷ pre) e es = elim (path_eq e.0 d.0) as (λ b. is_some (cond b (Some d.1) (look e.0 (pre ++ e ∷ es))) ≡ true) [ true ↦ refl | false ↦ look_middle pre e es ]

all_there : {X : Type 0} (Q : Path → Type 0) (pre es : List (Path × X)) → ((r : Path) → is_some (look r (pre ++ es)) ≡ true → Q r) → AllByRecursion Q (map (λ e. e.0) es)
all_there Q pre [] h = tt
all_there Q pre (e ∷ es) h = (h e.0 (look_middle pre e es), all_there Q (pre ++ e ∷ []) es (λ r k. h r (ap (λ xs. is_some (look r xs)) (sym (append_assoc pre (e ∷ []) es)) ∙ k)))

-- a sum over the places of a map is no more where each of them counts no more
pub sum-there : {X : Type 0} (f g : Path → ℕ) (p : Path) (m : Keyed X) → ((r : Path) → is_there m r ≡ true → f r ≤ g r) → sum_below f p (paths_in m) ≤ sum_below g p (paths_in m)
unfolding keyed.get keyed.entries
sum-there f g p m h = below_le f g p (map (λ e. e.0) m.list) (all_there (λ r. f r ≤ g r) [] m.list h)
