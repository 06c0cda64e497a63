-- What a change of a tree does to what is counted of it.
use Rattle.cp_model.specs.declared.limits.TheConstants.{PLACE_WEIGHT}
use Rattle.cp_path.specs.declared.limits.TheConstants.{LABELS_MAX, LOC_MAX}
use Rattle.std.specs.Prelude.{◌≡◌, ℕ, ◌+◌, ◌≤◌, Bool, true, false, ◌||◌, List, [], ◌∷◌, ◌++◌, length, max, sum_by, is_some, nat_lt, replicate, slice_index, zero, suc}
use Rattle.std.proofs.Common.{sym, ap, subst, ◌∙◌, arith, refl}
use Rattle.std.proofs.lemmas.List.Sums.{sum_by-cons}
use Rattle.std.proofs.lemmas.Bool.Decides.{nat_tests}
use Rattle.cp_model.specs.declared.row.Content.{Content}
use Rattle.cp_model.specs.Place.{Label, Path, at_target, over_limit, size}
use Rattle.cp_model.proofs.KeyedLemmas.{get-entries}
use Rattle.cp_model.specs.Keyed as keyed
use Rattle.cp_model.specs.Keyed.{look}
use Rattle.cp_model.specs.Subtrees.{is_there, below, without, with_subtree}
use Rattle.cp_model.specs.Tree.{Tree, IsTree, weight, weight_of, last_bytes, text_bytes}
use Rattle.cp_model.proofs.Strips.{strip-append}
use Rattle.cp_model.specs.Laws.{at_rest_or}
use Rattle.cp_model.proofs.Lookups.{get-replaced}
use Rattle.cp_model.proofs.SumsLemmas.{total-replaced, total-without, sum_by-moved, sum_by-one}
use Rattle.cp_model.proofs.Sorted.{sorted-entries}
use Rattle.cp_tree.specs.Branch.{sub}
use Rattle.cp_tree.proofs.BranchLemmas.{entries-sub}
use Rattle.cp_tree.specs.Rows.{greatest, path_size, reach_of}
use Rattle.cp_tree.specs.declared.reach.Reach.{Reach}
use Rattle.cp_tree_box.specs.declared.spot.Spot.{Spot}
use Rattle.cp_tree_box.specs.declared.tally.Tally.{Tally}
use Rattle.cp_tree_box.specs.Tallies.{root_spot, child_spot, spot_at, IsNear, AreNear, Gauge, places, weighs, deep, large, place_counts, row_counts, tree_counts, tally_counts, row_depth, row_size, IsReachWith}

-- ---- places

-- some labels and more labels further down
pub spot_append : (s : Spot) (p q : Path) → spot_at s (p ++ q) ≡ spot_at (spot_at s p) q
spot_append s [] q = refl
spot_append s (a ∷ p) q = spot_append (child_spot s a) p q

-- the number of labels
pub spot_depth : (s : Spot) (p : Path) → (spot_at s p).depth ≡ s.depth + length p
spot_depth s [] = omega arith
spot_depth s (a ∷ p) = omega (arith, spot_depth (child_spot s a) p)

-- the size
pub spot_size : (s : Spot) (p : Path) → (spot_at s p).size ≡ s.size + path_size p
spot_size s [] = omega arith
spot_size s (a ∷ p) = omega (arith, spot_size (child_spot s a) p, sum_by-cons (λ (b : Label). length b + 1) a p)

-- the bytes of the last label
pub spot_last : (s : Spot) (a : Label) (p : Path) → (spot_at s (a ∷ p)).last ≡ last_bytes (a ∷ p)
spot_last s a [] = refl
spot_last s a (b ∷ p) = spot_last (child_spot s a) b p

-- a place that isn't over a limit is within them
pub near_place : (p : Path) → over_limit (at_target p) ≡ false → IsNear (spot_at root_spot p)
near_place p h = by (nat_lt LABELS_MAX (length p)) (nat_lt LOC_MAX (size (at_target p))) refl refl h
  where
    by : (b d : Bool) → nat_lt LABELS_MAX (length p) ≡ b → nat_lt LOC_MAX (size (at_target p)) ≡ d → (b || d) ≡ false → IsNear (spot_at root_spot p)
    by true d e f h = absurd (cc)
    by false true e f h = absurd (cc)
    by false false e f h =
        let few : length p ≤ LABELS_MAX = grind (arith, nat_tests) in
        let small : size (at_target p) ≤ LOC_MAX = grind (arith, nat_tests) in
        (omega (arith, few, spot_depth root_spot p), omega (arith, small, spot_size root_spot p))

-- what is above a place within the limits is within them
pub near_front : (s : Spot) (p : Path) → IsNear (spot_at s p) → IsNear s
near_front s p h = (omega (arith, h.0, spot_depth s p), omega (arith, h.1, spot_size s p))

-- the places of a tree are within the limits
pub near_tree : (t : Tree) → IsTree t → AreNear root_spot t
near_tree t h q i = near_place q (h.places q i)

-- and so are those of a subtree
pub near_put : (t n : Tree) (p : Path) → IsTree (with_subtree p (keyed.entries n) t) → AreNear (spot_at root_spot p) n
near_put t n p h q i =
    let there : is_there (with_subtree p (keyed.entries n) t) (p ++ q) ≡ true =
    ap is_some (get-replaced p (keyed.entries n) t (p ++ q) ∙ ap (λ o. at_rest_or o (λ s. look s (keyed.entries n)) (keyed.get t (p ++ q))) (strip-append p q) ∙ sym (get-entries n q)) ∙ i in
    subst IsNear (spot_append root_spot p q) (near_place (p ++ q) (h.places (p ++ q) there))

-- ---- sums

-- numbers that are the same have the same sum
pub same_sum : {X : Type 0} (f g : X → ℕ) (xs : List X) → ((x : X) → f x ≡ g x) → sum_by f xs ≡ sum_by g xs
same_sum f g [] h = refl
same_sum f g (x ∷ xs) h = sum_by-cons f x xs ∙ omega (arith, h x, same_sum f g xs h) ∙ sym (sum_by-cons g x xs)

same_greatest : {X : Type 0} (f g : X → ℕ) (xs : List X) → ((x : X) → f x ≡ g x) → greatest f xs ≡ greatest g xs
same_greatest f g [] h = refl
same_greatest f g (x ∷ xs) h = λ i. max (h x i) (same_greatest f g xs h i)

counts_at : (j : Gauge) (p : Path) (es : List (Path × Content)) → sum_by (λ e. row_counts j root_spot (p ++ e.0, e.1)) es ≡ sum_by (row_counts j (spot_at root_spot p)) es
counts_at j p es = same_sum (λ e. row_counts j root_spot (p ++ e.0, e.1)) (row_counts j (spot_at root_spot p)) es (λ e. ap (λ s. place_counts j s e.1) (spot_append root_spot p e.0))

-- what stood at p counts no more, and what is put there does
pub counts_replaced : (j : Gauge) (t n : Tree) (p : Path) → tree_counts j root_spot (with_subtree p (keyed.entries n) t) + tree_counts j (spot_at root_spot p) (sub t p) ≡ tree_counts j root_spot t + tree_counts j (spot_at root_spot p) n
counts_replaced j t n p = omega (
  arith,
  total-replaced (row_counts j root_spot) p (keyed.entries n) t (sorted-entries n),
  sum_by-moved (row_counts j root_spot) p (keyed.entries n),
  counts_at j p (keyed.entries n),
  counts_at j p (below p t),
  ap (sum_by (row_counts j (spot_at root_spot p))) (entries-sub t p),
)

-- what is taken out at p counts no more
pub counts_without : (j : Gauge) (t : Tree) (p : Path) → tree_counts j root_spot (without p t) + tree_counts j (spot_at root_spot p) (sub t p) ≡ tree_counts j root_spot t
counts_without j t p = omega (arith, total-without (row_counts j root_spot) p t, counts_at j p (below p t), ap (sum_by (row_counts j (spot_at root_spot p))) (entries-sub t p))

-- ---- the numbers as a tree has them

-- the number of places
pub counts_places : (t : Tree) → tree_counts places root_spot t ≡ keyed.len t
unfolding keyed.len keyed.entries
counts_places t = sum_by-one t.list

row_weight : (e : Path × Content) → row_counts weighs root_spot e ≡ weight_of e
row_weight ([], c) = refl
row_weight (a ∷ p, c) = ap (λ n. PLACE_WEIGHT + n + text_bytes c) (spot_last root_spot a p)

-- the weight
pub counts_weight : (t : Tree) → tree_counts weighs root_spot t ≡ weight t
unfolding weight
counts_weight t = same_sum (row_counts weighs root_spot) weight_of (keyed.entries t) row_weight

-- the reach from nothing on, with all of a tree
pub reach_from_nothing : (t : Tree) (r z : Reach) (s : Spot) → s ≡ root_spot → r ≡ record { nodes = 0; inner = 0; depth = 0; size = 0 } → IsReachWith s t r z → z ≡ reach_of (keyed.entries t)
unfolding reach_of
reach_from_nothing t r z s e f h =
    let g : IsReachWith root_spot t (record { nodes = 0; inner = 0; depth = 0; size = 0 }) z = subst (λ x. IsReachWith x t (record { nodes = 0; inner = 0; depth = 0; size = 0 }) z) e (subst (λ x. IsReachWith s t x z) f h) in
    let nodes : z.nodes ≡ length (keyed.entries t) = omega (arith, g.nodes, sum_by-one (keyed.entries t)) in
    let inner : z.inner ≡ sum_by weight_of (keyed.entries t) = omega (arith, g.inner, same_sum (row_counts weighs root_spot) weight_of (keyed.entries t) row_weight) in
    let depth : z.depth ≡ greatest (λ (x : Path × Content). length x.0) (keyed.entries t) = omega (arith, g.depth, same_greatest (row_depth root_spot) (λ (x : Path × Content). length x.0) (keyed.entries t) (λ x. spot_depth root_spot x.0 ∙ omega arith)) in
    let size : z.size ≡ greatest (λ (x : Path × Content). path_size x.0) (keyed.entries t) = omega (arith, g.size, same_greatest (row_size root_spot) (λ (x : Path × Content). path_size x.0) (keyed.entries t) (λ x. spot_size root_spot x.0 ∙ omega arith)) in
    λ i. record { nodes = nodes i; inner = inner i; depth = depth i; size = size i }

no_counts : (n k : ℕ) → slice_index (replicate n 0) k ≡ 0
no_counts zero k = refl
no_counts (suc n) zero = refl
no_counts (suc n) (suc k) = no_counts n k

-- a new tally
pub none_counted : (t : Tally) (m n : ℕ) → t.places ≡ 0 → t.weight ≡ 0 → t.depths.items ≡ replicate m 0 → t.sizes.items ≡ replicate n 0 → (j : Gauge) → tally_counts t j ≡ 0
none_counted t m n p w d s places = p
none_counted t m n p w d s weighs = w
none_counted t m n p w d s (deep k) = ap (λ xs. slice_index xs k) d ∙ no_counts m k
none_counted t m n p w d s (large k) = ap (λ xs. slice_index xs k) s ∙ no_counts n k
