-- What a tree kept whole, with the numbers kept of it, answers and becomes.
use Rattle.cp_model.specs.declared.limits.TheConstants.{NODES_MAX, WEIGHT_MAX}
use Rattle.cp_path.specs.declared.limits.TheConstants.{TEXT_MAX}
use Rattle.std.specs.Prelude.{◌^◌, ◌≡◌, ℕ, ◌+◌, ◌≤◌, ◌<◌, ◌⊎◌, true, false, cond, ◌==◌, List, [], ◌∷◌, ◌++◌, length, sum_by, is_some, slice_index}
use Rattle.std.proofs.Common.{sym, ap, subst, ◌∙◌, arith, refl}
use Rattle.std.proofs.lemmas.List.Sums.{sum_by-cons}
use Rattle.std.specs.declared.option.Option.{Option}
use Rattle.std.specs.declared.option.Option.TheVariants.{None, Some}
use Rattle.cp_model.specs.declared.row.Content.{Content}
use Rattle.cp_model.specs.Place.{Label, Path, child}
use Rattle.cp_model.specs.Keyed as keyed
use Rattle.cp_model.specs.Keyed.{look}
use Rattle.cp_model.specs.Subtrees.{is_there, without, with_subtree}
use Rattle.cp_model.specs.Tree.{Tree, IsRooted, IsTree, weight, text_bytes, IsNumber}
use Rattle.cp_model.proofs.SumsLemmas.{below-none, sum_by-one}
use Rattle.cp_model.proofs.Kept.{closed-tree}
use Rattle.cp_tree.specs.Branch.{sub}
use Rattle.cp_tree.proofs.BranchLemmas.{get-sub, entries-sub}
use Rattle.cp_tree.proofs.Leaves.{single-tree}
use Rattle.cp_tree.specs.Rows.{single, path_size, greatest, reach_of}
use Rattle.cp_tree.proofs.Counted.{is_one, counted, greatest_is}
use Rattle.cp_tree.specs.declared.reach.Reach.{Reach}
use Rattle.cp_tree_box.specs.declared.spot.Spot.{Spot}
use Rattle.cp_tree_box.specs.declared.tally.Tally.{Tally}
use Rattle.cp_tree_box.specs.Tallies.{root_spot, child_spot, spot_at, IsNear, AreNear, Gauge, places, weighs, deep, large, row_counts, tree_counts, tally_counts, IsTallyOf}
use Rattle.cp_tree_box.proofs.Changes.{spot_append, spot_depth, spot_size, spot_last, near_front, near_tree, near_put, same_sum, counts_replaced, counts_without, counts_places, counts_weight}
use Rattle.cp_tree.proofs.Answering.{sub-replaced, put_there}

-- ---- reach

number_is : (f : Path × Content → ℕ) (g : Path × Content → ℕ) (k : ℕ) (es : List (Path × Content)) → ((e : Path × Content) → g e ≡ f e) → sum_by (λ e. cond (g e == k) 1 0) es ≡ counted f k es
number_is f g k es h = same_sum (λ e. cond (g e == k) 1 0) (is_one f k) es (λ e. ap (λ (n : ℕ). cond {A = ℕ} (n == k) 1 0) (h e))

some_of : (n a b : ℕ) → a ≡ b → (n ≡ 0) ⊎ (0 < a) → (n ≡ 0) ⊎ (0 < b)
some_of n a b e o = subst (λ z. (n ≡ 0) ⊎ (0 < z)) e o

reach_as : (r : Reach) (m : Tree) → r.nodes ≡ length (keyed.entries m) → r.inner ≡ weight m → r.depth ≡ greatest (λ e. length e.0) (keyed.entries m) → r.size ≡ greatest (λ e. path_size e.0) (keyed.entries m) → r ≡ reach_of (keyed.entries m)
unfolding reach_of weight
reach_as r m n w d s = λ i. record { nodes = n i; inner = w i; depth = d i; size = s i }

-- the reach of the whole, from what is kept
pub reach_kept : (t : Tally) (m : Tree) (r : Reach) → IsTallyOf t m → r.nodes ≡ t.places → r.inner ≡ t.weight →
    ((k : ℕ) → r.depth < k → slice_index t.depths.items k ≡ 0) → (r.depth ≡ 0) ⊎ (0 < slice_index t.depths.items r.depth) →
    ((k : ℕ) → r.size < k → slice_index t.sizes.items k ≡ 0) → (r.size ≡ 0) ⊎ (0 < slice_index t.sizes.items r.size) → r ≡ reach_of (keyed.entries m)
reach_kept t m r tallied n w d sd s ss =
    let labels : Path × Content → ℕ = λ e. length e.0 in
    let bytes : Path × Content → ℕ = λ e. path_size e.0 in
    let deep_is : (k : ℕ) → slice_index t.depths.items k ≡ counted labels k (keyed.entries m) = λ k. tallied (deep k) ∙ number_is labels (λ e. (spot_at root_spot e.0).depth) k (keyed.entries m) (λ e. spot_depth root_spot e.0 ∙ omega arith) in
    let large_is : (k : ℕ) → slice_index t.sizes.items k ≡ counted bytes k (keyed.entries m) = λ k. tallied (large k) ∙ number_is bytes (λ e. (spot_at root_spot e.0).size) k (keyed.entries m) (λ e. spot_size root_spot e.0 ∙ omega arith) in
    let nodes : r.nodes ≡ length (keyed.entries m) = n ∙ tallied places ∙ sum_by-one (keyed.entries m) in
    let inner : r.inner ≡ weight m = w ∙ tallied weighs ∙ counts_weight m in
    let depth : r.depth ≡ greatest labels (keyed.entries m) = sym (greatest_is labels r.depth (keyed.entries m) (λ k h. sym (deep_is k) ∙ d k h) (some_of r.depth (slice_index t.depths.items r.depth) (counted labels r.depth (keyed.entries m)) (deep_is r.depth) sd)) in
    let size : r.size ≡ greatest bytes (keyed.entries m) = sym (greatest_is bytes r.size (keyed.entries m) (λ k h. sym (large_is k) ∙ s k h) (some_of r.size (slice_index t.sizes.items r.size) (counted bytes r.size (keyed.entries m)) (large_is r.size) ss)) in
    reach_as r m nodes inner depth size

weighs_less : (s : Spot) (es : List (Path × Content)) → sum_by (row_counts weighs root_spot) es ≤ sum_by (row_counts weighs s) es
weighs_less s [] = omega arith
weighs_less s (e ∷ es) = omega (arith, sum_by-cons (row_counts weighs root_spot) e es, sum_by-cons (row_counts weighs s) e es, each e, weighs_less s es)
  where
    each : (e : Path × Content) → row_counts weighs root_spot e ≤ row_counts weighs s e
    each ([], c) = omega arith
    each (a ∷ p, c) = omega (arith, spot_last root_spot a p, spot_last s a p)

module _ (m : Tree) (t : IsTree m) where
  -- the numbers of a tree are small
  pub few_places : tree_counts places root_spot m ≤ NODES_MAX
  few_places = omega (arith, counts_places m, t.within.nodes)

  pub few_weight : tree_counts weighs root_spot m ≤ WEIGHT_MAX
  few_weight = omega (arith, counts_weight m, t.within.weighs)

  -- and so are those of its subtrees
  module _ (n : Tree) (p : Path) (e : n ≡ sub m p) where
    pub sub_near : AreNear root_spot n
    sub_near q i =
        let there : is_there m (p ++ q) ≡ true = ap is_some (sym (get-sub m p q) ∙ ap (λ z. keyed.get z q) (sym e)) ∙ i in
        let near = near_tree m t (p ++ q) there in (
          omega (arith, near.0, ap (λ z. z.depth) (spot_append root_spot p q), spot_depth (spot_at root_spot p) q, spot_depth root_spot q),
          omega (arith, near.1, ap (λ z. z.size) (spot_append root_spot p q), spot_size (spot_at root_spot p) q, spot_size root_spot q),
        )

    pub sub_places : tree_counts places root_spot n < 2 ^ 32
    sub_places = omega (arith, ap (tree_counts places root_spot) e, counts_without places m p, few_places)

    pub sub_weight : tree_counts weighs root_spot n < 2 ^ 32
    sub_weight = omega (arith, ap (tree_counts weighs root_spot) e, weighs_less (spot_at root_spot p) (keyed.entries (sub m p)), counts_without weighs m p, few_weight)

-- ---- changes

at_most_one : (s : ℕ) (k : ℕ) → cond {A = ℕ} (s == k) 1 0 ≤ 1
at_most_one s k = elim (s == k) as (λ b. cond {A = ℕ} b 1 0 ≤ 1) [ true ↦ omega arith | false ↦ omega arith ]

no_more : (f : Path × Content → ℕ) (es : List (Path × Content)) → ((e : Path × Content) → f e ≤ 1) → sum_by f es ≤ length es
no_more f [] h = omega arith
no_more f (e ∷ es) h = omega (arith, sum_by-cons f e es, h e, no_more f es h)

-- every number of a tree is small
pub small_counts : (m : Tree) → IsTree m → (j : Gauge) → tree_counts j root_spot m ≤ WEIGHT_MAX
small_counts m t places = omega (arith, few_places m t)
small_counts m t weighs = few_weight m t
small_counts m t (deep k) = omega (arith, no_more (row_counts (deep k) root_spot) (keyed.entries m) (λ e. at_most_one (spot_at root_spot e.0).depth k), sum_by-one (keyed.entries m), few_places m t)
small_counts m t (large k) = omega (arith, no_more (row_counts (large k) root_spot) (keyed.entries m) (λ e. at_most_one (spot_at root_spot e.0).size k), sum_by-one (keyed.entries m), few_places m t)

none_of : (o : Option Content) → is_some o ≡ false → o ≡ None
none_of None e = refl
none_of (Some c) e = absurd (cc)

-- nothing counts where nothing was
no_counts_below : (j : Gauge) (s : Spot) (m : Tree) (p : Path) → IsTree m → is_there m p ≡ false → tree_counts j s (sub m p) ≡ 0
no_counts_below j s m p t f = ap (sum_by (row_counts j s)) (entries-sub m p ∙ below-none m p (closed-tree m t.rooted) (none_of (keyed.get m p) f))

module _ (t : Tally) (m n : Tree) (p : Path) (w : IsTree m) (is_tally : IsTallyOf t m) (fits : IsTree (with_subtree p (keyed.entries n) m)) where
  -- a new subtree fits what is kept
  pub insert_room : is_there m p ≡ false → (k : Tree) → k ≡ n → (j : Gauge) → tally_counts t j + tree_counts j (spot_at root_spot p) k < 2 ^ 32
  insert_room f k e j = omega (arith, is_tally j, ap (tree_counts j (spot_at root_spot p)) e, counts_replaced j m n p, no_counts_below j (spot_at root_spot p) m p w f, small_counts (with_subtree p (keyed.entries n) m) fits j)

  -- with it, what is kept is that of the new tree
  pub inserted_tally : is_there m p ≡ false → (k : Tree) → k ≡ n → (u : Tally) → ((j : Gauge) → tally_counts u j ≡ tally_counts t j + tree_counts j (spot_at root_spot p) k) → IsTallyOf u (with_subtree p (keyed.entries n) m)
  inserted_tally f k e u h j = omega (arith, h j, is_tally j, ap (tree_counts j (spot_at root_spot p)) e, counts_replaced j m n p, no_counts_below j (spot_at root_spot p) m p w f)

  -- a subtree in place of another fits, with both
  pub swap_room : (j : Gauge) → tally_counts t j + tree_counts j (spot_at root_spot p) n < 2 ^ 32
  swap_room j = omega (arith, is_tally j, counts_replaced j m n p, counts_without j m p, small_counts m w j, small_counts (with_subtree p (keyed.entries n) m) fits j)

  module _ (u : Tally) (k : Tree) (e : k ≡ sub m p) (h : (j : Gauge) → tally_counts u j ≡ tally_counts t j + tree_counts j (spot_at root_spot p) n) where
    -- what was there is counted
    pub swap_there : (j : Gauge) → tree_counts j (spot_at root_spot p) k ≤ tally_counts u j
    swap_there j = omega (arith, h j, is_tally j, ap (tree_counts j (spot_at root_spot p)) e, counts_without j m p)

    -- without it, what is kept is that of the new tree
    pub swapped_tally : (v : Tally) → ((j : Gauge) → tally_counts v j + tree_counts j (spot_at root_spot p) k ≡ tally_counts u j) → IsTallyOf v (with_subtree p (keyed.entries n) m)
    swapped_tally v g j = omega (arith, g j, h j, is_tally j, ap (tree_counts j (spot_at root_spot p)) e, counts_replaced j m n p)

module _ (t : Tally) (m : Tree) (p : Path) (is_tally : IsTallyOf t m) (k : Tree) (e : k ≡ sub m p) where
  -- what is taken out was counted
  pub cut_there : (j : Gauge) → tree_counts j (spot_at root_spot p) k ≤ tally_counts t j
  cut_there j = omega (arith, is_tally j, ap (tree_counts j (spot_at root_spot p)) e, counts_without j m p)

  -- without it, what is kept is that of the new tree
  pub tally_cut : (u : Tally) → ((j : Gauge) → tally_counts u j + tree_counts j (spot_at root_spot p) k ≡ tally_counts t j) → IsTallyOf u (without p m)
  tally_cut u g j = omega (arith, g j, is_tally j, ap (tree_counts j (spot_at root_spot p)) e, counts_without j m p)

-- the places of a subtree that is there are within the limits
pub near_sub : (m n : Tree) (p : Path) → IsTree m → n ≡ sub m p → AreNear (spot_at root_spot p) n
near_sub m n p t e q i =
    let there : is_there m (p ++ q) ≡ true = ap is_some (sym (get-sub m p q) ∙ ap (λ z. keyed.get z q) (sym e)) ∙ i in
    subst IsNear (spot_append root_spot p q) (near_tree m t (p ++ q) there)

-- ---- a root alone

-- the tree of a root alone, with what is kept of it
module _ (c d : Content) (h : text_bytes c ≤ TEXT_MAX) (whole : IsNumber c) (same_content : d ≡ c) (m : Tree) (e : m ≡ single d) where
  pub single_is : m ≡ single c
  single_is = e ∙ ap single same_content

  pub single_tree : IsTree m
  single_tree = subst IsTree (sym single_is) (single-tree c h whole)

  pub single_near : (s : Spot) → s ≡ root_spot → AreNear s m
  single_near s k = subst (λ z. AreNear z m) (sym k) (near_tree m single_tree)

  module _ (t : Tally) (s : Spot) (k : s ≡ root_spot) (none : (j : Gauge) → tally_counts t j ≡ 0) where
    pub single_room : (j : Gauge) → tally_counts t j + tree_counts j s m < 2 ^ 32
    single_room j = omega (arith, none j, ap (λ z. tree_counts j z m) k, small_counts m single_tree j)

    pub single_tallied : (u : Tally) → ((j : Gauge) → tally_counts u j ≡ tally_counts t j + tree_counts j s m) → IsTallyOf u m
    single_tallied u g j = omega (arith, g j, none j, ap (λ z. tree_counts j z m) k)

-- ---- the places of changes

-- a place's spot
pub spot_of : (r s : Spot) (p q : Path) → r ≡ root_spot → s ≡ spot_at r q → q ≡ p → s ≡ spot_at root_spot p
spot_of r s p q k e f = e ∙ ap (λ z. spot_at z q) k ∙ ap (spot_at root_spot) f

-- that of a child
pub spot_child : (s u : Spot) (p : Path) (a : Label) → s ≡ spot_at root_spot p → u ≡ child_spot s a → u ≡ spot_at root_spot (child p a)
spot_child s u p a e k = k ∙ ap (λ z. child_spot z a) e ∙ sym (spot_append root_spot p (a ∷ []))

module _ (m : Tree) (t : IsTree m) where
  -- a place that is there is within the limits
  pub near_there : (r : Spot) (p q : Path) → r ≡ root_spot → q ≡ p → is_there m p ≡ true → IsNear (spot_at r q)
  near_there r p q k e i = subst (λ z. IsNear (spot_at z q)) (sym k) (subst (λ z. IsNear (spot_at root_spot z)) (sym e) (near_tree m t p i))

  near_edge : (p : Path) (a : Label) → is_there m (child p a) ≡ true → IsNear (child_spot (spot_at root_spot p) a)
  near_edge p a i = subst IsNear (spot_append root_spot p (a ∷ [])) (near_tree m t (child p a) i)

  -- so is what is above one
  pub near_above : (r : Spot) (p q : Path) (a : Label) → r ≡ root_spot → q ≡ p → is_there m (child p a) ≡ true → IsNear (spot_at r q)
  near_above r p q a k e i =
      subst (λ z. IsNear (spot_at z q)) (sym k) (subst (λ z. IsNear (spot_at root_spot z)) (sym e) (near_front (spot_at root_spot p) (a ∷ []) (near_edge p a i)))

  -- and a child that is there
  pub near_child : (s : Spot) (p : Path) (a : Label) → s ≡ spot_at root_spot p → is_there m (child p a) ≡ true → IsNear (child_spot s a)
  near_child s p a e i = subst (λ z. IsNear (child_spot z a)) (sym e) (near_edge p a i)

  -- and all of a subtree
  pub near_cut : (s : Spot) (p : Path) (n : Tree) → s ≡ spot_at root_spot p → n ≡ sub m p → AreNear s n
  near_cut s p n e k = subst (λ z. AreNear z n) (sym e) (near_sub m n p t k)

-- and all of a subtree that is put
pub near_new : (m n k : Tree) (p : Path) (s : Spot) → s ≡ spot_at root_spot p → IsTree (with_subtree p (keyed.entries n) m) → k ≡ n → AreNear s k
near_new m n k p s e fits is = subst (λ z. AreNear z k) (sym e) (subst (AreNear (spot_at root_spot p)) (sym is) (near_put m n p fits))

-- that subtree
pub insert_child : (new m n k : Tree) (p : Path) → new ≡ with_subtree p (keyed.entries n) m → k ≡ sub new p → k ≡ n
insert_child new m n k p is e = e ∙ ap (λ z. sub z p) is ∙ sub-replaced m n p

-- it is found
pub insert_found : (new m n : Tree) (p : Path) → new ≡ with_subtree p (keyed.entries n) m → IsRooted n → keyed.get new p ≡ None → ⊥
insert_found new m n p is r e = (let there = put_there m n p r in let none = ap is_some (ap (λ z. keyed.get z p) (sym is) ∙ e) in absurd (cc))
