-- A written tree that fits and whose labels rise is a tree within the limits, and each such tree is written so.
use Rattle.std.proofs.Common.{◌≡◌, ◌≤◌, Bool, true, false, cond, List, [], ◌∷◌, ◌++◌, refl, sym, ap, ◌∙◌, subst, T, is_some, length, sum_by, arith}
use Rattle.std.specs.List.{AllByRecursion}
use Rattle.std.specs.FinMap.Entries.{below_all, is_sorted}
use Rattle.std.specs.Ordering.{is_lt, ordering_then}
use Rattle.std.specs.declared.cmp.Ordering.{Ordering}
use Rattle.std.specs.declared.cmp.Ordering.TheVariants.{Less, Equal, Greater}
use Rattle.std.specs.declared.option.Option.{Option}
use Rattle.std.specs.declared.option.Option.TheVariants.{None, Some}
use Rattle.cp_path.proofs.Same.{path_eq-same}
use Rattle.cp_path.specs.PathOrder.{path_total}
use Rattle.cp_path.specs.Text.{text_cmp}
use Rattle.cp_path.specs.declared.limits.TheConstants.{LABEL_MAX, TEXT_MAX}
use Rattle.cp_path.specs.declared.value.Value.TheVariants.{Null, False, True, Whole, Text}
use Rattle.cp_path.specs.Encoding.{counted_bytes}
use Rattle.cp_model.specs.declared.row.Content.{Content}
use Rattle.cp_model.specs.declared.row.Content.TheVariants.{Node, Leaf}
use Rattle.cp_model.specs.History.{IsLiteral}
use Rattle.cp_model.specs.Keyed as keyed
use Rattle.cp_model.specs.Keyed.{look}
use Rattle.cp_model.specs.Literals.{rows_under}
use Rattle.cp_model.specs.Place.{Label, Path, path_cmp, path_eq}
use Rattle.cp_model.specs.Tree.{Tree, CanBeSpelled, IsNumber, IsRooted, IsTree, last_bytes, text_bytes, weight_of}
use Rattle.cp_model.proofs.Lookups.{find-from_entries}
use Rattle.cp_model.proofs.Sorted.{all_of, parts_of, path_cmp-append, sorted-entries}
use Rattle.cp_record.specs.Kept.{IsLabel}
use Rattle.cp_tree.specs.Branch.{branch, child_rows}
use Rattle.cp_tree.specs.Good.{AllRooted, IsGood}
use Rattle.cp_tree.specs.Rows.{path_size}
use Rattle.cp_tree.proofs.BranchLemmas.{entries-branch, entries-from_entries, label_total}
use Rattle.cp_tree.proofs.Fits.{at_most_greatest, within-limit}
use Rattle.cp_tree.proofs.GoodLemmas.{good_single, rooted-branch}
use Rattle.cp_tree.proofs.Rising.{less_all, less_is, less_mid}
use Rattle.cp_tree.proofs.Small.{small_tree}
use Rattle.cp_tree.proofs.SumsLemmas.{len_entries, weight_entries}
use Rattle.cp_tree.specs.Rows.{deepest}
use Rattle.cp_tree.specs.Sums.{largest}
use Rattle.cp_format.specs.Contents.{IsContent}
use Rattle.cp_format.specs.Formats.{AllHold, moved}
use Rattle.cp_format.proofs.Checks.{all_both, all_first, all_moved, all_second, part_all}
use Rattle.cp_format.proofs.Contents.{within_text_max}
use Rattle.cp_frame.specs.Trees.{Written, leaf, node, Children, no_more, child, rows_of, rows_below, tree_bytes, comes_after, tree_checks, children_checks, HasParts, HaveParts}
use Rattle.cp_frame.specs.Rooms.{FitsIn, whole_room}
use Rattle.cp_frame.specs.Laws.{TreesAreSpelled, WrittenTreesAreTrees}
use Rattle.cp_frame.proofs.SameRows.{others_of, root_first, root_of}

-- ---- labels that rise

-- the edges of children
abbrev edges_in : Children → List (Label × Tree)
edges_in no_more = []
edges_in (child a t cs) = (a, keyed.from_entries (rows_of t)) ∷ edges_in cs

holds_of : (b : Bool) → b ≡ true → T b
holds_of b e = subst T (sym e) tt

is_true : (b : Bool) → T b → b ≡ true
is_true true h = refl
is_true false h = absurd h

module _ (elder : Option Label) (a : Label) (t : Written) (cs : Children) (h : AllHold (children_checks elder (child a t cs))) where
  inner_hold : AllHold (tree_checks t ++ moved (length (tree_bytes t)) (children_checks (Some a) cs))
  inner_hold = part_all (length (counted_bytes a)) (tree_checks t ++ moved (length (tree_bytes t)) (children_checks (Some a) cs)) h.1

  tree_holds : AllHold (tree_checks t)
  tree_holds = all_first (tree_checks t) (moved (length (tree_bytes t)) (children_checks (Some a) cs)) inner_hold

  others_hold : AllHold (children_checks (Some a) cs)
  others_hold = part_all (length (tree_bytes t)) (children_checks (Some a) cs) (all_second (tree_checks t) (moved (length (tree_bytes t)) (children_checks (Some a) cs)) inner_hold)

-- each label comes after an earlier one
labels_after : (b : Label) (cs : Children) → AllHold (children_checks (Some b) cs) → T (below_all text_cmp b (edges_in cs))
labels_after b no_more h = tt
labels_after b (child a t cs) h =
    let less : T (is_lt (text_cmp b a)) = holds_of (is_lt (text_cmp b a)) h.0 in
    all_of _ _ less (less_all text_cmp label_total b a (edges_in cs) (less_is (text_cmp b a) less) (labels_after a cs (others_hold (Some b) a t cs h)))

labels_rise : (elder : Option Label) (cs : Children) → AllHold (children_checks elder cs) → T (is_sorted text_cmp (edges_in cs))
labels_rise elder no_more h = tt
labels_rise elder (child a t cs) h = let rest = others_hold elder a t cs h in all_of _ _ (labels_after a cs rest) (labels_rise (Some a) cs rest)

branch_is : (x : Content) (es : List (Label × Tree)) → branch x es ≡ keyed.from_entries (([], x) ∷ child_rows es)
unfolding branch
branch_is x es = refl

-- the rows rise, and are those of a rooted tree
record AreRowsOfTree (rows : List (Path × Content)) : Type 0 where
  sorted : T (is_sorted path_cmp rows)
  rooted : IsRooted (keyed.from_entries rows)

-- a root and edges that are rooted
whole_branch : (x : Content) (es : List (Label × Tree)) (rows : List (Path × Content)) → IsGood x es → child_rows es ≡ rows → AreRowsOfTree (([], x) ∷ rows)
whole_branch x es rows g e =
    subst (λ (z : List (Path × Content)). AreRowsOfTree (([], x) ∷ z)) e (record {
      sorted = subst (λ (z : List (Path × Content)). T (is_sorted path_cmp z)) (entries-branch x es g.sorted) (sorted-entries (branch x es));
      rooted = subst IsRooted (branch_is x es) (rooted-branch x es g);
    })

mutual
  whole_tree : (t : Written) → AllHold (tree_checks t) → AreRowsOfTree (rows_of t)
  whole_tree (leaf v) h = whole_branch (Leaf v) [] [] (good_single (Leaf v)) refl
  whole_tree (node cs) h =
      let hold = part_all 5 (children_checks None cs) h in
      let below = whole_children None cs hold in
      whole_branch Node (edges_in cs) (rows_below cs) (record { sorted = labels_rise None cs hold; bare = tt; trees = below.0 }) below.1

  whole_children : (elder : Option Label) (cs : Children) → AllHold (children_checks elder cs) → AllRooted (edges_in cs) × (child_rows (edges_in cs) ≡ rows_below cs)
  whole_children elder no_more h = (tt, refl)
  whole_children elder (child a t cs) h =
      let tree = whole_tree t (tree_holds elder a t cs h) in
      let others = whole_children (Some a) cs (others_hold elder a t cs h) in
      ((tree.rooted, others.0), ap (λ (z : List (Path × Content)). rows_under a z ++ child_rows (edges_in cs)) (entries-from_entries (rows_of t) tree.sorted) ∙ ap (λ (z : List (Path × Content)). rows_under a (rows_of t) ++ z) others.1)

-- ---- what stands in the rows

-- a text is no longer than it may be, and the last label and a number can be spelled
abbrev IsSound : Path × Content → Type 0
IsSound e = (text_bytes e.1 ≤ TEXT_MAX) × CanBeSpelled e.0 e.1

abbrev AreSound : List (Path × Content) → Type 0
AreSound rows = AllByRecursion IsSound rows

number_of_content : (c : Content) → IsContent c → IsNumber c
number_of_content Node h = tt
number_of_content (Leaf Null) h = tt
number_of_content (Leaf False) h = tt
number_of_content (Leaf True) h = tt
number_of_content (Leaf (Whole n)) h = h
number_of_content (Leaf (Text a)) h = tt

sound_root : (c : Content) → IsContent c → IsSound ([], c)
sound_root c h = (within_text_max c h, record { label = omega arith; number = number_of_content c h })

sound_both : (xs ys : List (Path × Content)) → AreSound xs → AreSound ys → AreSound (xs ++ ys)
sound_both [] ys h k = k
sound_both (x ∷ xs) ys h k = (h.0, sound_both xs ys h.1 k)

short_last : (a : Label) (p : Path) → length a ≤ LABEL_MAX → last_bytes p ≤ LABEL_MAX → last_bytes (a ∷ p) ≤ LABEL_MAX
short_last a [] h k = h
short_last a (b ∷ p) h k = k

sound_under : (a : Label) (rows : List (Path × Content)) → IsLabel a → AreSound rows → AreSound (rows_under a rows)
sound_under a [] l h = tt
sound_under a (e ∷ es) l h = ((h.0.0, record { label = short_last a e.0 l.short h.0.1.label; number = h.0.1.number }), sound_under a es l h.1)

mutual
  -- the rows of a written tree are sound
  pub sound_tree : (t : Written) → HasParts t → AreSound (rows_of t)
  sound_tree (leaf v) h = (sound_root (Leaf v) h, tt)
  sound_tree (node cs) h = (sound_root Node tt, sound_children cs h.1)

  sound_children : (cs : Children) → HaveParts cs → AreSound (rows_below cs)
  sound_children no_more h = tt
  sound_children (child a t cs) h = sound_both (rows_under a (rows_of t)) (rows_below cs) (sound_under a (rows_of t) h.0 (sound_tree t h.1)) (sound_children cs h.2)

-- what holds of each row holds of what is found
found_sound : (rows : List (Path × Content)) (q : Path) (c : Content) → AreSound rows → look q rows ≡ Some c → IsSound (q, c)
found_sound [] q c h e = absurd (cc)
found_sound (r ∷ rows) q c h e =
    elim (path_eq q r.0) as (λ b. path_eq q r.0 ≡ b → cond b (Some r.1) (look q rows) ≡ Some c → IsSound (q, c)) [
      | true ↦ λ k f. (let path = path_eq-same q r.0 k in let content : r.1 ≡ c = cc in subst (λ x. IsSound (q, x)) content (subst (λ p. IsSound (p, r.1)) (sym path) h.0))
      | false ↦ λ k f. found_sound rows q c h.1 f
    ] refl e

-- ---- a written tree is a tree

module _ (t : Written) (f : FitsIn (whole_room 1) t) (h : AllHold (tree_checks t)) where
  abbrev rows : List (Path × Content)
  rows = rows_of t

  abbrev map_of : Tree
  map_of = keyed.from_entries rows

  whole : AreRowsOfTree rows
  whole = whole_tree t h

  sound : AreSound rows
  sound = sound_tree t f.parts

  found : (q : Path) (c : Content) → keyed.get map_of q ≡ Some c → look q rows ≡ Some c
  found q c e = sym (find-from_entries rows q) ∙ e

  same_entries : keyed.entries map_of ≡ rows
  same_entries = entries-from_entries rows whole.sorted

  literal : IsLiteral rows
  literal = record {
    sorted = whole.sorted;
    rooted = whole.rooted;
    texts = λ q c e. (found_sound rows q c sound e).0;
    spelled = λ q c e. (found_sound rows q c sound e).1;
  }

  legal : IsTree map_of
  legal = record {
    rooted = whole.rooted;
    within = record {
      nodes = omega (arith, len_entries map_of, ap length same_entries, f.few);
      weighs = omega (arith, weight_entries map_of, ap (sum_by weight_of) same_entries, f.light);
    };
    places = λ q i.
        let there : is_some (look q rows) ≡ true = ap is_some (sym (find-from_entries rows q)) ∙ i in
        within-limit q (omega (arith, at_most_greatest (λ (p : Path). length p) rows q there, f.deep)) (omega (arith, at_most_greatest path_size rows q there, f.long));
    texts = λ q c e. (found_sound rows q c sound (found q c e)).0;
    spelled = λ q c e. (found_sound rows q c sound (found q c e)).1;
  }

pub written_legal : WrittenTreesAreTrees
written_legal t f h = (literal t f h, legal t f h)

-- ---- a tree is written so

below_front : (k : Path) (xs ys : List (Path × Content)) → T (below_all path_cmp k (xs ++ ys)) → T (below_all path_cmp k xs)
below_front k [] ys h = tt
below_front k (x ∷ xs) ys h = let p = parts_of (is_lt (path_cmp k x.0)) (below_all path_cmp k (xs ++ ys)) h in all_of _ _ p.0 (below_front k xs ys p.1)

sorted_front : (xs ys : List (Path × Content)) → T (is_sorted path_cmp (xs ++ ys)) → T (is_sorted path_cmp xs)
sorted_front [] ys h = tt
sorted_front (x ∷ xs) ys h = let p = parts_of (below_all path_cmp x.0 (xs ++ ys)) (is_sorted path_cmp (xs ++ ys)) h in all_of _ _ (below_front x.0 xs ys p.0) (sorted_front xs ys p.1)

sorted_back : (xs ys : List (Path × Content)) → T (is_sorted path_cmp (xs ++ ys)) → T (is_sorted path_cmp ys)
sorted_back [] ys h = h
sorted_back (x ∷ xs) ys h = sorted_back xs ys (parts_of (below_all path_cmp x.0 (xs ++ ys)) (is_sorted path_cmp (xs ++ ys)) h).1

below_under : (a : Label) (k : Path) (rows : List (Path × Content)) → T (below_all path_cmp (a ∷ k) (rows_under a rows)) → T (below_all path_cmp k rows)
below_under a k [] h = tt
below_under a k (e ∷ es) h =
    let p = parts_of (is_lt (path_cmp (a ∷ k) (a ∷ e.0))) (below_all path_cmp (a ∷ k) (rows_under a es)) h in
    all_of _ _ (subst (λ o. T (is_lt o)) (path_cmp-append (a ∷ []) k e.0) p.0) (below_under a k es p.1)

sorted_under : (a : Label) (rows : List (Path × Content)) → T (is_sorted path_cmp (rows_under a rows)) → T (is_sorted path_cmp rows)
sorted_under a [] h = tt
sorted_under a (e ∷ es) h =
    let p = parts_of (below_all path_cmp (a ∷ e.0) (rows_under a es)) (is_sorted path_cmp (rows_under a es)) h in
    all_of _ _ (below_under a e.0 es p.0) (sorted_under a es p.1)

-- the label of the first child, if there is one, comes after this one
abbrev GoesOnAfter : Option Label → Children → Type 0
GoesOnAfter elder no_more = Unit {0}
GoesOnAfter elder (child a t cs) = comes_after elder a ≡ true

less_alone : (o : Ordering) → ordering_then o Equal ≡ Less → is_lt o ≡ true
less_alone Less e = refl
less_alone Equal e = absurd (cc)
less_alone Greater e = absurd (cc)

goes_on : (a : Label) (t : Written) (cs : Children) → T (is_sorted path_cmp (rows_under a (rows_of t) ++ rows_below cs)) → GoesOnAfter (Some a) cs
goes_on a t no_more h = tt
goes_on a t (child b u cs) h =
    let first = rows_under a (others_of t) in
    let rest = rows_under b (others_of u) ++ rows_below cs in
    let one = subst (λ (z : List (Path × Content)). T (is_sorted path_cmp (rows_under a z ++ (rows_under b (rows_of u) ++ rows_below cs)))) (root_first t) h in
    let two = subst (λ (z : List (Path × Content)). T (is_sorted path_cmp (rows_under a (([], root_of t) ∷ others_of t) ++ (rows_under b z ++ rows_below cs)))) (root_first u) one in
    let p = parts_of (below_all path_cmp (a ∷ []) (first ++ (b ∷ [], root_of u) ∷ rest)) (is_sorted path_cmp (first ++ (b ∷ [], root_of u) ∷ rest)) two in
    less_alone (text_cmp a b) (less_mid path_cmp path_total (a ∷ []) first (b ∷ [], root_of u) rest p.0)

mutual
  tree_rises : (t : Written) → T (is_sorted path_cmp (rows_of t)) → AllHold (tree_checks t)
  tree_rises (leaf v) h = tt
  tree_rises (node cs) h =
      all_moved 5 (children_checks None cs) (children_rise None cs (parts_of (below_all path_cmp [] (rows_below cs)) (is_sorted path_cmp (rows_below cs)) h).1 (any cs))
    where
      any : (ds : Children) → GoesOnAfter None ds
      any no_more = tt
      any (child a t ds) = refl

  children_rise : (elder : Option Label) (cs : Children) → T (is_sorted path_cmp (rows_below cs)) → GoesOnAfter elder cs → AllHold (children_checks elder cs)
  children_rise elder no_more h g = tt
  children_rise elder (child a t cs) h g =
      let tree = tree_rises t (sorted_under a (rows_of t) (sorted_front (rows_under a (rows_of t)) (rows_below cs) h)) in
      let others = children_rise (Some a) cs (sorted_back (rows_under a (rows_of t)) (rows_below cs) h) (goes_on a t cs h) in
      let len = length (tree_bytes t) in
      (g, all_moved (length (counted_bytes a)) (tree_checks t ++ moved len (children_checks (Some a) cs)) (all_both (tree_checks t) (moved len (children_checks (Some a) cs)) tree (all_moved len (children_checks (Some a) cs) others)))

pub legal_spelled : TreesAreSpelled
legal_spelled t p l h =
    let rows = rows_of t in
    let m : Tree = keyed.from_entries rows in
    let same : keyed.entries m ≡ rows = entries-from_entries rows l.sorted in
    let small = small_tree m h in (
      record {
        parts = p;
        deep = omega (arith, ap deepest same, small.depth);
        long = omega (arith, ap largest same, small.size);
        few = omega (arith, len_entries m, ap length same, small.nodes);
        light = omega (arith, weight_entries m, ap (sum_by weight_of) same, small.inner);
      },
      tree_rises t l.sorted,
    )
