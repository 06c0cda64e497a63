-- An archive with one version more.
use Rattle.std.specs.Prelude.{ℕ, zero, suc, ◌+◌, ◌≡◌, ◌≤◌, ◌||◌, Bool, true, false, List, [], ◌∷◌, ◌++◌, length, fold, map, is_some, refl, if◌then◌else◌}
use Rattle.std.proofs.Common.{sym, ap, subst, ◌∙◌, T, arith, length-append, add-one}
use Rattle.std.specs.List.{All, flat_map, filter_map, list_any, count_by, slice_get, AllByRecursion}
use Rattle.std.specs.declared.option.Option.{Option}
use Rattle.std.specs.declared.option.Option.TheVariants.{None, Some}
use Rattle.std.proofs.lemmas.List.Sums.{fold-append}
use Rattle.std.proofs.lemmas.Option.{same_Some}
use Rattle.std.proofs.lemmas.List.Elements.{All-from_recursion}
use Rattle.cp_path.specs.declared.limits.TheConstants.{LABELS_MAX, TEXT_MAX}
use Rattle.std.specs.FinMap.Entries.{is_sorted}
use Rattle.cp_path.proofs.Same.{path_eq-same}
use Rattle.cp_model.specs.Place.{Path, path_eq, path_cmp}
use Rattle.cp_model.specs.Keyed as keyed
use Rattle.cp_model.specs.Keyed.{look}
use Rattle.cp_model.specs.Subtrees.{below, entry_below}
use Rattle.cp_model.specs.Tree.{Tree, IsTree, text_bytes}
use Rattle.cp_model.specs.declared.row.Row.{Row}
use Rattle.cp_model.specs.declared.row.Content.{Content}
use Rattle.cp_model.proofs.KeyedLemmas.{same_map, get-empty}
use Rattle.cp_model.proofs.Lookups.{find-below}
use Rattle.cp_model.proofs.Sorted.{sorted-below}
use Rattle.cp_tree.specs.Rows.{entries_in, entry_row}
use Rattle.cp_tree.proofs.ListingLemmas.{entries_in-rows}
use Rattle.cp_tree.proofs.Tallies.{few_labels}
use Rattle.cp_archive.specs.declared.phase.Phase.{Phase}
use Rattle.cp_archive.specs.declared.difference.Difference.{Difference}
use Rattle.cp_archive.specs.declared.touched.Touched.{Touched}
use Rattle.cp_archive.specs.Ranges.{begun, ranges_after, range_count}
use Rattle.cp_archive.specs.Phases.{Paths, then_phase, content_at, phases_of, content_of, tree_of_version, versions, IsRising, IsUpto, IsKept}
use Rattle.cp_archive.specs.Notes.{HasSamePhases, AreNoted, phase_at, phases_at}
use Rattle.cp_archive.specs.Differences.{FitsBelow, CanDiffer, differences_at, begins}
use Rattle.cp_archive.specs.Touching.{is_covered, IsToldOf, Leads}
use Rattle.cp_archive.specs.Trees.{newest_after, newest}
use Rattle.cp_archive.proofs.PhaseLemmas.{begun-phase, no-phase}
use Rattle.cp_archive.proofs.VersionTrees.{version-get, version-same, versions-same, version-before, versions-at, newest-version}
use Rattle.cp_archive.proofs.Differing.{Says, all-flat, all-found, rows-found, says-at, kept}
use Rattle.cp_archive.proofs.Counting.{count-begun}

-- ---- phases

module _ (v : ℕ) where
  abbrev IsOf : Phase → Type 0
  IsOf x = x.since ≡ v

  of_one : (p : Path) (d : Difference) → AllByRecursion IsOf (phase_at v p d)
  of_one p d = elim (path_eq p d.path) as (λ b. AllByRecursion IsOf (if b then record { since = v; content = d.content } ∷ [] else [])) [ true ↦ (refl, tt) | false ↦ tt ]

  anything : (ds : List Difference) → AllByRecursion (λ (d : Difference). Unit {0}) ds
  anything [] = tt
  anything (d ∷ ds) = (tt, anything ds)

  of_all : (p : Path) (ds : List Difference) → AllByRecursion IsOf (phases_at v p ds)
  of_all p ds = all-flat (λ _. Unit {0}) IsOf (phase_at v p) (λ d _. of_one p d) ds (anything ds)

  upto_of : (ys : List Phase) → AllByRecursion IsOf ys → IsUpto v ys
  upto_of [] h = tt
  upto_of (y ∷ ys) h = (let e = h.0 in omega (arith, e), upto_of ys h.1)

  upto-more : (n : ℕ) (xs ys : List Phase) → n ≤ v → IsUpto n xs → AllByRecursion IsOf ys → IsUpto v (xs ++ ys)
  upto-more n [] ys l u h = upto_of ys h
  upto-more n (x ∷ xs) ys l u h = (let e = u.0 in omega (arith, e, l), upto-more n xs ys l u.1 h)

  from_of : (x : Phase) → x.since ≤ v → (ys : List Phase) → AllByRecursion IsOf ys → AllByRecursion (λ y. x.since ≤ y.since) ys
  from_of x l [] h = tt
  from_of x l (y ∷ ys) h = (let e = h.0 in omega (arith, e, l), from_of x l ys h.1)

  rising_of : (ys : List Phase) → AllByRecursion IsOf ys → IsRising ys
  rising_of [] h = tt
  rising_of (y ∷ ys) h = (let e = h.0 in from_of y (omega (arith, e)) ys h.1, rising_of ys h.1)

  from_more : (x : Phase) (xs ys : List Phase) → x.since ≤ v → AllByRecursion (λ y. x.since ≤ y.since) xs → AllByRecursion IsOf ys → AllByRecursion (λ y. x.since ≤ y.since) (xs ++ ys)
  from_more x [] ys l u h = from_of x l ys h
  from_more x (y ∷ xs) ys l u h = (u.0, from_more x xs ys l u.1 h)

  rising-more : (n : ℕ) (xs ys : List Phase) → n ≤ v → IsUpto n xs → IsRising xs → AllByRecursion IsOf ys → IsRising (xs ++ ys)
  rising-more n [] ys l u r h = rising_of ys h
  rising-more n (x ∷ xs) ys l u r h = (let e = u.0 in from_more x xs ys (omega (arith, e, l)) r.0 h, rising-more n xs ys l u.1 r.1 h)

  -- what the differences say is what the version has
  says-one : (t : Tree) (p : Path) (d : Difference) (o : Option Content) → d.content ≡ keyed.get t d.path → fold (then_phase v) o (phase_at v p d) ≡ (if path_eq p d.path then keyed.get t p else o)
  says-one t p d o h = elim (path_eq p d.path) as (λ b. path_eq p d.path ≡ b → fold (then_phase v) o (if b then record { since = v; content = d.content } ∷ [] else []) ≡ (if b then keyed.get t p else o)) [
    | true ↦ λ e. begun-phase v o (record { since = v; content = d.content }) (omega arith) ∙ h ∙ ap (keyed.get t) (sym (path_eq-same p d.path e))
    | false ↦ λ _. refl
  ] refl

  either : (b c : Bool) (x o : Option Content) → (if c then x else (if b then x else o)) ≡ (if b || c then x else o)
  either true true x o = refl
  either true false x o = refl
  either false c x o = refl

  says-all : (t : Tree) (p : Path) (ds : List Difference) (o : Option Content) → AllByRecursion (λ (d : Difference). d.content ≡ keyed.get t d.path) ds
      → fold (then_phase v) o (phases_at v p ds) ≡ (if list_any (λ (d : Difference). path_eq p d.path) ds then keyed.get t p else o)
  says-all t p [] o h = refl
  says-all t p (d ∷ ds) o h =
      fold-append (then_phase v) o (phase_at v p d) (phases_at v p ds)
      ∙ ap (λ c. fold (then_phase v) c (phases_at v p ds)) (says-one t p d o h.0)
      ∙ says-all t p ds (if path_eq p d.path then keyed.get t p else o) h.1
      ∙ either (path_eq p d.path) (list_any (λ (d : Difference). path_eq p d.path) ds) (keyed.get t p) o

-- after the last phase nothing changes
upto-next : (n : ℕ) (o : Option Content) (xs : List Phase) → IsUpto n xs → fold (then_phase (suc n)) o xs ≡ fold (then_phase n) o xs
upto-next n o [] h = refl
upto-next n o (x ∷ xs) h =
    let l = h.0 in
    ap (λ c. fold (then_phase (suc n)) c xs) (begun-phase (suc n) o x (omega (arith, l)) ∙ sym (begun-phase n o x l)) ∙ upto-next n (then_phase n o x) xs h.1

-- ---- one version

module _ (m k : Paths) (v : ℕ) (xs : List Touched) (old new : Tree) (leads : Leads xs old new) (noted : AreNoted m k v (flat_map differences_at xs)) (before : (p : Path) → content_of m v p ≡ keyed.get old p) where
  says : AllByRecursion (Says old new) (flat_map differences_at xs)
  says = all-flat (IsToldOf old new) (Says old new) differences_at (λ x h. says-at old new x (subst (λ es. T (is_sorted path_cmp es)) (sym h.after) (sorted-below x.place new)) h) xs leads.told

  -- the version has the new tree
  pub version-added : tree_of_version k v ≡ new
  unfolding content_at
  version-added = same_map (tree_of_version k v) new (λ p.
      version-get k v p
      ∙ ap (fold (then_phase v) None) (noted p)
      ∙ fold-append (then_phase v) None (phases_of m p) (phases_at v p (flat_map differences_at xs))
      ∙ says-all v new p (flat_map differences_at xs) (content_of m v p) says
      ∙ elim (list_any (λ (d : Difference). path_eq p d.path) (flat_map differences_at xs)) as (λ b. list_any (λ (d : Difference). path_eq p d.path) (flat_map differences_at xs) ≡ b → (if b then keyed.get new p else content_of m v p) ≡ keyed.get new p) [
        | true ↦ λ _. refl
        | false ↦ λ e. before p ∙ sym (kept old new xs leads p e)
      ] refl)

-- ---- the number of ranges

ranges-more : (t : Tree) (us : List Tree) (x : Tree) → ranges_after t (us ++ x ∷ []) ≡ ranges_after t us + length (begun (keyed.entries (newest_after t us)) (keyed.entries x))
ranges-more t [] x = omega arith
ranges-more t (u ∷ us) x = let h = ranges-more u us x in omega (arith, h)

-- ---- what is kept

all-with : (P : Tree → Type 0) (ts : List Tree) (x : Tree) → AllByRecursion P ts → P x → AllByRecursion P (ts ++ x ∷ [])
all-with P [] x h y = (y, tt)
all-with P (t ∷ ts) x h y = (h.0, all-with P ts x h.1 y)

all-at : (P : Tree → Type 0) (ts : List Tree) (i : ℕ) (x : Tree) → AllByRecursion P ts → slice_get ts i ≡ Some x → P x
all-at P [] i x h e = absurd (cc)
all-at P (t ∷ ts) zero x h e = subst P (same_Some t x e) h.0
all-at P (t ∷ ts) (suc i) x h e = all-at P ts i x h.1 e

-- each version up to the last is within the limits
pub tree-within : (m : Paths) (n r t : ℕ) → IsKept m n r → t ≤ n → IsTree (tree_of_version m t)
tree-within m n r t h l = all-at IsTree (versions m n) t (tree_of_version m t) h.trees (versions-at m n t l)

-- after a step
pub step-kept : (m k : Paths) (n r ranges : ℕ) (xs : List Touched) (new : Tree) → IsKept m n r → Leads xs (newest (versions m n)) new → AreNoted m k (suc n) (flat_map differences_at xs) → ranges ≡ r + count_by begins (flat_map differences_at xs)
    → (versions k (suc n) ≡ versions m n ++ new ∷ []) × IsKept k (suc n) ranges
unfolding content_at
step-kept m k n r ranges xs new h leads noted count =
    let last : newest (versions m n) ≡ tree_of_version m n = newest-version m n in
    let added : tree_of_version k (suc n) ≡ new =
    version-added m k (suc n) xs (newest (versions m n)) new leads noted (λ p. upto-next n None (phases_of m p) (h.upto p) ∙ sym (version-get m n p) ∙ ap (λ t. keyed.get t p) (sym last)) in
    let all : versions k (suc n) ≡ versions m n ++ new ∷ [] =
    ap (λ ts. ts ++ tree_of_version k (suc n) ∷ []) (versions-same m k n (λ t l. version-before m k (suc n) (flat_map differences_at xs) noted t (omega (arith, l)))) ∙ ap (λ t. versions m n ++ t ∷ []) added in (
      all,
      record {
        rise = λ p. subst IsRising (sym (noted p)) (rising-more (suc n) n (phases_of m p) (phases_at (suc n) p (flat_map differences_at xs)) (omega arith) (h.upto p) (h.rise p) (of_all (suc n) p (flat_map differences_at xs)));
        upto = λ p. subst (IsUpto (suc n)) (sym (noted p)) (upto-more (suc n) n (phases_of m p) (phases_at (suc n) p (flat_map differences_at xs)) (omega arith) (h.upto p) (of_all (suc n) p (flat_map differences_at xs)));
        counted =
            count ∙ ap (λ i. i + count_by begins (flat_map differences_at xs)) h.counted
            ∙ ap (λ i. range_count (versions m n) + i) (count-begun (newest (versions m n)) new xs leads)
            ∙ sym (ranges-more keyed.empty (versions m n) new)
            ∙ ap range_count (sym all);
        trees = subst (AllByRecursion IsTree) (sym all) (all-with IsTree (versions m n) new h.trees leads.tree);
      },
    )

-- at the start
pub start-kept : (m k : Paths) (ranges : ℕ) (xs : List Touched) (new : Tree) → ((p : Path) → phases_of m p ≡ []) → Leads xs keyed.empty new → AreNoted m k 0 (flat_map differences_at xs) → ranges ≡ 0 + count_by begins (flat_map differences_at xs)
    → (versions k 0 ≡ new ∷ []) × IsKept k 0 ranges
start-kept m k ranges xs new none leads noted count =
    let added : tree_of_version k 0 ≡ new =
    version-added m k 0 xs keyed.empty new leads noted (λ p. ap (λ l. content_at l 0) (none p) ∙ no-phase 0 ∙ sym (get-empty p)) in
    let alone : (p : Path) → phases_of k p ≡ phases_at 0 p (flat_map differences_at xs) = λ p. noted p ∙ ap (λ l. l ++ phases_at 0 p (flat_map differences_at xs)) (none p) in
    let all : versions k 0 ≡ new ∷ [] = ap (λ t. t ∷ []) added in (
      all,
      record {
        rise = λ p. subst IsRising (sym (alone p)) (rising_of 0 (phases_at 0 p (flat_map differences_at xs)) (of_all 0 p (flat_map differences_at xs)));
        upto = λ p. subst (IsUpto 0) (sym (alone p)) (upto_of 0 (phases_at 0 p (flat_map differences_at xs)) (of_all 0 p (flat_map differences_at xs)));
        counted =
            count ∙ ap (λ i. 0 + i) (count-begun keyed.empty new xs leads)
            ∙ (let z : 0 + length (begun (keyed.entries keyed.empty) (keyed.entries new)) ≡ range_count (new ∷ []) = omega arith in z)
            ∙ ap range_count (sym all);
        trees = subst (AllByRecursion IsTree) (sym all) (leads.tree, tt);
      },
    )

-- the same phases keep the same
pub same-kept : (m k : Paths) (n r : ℕ) → HasSamePhases m k → IsKept m n r → (versions k n ≡ versions m n) × IsKept k n r
same-kept m k n r same h =
    let all : versions k n ≡ versions m n = versions-same m k n (λ t _. version-same m k same t) in (
      all,
      record {
        rise = λ p. subst IsRising (sym (same p)) (h.rise p);
        upto = λ p. subst (IsUpto n) (sym (same p)) (h.upto p);
        counted = h.counted ∙ ap range_count (sym all);
        trees = subst (AllByRecursion IsTree) (sym all) h.trees;
      },
    )

-- ---- the rows that a step is told

-- what stands in a tree is within the limits
abbrev pub IsLimited : Tree → Type 0
IsLimited t = (p : Path) (c : Content) → keyed.get t p ≡ Some c → (length p ≤ LABELS_MAX) × (text_bytes c ≤ TEXT_MAX)

pub limited-tree : (t : Tree) → IsTree t → IsLimited t
limited-tree t h p c e = (few_labels p (h.places p (ap is_some e)), h.texts p c e)

pub limited-empty : IsLimited keyed.empty
limited-empty p c e = absurd (let n = get-empty {X = Content} p in cc)

rows-fit : (t : Tree) (place : Path) (rs : List Row) → IsLimited t → entries_in rs ≡ below place t → All (FitsBelow place) rs
rows-fit t place rs h e =
    All-from_recursion (FitsBelow place) rs (rows-found (FitsBelow place) rs (entries_in rs)
    (λ r f. let l = h (place ++ r.path) r.content (sym (find-below place r.path t) ∙ ap (look r.path) (sym e) ∙ f) in let room = l.0 in let s = length-append place r.path in record { room = omega (arith, room, s); text = l.1 })
    (all-found (entries_in rs) (subst (λ es. T (is_sorted path_cmp es)) (sym e) (sorted-below place t))))

-- so what it touched can be compared
pub can-differ : (xs : List Touched) (old new : Tree) → IsLimited old → IsLimited new → AllByRecursion (IsToldOf old new) xs → All CanDiffer xs
can-differ xs old new o n h = All-from_recursion CanDiffer xs (each xs h)
  where
    each : (xs : List Touched) → AllByRecursion (IsToldOf old new) xs → AllByRecursion CanDiffer xs
    each [] h = tt
    each (x ∷ xs) h = (
      record {
        before = subst (λ es. T (is_sorted path_cmp es)) (sym h.0.before) (sorted-below x.place old);
        after = subst (λ es. T (is_sorted path_cmp es)) (sym h.0.after) (sorted-below x.place new);
        old = rows-fit old x.place x.before o h.0.before;
        new = rows-fit new x.place x.after n h.0.after;
      },
      each xs h.1,
    )

-- ---- whole trees

below_root : {X : Type 0} (es : List (Path × X)) → filter_map (entry_below []) es ≡ es
below_root [] = refl
below_root (e ∷ es) = ap (λ xs. e ∷ xs) (below_root es)

pub below-whole : (t : Tree) → below [] t ≡ keyed.entries t
unfolding below
below-whole t = below_root (keyed.entries t)

-- a step that is told all rows leads from each tree to each
pub whole-leads : (x : Touched) (old new : Tree) → x.place ≡ [] → entries_in x.before ≡ keyed.entries old → entries_in x.after ≡ keyed.entries new → IsTree new → Leads (x ∷ []) old new
whole-leads x old new root b a t = record {
  apart = (tt, tt);
  told = (record { before = b ∙ sym (ap (λ p. below p old) root ∙ below-whole old); after = a ∙ sym (ap (λ p. below p new) root ∙ below-whole new) }, tt);
  covers = λ p n. absurd (let all : is_covered (x.place ∷ []) p ≡ true = ap (λ q. is_covered (q ∷ []) p) root in cc);
  tree = t;
}

-- ---- the same with the number of the next version

pub next-kept : (m k : Paths) (n r ranges : ℕ) (xs : List Touched) (new : Tree) (ts : List Tree) → versions m n ≡ ts → IsKept m n r → Leads xs (newest ts) new → AreNoted m k (n + 1) (flat_map differences_at xs) → ranges ≡ r + count_by begins (flat_map differences_at xs)
    → (versions k (n + 1) ≡ ts ++ new ∷ []) × IsKept k (n + 1) ranges
next-kept m k n r ranges xs new ts v h leads noted count =
    let both = step-kept m k n r ranges xs new h (subst (λ us. Leads xs (newest us) new) (sym v) leads) (subst (λ i. AreNoted m k i (flat_map differences_at xs)) (add-one n) noted) count in
    (ap (versions k) (add-one n) ∙ both.0 ∙ ap (λ us. us ++ new ∷ []) v, subst (λ i. IsKept k i ranges) (sym (add-one n)) both.1)

-- what a step touched can be compared
pub step-differs : (m : Paths) (n r : ℕ) (xs : List Touched) (new : Tree) (ts : List Tree) → versions m n ≡ ts → IsKept m n r → Leads xs (newest ts) new → All CanDiffer xs
step-differs m n r xs new ts v h leads =
    can-differ xs (newest ts) new (limited-tree (newest ts) (subst IsTree (sym (newest-version m n) ∙ ap newest v) (tree-within m n r n h (omega arith)))) (limited-tree new leads.tree) leads.told

-- ---- the whole trees of the public calls

-- the rows of a tree from its root on
rows-whole : (x : Touched) (t : Tree) → x.place ≡ [] → x.after ≡ map entry_row (below x.place t) → entries_in x.after ≡ keyed.entries t
rows-whole x t root after = ap entries_in after ∙ entries_in-rows (below x.place t) ∙ ap (λ p. below p t) root ∙ below-whole t

pub tree-leads : (x : Touched) (old t : Tree) → x.place ≡ [] → x.before ≡ map entry_row (keyed.entries old) → x.after ≡ map entry_row (below x.place t) → IsTree t → Leads (x ∷ []) old t
tree-leads x old t root before after h = whole-leads x old t root (ap entries_in before ∙ entries_in-rows (keyed.entries old)) (rows-whole x t root after) h

no_entries : keyed.entries {X = Content} keyed.empty ≡ []
unfolding keyed.entries keyed.empty
no_entries = refl

pub start-leads : (x : Touched) (t : Tree) → x.place ≡ [] → x.before ≡ [] → x.after ≡ map entry_row (below x.place t) → IsTree t → Leads (x ∷ []) keyed.empty t
start-leads x t root before after h = whole-leads x keyed.empty t root (ap entries_in before ∙ sym no_entries) (rows-whole x t root after) h

pub start-differs : (x : Touched) (t : Tree) → Leads (x ∷ []) keyed.empty t → All CanDiffer (x ∷ [])
start-differs x t leads = can-differ (x ∷ []) keyed.empty t limited-empty (limited-tree t leads.tree) leads.told
