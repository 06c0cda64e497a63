-- How many ranges begin where a step leads from one tree to another.
use Rattle.std.specs.Prelude.{ℕ, ◌+◌, ◌≡◌, ◌||◌, Bool, true, false, cond, not, List, [], ◌∷◌, ◌++◌, length, is_some, sum_by, refl, if◌then◌else◌}
use Rattle.std.proofs.Common.{sym, ap, ◌∙◌, arith}
use Rattle.std.specs.List.{flat_map, filter_map, cons_option, count_by, AllByRecursion}
use Rattle.std.specs.Option.{option_map}
use Rattle.std.specs.declared.option.Option.TheVariants.{None, Some}
use Rattle.std.specs.Cmp.Lexicographic.{nat_list_eq_equiv}
use Rattle.std.proofs.lemmas.List.Sums.{sum_by-cons, sum_by-append, length-filter}
use Rattle.cp_path.proofs.Same.{text_eq-same}
use Rattle.cp_model.specs.Place.{Path, label_eq, strip, starts_with}
use Rattle.cp_model.specs.Keyed as keyed
use Rattle.cp_model.specs.Keyed.{look}
use Rattle.cp_model.specs.Subtrees.{below, entry_below}
use Rattle.cp_model.specs.Tree.{Tree}
use Rattle.cp_model.specs.declared.row.Row.{Row}
use Rattle.cp_model.specs.declared.row.Content.{Content}
use Rattle.cp_model.proofs.KeyedLemmas.{get-entries}
use Rattle.cp_model.proofs.Lookups.{find-below, starts_with-strip}
use Rattle.cp_model.proofs.Sorted.{sorted-entries}
use Rattle.cp_model.proofs.Strips.{strip_is}
use Rattle.cp_tree.specs.Rows.{entries_in}
use Rattle.cp_archive.specs.Ranges.{is_content, begun}
use Rattle.cp_archive.specs.declared.difference.Difference.{Difference}
use Rattle.cp_archive.specs.declared.touched.Touched.{Touched}
use Rattle.cp_archive.specs.Differences.{gone_at, begun_at, differences_at, begins}
use Rattle.cp_archive.specs.Touching.{IsApart, AreApart, is_covered, places_of, IsToldOf, Leads}
use Rattle.cp_archive.proofs.Contents.{content-own}
use Rattle.cp_archive.proofs.Differing.{all-found}

-- 1 where an entry isn't among the old ones
abbrev one : List (Path × Content) → Path × Content → ℕ
one old e = cond (not (is_content (look e.0 old) e.1)) 1 0

-- ---- the differences at one place

count-append : (ds es : List Difference) → count_by begins (ds ++ es) ≡ count_by begins ds + count_by begins es
count-append ds es = sum_by-append (λ d. cond (begins d) 1 0) ds es

gone-none : (b : Bool) (p : Path) → count_by begins (if b then [] else record { path = p; content = None } ∷ []) ≡ 0
gone-none true p = refl
gone-none false p = refl

none-begin : (place : Path) (after rs : List Row) → count_by begins (flat_map (gone_at place after) rs) ≡ 0
none-begin place after [] = refl
none-begin place after (r ∷ rs) =
    let a = count-append (gone_at place after r) (flat_map (gone_at place after) rs) in
    let b = gone-none (is_some (look r.path (entries_in after))) (place ++ r.path) in
    let c = none-begin place after rs in
    omega (arith, a, b, c)

begun-one : (b : Bool) (p : Path) (c : Content) → count_by begins (if b then [] else record { path = p; content = Some c } ∷ []) ≡ cond (not b) 1 0
begun-one true p c = refl
begun-one false p c = refl

some-begin : (place : Path) (before rs : List Row) → count_by begins (flat_map (begun_at place before) rs) ≡ sum_by (one (entries_in before)) (entries_in rs)
some-begin place before [] = refl
some-begin place before (r ∷ rs) =
    count-append (begun_at place before r) (flat_map (begun_at place before) rs)
    ∙ ap (λ n. n + count_by begins (flat_map (begun_at place before) rs)) (begun-one (is_content (look r.path (entries_in before)) r.content) (place ++ r.path) r.content)
    ∙ ap (λ n. one (entries_in before) (r.path, r.content) + n) (some-begin place before rs)
    ∙ sym (sum_by-cons (one (entries_in before)) (r.path, r.content) (entries_in rs))

count-at : (x : Touched) → count_by begins (differences_at x) ≡ sum_by (one (entries_in x.before)) (entries_in x.after)
count-at x =
    let a = count-append (flat_map (gone_at x.place x.after) x.before) (flat_map (begun_at x.place x.before) x.after) in
    let b = none-begin x.place x.after x.before in
    let c = some-begin x.place x.before x.after in
    omega (arith, a, b, c)

-- ---- seen from the whole trees

module _ (old : Tree) where
  -- 1 where an entry at or below q begins a range
  abbrev under : Path → Path × Content → ℕ
  under q e = if starts_with e.0 q then one (keyed.entries old) e else 0

  -- 1 where an entry at or below one of the places does
  abbrev covered : List Path → Path × Content → ℕ
  covered ps e = if is_covered ps e.0 then one (keyed.entries old) e else 0

  below-one : (q s p : Path) (c : Content) → p ≡ q ++ s → one (below q old) (s, c) ≡ one (keyed.entries old) (p, c)
  below-one q s p c e = ap (λ o. cond (not (is_content o c)) 1 0) (find-below q s old ∙ get-entries old (q ++ s) ∙ ap (λ r. look r (keyed.entries old)) (sym e))

  below-sum : (q : Path) (es : List (Path × Content)) → sum_by (one (below q old)) (filter_map (entry_below q) es) ≡ sum_by (under q) es
  below-sum q [] = refl
  below-sum q (e ∷ es) =
      elim (strip q e.0) as (λ o. strip q e.0 ≡ o → sum_by (one (below q old)) (cons_option (option_map (λ s. (s, e.1)) o) (filter_map (entry_below q) es)) ≡ (if is_some o then one (keyed.entries old) e else 0) + sum_by (under q) es) [
        | None ↦ λ _. (let h = below-sum q es in omega (arith, h))
        | Some s ↦ λ k.
            sum_by-cons (one (below q old)) (s, e.1) (filter_map (entry_below q) es)
            ∙ ap (λ n. n + sum_by (one (below q old)) (filter_map (entry_below q) es)) (below-one q s e.0 e.1 (strip_is q e.0 s k))
            ∙ ap (λ n. one (keyed.entries old) e + n) (below-sum q es)
      ] refl
      ∙ ap (λ b. (if b then one (keyed.entries old) e else 0) + sum_by (under q) es) (sym (starts_with-strip e.0 q))
      ∙ sym (sum_by-cons (under q) e es)

  place-sum : (q : Path) (new : Tree) → sum_by (one (below q old)) (below q new) ≡ sum_by (under q) (keyed.entries new)
  unfolding below
  place-sum q new = below-sum q (keyed.entries new)

  count-under : (new : Tree) (x : Touched) → IsToldOf old new x → count_by begins (differences_at x) ≡ sum_by (under x.place) (keyed.entries new)
  count-under new x h =
      count-at x
      ∙ ap (λ es. sum_by (one es) (entries_in x.after)) h.before
      ∙ ap (sum_by (one (below x.place old))) h.after
      ∙ place-sum x.place new

-- ---- places that lie apart

-- a path doesn't lie below two places that lie apart
both-below : (r p q : Path) → starts_with r p ≡ true → starts_with r q ≡ true → starts_with p q ≡ false → starts_with q p ≡ false → ⊥
both-below r [] q a b c d = cc
both-below r (x ∷ p) [] a b c d = cc
both-below [] (x ∷ p) (y ∷ q) a b c d = cc
both-below (z ∷ r) (x ∷ p) (y ∷ q) a b c d =
    let first = cond_true (label_eq x z) (starts_with r p) a in
    let second = cond_true (label_eq y z) (starts_with r q) b in
    let same : x ≡ y = text_eq-same x z first.0 ∙ sym (text_eq-same y z second.0) in
    both-below r p q first.1 second.1
    (sym (ap (λ l. cond (label_eq y l) (starts_with p q) false) same ∙ ap (λ b. cond b (starts_with p q) false) (nat_list_eq_equiv.refl y)) ∙ c)
    (sym (ap (λ l. cond (label_eq x l) (starts_with q p) false) (sym same) ∙ ap (λ b. cond b (starts_with q p) false) (nat_list_eq_equiv.refl x)) ∙ d)
  where
    cond_true : (b c : Bool) → cond b c false ≡ true → (b ≡ true) × (c ≡ true)
    cond_true true c h = (refl, h)
    cond_true false c h = absurd (cc)

-- so it lies below none of the others
below-no-other : (r p : Path) (ps : List Path) → starts_with r p ≡ true → AllByRecursion (IsApart p) ps → is_covered ps r ≡ false
below-no-other r p [] h a = refl
below-no-other r p (q ∷ ps) h a =
    elim (starts_with r q) as (λ b. starts_with r q ≡ b → (b || is_covered ps r) ≡ false) [
      | true ↦ λ k. absurd (both-below r p q h k a.0.not_below a.0.not_above)
      | false ↦ λ _. below-no-other r p ps h a.1
    ] refl

sum-add : {X : Type 0} (f g h : X → ℕ) (xs : List X) → ((x : X) → f x + g x ≡ h x) → sum_by f xs + sum_by g xs ≡ sum_by h xs
sum-add f g h [] e = refl
sum-add f g h (x ∷ xs) e =
    let a = sum_by-cons f x xs in
    let b = sum_by-cons g x xs in
    let c = sum_by-cons h x xs in
    let d = sum-add f g h xs e in
    let k = e x in
    omega (arith, a, b, c, d, k)

sum-none : {X : Type 0} (f : X → ℕ) (xs : List X) → ((x : X) → f x ≡ 0) → sum_by f xs ≡ 0
sum-none f [] e = refl
sum-none f (x ∷ xs) e = let a = sum_by-cons f x xs in let b = e x in let c = sum-none f xs e in omega (arith, a, b, c)

module _ (old new : Tree) where
  one-more : (p : Path) (ps : List Path) → AllByRecursion (IsApart p) ps → (e : Path × Content) → under old p e + covered old ps e ≡ covered old (p ∷ ps) e
  one-more p ps a e =
      elim (starts_with e.0 p) as (λ b. starts_with e.0 p ≡ b → (if b then one (keyed.entries old) e else 0) + covered old ps e ≡ (if b || is_covered ps e.0 then one (keyed.entries old) e else 0)) [
        | true ↦ λ h. (let none : covered old ps e ≡ 0 = ap (λ b. if b then one (keyed.entries old) e else 0) (below-no-other e.0 p ps h a) in omega (arith, none))
        | false ↦ λ _. omega arith
      ] refl

  count-covered : (xs : List Touched) → AreApart (places_of xs) → AllByRecursion (IsToldOf old new) xs → count_by begins (flat_map differences_at xs) ≡ sum_by (covered old (places_of xs)) (keyed.entries new)
  count-covered [] a h = sym (sum-none (covered old []) (keyed.entries new) (λ e. refl))
  count-covered (x ∷ xs) a h =
      count-append (differences_at x) (flat_map differences_at xs)
      ∙ ap (λ n. n + count_by begins (flat_map differences_at xs)) (count-under old new x h.0)
      ∙ ap (λ n. sum_by (under old x.place) (keyed.entries new) + n) (count-covered xs a.1 h.1)
      ∙ sum-add (under old x.place) (covered old (places_of xs)) (covered old (x.place ∷ places_of xs)) (keyed.entries new) (one-more x.place (places_of xs) a.0)

  -- an entry of the new tree that lies below no place is an old one
  all-covered : (xs : List Touched) → Leads xs old new → (es : List (Path × Content)) → AllByRecursion (λ e. look e.0 (keyed.entries new) ≡ Some e.1) es → sum_by (covered old (places_of xs)) es ≡ sum_by (one (keyed.entries old)) es
  all-covered xs h [] a = refl
  all-covered xs h (e ∷ es) a =
      sum_by-cons (covered old (places_of xs)) e es
      ∙ ap (λ n. n + sum_by (covered old (places_of xs)) es) (is_one (is_covered (places_of xs) e.0) refl)
      ∙ ap (λ n. one (keyed.entries old) e + n) (all-covered xs h es a.1)
      ∙ sym (sum_by-cons (one (keyed.entries old)) e es)
    where
      is_one : (b : Bool) → is_covered (places_of xs) e.0 ≡ b → (if is_covered (places_of xs) e.0 then one (keyed.entries old) e else 0) ≡ one (keyed.entries old) e
      is_one true k = ap (λ b. if b then one (keyed.entries old) e else 0) k
      is_one false k =
          let there : look e.0 (keyed.entries old) ≡ Some e.1 = sym (get-entries old e.0) ∙ sym (h.covers e.0 k) ∙ get-entries new e.0 ∙ a.0 in
          ap (λ b. if b then one (keyed.entries old) e else 0) k
          ∙ sym (ap (λ o. cond (not (is_content o e.1)) 1 0) there ∙ ap (λ b. cond (not b) 1 0) (content-own e.1))

  -- the differences with a content are as many as the ranges that begin
  pub count-begun : (xs : List Touched) → Leads xs old new → count_by begins (flat_map differences_at xs) ≡ length (begun (keyed.entries old) (keyed.entries new))
  count-begun xs h =
      count-covered xs h.apart h.told
      ∙ all-covered xs h (keyed.entries new) (all-found (keyed.entries new) (sorted-entries new))
      ∙ sym (length-filter (λ e. not (is_content (look e.0 (keyed.entries old)) e.1)) (keyed.entries new))
