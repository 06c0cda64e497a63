-- What the differences of a step say of the tree after it.
use Rattle.std.specs.Prelude.{◌≡◌, ◌||◌, Bool, true, false, cond, List, [], ◌∷◌, ◌++◌, is_some, refl, if◌then◌else◌}
use Rattle.std.proofs.Common.{sym, ap, ◌∙◌, T}
use Rattle.std.specs.List.{flat_map, list_any, AllByRecursion}
use Rattle.std.specs.Ordering.{is_lt}
use Rattle.std.specs.declared.option.Option.{Option}
use Rattle.std.specs.declared.option.Option.TheVariants.{None, Some}
use Rattle.std.specs.FinMap.Entries.{is_sorted, below_all}
use Rattle.std.proofs.lemmas.List.Folds.{list_any-append}
use Rattle.cp_path.specs.PathOrder.{path_eq_equiv}
use Rattle.cp_path.proofs.Same.{path_eq-same}
use Rattle.cp_model.specs.Place.{Path, path_eq, path_cmp, strip}
use Rattle.cp_model.specs.Keyed as keyed
use Rattle.cp_model.specs.Keyed.{look}
use Rattle.cp_model.specs.Tree.{Tree}
use Rattle.cp_model.specs.declared.row.Row.{Row}
use Rattle.cp_model.specs.declared.row.Content.{Content}
use Rattle.cp_model.proofs.Lookups.{find-below, starts_with-strip}
use Rattle.cp_model.proofs.Sorted.{parts_of}
use Rattle.cp_model.proofs.Strips.{strip_is}
use Rattle.cp_tree.specs.Rows.{entries_in}
use Rattle.cp_archive.specs.Ranges.{is_content}
use Rattle.cp_archive.specs.declared.difference.Difference.{Difference}
use Rattle.cp_archive.specs.declared.touched.Touched.{Touched}
use Rattle.cp_archive.specs.Differences.{gone_at, begun_at, differences_at}
use Rattle.cp_archive.specs.Touching.{is_covered, places_of, IsToldOf, Leads}
use Rattle.cp_archive.proofs.Finding.{other_path, less}
use Rattle.cp_archive.proofs.Contents.{content-same}

-- ---- lists

all-append : {X : Type 0} (P : X → Type 0) (xs ys : List X) → AllByRecursion P xs → AllByRecursion P ys → AllByRecursion P (xs ++ ys)
all-append P [] ys a b = b
all-append P (x ∷ xs) ys a b = (a.0, all-append P xs ys a.1 b)

pub all-flat : {X Y : Type 0} (P : X → Type 0) (Q : Y → Type 0) (f : X → List Y) → ((x : X) → P x → AllByRecursion Q (f x)) → (xs : List X) → AllByRecursion P xs → AllByRecursion Q (flat_map f xs)
all-flat P Q f h [] a = tt
all-flat P Q f h (x ∷ xs) a = all-append Q (f x) (flat_map f xs) (h x a.0) (all-flat P Q f h xs a.1)

or_false : (a b : Bool) → (a || b) ≡ false → (a ≡ false) × (b ≡ false)
or_false true b h = absurd (cc)
or_false false b h = (refl, h)

-- ---- rows in order are found

later_found : {X : Type 0} (k : Path) (x : X) (es all : List (Path × X)) → T (below_all path_cmp k es) → AllByRecursion (λ e. look e.0 all ≡ Some e.1) es → AllByRecursion (λ e. look e.0 ((k, x) ∷ all) ≡ Some e.1) es
later_found k x [] all h a = tt
later_found k x (e ∷ es) all h a =
    let parts = parts_of (is_lt (path_cmp k e.0)) (below_all path_cmp k es) h in
    (ap (λ b. cond b (Some x) (look e.0 all)) (other_path k e.0 (less _ parts.0)) ∙ a.0, later_found k x es all parts.1 a.1)

-- each of the entries, which rise, is the one that is found at its path
pub all-found : {X : Type 0} (es : List (Path × X)) → T (is_sorted path_cmp es) → AllByRecursion (λ e. look e.0 es ≡ Some e.1) es
all-found [] h = tt
all-found (e ∷ es) h =
    let parts = parts_of (below_all path_cmp e.0 es) (is_sorted path_cmp es) h in
    (ap (λ b. cond b (Some e.1) (look e.0 es)) (path_eq_equiv.refl e.0), later_found e.0 e.1 es es parts.0 (all-found es parts.1))

-- the same of rows
pub rows-found : (P : Row → Type 0) (rs : List Row) (all : List (Path × Content)) → ((r : Row) → look r.path all ≡ Some r.content → P r) → AllByRecursion (λ e. look e.0 all ≡ Some e.1) (entries_in rs) → AllByRecursion P rs
rows-found P [] all f a = tt
rows-found P (r ∷ rs) all f a = (f r a.0, rows-found P rs all f a.1)

-- ---- what a difference says is so in the tree after the step

module _ (old new : Tree) where
  abbrev pub Says : Difference → Type 0
  Says d = d.content ≡ keyed.get new d.path

  gone_says : (x : Touched) → IsToldOf old new x → (r : Row) → AllByRecursion Says (gone_at x.place x.after r)
  gone_says x h r = elim (look r.path (entries_in x.after)) as (λ o. look r.path (entries_in x.after) ≡ o → AllByRecursion Says (if is_some o then [] else record { path = x.place ++ r.path; content = None } ∷ [])) [
    | Some c ↦ λ _. tt
    | None ↦ λ e. (sym e ∙ ap (look r.path) h.after ∙ find-below x.place r.path new, tt)
  ] refl

  begun_says : (x : Touched) → IsToldOf old new x → (r : Row) → look r.path (entries_in x.after) ≡ Some r.content → AllByRecursion Says (begun_at x.place x.before r)
  begun_says x h r e = elim (is_content (look r.path (entries_in x.before)) r.content) as (λ b. AllByRecursion Says (if b then [] else record { path = x.place ++ r.path; content = Some r.content } ∷ [])) [
    | true ↦ tt
    | false ↦ (sym e ∙ ap (look r.path) h.after ∙ find-below x.place r.path new, tt)
  ]

  all_rows : (rs : List Row) → AllByRecursion (λ (r : Row). Unit {0}) rs
  all_rows [] = tt
  all_rows (r ∷ rs) = (tt, all_rows rs)

  pub says-at : (x : Touched) → T (is_sorted path_cmp (entries_in x.after)) → IsToldOf old new x → AllByRecursion Says (differences_at x)
  says-at x s h =
      all-append Says (flat_map (gone_at x.place x.after) x.before) (flat_map (begun_at x.place x.before) x.after)
      (all-flat (λ _. Unit {0}) Says (gone_at x.place x.after) (λ r _. gone_says x h r) x.before (all_rows x.before))
      (all-flat (λ r. look r.path (entries_in x.after) ≡ Some r.content) Says (begun_at x.place x.before) (λ r e. begun_says x h r e) x.after
      (rows-found _ x.after (entries_in x.after) (λ r e. e) (all-found (entries_in x.after) s)))

  -- ---- and a path without a difference has what it had

  no_gone : (x : Touched) (s : Path) (rs : List Row) (c : Content) → list_any (λ (d : Difference). path_eq (x.place ++ s) d.path) (flat_map (gone_at x.place x.after) rs) ≡ false → look s (entries_in rs) ≡ Some c → is_some (look s (entries_in x.after)) ≡ true
  no_gone x s [] c n h = absurd (cc)
  no_gone x s (r ∷ rs) c n h =
      let parts = or_false _ _ (sym (list_any-append (λ (d : Difference). path_eq (x.place ++ s) d.path) (gone_at x.place x.after r) (flat_map (gone_at x.place x.after) rs)) ∙ n) in
      elim (path_eq s r.path) as (λ b. path_eq s r.path ≡ b → cond b (Some r.content) (look s (entries_in rs)) ≡ Some c → is_some (look s (entries_in x.after)) ≡ true) [
        | false ↦ λ _ h. no_gone x s rs c parts.1 h
        | true ↦ λ e _.
            let same : s ≡ r.path = path_eq-same s r.path e in
            ap (λ q. is_some (look q (entries_in x.after))) same ∙ there r (is_some (look r.path (entries_in x.after))) refl same parts.0
      ] refl h
    where
      there : (r : Row) (b : Bool) → is_some (look r.path (entries_in x.after)) ≡ b → s ≡ r.path → list_any (λ (d : Difference). path_eq (x.place ++ s) d.path) (if b then [] else record { path = x.place ++ r.path; content = None } ∷ []) ≡ false → is_some (look r.path (entries_in x.after)) ≡ true
      there r true i same n = i
      there r false i same n = absurd (let own : path_eq (x.place ++ s) (x.place ++ r.path) ≡ true = ap (λ q. path_eq (x.place ++ s) (x.place ++ q)) (sym same) ∙ path_eq_equiv.refl (x.place ++ s) in let no = (or_false (path_eq (x.place ++ s) (x.place ++ r.path)) false n).0 in cc)

  no_begun : (x : Touched) (s : Path) (rs : List Row) (c : Content) → list_any (λ (d : Difference). path_eq (x.place ++ s) d.path) (flat_map (begun_at x.place x.before) rs) ≡ false → look s (entries_in rs) ≡ Some c → is_content (look s (entries_in x.before)) c ≡ true
  no_begun x s [] c n h = absurd (cc)
  no_begun x s (r ∷ rs) c n h =
      let parts = or_false _ _ (sym (list_any-append (λ (d : Difference). path_eq (x.place ++ s) d.path) (begun_at x.place x.before r) (flat_map (begun_at x.place x.before) rs)) ∙ n) in
      elim (path_eq s r.path) as (λ b. path_eq s r.path ≡ b → cond b (Some r.content) (look s (entries_in rs)) ≡ Some c → is_content (look s (entries_in x.before)) c ≡ true) [
        | false ↦ λ _ h. no_begun x s rs c parts.1 h
        | true ↦ λ e h.
            let same : s ≡ r.path = path_eq-same s r.path e in
            let value : c ≡ r.content = cc in
            ap (λ q. is_content (look q (entries_in x.before)) c) same ∙ ap (is_content (look r.path (entries_in x.before))) value ∙ there r (is_content (look r.path (entries_in x.before)) r.content) refl same parts.0
      ] refl h
    where
      there : (r : Row) (b : Bool) → is_content (look r.path (entries_in x.before)) r.content ≡ b → s ≡ r.path → list_any (λ (d : Difference). path_eq (x.place ++ s) d.path) (if b then [] else record { path = x.place ++ r.path; content = Some r.content } ∷ []) ≡ false
          → is_content (look r.path (entries_in x.before)) r.content ≡ true
      there r true i same n = i
      there r false i same n = absurd (let own : path_eq (x.place ++ s) (x.place ++ r.path) ≡ true = ap (λ q. path_eq (x.place ++ s) (x.place ++ q)) (sym same) ∙ path_eq_equiv.refl (x.place ++ s) in let no = (or_false (path_eq (x.place ++ s) (x.place ++ r.path)) false n).0 in cc)

  same_rows : (o n : Option Content) → ((c : Content) → o ≡ Some c → is_some n ≡ true) → ((c : Content) → n ≡ Some c → is_content o c ≡ true) → n ≡ o
  same_rows None None g b = refl
  same_rows (Some c) None g b = absurd (let h = g c refl in cc)
  same_rows None (Some c) g b = absurd (let h = b c refl in cc)
  same_rows (Some d) (Some c) g b = ap (λ x. Some x) (sym (content-same d c (b c refl)))

  kept_at : (x : Touched) (s : Path) → IsToldOf old new x → list_any (λ (d : Difference). path_eq (x.place ++ s) d.path) (differences_at x) ≡ false → keyed.get new (x.place ++ s) ≡ keyed.get old (x.place ++ s)
  kept_at x s h n =
      let parts = or_false _ _ (sym (list_any-append (λ (d : Difference). path_eq (x.place ++ s) d.path) (flat_map (gone_at x.place x.after) x.before) (flat_map (begun_at x.place x.before) x.after)) ∙ n) in
      sym (ap (look s) h.after ∙ find-below x.place s new)
      ∙ same_rows (look s (entries_in x.before)) (look s (entries_in x.after)) (λ c e. no_gone x s x.before c parts.0 e) (λ c e. no_begun x s x.after c parts.1 e)
      ∙ (ap (look s) h.before ∙ find-below x.place s old)

  kept_in : (xs : List Touched) (p : Path) → AllByRecursion (IsToldOf old new) xs → list_any (λ (d : Difference). path_eq p d.path) (flat_map differences_at xs) ≡ false → is_covered (places_of xs) p ≡ true → keyed.get new p ≡ keyed.get old p
  kept_in [] p h n c = absurd (cc)
  kept_in (x ∷ xs) p h n c =
      let parts = or_false _ _ (sym (list_any-append (λ (d : Difference). path_eq p d.path) (differences_at x) (flat_map differences_at xs)) ∙ n) in
      elim (strip x.place p) as (λ o. strip x.place p ≡ o → (is_some o || is_covered (places_of xs) p) ≡ true → keyed.get new p ≡ keyed.get old p) [
        | None ↦ λ _ c. kept_in xs p h.1 parts.1 c
        | Some s ↦ λ e _.
            let at : p ≡ x.place ++ s = strip_is x.place p s e in
            ap (keyed.get new) at ∙ kept_at x s h.0 (ap (λ q. list_any (λ (d : Difference). path_eq q d.path) (differences_at x)) (sym at) ∙ parts.0) ∙ ap (keyed.get old) (sym at)
      ] refl (ap (λ b. b || is_covered (places_of xs) p) (sym (starts_with-strip p x.place)) ∙ c)

  -- a path at which no difference is has what it had
  pub kept : (xs : List Touched) → Leads xs old new → (p : Path) → list_any (λ (d : Difference). path_eq p d.path) (flat_map differences_at xs) ≡ false → keyed.get new p ≡ keyed.get old p
  kept xs h p n = elim (is_covered (places_of xs) p) as (λ b. is_covered (places_of xs) p ≡ b → keyed.get new p ≡ keyed.get old p) [
    | true ↦ λ c. kept_in xs p h.told n c
    | false ↦ λ c. h.covers p c
  ] refl
