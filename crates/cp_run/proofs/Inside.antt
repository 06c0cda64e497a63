-- Of rows whose keys rise, those from one key to another.
use Rattle.std.proofs.Common.{arith, ◌≡◌, ◌<◌, ◌∙◌, ◌&&◌, inl, inr, ap, sym, refl, subst, ℕ, List, [], ◌∷◌, ◌++◌, length, Bool, true, false, true≢false, Option, Some, is_le, is_lt, is_gt, Contains}
use Rattle.std.proofs.lemmas.List.Elements.{Contains-append_right}
use Rattle.cp_path.specs.Text.{text_cmp}
use Rattle.cp_page.specs.Ranges.{is_within, rows_between, above_from, ends_above}
use Rattle.cp_page.specs.Spelled.{RiseAfter}
use Rattle.cp_page.specs.declared.row.PageRow.{PageRow}
use Rattle.cp_page.proofs.Firsts.{case_of}
use Rattle.cp_run.proofs.Keys.{below_then, above_after, above_gt, gt_above, below_not_le}
use Rattle.cp_run.proofs.Members.{none_among, first_among, more_among, among_cases}
use Rattle.cp_run.proofs.Runs.{filter_append}

module _ (low high : List ℕ) where
  pub between_append : (xs ys : List PageRow) → rows_between low high (xs ++ ys) ≡ rows_between low high xs ++ rows_between low high ys
  between_append xs ys = filter_append (λ r. is_within low high r.key) xs ys

  none_right : (b : Bool) → (b && false) ≡ false
  none_right true = refl
  none_right false = refl

  -- after a key that is above there is none
  pub none_above : (a : List ℕ) (ys : List PageRow) → is_le (text_cmp a high) ≡ false → RiseAfter (Some a) ys → rows_between low high ys ≡ []
  none_above a [] above rise = refl
  none_above a (y ∷ ys) above rise =
      let here = above_after high a y.key above rise.0 in
      let out : is_within low high y.key ≡ false = ap (λ b. is_le (text_cmp low y.key) && b) here ∙ none_right (is_le (text_cmp low y.key)) in
      rw out (none_above y.key ys here rise.1)

  -- where the last of some rows is above, there is none after them
  past_from : (a : List ℕ) (past : Bool) (xs ys : List PageRow) → (past ≡ true → is_le (text_cmp a high) ≡ false) → above_from high past xs ≡ true → RiseAfter (Some a) (xs ++ ys) → rows_between low high ys ≡ []
  past_from a past [] ys is ends rise = none_above a ys (is ends) rise
  past_from a past (x ∷ xs) ys is ends rise = past_from x.key (is_gt (text_cmp x.key high)) xs ys (gt_above x.key high) ends rise.1

  pub none_past : (before : Option (List ℕ)) (x : PageRow) (xs ys : List PageRow) → ends_above high (x ∷ xs) ≡ true → RiseAfter before ((x ∷ xs) ++ ys) → rows_between low high ys ≡ []
  none_past before x xs ys ends rise = past_from x.key (is_gt (text_cmp x.key high)) xs ys (gt_above x.key high) ends rise.1

  -- after a key that is above, the last is above
  above_stays : (a : List ℕ) (xs : List PageRow) → is_le (text_cmp a high) ≡ false → RiseAfter (Some a) xs → above_from high true xs ≡ true
  above_stays a [] above rise = refl
  above_stays a (x ∷ xs) above rise = let here = above_after high a x.key above rise.0 in rw (above_gt x.key high here) (above_stays x.key xs here rise.1)

  -- where the last isn't above, the first isn't
  first_by : (before : Option (List ℕ)) (x : PageRow) (xs : List PageRow) → ends_above high (x ∷ xs) ≡ false → RiseAfter before (x ∷ xs) → is_le (text_cmp x.key high) ≡ true
  first_by before x xs ends rise = elim (case_of (is_le (text_cmp x.key high))) [
    | inl is ↦ is
    | inr above ↦ absurd (true≢false (sym (above_stays x.key xs above rise.1) ∙ sym (ap (λ b. above_from high b xs) (above_gt x.key high above)) ∙ ends))
  ]

  -- where the last isn't above, and the first isn't below, there is one
  pub one_inside : (before : Option (List ℕ)) (x : PageRow) (xs : List PageRow) → is_le (text_cmp low x.key) ≡ true → ends_above high (x ∷ xs) ≡ false → RiseAfter before (x ∷ xs) → 0 < length (rows_between low high (x ∷ xs))
  one_inside before x xs from ends rise =
      let by = first_by before x xs ends rise in
      let in_range : is_within low high x.key ≡ true = ap (λ b. b && is_le (text_cmp x.key high)) from ∙ by in
      rw in_range (omega arith)

  -- rows that are all below are none of them
  pub none_below : (xs : List PageRow) → ((x : PageRow) → Contains xs x → is_lt (text_cmp x.key low) ≡ true) → rows_between low high xs ≡ []
  none_below [] all = refl
  none_below (x ∷ xs) all =
      let out : is_within low high x.key ≡ false = ap (λ b. b && is_le (text_cmp x.key high)) (below_not_le x.key low (all x (first_among x xs))) in
      rw out (none_below xs (λ y h. all y (more_among x xs y h)))

-- a key before others is below each of them
pub below_all : (a : List ℕ) (ys : List PageRow) → RiseAfter (Some a) ys → (y : PageRow) → Contains ys y → is_lt (text_cmp a y.key) ≡ true
below_all a [] rise y h = absurd (none_among [] y refl h)
below_all a (x ∷ xs) rise y h = elim (among_cases x xs y h) [
  | inl same ↦ subst (λ (z : PageRow). is_lt (text_cmp a z.key) ≡ true) same rise.0
  | inr more ↦ below_then a x.key y.key rise.0 (below_all x.key xs rise.1 y more)
]

-- rows before another are below it
pub all_below : (before : Option (List ℕ)) (xs : List PageRow) (y : PageRow) (ys : List PageRow) → RiseAfter before (xs ++ y ∷ ys) → (x : PageRow) → Contains xs x → is_lt (text_cmp x.key y.key) ≡ true
all_below before [] y ys rise x h = absurd (none_among [] x refl h)
all_below before (w ∷ xs) y ys rise x h = elim (among_cases w xs x h) [
  | inl same ↦ subst (λ (z : PageRow). is_lt (text_cmp z.key y.key) ≡ true) same (below_all w.key (xs ++ y ∷ ys) rise.1 y (Contains-append_right xs (y ∷ ys) y (first_among y ys)))
  | inr more ↦ all_below (Some w.key) xs y ys rise.1 x more
]
