-- The greatest of rows whose keys rise, and of the rows of two lists.
use Rattle.std.proofs.Common.{◌≡◌, ◌∙◌, inl, inr, sym, refl, subst, ℕ, List, [], ◌∷◌, ◌++◌, true, false, true≢false, Option, Some, None, is_le, is_lt, Contains}
use Rattle.std.specs.Prelude.{if◌then◌else◌}
use Rattle.std.proofs.lemmas.List.Elements.{Contains-append_left, Contains-append_right, Contains-append_cases}
use Rattle.cp_path.specs.Text.{text_cmp}
use Rattle.cp_page.specs.Rows.{last_from, greatest}
use Rattle.cp_page.specs.Spelled.{RiseAfter}
use Rattle.cp_page.specs.declared.row.PageRow.{PageRow}
use Rattle.cp_page.proofs.Firsts.{case_of}
use Rattle.cp_run.specs.Answers.{later, IsGreatest}
use Rattle.cp_run.proofs.Keys.{le_itself, le_then, below_le, not_below, above_after}
use Rattle.cp_run.proofs.Members.{none_among, first_among, more_among, among_cases}

-- the rows after others whose keys rise rise too
pub rise_after : (before : Option (List ℕ)) (xs ys : List PageRow) → RiseAfter before (xs ++ ys) → (b : Option (List ℕ)) × RiseAfter b ys
rise_after before [] ys rise = (before, rise)
rise_after before (x ∷ xs) ys rise = rise_after (Some x.key) xs ys rise.1

module _ (key : List ℕ) where
  pub last_append : (best : Option PageRow) (xs ys : List PageRow) → last_from key best (xs ++ ys) ≡ last_from key (last_from key best xs) ys
  last_append best [] ys = refl
  last_append best (x ∷ xs) ys = last_append (if is_le (text_cmp x.key key) then Some x else best) xs ys

  -- after a row that is above, all are
  pub none_counts : (best : Option PageRow) (a : List ℕ) (ys : List PageRow) → is_le (text_cmp a key) ≡ false → RiseAfter (Some a) ys → last_from key best ys ≡ best
  none_counts best a [] above rise = refl
  none_counts best a (y ∷ ys) above rise = let here = above_after key a y.key above rise.0 in rw here (none_counts best y.key ys here rise.1)

  pub all_above : (a : List ℕ) (ys : List PageRow) → is_le (text_cmp a key) ≡ false → RiseAfter (Some a) ys → (r : PageRow) → Contains ys r → is_le (text_cmp r.key key) ≡ false
  all_above a [] above rise r h = absurd (none_among [] r refl h)
  all_above a (y ∷ ys) above rise r h =
      let here = above_after key a y.key above rise.0 in
      elim (among_cases y ys r h) [
        | inl same ↦ subst (λ (x : PageRow). is_le (text_cmp x.key key) ≡ false) same here
        | inr more ↦ all_above y.key ys here rise.1 r more
      ]

  -- where the first is above, what was best before stays
  pub first_above : (best : Option PageRow) (before : Option (List ℕ)) (r : PageRow) (ys : List PageRow) → is_le (text_cmp r.key key) ≡ false → RiseAfter before (r ∷ ys) → last_from key best (r ∷ ys) ≡ best
  first_above best before r ys above rise = rw above (none_counts best r.key ys above rise.1)

  -- where the first isn't above, what was best before doesn't count
  pub first_counts : (best : Option PageRow) (r : PageRow) (rs : List PageRow) → is_le (text_cmp r.key key) ≡ true → last_from key best (r ∷ rs) ≡ greatest key (r ∷ rs)
  first_counts best r rs below = rw below

  -- a lesser row in front changes nothing
  more_in_front : (r s : PageRow) (rows : List PageRow) (o : Option PageRow) → is_lt (text_cmp r.key s.key) ≡ true → Contains rows s → is_le (text_cmp s.key key) ≡ true → IsGreatest key rows o → IsGreatest key (r ∷ rows) o
  more_in_front r s rows None lesser here below is = absurd (true≢false (sym below ∙ is s here))
  more_in_front r s rows (Some f) lesser here below is = (
    more_among r rows f is.0,
    is.1,
    λ x h ok. elim (among_cases r rows x h) [
      | inl same ↦ subst (λ (y : PageRow). is_le (text_cmp y.key f.key) ≡ true) same (le_then r.key s.key f.key (below_le r.key s.key lesser) (is.2 s here below))
      | inr more ↦ is.2 x more ok
    ],
  )

  last_is : (r : PageRow) (rs : List PageRow) → is_le (text_cmp r.key key) ≡ true → RiseAfter (Some r.key) rs → IsGreatest key (r ∷ rs) (last_from key (Some r) rs)
  last_is r [] below rise = (
    first_among r [],
    below,
    λ x h ok. elim (among_cases r [] x h) [
      | inl same ↦ subst (λ (y : PageRow). is_le (text_cmp y.key r.key) ≡ true) same (le_itself r.key)
      | inr none ↦ absurd (none_among [] x refl none)
    ],
  )
  last_is r (s ∷ ss) below rise = elim (case_of (is_le (text_cmp s.key key))) [
    | inl here ↦ rw here (more_in_front r s (s ∷ ss) (last_from key (Some s) ss) rise.0 (first_among s ss) here (last_is s ss here rise.1))
    | inr above ↦ rw above (subst (IsGreatest key (r ∷ s ∷ ss)) (sym (none_counts (Some r) s.key ss above rise.1)) (
      first_among r (s ∷ ss),
      below,
      λ x h ok. elim (among_cases r (s ∷ ss) x h) [
        | inl same ↦ subst (λ (y : PageRow). is_le (text_cmp y.key r.key) ≡ true) same (le_itself r.key)
        | inr more ↦ elim (among_cases s ss x more) [
          | inl same ↦ absurd (true≢false (sym ok ∙ subst (λ (y : PageRow). is_le (text_cmp y.key key) ≡ false) same above))
          | inr rest ↦ absurd (true≢false (sym ok ∙ all_above s.key ss above rise.1 x rest))
        ]
      ],
    ))
  ]

  -- of rows whose keys rise, the last that isn't above is the greatest
  pub greatest_is : (before : Option (List ℕ)) (rows : List PageRow) → RiseAfter before rows → IsGreatest key rows (greatest key rows)
  greatest_is before [] rise = λ r h. absurd (none_among [] r refl h)
  greatest_is before (r ∷ rs) rise = elim (case_of (is_le (text_cmp r.key key))) [
    | inl below ↦ rw below (last_is r rs below rise.1)
    | inr above ↦ rw above (subst (IsGreatest key (r ∷ rs)) (sym (none_counts None r.key rs above rise.1)) (λ x h. elim (among_cases r rs x h) [
      | inl same ↦ subst (λ (y : PageRow). is_le (text_cmp y.key key) ≡ false) same above
      | inr more ↦ all_above r.key rs above rise.1 x more
    ]))
  ]

  -- of two lists, the later of the two greatest is the greatest
  pub greatest_of_both : (xs ys : List PageRow) (b f : Option PageRow) → IsGreatest key xs b → IsGreatest key ys f → IsGreatest key (xs ++ ys) (later b f)
  greatest_of_both xs ys None None one two = λ r h. elim (Contains-append_cases xs ys r h) [ inl left ↦ one r left | inr right ↦ two r right ]
  greatest_of_both xs ys None (Some f) one two = (
    Contains-append_right xs ys f two.0,
    two.1,
    λ r h ok. elim (Contains-append_cases xs ys r h) [
      | inl left ↦ absurd (true≢false (sym ok ∙ one r left))
      | inr right ↦ two.2 r right ok
    ],
  )
  greatest_of_both xs ys (Some b) None one two = (
    Contains-append_left xs ys b one.0,
    one.1,
    λ r h ok. elim (Contains-append_cases xs ys r h) [
      | inl left ↦ one.2 r left ok
      | inr right ↦ absurd (true≢false (sym ok ∙ two r right))
    ],
  )
  greatest_of_both xs ys (Some b) (Some f) one two = elim (case_of (is_lt (text_cmp b.key f.key))) [
    | inl lesser ↦ rw lesser (
      Contains-append_right xs ys f two.0,
      two.1,
      λ r h ok. elim (Contains-append_cases xs ys r h) [
        | inl left ↦ le_then r.key b.key f.key (one.2 r left ok) (below_le b.key f.key lesser)
        | inr right ↦ two.2 r right ok
      ],
    )
    | inr not ↦ rw not (
      Contains-append_left xs ys b one.0,
      one.1,
      λ r h ok. elim (Contains-append_cases xs ys r h) [
        | inl left ↦ one.2 r left ok
        | inr right ↦ le_then r.key f.key b.key (two.2 r right ok) (not_below b.key f.key not)
      ],
    )
  ]

-- rows whose keys rise, without those after them
pub rise_front : (before : Option (List ℕ)) (xs ys : List PageRow) → RiseAfter before (xs ++ ys) → RiseAfter before xs
rise_front before [] ys rise = tt
rise_front before (x ∷ xs) ys rise = (rise.0, rise_front (Some x.key) xs ys rise.1)

-- where the first is above, each of them is
pub above_among : (key : List ℕ) (f : PageRow) (rows : List PageRow) (before : Option (List ℕ)) → is_le (text_cmp f.key key) ≡ false → RiseAfter before (f ∷ rows) → (x : PageRow) → Contains (f ∷ rows) x → is_le (text_cmp x.key key) ≡ false
above_among key f rows before above rise x h = elim (among_cases f rows x h) [
  | inl same ↦ subst (λ (y : PageRow). is_le (text_cmp y.key key) ≡ false) same above
  | inr more ↦ all_above key f.key rows above rise.1 x more
]
