-- Adding the rows of a page from one key to another, row by row.
use Rattle.std.proofs.Common.{arith, ◌≡◌, ◌≤◌, ◌<◌, ◌+◌, ◌-◌, ◌∙◌, ◌==◌, ap, sym, refl, ℕ, suc, List, [], ◌∷◌, ◌++◌, append_assoc, append-nil, Bool, true, false, inl, inr, drop, Option, Some, None}
use Rattle.std.specs.List.{list_all}
use Rattle.std.specs.Ordering.{is_gt}
use Rattle.std.specs.Option.{option_map}
use Rattle.cp_path.specs.Text.{text_cmp}
use Rattle.cp_page.specs.Keys.{number_at}
use Rattle.cp_page.specs.Ranges.{is_within, rows_between, above_from, found_with}
use Rattle.cp_page.specs.Rows.{take_row, is_after, rows_from, rows_of, and_rows}
use Rattle.cp_page.specs.declared.row.PageRow.{PageRow}
use Rattle.cp_page.proofs.Firsts.{case_of}

module _ (low high : List ℕ) where
  pub begins : (bytes rest : List ℕ) (n : ℕ) (done : List PageRow) → n ≡ number_at bytes 0 → rest ≡ drop 2 bytes
      → option_map (found_with low high done false) (rows_from (n - 0) None rest) ≡ option_map (found_with low high done false) (rows_of bytes)
  unfolding rows_of
  begins bytes rest n done count is = let same : n - 0 ≡ number_at bytes 0 = omega (arith, count) in rw (same, is)

  none_of : {X Y : Type 0} (g : X → Y) (o : Option X) → None ≡ option_map g o → o ≡ None
  none_of g None h = refl
  none_of g (Some x) h = cc

  -- a row more is found where it is within
  one_more : (done more : List PageRow) (r : PageRow) (rs : List PageRow) → more ≡ done ++ rows_between low high (r ∷ []) → done ++ rows_between low high (r ∷ rs) ≡ more ++ rows_between low high rs
  one_more done more r rs is = elim (case_of (is_within low high r.key)) [
    | inl inside ↦ rw (is, inside) (sym (append_assoc done (r ∷ []) (rows_between low high rs)))
    | inr outside ↦ rw (is, outside) (ap (λ l. l ++ rows_between low high rs) (sym (append-nil done)))
  ]

  pass : (done more : List PageRow) (past : Bool) (r : PageRow) (o : Option (List PageRow)) → more ≡ done ++ rows_between low high (r ∷ [])
      → option_map (found_with low high done past) (and_rows r o) ≡ option_map (found_with low high more (is_gt (text_cmp r.key high))) o
  pass done more past r None is = refl
  pass done more past r (Some rs) is = ap (λ l. Some (l, above_from high (is_gt (text_cmp r.key high)) rs)) (one_more done more r rs is)

  module _ (rest : List ℕ) (first done : List PageRow) (past : Bool) (before : Option (List ℕ)) (count read : ℕ) (total : Option (List PageRow))
      (is : option_map (found_with low high done past) (rows_from (count - read) before rest) ≡ option_map (found_with low high first false) total) where
    left_one : read < count → count - read ≡ suc (count - (read + 1))
    left_one l = omega (arith, l)

    pub no_row : read < count → take_row rest ≡ None → total ≡ None
    unfolding rows_from
    no_row l none = let h = rw (left_one l, none) at is in none_of (found_with low high first false) total h

    pub no_rise : read < count → (x : PageRow × List ℕ) → take_row rest ≡ Some x → is_after before x.0.key ≡ false → total ≡ None
    unfolding rows_from
    no_rise l x some falls = let h = rw (left_one l, some, falls) at is in none_of (found_with low high first false) total h

    pub goes_on : read < count → (x : PageRow × List ℕ) → take_row rest ≡ Some x → is_after before x.0.key ≡ true → (more : List PageRow) (b : Bool) → more ≡ done ++ rows_between low high (x.0 ∷ []) → b ≡ is_gt (text_cmp x.0.key high)
        → option_map (found_with low high more b) (rows_from (count - (read + 1)) (Some x.0.key) x.1) ≡ option_map (found_with low high first false) total
    unfolding rows_from
    goes_on l x some rises more b also above = let h = rw (left_one l, some, rises) at is in rw above (sym (pass done more past x.0 (rows_from (count - (read + 1)) (Some x.0.key) x.1) also) ∙ h)

    at_end : count ≤ read → count - read ≡ 0
    at_end l = omega (arith, l)

    pub ends : count ≤ read → list_all (λ b. b == 0) rest ≡ true → option_map (found_with low high first false) total ≡ Some (done, past)
    unfolding rows_from
    ends l zeros = let h = rw (at_end l, zeros) at is in sym h ∙ ap (λ d. Some (d, past)) (append-nil done)

    pub ends_badly : count ≤ read → list_all (λ b. b == 0) rest ≡ false → total ≡ None
    unfolding rows_from
    ends_badly l other = let h = rw (at_end l, other) at is in none_of (found_with low high first false) total h
