-- Listing the rows of a page, row by row.
use Rattle.std.proofs.Common.{arith, ◌≡◌, ◌≤◌, ◌<◌, ◌+◌, ◌-◌, ◌∙◌, ◌==◌, ap, sym, refl, ℕ, zero, suc, List, [], ◌∷◌, ◌++◌, append_assoc, append-nil, map, Bool, true, false, drop, length, length-append, length-drop, Option, Some, None, nat_lt}
use Rattle.std.specs.Prelude.{if◌then◌else◌}
use Rattle.std.specs.List.{list_all}
use Rattle.std.specs.Option.{option_map}
use Rattle.cp_page.specs.Keys.{number_at}
use Rattle.cp_page.specs.Rows.{take_row, take_counted, is_after, rows_from, rows_of, and_rows, row_on}
use Rattle.cp_page.specs.declared.row.PageRow.{PageRow}

after_none : (o : Option (List PageRow)) → option_map (λ more. [] ++ more) o ≡ o
after_none None = refl
after_none (Some x) = refl

pub begins : (bytes rest : List ℕ) (n : ℕ) (done : List PageRow) → n ≡ number_at bytes 0 → rest ≡ drop 2 bytes → done ≡ [] → option_map (λ more. done ++ more) (rows_from (n - 0) None rest) ≡ rows_of bytes
unfolding rows_of
begins bytes rest n done count is none = let same : n - 0 ≡ number_at bytes 0 = omega (arith, count) in rw (same, is, none) (after_none (rows_from (number_at bytes 0) None (drop 2 bytes)))

none_of : {X Y : Type 0} (g : X → Y) (o : Option X) (total : Option Y) → o ≡ None → option_map g o ≡ total → None ≡ total
none_of g None total e h = h
none_of g (Some x) total e h = cc

pass : (done : List PageRow) (r : PageRow) (o : Option (List PageRow)) → option_map (λ more. done ++ more) (and_rows r o) ≡ option_map (λ more. (done ++ r ∷ []) ++ more) o
pass done r None = refl
pass done r (Some rs) = ap Some (sym (append_assoc done (r ∷ []) rs))

module _ (rest : List ℕ) (done : List PageRow) (before : Option (List ℕ)) (count read : ℕ) (total : Option (List PageRow)) (is : option_map (λ more. done ++ more) (rows_from (count - read) before rest) ≡ total) where
  left_one : read < count → count - read ≡ suc (count - (read + 1))
  left_one l = omega (arith, l)

  pub no_row : read < count → take_row rest ≡ None → None ≡ total
  unfolding rows_from
  no_row l none = let h = rw (left_one l, none) at is in h

  pub no_rise : read < count → (x : PageRow × List ℕ) → take_row rest ≡ Some x → is_after before x.0.key ≡ false → None ≡ total
  unfolding rows_from
  no_rise l x some falls = let h = rw (left_one l, some, falls) at is in h

  pub goes_on : read < count → (x : PageRow × List ℕ) → take_row rest ≡ Some x → is_after before x.0.key ≡ true → (more : List PageRow) → more ≡ done ++ x.0 ∷ []
      → option_map (λ l. more ++ l) (rows_from (count - (read + 1)) (Some x.0.key) x.1) ≡ total
  unfolding rows_from
  goes_on l x some rises more also = let h = rw (left_one l, some, rises) at is in rw also (sym (pass done x.0 (rows_from (count - (read + 1)) (Some x.0.key) x.1)) ∙ h)

  at_end : count ≤ read → count - read ≡ 0
  at_end l = omega (arith, l)

  pub ends : count ≤ read → list_all (λ b. b == 0) rest ≡ true → Some done ≡ total
  unfolding rows_from
  ends l zeros = let h = rw (at_end l, zeros) at is in ap Some (sym (append-nil done)) ∙ h

  pub ends_badly : count ≤ read → list_all (λ b. b == 0) rest ≡ false → None ≡ total
  unfolding rows_from
  ends_badly l other = let h = rw (at_end l, other) at is in h
