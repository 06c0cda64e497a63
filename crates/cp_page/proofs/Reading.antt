-- Reading the rows of a page, row by row.
use Rattle.std.proofs.Common.{arith, ◌≡◌, ◌≤◌, ◌<◌, ◌+◌, ◌-◌, ◌∙◌, ◌==◌, sym, refl, ℕ, suc, List, true, false, drop, Option, Some, None, is_le}
use Rattle.std.specs.Prelude.{if◌then◌else◌}
use Rattle.std.specs.List.{list_all}
use Rattle.std.specs.Option.{option_map}
use Rattle.cp_path.specs.Text.{text_cmp}
use Rattle.cp_page.specs.Keys.{number_at}
use Rattle.cp_page.specs.Rows.{take_row, is_after, rows_from, rows_of, last_from, greatest, and_rows}
use Rattle.cp_page.specs.declared.row.PageRow.{PageRow}

pub begins : (key bytes rest : List ℕ) (n : ℕ) → n ≡ number_at bytes 0 → rest ≡ drop 2 bytes → option_map (last_from key None) (rows_from (n - 0) None rest) ≡ option_map (greatest key) (rows_of bytes)
unfolding rows_of
begins key bytes rest n count is = let same : n - 0 ≡ number_at bytes 0 = omega (arith, count) in rw (same, is)

none_of : {X Y : Type 0} (g : X → Y) (o : Option X) → None ≡ option_map g o → o ≡ None
none_of g None h = refl
none_of g (Some x) h = cc

pass : (key : List ℕ) (best : Option PageRow) (r : PageRow) (o : Option (List PageRow)) → option_map (last_from key best) (and_rows r o) ≡ option_map (last_from key (if is_le (text_cmp r.key key) then Some r else best)) o
pass key best r None = refl
pass key best r (Some rs) = refl

module _ (key bytes rest : List ℕ) (best : Option PageRow) (before : Option (List ℕ)) (count read : ℕ) (total : Option (List PageRow)) (is : option_map (last_from key best) (rows_from (count - read) before rest) ≡ option_map (greatest key) total) where
  left_one : read < count → count - read ≡ suc (count - (read + 1))
  left_one l = omega (arith, l)

  pub no_row : read < count → take_row rest ≡ None → total ≡ None
  unfolding rows_from
  no_row l none = let h = rw (left_one l, none) at is in none_of (greatest key) total h

  pub no_rise : read < count → (x : PageRow × List ℕ) → take_row rest ≡ Some x → is_after before x.0.key ≡ false → total ≡ None
  unfolding rows_from
  no_rise l x some falls = let h = rw (left_one l, some, falls) at is in none_of (greatest key) total h

  pub goes_on : read < count → (x : PageRow × List ℕ) → take_row rest ≡ Some x → is_after before x.0.key ≡ true → (b : Option PageRow) → b ≡ (if is_le (text_cmp x.0.key key) then Some x.0 else best)
      → option_map (last_from key b) (rows_from (count - (read + 1)) (Some x.0.key) x.1) ≡ option_map (greatest key) total
  unfolding rows_from
  goes_on l x some rises b better = let h = rw (left_one l, some, rises) at is in rw better (sym (pass key best x.0 (rows_from (count - (read + 1)) (Some x.0.key) x.1)) ∙ h)

  at_end : count ≤ read → count - read ≡ 0
  at_end l = omega (arith, l)

  pub ends : count ≤ read → list_all (λ b. b == 0) rest ≡ true → option_map (greatest key) total ≡ Some best
  unfolding rows_from
  ends l zeros = let h = rw (at_end l, zeros) at is in sym h

  pub ends_badly : count ≤ read → list_all (λ b. b == 0) rest ≡ false → total ≡ None
  unfolding rows_from
  ends_badly l other = let h = rw (at_end l, other) at is in none_of (greatest key) total h
