-- Rows that are read rise, and are no longer than the page.
use Rattle.std.proofs.Common.{arith, ◌≡◌, ◌≤◌, ◌<◌, ◌+◌, ◌-◌, ◌∙◌, ◌==◌, ◌⊎◌, inl, inr, ap, sym, refl, subst, ℕ, zero, suc, List, [], ◌∷◌, ◌++◌, Bool, true, false, drop, take, length, length-append, length-drop, Option, Some, None, nat_lt}
use Rattle.std.specs.Prelude.{if◌then◌else◌}
use Rattle.std.specs.List.{list_all, AllByRecursion}
use Rattle.std.specs.Option.{option_map}
use Rattle.std.proofs.lemmas.List.{take-append-drop}
use Rattle.cp_page.specs.Keys.{number_at}
use Rattle.cp_page.specs.Rows.{row_of, split, take_row, take_counted, value_after, row_on, and_rows, is_after, rows_from, rows_of}
use Rattle.cp_page.specs.Spelled.{counted, row_bytes, rows_bytes, used_by, RiseAfter}
use Rattle.cp_page.proofs.Firsts.{case_of}
use Rattle.cp_page.specs.declared.row.PageRow.{PageRow}

some_is : {X : Type 0} (x y : X) → Some x ≡ Some y → x ≡ y
some_is x y h = cc

split_size : (n : ℕ) (bytes : List ℕ) (k : List ℕ × List ℕ) → split n bytes ≡ Some k → length bytes ≡ length k.0 + length k.1
split_size n bytes k h = elim (case_of (nat_lt (length bytes) n)) [
  | inl short ↦ let g = rw short at h in cc
  | inr long ↦ let g = rw long at h in
      let is = some_is (take n bytes, drop n bytes) k g in
      sym (ap length (take-append-drop n bytes)) ∙ length-append (take n bytes) (drop n bytes) ∙ ap (λ y. length y.0 + length y.1) is
]

counted_size : (bytes : List ℕ) (k : List ℕ × List ℕ) → take_counted bytes ≡ Some k → length bytes ≡ 2 + length k.0 + length k.1
counted_size bytes k h = elim (case_of (nat_lt (length bytes) 2)) [
  | inl short ↦ let g = rw short at h in cc
  | inr long ↦ let g = rw long at h in
      let s = split_size (number_at bytes 0) (drop 2 bytes) k g in
      let d = length-drop 2 bytes in
      let m : 2 ≤ length bytes = grind (arith, long) in
      omega (arith, s, d, m)
]

value_size : (k : List ℕ × List ℕ) (o : Option (List ℕ × List ℕ)) (x : PageRow × List ℕ) → o ≡ take_counted k.1 → option_map (λ v. (row_of k.0 v.0, v.1)) o ≡ Some x → length k.0 + length k.1 ≡ length x.0.key + 2 + length x.0.value + length x.1
value_size k None x e h = cc
value_size k (Some v) x e h =
    let is = some_is (row_of k.0 v.0, v.1) x h in
    let s = counted_size k.1 v (sym e) in
    let t : length k.0 + length k.1 ≡ length k.0 + 2 + length v.0 + length v.1 = omega (arith, s) in
    t ∙ ap (λ y. length y.0.key + 2 + length y.0.value + length y.1) is

after_size : (bytes : List ℕ) (o : Option (List ℕ × List ℕ)) (x : PageRow × List ℕ) → o ≡ take_counted bytes → value_after o ≡ Some x → length bytes ≡ 4 + length x.0.key + length x.0.value + length x.1
after_size bytes None x e h = cc
after_size bytes (Some k) x e h =
    let s = counted_size bytes k (sym e) in
    let t = value_size k (take_counted k.1) x refl h in
    omega (arith, s, t)

row_size : (bytes : List ℕ) (x : PageRow × List ℕ) → take_row bytes ≡ Some x → length bytes ≡ length (row_bytes x.0) + length x.1
row_size bytes x h =
    let s = after_size bytes (take_counted bytes) x refl h in
    let l = length-append (counted x.0.key) (counted x.0.value) in
    omega (arith, s, l)

on_more : (r : PageRow) (o : Option (List PageRow)) (rows : List PageRow) → and_rows r o ≡ Some rows → (l : List PageRow) × (o ≡ Some l) × (rows ≡ r ∷ l)
on_more r None rows h = cc
on_more r (Some l) rows h = (l, refl, sym (some_is (r ∷ l) rows h))

pub on_rows : (on : Option (List ℕ) → List ℕ → Option (List PageRow)) (before : Option (List ℕ)) (o : Option (PageRow × List ℕ)) (rows : List PageRow) → row_on on before o ≡ Some rows
    → (x : PageRow × List ℕ) × (o ≡ Some x) × (is_after before x.0.key ≡ true) × ((l : List PageRow) × (on (Some x.0.key) x.1 ≡ Some l) × (rows ≡ x.0 ∷ l))
on_rows on before None rows h = cc
on_rows on before (Some x) rows h = elim (case_of (is_after before x.0.key)) [
  | inl rises ↦ let g = rw rises at h in (x, refl, rises, on_more x.0 (on (Some x.0.key) x.1) rows g)
  | inr falls ↦ let g = rw falls at h in cc
]

pub none_more : (b : Bool) (es rows : List PageRow) → es ≡ [] → (if b then Some es else None) ≡ Some rows → rows ≡ []
none_more true es rows e h = sym (some_is es rows h) ∙ e
none_more false es rows e h = cc

read_sizes : (n : ℕ) (before : Option (List ℕ)) (bytes : List ℕ) (rows : List PageRow) → rows_from n before bytes ≡ Some rows → RiseAfter before rows × (length (rows_bytes rows) ≤ length bytes)
unfolding rows_from
read_sizes zero before bytes rows h =
    let none = none_more (list_all (λ b. b == 0) bytes) [] rows refl h in
    (subst (RiseAfter before) (sym none) tt, let l = ap (λ rs. length (rows_bytes rs)) none in omega (arith, l))
read_sizes (suc n) before bytes rows h =
    let x = on_rows (rows_from n) before (take_row bytes) rows h in
    let on = read_sizes n (Some x.0.0.key) x.0.1 x.3.0 x.3.1 in
    let size = row_size bytes x.0 x.1 in
    let l = length-append (row_bytes x.0.0) (rows_bytes x.3.0) in
    let is = ap (λ rs. length (rows_bytes rs)) x.3.2 in
    let o = on.1 in
    (subst (RiseAfter before) (sym x.3.2) (x.2, on.0), omega (arith, size, l, is, o))

pub rows_rise : (bytes : List ℕ) (rows : List PageRow) → rows_of bytes ≡ Some rows → RiseAfter None rows
unfolding rows_of
rows_rise bytes rows h = (read_sizes (number_at bytes 0) None (drop 2 bytes) rows h).0

pub rows_fit_in : (bytes : List ℕ) (rows : List PageRow) → 2 ≤ length bytes → rows_of bytes ≡ Some rows → used_by rows ≤ length bytes
unfolding rows_of
rows_fit_in bytes rows long h =
    let s = (read_sizes (number_at bytes 0) None (drop 2 bytes) rows h).1 in
    let l = length-drop 2 bytes in
    omega (arith, s, l, long)

-- each of the rows fits into a page
pub each_small : (rows : List PageRow) (n : ℕ) → length (rows_bytes rows) ≤ n → AllByRecursion (λ r. length (row_bytes r) ≤ n) rows
each_small [] n l = tt
each_small (r ∷ rows) n l = let a = length-append (row_bytes r) (rows_bytes rows) in (omega (arith, a, l), each_small rows n (omega (arith, a, l)))
