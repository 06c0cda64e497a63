-- A page from which rows are read is the one that spells them.
use Rattle.std.proofs.Common.{arith, ◌≡◌, ◌≤◌, ◌<◌, ◌+◌, ◌-◌, ◌*◌, ◌/◌, ◌%◌, ◌∙◌, ◌==◌, inl, inr, ap, sym, refl, subst, ℕ, zero, suc, List, [], ◌∷◌, ◌++◌, append_assoc, Bool, true, false, drop, take, length, replicate, length-append, Option, Some, None, nat_lt}
use Rattle.std.specs.Prelude.{if◌then◌else◌, ◌&&◌}
use Rattle.std.specs.List.{list_all, AllByRecursion}
use Rattle.std.specs.Option.{option_map}
use Rattle.std.proofs.lemmas.List.{take-append-drop, length-take-le, length-replicate}
use Rattle.cp_page.specs.Keys.{number_at}
use Rattle.cp_page.specs.Rows.{row_of, split, take_row, take_counted, value_after, row_on, and_rows, is_after, rows_from, rows_of}
use Rattle.cp_page.specs.Spelled.{counted, row_bytes, rows_bytes, page_bytes, used_by, padded, RiseAfter, ReadsNothingElse}
use Rattle.cp_page.specs.declared.page.TheConstants.{PAGE_SIZE}
use Rattle.cp_page.specs.declared.row.PageRow.{PageRow}
use Rattle.cp_page.proofs.Firsts.{case_of}
use Rattle.cp_page.proofs.Sizes.{on_rows, none_more, rows_rise}

-- each is a byte
abbrev AreBytes : List ℕ → Type 0
AreBytes l = AllByRecursion (λ b. b < 256) l

bytes_behind : (a b : List ℕ) → AreBytes (a ++ b) → AreBytes b
bytes_behind [] b h = h
bytes_behind (x ∷ a) b h = bytes_behind a b h.1

some_is : {X : Type 0} (x y : X) → Some x ≡ Some y → x ≡ y
some_is x y h = cc

high : (x y n : ℕ) → y < 256 → n ≡ x * 256 + y → x ≡ n / 256
high x y n l is = omega (arith, l, is)

low : (x y n : ℕ) → y < 256 → n ≡ x * 256 + y → y ≡ n % 256
low x y n l is = omega (arith, l, is)

-- bytes are those of the number that their first two make, and the others
number_front : (x y n : ℕ) (rest : List ℕ) → y < 256 → n ≡ x * 256 + y → x ∷ y ∷ rest ≡ n / 256 ∷ n % 256 ∷ rest
number_front x y n rest l is = ap (λ a. a ∷ y ∷ rest) (high x y n l is) ∙ ap (λ b. n / 256 ∷ b ∷ rest) (low x y n l is)

split_is : (n : ℕ) (bytes : List ℕ) (k : List ℕ × List ℕ) → split n bytes ≡ Some k → (n ≡ length k.0) × (bytes ≡ k.0 ++ k.1)
split_is n bytes k h = elim (case_of (nat_lt (length bytes) n)) [
  | inl short ↦ let g = rw short at h in cc
  | inr long ↦ let g = rw long at h in
      let is = some_is (take n bytes, drop n bytes) k g in
      let l = length-take-le n bytes (grind (arith, long)) in
      (sym l ∙ ap (λ y. length y.0) is, sym (take-append-drop n bytes) ∙ ap (λ y. y.0 ++ y.1) is)
]

counted_is : (bytes : List ℕ) (k : List ℕ × List ℕ) → AreBytes bytes → take_counted bytes ≡ Some k → bytes ≡ counted k.0 ++ k.1
counted_is [] k all h = cc
counted_is (x ∷ []) k all h = cc
counted_is (x ∷ y ∷ rest) k all h = elim (case_of (nat_lt (length (x ∷ y ∷ rest)) 2)) [
  | inl short ↦ let g = rw short at h in cc
  | inr long ↦ let g = rw long at h in
      let s = split_is (x * 256 + y) rest k g in
      ap (λ l. x ∷ y ∷ l) s.1 ∙ number_front x y (length k.0) (k.0 ++ k.1) all.1.0 (sym s.0)
]

value_is : (k : List ℕ × List ℕ) (o : Option (List ℕ × List ℕ)) (x : PageRow × List ℕ) → AreBytes k.1 → o ≡ take_counted k.1 → option_map (λ v. (row_of k.0 v.0, v.1)) o ≡ Some x → counted k.0 ++ k.1 ≡ row_bytes x.0 ++ x.1
value_is k None x all e h = cc
value_is k (Some v) x all e h =
    let is = some_is (row_of k.0 v.0, v.1) x h in
    ap (λ l. counted k.0 ++ l) (counted_is k.1 v all (sym e))
    ∙ sym (append_assoc (counted k.0) (counted v.0) v.1)
    ∙ ap (λ y. row_bytes y.0 ++ y.1) is

after_is : (bytes : List ℕ) (o : Option (List ℕ × List ℕ)) (x : PageRow × List ℕ) → AreBytes bytes → o ≡ take_counted bytes → value_after o ≡ Some x → bytes ≡ row_bytes x.0 ++ x.1
after_is bytes None x all e h = cc
after_is bytes (Some k) x all e h =
    let is = counted_is bytes k all (sym e) in
    is ∙ value_is k (take_counted k.1) x (bytes_behind (counted k.0) k.1 (subst AreBytes is all)) refl h

row_is : (bytes : List ℕ) (x : PageRow × List ℕ) → AreBytes bytes → take_row bytes ≡ Some x → bytes ≡ row_bytes x.0 ++ x.1
row_is bytes x all h = after_is bytes (take_counted bytes) x all refl h

not_zero : (b : ℕ) (c : Bool) → ((suc b == 0) && c) ≡ true → ⊥
not_zero b c h = let other : (suc b == 0) ≡ false = grind arith in let g = rw other at h in cc

zero_is : (b : ℕ) (c : Bool) → ((b == 0) && c) ≡ true → (b ≡ 0) × (c ≡ true)
zero_is zero c h = (refl, h)
zero_is (suc b) c h = absurd (not_zero b c h)

zeros_are : (bytes : List ℕ) → list_all (λ b. b == 0) bytes ≡ true → bytes ≡ replicate (length bytes) 0
zeros_are [] h = refl
zeros_are (b ∷ bytes) h = let is = zero_is b (list_all (λ x. x == 0) bytes) h in ap (λ x. x ∷ bytes) is.0 ∙ ap (λ l. 0 ∷ l) (zeros_are bytes is.1)

only_zeros : (b : Bool) (bytes : List ℕ) (found : List PageRow) (none : List PageRow) → none ≡ [] → (b ≡ true → bytes ≡ replicate (length bytes) 0) → (if b then Some none else None) ≡ Some found → (found ≡ []) × (bytes ≡ replicate (length bytes) 0)
only_zeros true bytes found none e zeros h = (sym (some_is none found h) ∙ e, zeros refl)
only_zeros false bytes found none e zeros h = cc

-- the bytes of rows that are read
rows_are : (n : ℕ) (before : Option (List ℕ)) (bytes : List ℕ) (rows : List PageRow) → AreBytes bytes → rows_from n before bytes ≡ Some rows → (length rows ≡ n) × ((zeros : ℕ) × (bytes ≡ rows_bytes rows ++ replicate zeros 0))
unfolding rows_from
rows_are zero before bytes rows all h =
    let z = only_zeros (list_all (λ b. b == 0) bytes) bytes rows [] refl (zeros_are bytes) h in
    (ap (λ l. length l) z.0, (length bytes, z.1 ∙ ap (λ l. rows_bytes l ++ replicate (length bytes) 0) (sym z.0)))
rows_are (suc n) before bytes rows all h =
    let x = on_rows (rows_from n) before (take_row bytes) rows h in
    let is = row_is bytes x.0 all x.1 in
    let on = rows_are n (Some x.0.0.key) x.0.1 x.3.0 (bytes_behind (row_bytes x.0.0) x.0.1 (subst AreBytes is all)) x.3.1 in (
      ap (λ l. length l) x.3.2 ∙ ap suc on.0,
      (on.1.0, is ∙ ap (λ l. row_bytes x.0.0 ++ l) on.1.1 ∙ sym (append_assoc (row_bytes x.0.0) (rows_bytes x.3.0) (replicate on.1.0 0)) ∙ ap (λ l. rows_bytes l ++ replicate on.1.0 0) (sym x.3.2)),
    )

padded_is : (x y : ℕ) (rest : List ℕ) (rows : List PageRow) (zeros : ℕ) → y < 256 → length rows ≡ x * 256 + y → rest ≡ rows_bytes rows ++ replicate zeros 0 → length (x ∷ y ∷ rest) ≡ PAGE_SIZE → x ∷ y ∷ rest ≡ padded rows
padded_is x y rest rows zeros l count is long =
    let k = ap length is ∙ length-append (rows_bytes rows) (replicate zeros 0) in
    let z = length-replicate {A = ℕ} zeros 0 in
    let left : zeros ≡ PAGE_SIZE - used_by rows = omega (arith, k, z, long) in
    ap (λ r. x ∷ y ∷ r) is ∙ number_front x y (length rows) (rows_bytes rows ++ replicate zeros 0) l count ∙ ap (page_bytes rows) left

pub reads_nothing_else : ReadsNothingElse
unfolding rows_of
reads_nothing_else [] rows all long h = absurd (omega (arith, long))
reads_nothing_else (x ∷ []) rows all long h = absurd (omega (arith, long))
reads_nothing_else (x ∷ y ∷ rest) rows all long h =
    let found = rows_are (x * 256 + y) None rest rows all.1.1 h in
    (padded_is x y rest rows found.1.0 all.1.0 found.0 found.1.1 long, rows_rise (x ∷ y ∷ rest) rows h)
