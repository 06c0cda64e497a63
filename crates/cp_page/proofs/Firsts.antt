-- The first key of a page is that of its first row.
use Rattle.std.proofs.Common.{arith, ◌≡◌, ◌+◌, ◌*◌, ◌-◌, ◌∙◌, ◌==◌, ◌⊎◌, inl, inr, ap, refl, subst, ℕ, zero, suc, List, [], ◌∷◌, Bool, true, false, drop, take, length, get_or-drop, drop-drop, length-drop, Option, Some, None, nat_lt}
use Rattle.std.specs.Prelude.{if◌then◌else◌, slice_index}
use Rattle.std.specs.List.{list_all}
use Rattle.std.specs.Option.{option_map}
use Rattle.cp_page.specs.Keys.{number_at, first_key}
use Rattle.cp_page.specs.Rows.{row_of, split, take_row, take_counted, value_after, row_on, and_rows, is_after, rows_from, rows_of}
use Rattle.cp_page.specs.Spelled.{FirstKeysAreOfRows}
use Rattle.cp_page.specs.declared.row.PageRow.{PageRow}

pub case_of : (b : Bool) → (b ≡ true) ⊎ (b ≡ false)
case_of true = inl refl
case_of false = inr refl

first_on : (x r : PageRow) (rs : List PageRow) (o : Option (List PageRow)) → and_rows x o ≡ Some (r ∷ rs) → x ≡ r
first_on x r rs None h = cc
first_on x r rs (Some l) h = cc

row_read : (on : Option (List ℕ) → List ℕ → Option (List PageRow)) (before : Option (List ℕ)) (o : Option (PageRow × List ℕ)) (r : PageRow) (rs : List PageRow) → row_on on before o ≡ Some (r ∷ rs) → (rest : List ℕ) × (o ≡ Some (r, rest))
row_read on before None r rs h = cc
row_read on before (Some x) r rs h = elim (case_of (is_after before x.0.key)) [
  | inl rises ↦ let g = rw rises at h in (x.1, ap (λ y. Some (y, x.1)) (first_on x.0 r rs (on (Some x.0.key) x.1) g))
  | inr falls ↦ let g = rw falls at h in cc
]

none_on : (x : PageRow) (es : List PageRow) (o : Option (List PageRow)) → es ≡ [] → and_rows x o ≡ Some es → ⊥
none_on x es None none h = cc
none_on x es (Some l) none h = cc

none_read : (on : Option (List ℕ) → List ℕ → Option (List PageRow)) (before : Option (List ℕ)) (o : Option (PageRow × List ℕ)) (es : List PageRow) → es ≡ [] → row_on on before o ≡ Some es → ⊥
none_read on before None es none h = cc
none_read on before (Some x) es none h = elim (case_of (is_after before x.0.key)) [
  | inl rises ↦ let g = rw rises at h in none_on x.0 es (on (Some x.0.key) x.1) none g
  | inr falls ↦ let g = rw falls at h in cc
]

some_is : {X : Type 0} (x y : X) → Some x ≡ Some y → x ≡ y
some_is x y h = cc

no_rows : (b : Bool) (es : List PageRow) (r : PageRow) (rs : List PageRow) → es ≡ [] → (if b then Some es else None) ≡ Some (r ∷ rs) → ⊥
no_rows true es r rs e h = cc
no_rows false es r rs e h = cc

-- the first of the rows that are read is the next row
first_read : (n : ℕ) (bytes : List ℕ) (r : PageRow) (rs : List PageRow) → rows_from n None bytes ≡ Some (r ∷ rs) → (n == 0 ≡ false) × ((rest : List ℕ) × (take_row bytes ≡ Some (r, rest)))
unfolding rows_from
first_read zero bytes r rs h = absurd (no_rows (list_all (λ b. b == 0) bytes) [] r rs refl h)
first_read (suc n) bytes r rs h = (grind arith, row_read (rows_from n) None (take_row bytes) r rs h)

value_of : (t : Option (List ℕ × List ℕ)) (k : List ℕ × List ℕ) (x : PageRow × List ℕ) → option_map (λ v. (row_of k.0 v.0, v.1)) t ≡ Some x → k.0 ≡ x.0.key
value_of None k x h = cc
value_of (Some v) k x h = ap (λ y. y.0.key) (some_is (row_of k.0 v.0, v.1) x h)

key_read : (o : Option (List ℕ × List ℕ)) (r : PageRow) (rest : List ℕ) → value_after o ≡ Some (r, rest) → (more : List ℕ) × (o ≡ Some (r.key, more))
key_read None r rest h = cc
key_read (Some k) r rest h = (k.1, ap (λ y. Some (y, k.1)) (value_of (take_counted k.1) k (r, rest) h))

front_read : (n : ℕ) (bytes key more : List ℕ) → split n bytes ≡ Some (key, more) → (nat_lt (length bytes) n ≡ false) × (take n bytes ≡ key)
front_read n bytes key more h = elim (case_of (nat_lt (length bytes) n)) [
  | inl short ↦ let g = rw short at h in cc
  | inr long ↦ let g = rw long at h in (long, ap (λ y. y.0) (some_is (take n bytes, drop n bytes) (key, more) g))
]

counted_read : (bytes key more : List ℕ) → take_counted bytes ≡ Some (key, more) → split (number_at bytes 0) (drop 2 bytes) ≡ Some (key, more)
counted_read bytes key more h = elim (case_of (nat_lt (length bytes) 2)) [
  | inl short ↦ let g = rw short at h in cc
  | inr long ↦ rw long at h
]

further : (bytes : List ℕ) → number_at (drop 2 bytes) 0 ≡ number_at bytes 2
further bytes = ap (λ x. x * 256 + slice_index (drop 2 bytes) 1) (get_or-drop 2 bytes 0 0) ∙ ap (λ x. slice_index bytes 2 * 256 + x) (get_or-drop 2 bytes 1 0)

first_of : (bytes : List ℕ) (r : PageRow) (rs : List PageRow) → rows_of bytes ≡ Some (r ∷ rs) → first_key bytes ≡ Some (Some r.key)
unfolding rows_of
first_of bytes r rs h =
    let first = first_read (number_at bytes 0) (drop 2 bytes) r rs h in
    let key = key_read (take_counted (drop 2 bytes)) r first.1.0 first.1.1 in
    let front = front_read (number_at (drop 2 bytes) 0) (drop 2 (drop 2 bytes)) r.key key.0 (counted_read (drop 2 bytes) r.key key.0 key.1) in
    let same : drop 2 (drop 2 bytes) ≡ drop 4 bytes = drop-drop 2 2 bytes in
    let n = further bytes in
    let l1 = length-drop 2 bytes in
    let l2 = length-drop 2 (drop 2 bytes) in
    let long : length (drop 2 (drop 2 bytes)) ≡ length bytes - 4 = omega (arith, l1, l2) in
    let enough : nat_lt (length bytes - 4) (number_at bytes 2) ≡ false = subst (λ k. nat_lt (length bytes - 4) k ≡ false) n (subst (λ k. nat_lt k (number_at (drop 2 bytes) 0) ≡ false) long front.0) in
    let is : take (number_at bytes 2) (drop 4 bytes) ≡ r.key = subst (λ k. take k (drop 4 bytes) ≡ r.key) n (subst (λ l. take (number_at (drop 2 bytes) 0) l ≡ r.key) same front.1) in
    rw (first.0, enough, is)

no_number : (n : ℕ) (before : Option (List ℕ)) (bytes : List ℕ) (es : List PageRow) → es ≡ [] → rows_from n before bytes ≡ Some es → n ≡ 0
unfolding rows_from
no_number zero before bytes es none h = refl
no_number (suc n) before bytes es none h = absurd (none_read (rows_from n) before (take_row bytes) es none h)

pub first_keys_are_of_rows : FirstKeysAreOfRows
unfolding rows_of
first_keys_are_of_rows bytes [] h = rw (no_number (number_at bytes 0) None (drop 2 bytes) [] refl h)
first_keys_are_of_rows bytes (r ∷ rs) h = first_of bytes r rs h
