-- Names and numbers are words: they have no trigger. A number's digits are read as the number.
use Rattle.cp_path.specs.declared.limits.TheConstants.{NAME_MAX}
use Rattle.std.specs.Prelude.{ℕ, zero, suc, ◌<◌, ◌≤◌, ◌^◌, ◌≡◌, ◌==◌, List, [], ◌∷◌, Bool, true, false, ◌&&◌, ◌||◌, not, nat_le, nat_lt, length, decimal, slice_index, refl, Some, None, cond}
use Rattle.std.proofs.Common.{ap, ◌∙◌, arith}
use Rattle.std.proofs.lemmas.Bool.{and_parts, leb-true, le-leb, lt-ltb, ne_eqb}
use Rattle.std.proofs.lemmas.Bool.Decides.{nat_tests}
use Rattle.std.proofs.lemmas.Fmt.{decimal_is_IsNumeral, first_decimal, decimal_digit}
use Rattle.std.proofs.lemmas.Str.Parse.{digit_from_value}
use Rattle.std.specs.Str.Parse.{AllDigits, digits_value}
use Rattle.std.specs.List.{list_all}
use Rattle.cp_path.specs.Text.{is_name, is_letter, is_digit, is_name_byte}
use Rattle.cp_path.specs.Spelling.{is_trigger, has_trigger}
use Rattle.cp_lang.specs.Decimal.{is_decimal, decimal_value}

name_byte_bare : (x : ℕ) → is_name_byte x ≡ true → is_trigger x ≡ false
name_byte_bare x h = grind (arith, nat_tests)

name_bytes_bare : (w : List ℕ) → list_all is_name_byte w ≡ true → has_trigger w ≡ false
name_bytes_bare [] h = refl
name_bytes_bare (x ∷ w) h =
    let p = and_parts (is_name_byte x) (list_all is_name_byte w) h in
    ap (λ b. b || has_trigger w) (name_byte_bare x p.0) ∙ name_bytes_bare w p.1

-- a name is not empty
pub name_some : (w : List ℕ) → is_name w ≡ true → 0 < length w
name_some w h = let l = leb-true 1 (length w) (and_parts (nat_le 1 (length w)) (nat_le (length w) NAME_MAX && (is_letter (slice_index w 0) && list_all is_name_byte w)) h).0 in omega arith

-- a name has no trigger
pub name_bare : (w : List ℕ) → is_name w ≡ true → has_trigger w ≡ false
name_bare w h =
    let a = and_parts (nat_le 1 (length w)) (nat_le (length w) NAME_MAX && (is_letter (slice_index w 0) && list_all is_name_byte w)) h in
    let b = and_parts (nat_le (length w) NAME_MAX) (is_letter (slice_index w 0) && list_all is_name_byte w) a.1 in
    let c = and_parts (is_letter (slice_index w 0)) (list_all is_name_byte w) b.1 in
    name_bytes_bare w c.1

digit_name_byte : (x : ℕ) → (48 ≤ x) × (x ≤ 57) → is_trigger x ≡ false
digit_name_byte x h = let a = h.0 in let b = h.1 in grind (arith, nat_tests)

digits_bare : (w : List ℕ) → AllDigits 10 w → has_trigger w ≡ false
digits_bare [] h = refl
digits_bare (x ∷ w) h = ap (λ b. b || has_trigger w) (digit_name_byte x (digit_from_value x h.0)) ∙ digits_bare w h.1

digits_all : (w : List ℕ) → AllDigits 10 w → list_all is_digit w ≡ true
digits_all [] h = refl
digits_all (x ∷ w) h =
    let d = digit_from_value x h.0 in
    ap (λ b. (b && nat_le x 57) && list_all is_digit w) (le-leb 48 x d.0) ∙ ap (λ b. b && list_all is_digit w) (le-leb x 57 d.1) ∙ digits_all w h.1

-- a number's digits are not empty
pub decimal_some : (n : ℕ) → n < 2 ^ 64 → 0 < length (decimal n)
decimal_some n h = let k = decimal_is_IsNumeral n h in omega (arith, k.0.0)

-- a number's digits have no trigger
pub decimal_bare : (n : ℕ) → n < 2 ^ 64 → has_trigger (decimal n) ≡ false
decimal_bare n h = let k = decimal_is_IsNumeral n h in digits_bare (decimal n) k.0.1

-- no zero leads a number's digits
no_zero : (n : ℕ) → n < 2 ^ 64 → (length (decimal n) == 1 || not (slice_index (decimal n) 0 == 48)) ≡ true
no_zero zero h = ap (λ ds. length ds == 1 || not (slice_index ds 0 == 48)) (decimal_digit 0 (omega arith))
no_zero (suc n) h =
    let f = first_decimal (suc n) (omega arith) h in
    let e : (slice_index (decimal (suc n)) 0 == 48) ≡ false = ne_eqb (slice_index (decimal (suc n)) 0) 48 (λ same. omega (arith, same, f)) in
    ap (λ b. length (decimal (suc n)) == 1 || not b) e ∙ or_true (length (decimal (suc n)) == 1)
  where
    or_true : (b : Bool) → (b || true) ≡ true
    or_true true = refl
    or_true false = refl

-- a number's digits are read as the number
pub decimal_reads_back : (n : ℕ) → n < 2 ^ 64 → decimal_value (decimal n) ≡ Some n
decimal_reads_back n h =
    let k = decimal_is_IsNumeral n h in
    let some : nat_le 1 (length (decimal n)) ≡ true = le-leb 1 (length (decimal n)) (omega (arith, k.0.0)) in
    let plain : is_decimal (decimal n) ≡ true =
    ap (λ b. b && ((length (decimal n) == 1 || not (slice_index (decimal n) 0 == 48)) && list_all is_digit (decimal n))) some
    ∙ ap (λ b. b && list_all is_digit (decimal n)) (no_zero n h) ∙ digits_all (decimal n) k.0.1 in
    ap (λ b. cond (b && nat_lt (digits_value 10 (decimal n)) (2 ^ 64)) (Some (digits_value 10 (decimal n))) None) plain
    ∙ ap (λ m. cond (nat_lt m (2 ^ 64)) (Some m) None) k.1
    ∙ ap (λ b. cond b (Some n) None) (lt-ltb n (2 ^ 64) h)
