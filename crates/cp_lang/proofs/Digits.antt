-- Digits are what `parse` of std reads.
use Rattle.std.proofs.Common.{◌≡◌, ℕ, ◌≤◌, ◌<◌, ◌==◌, ◌^◌, List, [], ◌∷◌, Bool, true, false, length, refl, ap, sym, arith, nat_lt, subst, ◌∙◌, Some, None, Result, Ok, Err}
use Rattle.std.proofs.lemmas.Bool.{and_parts, leb-true, lt-ltb, ltb-true, ne_eqb}
use Rattle.std.proofs.lemmas.Str.{digit_value_digit, IsUtf8-from_ascii}
use Rattle.std.proofs.lemmas.Fmt.{IsAscii-from_digits}
use Rattle.std.specs.List.{list_all}
use Rattle.std.specs.Str.{IsUtf8}
use Rattle.std.specs.Str.Parse.{AllDigits, IsNumeral, digits_value, without_leading_plus, ParsesUnsigned}
use Rattle.cp_path.specs.Text.{is_digit}
use Rattle.cp_lang.specs.Decimal.{is_decimal, decimal_value}
use Rattle.std.specs.Result.{result_ok}

pub each_digit : (x : ℕ) → is_digit x ≡ true → (48 ≤ x) × (x ≤ 57)
each_digit x h = let p = and_parts _ _ h in (leb-true 48 x p.0, leb-true x 57 p.1)

pub digits : (w : List ℕ) → list_all is_digit w ≡ true → AllDigits 10 w
digits [] h = tt
digits (x ∷ xs) h =
    let p = and_parts (is_digit x) (list_all is_digit xs) h in
    let d = each_digit x p.0 in
    (omega (arith, digit_value_digit x d), digits xs p.1)

pub plain_digits : (w : List ℕ) → is_decimal w ≡ true → list_all is_digit w ≡ true
plain_digits w h = (and_parts _ _ (and_parts _ _ h).1).1

pub decimal_text : (w : List ℕ) → is_decimal w ≡ true → IsUtf8 w
decimal_text w h = IsUtf8-from_ascii w (IsAscii-from_digits w (digits w (plain_digits w h)))

pub plain_some : (w : List ℕ) → is_decimal w ≡ true → 0 < length w
plain_some w h = let e : 1 ≤ length w = leb-true 1 (length w) (and_parts _ _ h).0 in omega arith

pub no_plus : (w : List ℕ) → is_decimal w ≡ true → without_leading_plus w ≡ w
no_plus [] h = refl
no_plus (x ∷ xs) h =
    let d = each_digit x (and_parts (is_digit x) (list_all is_digit xs) (plain_digits (x ∷ xs) h)).0 in
    let e : (x == 43) ≡ false = ne_eqb x 43 (λ same. omega arith) in
    rw e refl

-- the number, as `parse` gives it
pub whole_read : {E : Type 0} (w : List ℕ) (r : Result ℕ E) → is_decimal w ≡ true → ParsesUnsigned 64 10 w r → result_ok r ≡ decimal_value w
whole_read w (Ok n) plain h =
    let same = no_plus w plain in
    let small : digits_value 10 w < 2 ^ 64 = let P : List ℕ → Type 0 = λ v. digits_value 10 v < 2 ^ 64 in subst P same h.0.1 in
    rw (plain, lt-ltb (digits_value 10 w) (2 ^ 64) small) (ap Some (h.1 ∙ ap (digits_value 10) same))
whole_read w (Err e) plain h = large (nat_lt (digits_value 10 w) (2 ^ 64)) refl
  where
    same : without_leading_plus w ≡ w
    same = no_plus w plain

    refused : digits_value 10 w < 2 ^ 64 → ⊥
    refused small =
        let P : List ℕ → Type 0 = λ v. IsNumeral 10 v × (digits_value 10 v < 2 ^ 64) in
        h (subst P (sym same) ((plain_some w plain, digits w (plain_digits w plain)), small))

    large : (b : Bool) → nat_lt (digits_value 10 w) (2 ^ 64) ≡ b → None ≡ decimal_value w
    large true e = absurd (refused (ltb-true (digits_value 10 w) (2 ^ 64) e))
    large false e = rw (plain, e) refl
