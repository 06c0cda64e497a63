-- A whole number's spelling is parsed as that number.
use Rattle.std.proofs.Common.{◌≡◌, ℕ, suc, ◌<◌, ◌≤◌, ◌^◌, List, ◌∷◌, ℤ, pos, negsuc, neg_ℤ, refl, ap, sym, ◌∙◌, arith, subst, add-one, Result, Ok, Err, decimal, IfSome, IsSome, ◌↔◌, Option, Some, None, true, false}
use Rattle.std.proofs.lemmas.Fmt.{decimal_is_IsNumeral_wide}
use Rattle.std.proofs.lemmas.Str.Parse.{parse_signed_digits, parse_signed_minus, numerals_by_value, tells_digits}
use Rattle.std.proofs.lemmas.Result.{Ok-from_Ok_iff}
use Rattle.std.proofs.lemmas.Int.{ints}
use mir.Syntax.{w128}
use Rattle.std.specs.Str.Parse.{ParsesSigned}
use Rattle.cp_path.specs.Whole.{IsWhole}
use Rattle.cp_path.specs.Spelling.{whole_text}

abbrev ok_ℕ : ℤ → Result ℤ ℕ
ok_ℕ z = Ok z

abbrev err_ℕ : Result ℤ ℕ
err_ℕ = Err 0

pub parse_whole : {E : Type 0} (z : ℤ) (bs : List ℕ) (r : Result ℤ E) → IsWhole z → bs ≡ whole_text z → ParsesSigned w128 10 bs r → r ≡ Ok z
parse_whole (pos n) bs r fits is h =
    let small : n < 2 ^ 64 = omega (arith, ints, fits.1) in
    let k = decimal_is_IsNumeral_wide n (omega arith) in
    let read = parse_signed_digits (numerals_by_value _ tells_digits) w128 (decimal n) r (subst (λ l. ParsesSigned w128 10 l r) is h) k.0.1 in
    Ok-from_Ok_iff r _ _ read (k.0.0, omega (arith, k.1)) ∙ ap (λ m. Ok (pos m)) k.1
parse_whole (negsuc n) bs r fits is h =
    let small : n ≤ 9223372036854775807 = omega (arith, ints, fits.0) in
    let k = decimal_is_IsNumeral_wide (suc n) (omega arith) in
    let spelled : bs ≡ 45 ∷ decimal (suc n) = is ∙ ap (λ m. 45 ∷ decimal m) (add-one n) in
    let read = parse_signed_minus (numerals_by_value _ tells_digits) w128 (45 ∷ decimal (suc n)) r (subst (λ l. ParsesSigned w128 10 l r) spelled h) refl in
    Ok-from_Ok_iff r _ _ read (k.0.1, k.0.0, omega (arith, k.1)) ∙ ap (λ m. Ok (neg_ℤ (pos m))) k.1

pub made : (o : Option ℤ) (m n : ℤ) → (IsSome o ↔ IsWhole m) → IfSome o (λ w. w ≡ m) → IsWhole n → m ≡ n → o ≡ Some n
made None m n s v r e = let none : false ≡ true = s.1 (subst IsWhole (sym e) r) in cc
made (Some w) m n s v r e = ap Some (v ∙ e)

same_number : (m n : ℤ) → Ok m ≡ ok_ℕ n → m ≡ n
same_number m n e = cc

pub parsed : (m z : ℤ) (bs : List ℕ) → IsWhole z → bs ≡ whole_text z → ParsesSigned w128 10 bs (ok_ℕ m) → m ≡ z
parsed m z bs range is h = same_number m z (parse_whole z bs (ok_ℕ m) range is h)

pub refused : (z : ℤ) (bs : List ℕ) → IsWhole z → bs ≡ whole_text z → ParsesSigned w128 10 bs err_ℕ → ⊥
refused z bs range is h = let e : err_ℕ ≡ ok_ℕ z = parse_whole z bs err_ℕ range is h in cc
