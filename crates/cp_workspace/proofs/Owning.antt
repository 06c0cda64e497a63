-- Whose a text is, and the statement in it.
use Rattle.std.specs.Prelude.{ℕ, zero, suc, ◌≡◌, ◌≤◌, ◌<◌, ◌+◌, ◌==◌, ◌&&◌, Bool, true, false, List, [], ◌∷◌, length, slice_index, if◌then◌else◌, refl}
use Rattle.std.proofs.Common.{sym, ap, ◌∙◌, set, get_or, nat_le, IsUtf8, arith}
use Rattle.std.proofs.lemmas.Str.{IsUtf8-from_ascii, utf8_valid_len-IsUtf8}
use Rattle.std.specs.List.{list_all}
use Rattle.std.specs.Str.Lossy.{utf8_valid_len}
use Rattle.cp_path.specs.declared.limits.TheConstants.{NAME_MAX}
use Rattle.std.proofs.lemmas.Bool.Decides.{nat_tests}
use Rattle.cp_path.specs.Text.{is_letter, is_name_byte, is_name}
use Rattle.cp_lang.specs.Lexer as lexer
use Rattle.cp_lang.specs.Lexer.{first_offset, tokens_of, tokens_at, spaces}
use Rattle.cp_lang.specs.Spaces.{is_space}
use Rattle.cp_lang.proofs.LexerLaws.{tokens_space, tokens_first}
use Rattle.cp_reply.specs.Sharing.{blanked, bad_byte_or}

-- ---- its first word

spaces_from : (at : ℕ) (bs : List ℕ) → at + spaces bs ≡ first_offset (at + length bs) (tokens_at at bs)
unfolding lexer.tokens_in
spaces_from at [] = refl
spaces_from at (x ∷ xs) = by (is_space x) refl (spaces_from (at + 1) xs)
  where
    by : (b : Bool) → is_space x ≡ b → at + 1 + spaces xs ≡ first_offset (at + 1 + length xs) (tokens_at (at + 1) xs)
        → at + spaces (x ∷ xs) ≡ first_offset (at + length (x ∷ xs)) (tokens_at at (x ∷ xs))
    by true e behind =
        let s : spaces (x ∷ xs) ≡ spaces xs + 1 = ap (λ b. if b then spaces xs + 1 else 0) e in
        let n : at + (spaces xs + 1) ≡ at + 1 + spaces xs = omega arith in
        let m : at + 1 + length xs ≡ at + length (x ∷ xs) = omega arith in
        ap (λ k. at + k) s ∙ n ∙ behind ∙ ap (λ k. first_offset k (tokens_at (at + 1) xs)) m
        ∙ ap (λ ts. first_offset (at + length (x ∷ xs)) ts) (sym (tokens_space at x xs e))
    by false e behind =
        let s : spaces (x ∷ xs) ≡ 0 = ap (λ b. if b then spaces xs + 1 else 0) e in
        let n : at + 0 ≡ at = omega arith in
        ap (λ k. at + k) s ∙ n ∙ ap (λ ts. first_offset (at + length (x ∷ xs)) ts) (sym (tokens_first at x xs e))

-- the first token begins behind the white space
pub first-spaces : (bs : List ℕ) → first_offset (length bs) (tokens_of bs) ≡ spaces bs
first-spaces bs =
    let l : 0 + spaces bs ≡ spaces bs = omega arith in
    let n : 0 + length bs ≡ length bs = omega arith in
    sym (ap (λ k. first_offset k (tokens_at 0 bs)) n) ∙ sym (spaces_from 0 bs) ∙ l

pub spaces-within : (bs : List ℕ) → spaces bs ≤ length bs
spaces-within [] = omega arith
spaces-within (x ∷ xs) = by (is_space x) (spaces-within xs)
  where
    by : (b : Bool) → spaces xs ≤ length xs → (if b then spaces xs + 1 else 0) ≤ suc (length xs)
    by true h = omega (arith, h)
    by false h = omega arith

-- ---- blanks

blank_next : (n : ℕ) (bs : List ℕ) → n < length bs → set (blanked n bs) n 32 ≡ blanked (suc n) bs
blank_next zero [] l = absurd (omega (arith, l))
blank_next zero (x ∷ bs) l = refl
blank_next (suc n) [] l = absurd (omega (arith, l))
blank_next (suc n) (x ∷ bs) l = ap (λ xs. 32 ∷ xs) (blank_next n bs (omega (arith, l)))

-- one more
pub blank-more : (n : ℕ) (bs now : List ℕ) → n < length bs → now ≡ blanked n bs → set now n 32 ≡ blanked (n + 1) bs
blank-more n bs now l e = let next : suc n ≡ n + 1 = omega arith in ap (λ xs. set xs n 32) e ∙ blank_next n bs l ∙ ap (λ k. blanked k bs) next

-- ---- UTF-8

and_parts : (a b : Bool) → (a && b) ≡ true → (a ≡ true) × (b ≡ true)
and_parts true b e = (refl, e)
and_parts false b e = absurd (cc)

small_byte : (x : ℕ) → is_name_byte x ≡ true → x < 128
small_byte x e = grind (arith, nat_tests)

small_bytes : (w : List ℕ) → list_all is_name_byte w ≡ true → (i : ℕ) → get_or w i 0 < 128
small_bytes [] h i = omega arith
small_bytes (x ∷ w) h zero = small_byte x (and_parts (is_name_byte x) (list_all is_name_byte w) h).0
small_bytes (x ∷ w) h (suc i) = small_bytes w (and_parts (is_name_byte x) (list_all is_name_byte w) h).1 i

-- bytes that aren't UTF-8 are no name
pub no-name : (w : List ℕ) → (IsUtf8 w → ⊥) → is_name w ≡ false
no-name w h = by (is_name w) refl
  where
    by : (b : Bool) → is_name w ≡ b → b ≡ false
    by true e =
        let parts = and_parts (nat_le 1 (length w)) (nat_le (length w) NAME_MAX && (is_letter (slice_index w 0) && list_all is_name_byte w)) e in
        let later = and_parts (nat_le (length w) NAME_MAX) (is_letter (slice_index w 0) && list_all is_name_byte w) parts.1 in
        absurd (h (IsUtf8-from_ascii w (small_bytes w (and_parts (is_letter (slice_index w 0)) (list_all is_name_byte w) later.1).1)))
    by false e = refl

-- the first byte that isn't UTF-8 is nowhere in bytes that are
pub no-bad_byte : (at : ℕ) (bs : List ℕ) → IsUtf8 bs → at ≡ bad_byte_or at bs
no-bad_byte at bs u =
    let n : utf8_valid_len bs ≡ length bs = utf8_valid_len-IsUtf8 bs u in
    let h : (utf8_valid_len bs == length bs) ≡ true = grind (arith, nat_tests) in
    ap (λ b. if b then at else utf8_valid_len bs) (sym h)
