-- Escaping a character's bytes, and a label's characters one by one.
use Rattle.std.proofs.Common.{◌≡◌, ℕ, suc, ◌<◌, List, [], ◌∷◌, ◌++◌, length, get_or, refl, ap, sym, ◌∙◌, arith, append_assoc, append-nil}
use Rattle.std.proofs.lemmas.Bool.{ne_eqb}
use Rattle.std.proofs.lemmas.Str.{inside_one, encodes-append}
use Rattle.std.proofs.lemmas.Grind.{flat_map-append}
use Rattle.std.specs.Str.{encode_utf8_all}
use Rattle.std.specs.Char.{encode_utf8}
use Rattle.cp_path.specs.Spelling.{escape_label_byte, escaped_text}

pub plain_byte : (x : ℕ) → ¬ (x ≡ 126) → ¬ (x ≡ 47) → escape_label_byte x ≡ x ∷ []
plain_byte x t s = rw (ne_eqb x 126 t, ne_eqb x 47 s) refl

-- bytes that are neither stand for themselves
pub plain_bytes : (xs : List ℕ) → ((k : ℕ) → k < length xs → ¬ (get_or xs k 0 ≡ 126) × ¬ (get_or xs k 0 ≡ 47)) → escaped_text xs ≡ xs
plain_bytes [] h = refl
plain_bytes (x ∷ xs) h =
    let here = h 0 (omega arith) in
    rw (plain_byte x here.0 here.1, plain_bytes xs (λ k l. h (suc k) (omega arith))) refl

-- a character that is neither stands for itself
pub plain_character : (c : ℕ) → ¬ (c ≡ 126) → ¬ (c ≡ 47) → escaped_text (encode_utf8 c) ≡ encode_utf8 c
plain_character c t s = plain_bytes (encode_utf8 c) (λ k l. (
  λ e. t (inside_one c [] (encode_utf8 c) k (sym (append-nil (encode_utf8 c))) l (omega arith) ∙ e),
  λ e. s (inside_one c [] (encode_utf8 c) k (sym (append-nil (encode_utf8 c))) l (omega arith) ∙ e),
))

pub escaped_more : (cs : List ℕ) (c : ℕ) → escaped_text (encode_utf8_all (cs ++ c ∷ [])) ≡ escaped_text (encode_utf8_all cs) ++ escaped_text (encode_utf8 c)
escaped_more cs c =
    rw (encodes-append cs (c ∷ []), flat_map-append escape_label_byte (encode_utf8_all cs) (encode_utf8_all (c ∷ [])))
    (ap (λ w. escaped_text (encode_utf8_all cs) ++ escaped_text w) (append-nil (encode_utf8 c)))

pub escaped_step : (out start : List ℕ) (new : List ℕ) (cs : List ℕ) (c : ℕ) → out ≡ start ++ escaped_text (encode_utf8_all cs) → new ≡ out ++ escaped_text (encode_utf8 c) → new ≡ start ++ escaped_text (encode_utf8_all (cs ++ c ∷ []))
escaped_step out start new cs c before step =
    step ∙ ap (λ w. w ++ escaped_text (encode_utf8 c)) before ∙ append_assoc start (escaped_text (encode_utf8_all cs)) (escaped_text (encode_utf8 c)) ∙ ap (λ w. start ++ w) (sym (escaped_more cs c))
