-- Cutting a text at its slashes undoes its escapes.
use Rattle.std.proofs.Common.{◌≡◌, ℕ, suc, ◌<◌, ◌≤◌, List, [], ◌∷◌, ◌++◌, Bool, true, false, ◌==◌, nat_lt, length, get_or, refl, ap, sym, ◌∙◌, arith, append-nil, append_assoc}
use Rattle.std.proofs.lemmas.Bool.{ltb-true, ltb-false, ne_eqb}
use Rattle.std.proofs.lemmas.Bool.Decides.{nat_tests}
use Rattle.std.proofs.lemmas.Str.{encode_ascii, inside_one, encodes-append, length-encode, len_utf8_bounds}
use Rattle.std.specs.Char.{encode_utf8}
use Rattle.std.specs.Str.{encode_utf8_all}
use Rattle.cp_path.specs.Place.{Label}
use Rattle.cp_path.specs.Spelling.{escaped_text, raw_place, label_word, label_text}
use Rattle.cp_spelling.specs.Reading.{IsLabelSpelling, IsPlaceSpelling, SpellsPlace}
use Rattle.cp_spelling.proofs.Placed.{word_place}
use Rattle.cp_spelling.specs.Scan.{pieces, unescaped_byte}
use Rattle.cp_path.specs.declared.loc.Loc.{Loc}
use Rattle.cp_spelling.proofs.PiecesLemmas.{one_byte, pieces_of_label, pieces_of_place}

-- a byte that is no part of an escape, and no slash
abbrev IsPlain : ℕ → Type 0
IsPlain x = ((x == 126) ≡ false) × ((x == 47) ≡ false) × ((x == 48) ≡ false) × ((x == 49) ≡ false)

abbrev ArePlain : List ℕ → Type 0
ArePlain xs = (k : ℕ) → k < length xs → IsPlain (get_or xs k 0)

plain_bytes : (a xs w : List ℕ) → ArePlain xs → pieces false a (xs ++ w) ≡ pieces false (a ++ xs) w
plain_bytes a [] w h = ap (λ v. pieces false v w) (sym (append-nil a))
plain_bytes a (x ∷ xs) w h =
    let here = h 0 (omega arith) in
    one_byte a x (xs ++ w) here.0 here.1 ∙ plain_bytes (a ++ x ∷ []) xs w (λ k l. h (suc k) (omega arith)) ∙ ap (λ v. pieces false v w) (append_assoc a (x ∷ []) xs)

after_tilde : (a xs w : List ℕ) → 0 < length xs → ArePlain xs → pieces true a (xs ++ w) ≡ pieces false (a ++ xs) w
after_tilde a [] w l h = absurd (omega arith)
after_tilde a (x ∷ xs) w l h =
    let here = h 0 (omega arith) in
    let same : unescaped_byte x ≡ x = rw (here.2, here.3) refl in
    ap (λ y. pieces false (a ++ y ∷ []) (xs ++ w)) same ∙ plain_bytes (a ++ x ∷ []) xs w (λ k m. h (suc k) (omega arith)) ∙ ap (λ v. pieces false v w) (append_assoc a (x ∷ []) xs)

high_byte : (c k n : ℕ) → 128 ≤ c → n < 128 → k < length (encode_utf8 c) → (get_or (encode_utf8 c) k 0 == n) ≡ false
high_byte c k n h small l = ne_eqb (get_or (encode_utf8 c) k 0) n (λ e.
    let same : c ≡ get_or (encode_utf8 c) k 0 = inside_one c [] (encode_utf8 c) k (sym (append-nil (encode_utf8 c))) l (omega arith) in omega arith)

high : (c : ℕ) → 128 ≤ c → ArePlain (encode_utf8 c)
high c h = λ k l. (high_byte c k 126 h (omega arith) l, high_byte c k 47 h (omega arith) l, high_byte c k 48 h (omega arith) l, high_byte c k 49 h (omega arith) l)

some_bytes : (c : ℕ) → 0 < length (encode_utf8 c)
some_bytes c = let b = (len_utf8_bounds c).0 in omega (arith, length-encode c)

pub behind_tilde : (a : List ℕ) (c : ℕ) (w : List ℕ) → pieces true a (encode_utf8 c ++ w) ≡ pieces false (a ++ encode_utf8 (unescaped_byte c)) w
behind_tilde a c w = by (nat_lt c 128) refl
  where
    low : (n : ℕ) → n < 128 → unescaped_byte n < 128
    low n h = grind (arith, nat_tests)

    by : (b : Bool) → nat_lt c 128 ≡ b → pieces true a (encode_utf8 c ++ w) ≡ pieces false (a ++ encode_utf8 (unescaped_byte c)) w
    by true h = let l = ltb-true c 128 h in ap (λ v. pieces true a (v ++ w)) (encode_ascii c l) ∙ ap (λ v. pieces false (a ++ v) w) (sym (encode_ascii (unescaped_byte c) (low c l)))
    by false h =
        let l = ltb-false c 128 h in
        let same : unescaped_byte c ≡ c = rw (ne_eqb c 48 (λ e. omega arith), ne_eqb c 49 (λ e. omega arith)) refl in
        after_tilde a (encode_utf8 c) w (some_bytes c) (high c l) ∙ ap (λ y. pieces false (a ++ encode_utf8 y) w) (sym same)

pub plain_piece : (a : List ℕ) (c : ℕ) (w : List ℕ) → ¬ (c ≡ 126) → ¬ (c ≡ 47) → pieces false a (encode_utf8 c ++ w) ≡ pieces false (a ++ encode_utf8 c) w
plain_piece a c w t s = by (nat_lt c 128) refl
  where
    by : (b : Bool) → nat_lt c 128 ≡ b → pieces false a (encode_utf8 c ++ w) ≡ pieces false (a ++ encode_utf8 c) w
    by true h = let l = ltb-true c 128 h in
        ap (λ v. pieces false a (v ++ w)) (encode_ascii c l) ∙ one_byte a c w (ne_eqb c 126 t) (ne_eqb c 47 s) ∙ ap (λ v. pieces false (a ++ v) w) (sym (encode_ascii c l))
    by false h = plain_bytes a (encode_utf8 c) w (high c (ltb-false c 128 h))

-- ---- a text cut character by character

pub split_step : (cs rest : List ℕ) (c : ℕ) → encode_utf8_all cs ++ (encode_utf8 c ++ rest) ≡ encode_utf8_all (cs ++ c ∷ []) ++ rest
split_step cs rest c =
    sym (append_assoc (encode_utf8_all cs) (encode_utf8 c) rest)
    ∙ ap (λ v. v ++ rest) (ap (λ v. encode_utf8_all cs ++ v) (sym (append-nil (encode_utf8 c))) ∙ sym (encodes-append cs (c ∷ [])))

pub label_pieces : (text : List ℕ) (v : List (List ℕ)) (w : List ℕ) → v ≡ pieces false [] text → ((r : List ℕ) → w ≡ label_word r → text ≡ r) → IsLabelSpelling w → (a : Label) × (w ≡ label_text a) × (v ≡ a ∷ [])
label_pieces text v w e f h = (h.0, h.1, e ∙ ap (pieces false []) (f (escaped_text h.0) h.1) ∙ pieces_of_label h.0)

pub place_pieces : (text : List ℕ) (v : List (List ℕ)) (w : List ℕ) → v ≡ pieces false [] text → ((r : List ℕ) → w ≡ label_word r → text ≡ r) → IsPlaceSpelling w → (q : Loc) × SpellsPlace w q × (v ≡ q.db ∷ q.path)
place_pieces text v w e f h =
    (h.0, h.1, e ∙ ap (pieces false []) (f (raw_place h.0) (h.1.1 ∙ sym (word_place h.0 h.1.0))) ∙ pieces_of_place h.0 h.1.0)

pub last_piece : (t : Bool) (a : List ℕ) → pieces t a [] ≡ a ∷ []
last_piece true a = refl
last_piece false a = refl
