-- How the tokens of a text follow from the bytes that it begins with.
use Rattle.std.specs.Prelude.{ℕ, zero, suc, ◌+◌, ◌/◌, ◌%◌, ◌<◌, ◌≤◌, ◌≡◌, ◌==◌, List, [], ◌∷◌, ◌++◌, Bool, true, false, cond, nat_lt, length, take, drop, if◌then◌else◌, refl}
use Rattle.std.specs.declared.option.Option.{Option}
use Rattle.std.specs.declared.option.Option.TheVariants.{None, Some}
use Rattle.std.specs.Option.{option_map}
use Rattle.std.specs.Char.{digit_char}
use Rattle.std.proofs.Common.{sym, ap, ◌∙◌, append_assoc, arith, add-one}
use Rattle.std.proofs.lemmas.Bool.{or_parts}
use Rattle.std.proofs.lemmas.Bool.Decides.{nat_tests}
use Rattle.std.proofs.lemmas.List.{length-drop, length-append, take_at, drop_at}
use Rattle.json.specs.Print.{quoted, escape, escape_byte, escape_letter}
use Rattle.cp_path.specs.Spelling.{is_trigger, has_trigger}
use Rattle.cp_lang.specs.Spaces.{is_space}
use Rattle.cp_lang.specs.Lexer.{Shape, Token, FrontToken, word, quotes, run, closing, mark, quote_token, front_token, tokens_in, tokens_at, spaces, first_token}

-- what a token is, and how many bytes it takes
abbrev pub lexeme : Shape → ℕ → FrontToken
lexeme s n = record { shape = s; size = n }

-- a token at an offset
abbrev pub token : ℕ → Shape → Token
token at s = record { at = at; shape = s }

-- no word goes on with these bytes
abbrev pub stops_word : List ℕ → Bool
stops_word [] = true
stops_word (x ∷ xs) = is_trigger x

-- the token of a byte that isn't a quotation mark and of what follows it, by whether the byte is a trigger
abbrev bare_lexed : Bool → ℕ → List ℕ → FrontToken
bare_lexed b x xs = if b then lexeme (mark x) 1 else lexeme (word (take (run (x ∷ xs)) (x ∷ xs))) (run (x ∷ xs))

-- a size, if there is one, is at least 1 and at most n
abbrev Within : ℕ → Option ℕ → Type 0
Within n None = Unit {0}
Within n (Some k) = (1 ≤ k) × (k ≤ n)

within_more : (n : ℕ) (o : Option ℕ) → Within n o → Within (suc n) (option_map (λ k. k + 1) o)
within_more n None p = tt
within_more n (Some k) p = (omega (arith, p.0), omega (arith, p.1))

closing_within : (e : Bool) (xs : List ℕ) → Within (length xs) (closing e xs)
closing_within true [] = tt
closing_within false [] = tt
closing_within true (x ∷ xs) = within_more (length xs) (closing false xs) (closing_within false xs)
closing_within false (x ∷ xs) =
    elim (x == 34) as (λ b. Within (suc (length xs)) (if b then Some 1 else option_map (λ n. n + 1) (closing (x == 92) xs))) [
      | true ↦ (omega arith, omega arith)
      | false ↦ within_more (length xs) (closing (x == 92) xs) (closing_within (x == 92) xs)
    ]

run_le : (xs : List ℕ) → run xs ≤ length xs
run_le [] = omega arith
run_le (x ∷ xs) =
    elim (is_trigger x) as (λ b. (if b then 0 else run xs + 1) ≤ suc (length xs)) [ true ↦ omega arith | false ↦ omega (arith, run_le xs) ]

-- a byte that is no trigger is one more of the run
pub run_more : (x : ℕ) (xs : List ℕ) → is_trigger x ≡ false → run (x ∷ xs) ≡ run xs + 1
run_more x xs e = ap (λ b. if b then 0 else run xs + 1) e

-- a quotation mark is a trigger
pub quote_triggers : (x : ℕ) → is_trigger x ≡ false → (x == 34) ≡ false
quote_triggers x e = grind (arith, nat_tests)

-- white space is made of triggers
pub space_triggers : (x : ℕ) → is_trigger x ≡ false → is_space x ≡ false
space_triggers x e = grind (arith, nat_tests)

lexed_bare : (x : ℕ) (xs : List ℕ) → (x == 34) ≡ false → front_token x xs ≡ bare_lexed (is_trigger x) x xs
lexed_bare x xs e = ap (λ b. if b then quote_token (x ∷ xs) (closing false xs) else bare_lexed (is_trigger x) x xs) e

-- a token takes a byte, and no more than there are
abbrev pub Fits : ℕ → FrontToken → Type 0
Fits n l = (1 ≤ l.size) × (l.size ≤ n)

pub lexed_fits : (x : ℕ) (xs : List ℕ) → Fits (suc (length xs)) (front_token x xs)
lexed_fits x xs =
    elim (x == 34) as (λ b. Fits (suc (length xs)) (if b then quote_token (x ∷ xs) (closing false xs) else bare_lexed (is_trigger x) x xs)) [
      | true ↦ quote (closing false xs) (closing_within false xs)
      | false ↦ bare (is_trigger x) refl
    ]
  where
    quote : (o : Option ℕ) → Within (length xs) o → Fits (suc (length xs)) (quote_token (x ∷ xs) o)
    quote None p = (omega arith, omega arith)
    quote (Some n) p = (omega (arith, p.0), omega (arith, p.1))

    bare : (b : Bool) → is_trigger x ≡ b → Fits (suc (length xs)) (bare_lexed b x xs)
    bare true e = (omega arith, omega arith)
    bare false e = let r = run_more x xs e in (omega (arith, r), omega (arith, r, run_le xs))

-- once there are as many as bytes, more tokens change nothing
pub tokens_enough : (n m at : ℕ) (bs : List ℕ) → length bs ≤ n → length bs ≤ m → tokens_in n at bs ≡ tokens_in m at bs
unfolding tokens_in
tokens_enough zero zero at bs p q = refl
tokens_enough zero (suc m) at [] p q = refl
tokens_enough zero (suc m) at (x ∷ xs) p q = absurd (omega (arith, p))
tokens_enough (suc n) zero at [] p q = refl
tokens_enough (suc n) zero at (x ∷ xs) p q = absurd (omega (arith, q))
tokens_enough (suc n) (suc m) at [] p q = refl
tokens_enough (suc n) (suc m) at (x ∷ xs) p q =
    let s = lexed_fits x xs in
    let d = length-drop (front_token x xs).size (x ∷ xs) in
    let after = drop (front_token x xs).size (x ∷ xs) in
    let first = token at (front_token x xs).shape in
    elim (is_space x) as (λ b. (if b then tokens_in n (at + 1) xs else first ∷ tokens_in n (at + (front_token x xs).size) after) ≡ (if b then tokens_in m (at + 1) xs else first ∷ tokens_in m (at + (front_token x xs).size) after)) [
      | true ↦ tokens_enough n m (at + 1) xs (omega (arith, p)) (omega (arith, q))
      | false ↦ ap (λ ts. first ∷ ts) (tokens_enough n m (at + (front_token x xs).size) after (omega (arith, p, d, s.0)) (omega (arith, q, d, s.0)))
    ]

-- white space before the tokens moves them
pub tokens_space : (at x : ℕ) (xs : List ℕ) → is_space x ≡ true → tokens_at at (x ∷ xs) ≡ tokens_at (at + 1) xs
unfolding tokens_in
tokens_space at x xs e =
    ap (λ b. if b then tokens_in (length xs) (at + 1) xs else token at (front_token x xs).shape ∷ tokens_in (length xs) (at + (front_token x xs).size) (drop (front_token x xs).size (x ∷ xs))) e

-- the first token, and the tokens of what follows it
pub tokens_first : (at x : ℕ) (xs : List ℕ) → is_space x ≡ false →
    tokens_at at (x ∷ xs) ≡ token at (front_token x xs).shape ∷ tokens_at (at + (front_token x xs).size) (drop (front_token x xs).size (x ∷ xs))
unfolding tokens_in
tokens_first at x xs e =
    let s = lexed_fits x xs in
    let d = length-drop (front_token x xs).size (x ∷ xs) in
    let after = drop (front_token x xs).size (x ∷ xs) in
    ap (λ b. if b then tokens_in (length xs) (at + 1) xs else token at (front_token x xs).shape ∷ tokens_in (length xs) (at + (front_token x xs).size) after) e
    ∙ ap (λ ts. token at (front_token x xs).shape ∷ ts) (tokens_enough (length xs) (length after) (at + (front_token x xs).size) after (omega (arith, d, s.0)) (omega arith))

-- all white space that bytes begin with moves their tokens
pub tokens_spaces : (at : ℕ) (bs : List ℕ) → tokens_at at bs ≡ tokens_at (at + spaces bs) (drop (spaces bs) bs)
unfolding tokens_in
tokens_spaces at [] = refl
tokens_spaces at (x ∷ xs) = by (is_space x) refl (tokens_spaces (at + 1) xs)
  where
    by : (b : Bool) → is_space x ≡ b → tokens_at (at + 1) xs ≡ tokens_at (at + 1 + spaces xs) (drop (spaces xs) xs) →
        tokens_at at (x ∷ xs) ≡ tokens_at (at + spaces (x ∷ xs)) (drop (spaces (x ∷ xs)) (x ∷ xs))
    by true e behind =
        let s : spaces (x ∷ xs) ≡ suc (spaces xs) = ap (λ b. if b then spaces xs + 1 else 0) e ∙ add-one (spaces xs) in
        let n : at + 1 + spaces xs ≡ at + suc (spaces xs) = omega arith in
        tokens_space at x xs e ∙ behind
        ∙ ap (λ n. tokens_at n (drop (spaces xs) xs)) n ∙ sym (ap (λ n. tokens_at (at + n) (drop n (x ∷ xs))) s)
    by false e behind =
        let s : spaces (x ∷ xs) ≡ 0 = ap (λ b. if b then spaces xs + 1 else 0) e in
        let n : at ≡ at + 0 = omega arith in
        ap (λ n. tokens_at n (x ∷ xs)) n ∙ sym (ap (λ n. tokens_at (at + n) (drop n (x ∷ xs))) s)

-- no white space is left behind it
pub spaces_stop : (bs : List ℕ) (x : ℕ) (xs : List ℕ) → drop (spaces bs) bs ≡ x ∷ xs → is_space x ≡ false
spaces_stop [] x xs h = absurd (cc)
spaces_stop (y ∷ ys) x xs h = by (is_space y) refl (spaces_stop ys x xs)
  where
    by : (b : Bool) → is_space y ≡ b → (drop (spaces ys) ys ≡ x ∷ xs → is_space x ≡ false) → is_space x ≡ false
    by true e behind =
        let s : spaces (y ∷ ys) ≡ suc (spaces ys) = ap (λ b. if b then spaces ys + 1 else 0) e ∙ add-one (spaces ys) in
        behind (sym (ap (λ n. drop n (y ∷ ys)) s) ∙ h)
    by false e behind =
        let s : spaces (y ∷ ys) ≡ 0 = ap (λ b. if b then spaces ys + 1 else 0) e in
        let k : y ∷ ys ≡ x ∷ xs = sym (ap (λ n. drop n (y ∷ ys)) s) ∙ h in
        let f : y ≡ x = cc in sym (ap is_space f) ∙ e

-- the token that bytes begin with, of which it is the front
pub tokens_front : (at : ℕ) (s : Shape) (x : ℕ) (front rest : List ℕ) → is_space x ≡ false → front_token x (front ++ rest) ≡ lexeme s (suc (length front)) →
    tokens_at at (x ∷ front ++ rest) ≡ token at s ∷ tokens_at (at + suc (length front)) rest
tokens_front at s x front rest a e =
    tokens_first at x (front ++ rest) a
    ∙ ap (λ l. token at l.shape ∷ tokens_at (at + l.size) (drop l.size (x ∷ front ++ rest))) e
    ∙ ap (λ bs. token at s ∷ tokens_at (at + suc (length front)) bs) (drop_at front rest (length front) refl)

-- the run of a word is the word
pub run_word : (w rest : List ℕ) → has_trigger w ≡ false → stops_word rest ≡ true → run (w ++ rest) ≡ length w
run_word [] [] h s = refl
run_word [] (x ∷ xs) h s = ap (λ b. if b then 0 else run xs + 1) s
run_word (x ∷ w) rest h s =
    let p = or_parts (is_trigger x) (has_trigger w) h in
    run_more x (w ++ rest) p.0 ∙ ap (λ n. n + 1) (run_word w rest p.1 s) ∙ add-one (length w)

-- a word is a token, and takes all its bytes
pub word_lexed : (w rest : List ℕ) → 0 < length w → has_trigger w ≡ false → stops_word rest ≡ true → first_token (w ++ rest) ≡ lexeme (word w) (length w)
word_lexed [] rest l h s = absurd (omega (arith, l))
word_lexed (x ∷ w) rest l h s =
    let p = or_parts (is_trigger x) (has_trigger w) h in
    lexed_bare x (w ++ rest) (quote_triggers x p.0)
    ∙ ap (λ b. bare_lexed b x (w ++ rest)) p.0
    ∙ ap (λ n. lexeme (word (take n (x ∷ w ++ rest))) n) (run_word (x ∷ w) rest h s)
    ∙ ap (λ bs. lexeme (word bs) (length (x ∷ w))) (take_at (x ∷ w) rest (length (x ∷ w)) refl)

-- the tokens of a word and of what follows it
pub tokens_word : (at : ℕ) (w rest : List ℕ) → 0 < length w → has_trigger w ≡ false → stops_word rest ≡ true →
    tokens_at at (w ++ rest) ≡ token at (word w) ∷ tokens_at (at + length w) rest
tokens_word at [] rest l h s = absurd (omega (arith, l))
tokens_word at (x ∷ w) rest l h s =
    tokens_front at (word (x ∷ w)) x w rest (space_triggers x (or_parts (is_trigger x) (has_trigger w) h).0) (word_lexed (x ∷ w) rest l h s)

-- a trigger that is no quotation mark is a token
pub mark_lexed : (x : ℕ) (rest : List ℕ) → is_trigger x ≡ true → (x == 34) ≡ false → front_token x rest ≡ lexeme (mark x) 1
mark_lexed x rest t q = lexed_bare x rest q ∙ ap (λ b. bare_lexed b x rest) t

-- the tokens of a mark and of what follows it
pub tokens_mark : (at x : ℕ) (rest : List ℕ) → is_space x ≡ false → is_trigger x ≡ true → (x == 34) ≡ false → tokens_at at (x ∷ rest) ≡ token at (mark x) ∷ tokens_at (at + 1) rest
tokens_mark at x rest a t q = tokens_front at (mark x) x [] rest a (mark_lexed x rest t q)

-- a digit's character is neither a quotation mark nor a backslash
digit_plain : (d : ℕ) → (digit_char d == 34) ≡ false
digit_plain d = grind (arith, nat_tests)

digit_unescaping : (d : ℕ) → (digit_char d == 92) ≡ false
digit_unescaping d = grind (arith, nat_tests)

-- so many bytes more before the quotation mark that closes
abbrev pub later : ℕ → Option ℕ → Option ℕ
later k o = option_map (λ n. n + k) o

later_later : (j k : ℕ) (o : Option ℕ) → later j (later k o) ≡ later (k + j) o
later_later j k None = refl
later_later j k (Some n) = ap Some (omega arith)

-- a byte that is neither a quotation mark nor a backslash is passed over
pub closing_plain : (x : ℕ) (zs : List ℕ) → (x == 34) ≡ false → (x == 92) ≡ false → closing false (x ∷ zs) ≡ later 1 (closing false zs)
closing_plain x zs q s =
    ap (λ b. if b then Some 1 else later 1 (closing (x == 92) zs)) q ∙ ap (λ b. later 1 (closing b zs)) s

closing_short : (l : ℕ) (zs : List ℕ) → closing false (92 ∷ l ∷ zs) ≡ later 2 (closing false zs)
closing_short l zs = later_later 1 1 (closing false zs)

closing_long : (c d : ℕ) (zs : List ℕ) → closing false (92 ∷ 117 ∷ 48 ∷ 48 ∷ digit_char c ∷ digit_char d ∷ zs) ≡ later 6 (closing false zs)
closing_long c d zs =
    ap (later 1) (ap (later 1) (ap (later 1) (ap (later 1) (
    closing_plain (digit_char c) (digit_char d ∷ zs) (digit_plain c) (digit_unescaping c)
    ∙ ap (later 1) (closing_plain (digit_char d) zs (digit_plain d) (digit_unescaping d))
    ))))
    ∙ six (closing false zs)
  where
    six : (o : Option ℕ) → later 1 (later 1 (later 1 (later 1 (later 1 (later 1 o))))) ≡ later 6 o
    six None = refl
    six (Some n) = ap Some (omega arith)

-- what a text in quotation marks holds in place of a byte doesn't close them
closing_escape_byte : (x : ℕ) (zs : List ℕ) → closing false (escape_byte x ++ zs) ≡ later (length (escape_byte x)) (closing false zs)
unfolding escape_byte
closing_escape_byte x zs =
    elim (nat_lt 0 (escape_letter x)) as (λ b. nat_lt 0 (escape_letter x) ≡ b → At (cond b (92 ∷ escape_letter x ∷ []) (long (nat_lt x 32)))) [
      | true ↦ λ h. closing_short (escape_letter x) zs
      | false ↦ λ h. elim (nat_lt x 32) as (λ b. At (long b)) [
        | true ↦ closing_long (x / 16) (x % 16) zs
        | false ↦ closing_plain x zs (plain h).0 (plain h).1
      ]
    ] refl
  where
    At : List ℕ → Type 0
    At bs = closing false (bs ++ zs) ≡ later (length bs) (closing false zs)

    long : Bool → List ℕ
    long b = cond b (92 ∷ 117 ∷ 48 ∷ 48 ∷ digit_char (x / 16) ∷ digit_char (x % 16) ∷ []) (x ∷ [])

    plain : nat_lt 0 (escape_letter x) ≡ false → ((x == 34) ≡ false) × ((x == 92) ≡ false)
    plain h = (grind (arith, nat_tests), grind (arith, nat_tests))

-- the quotation mark behind an escaped text closes it
closing_escape : (t rest : List ℕ) → closing false ((escape t ++ 34 ∷ []) ++ rest) ≡ Some (length (escape t ++ 34 ∷ []))
closing_escape [] rest = refl
closing_escape (x ∷ t) rest =
    let behind = escape t ++ 34 ∷ [] in
    let all : (escape (x ∷ t) ++ 34 ∷ []) ≡ escape_byte x ++ behind = append_assoc (escape_byte x) (escape t) (34 ∷ []) in
    let n : length behind + length (escape_byte x) ≡ length (escape_byte x ++ behind) = (let l = length-append (escape_byte x) behind in omega (arith, l)) in
    ap (λ bs. closing false (bs ++ rest)) all
    ∙ ap (closing false) (append_assoc (escape_byte x) behind rest)
    ∙ closing_escape_byte x (behind ++ rest)
    ∙ ap (later (length (escape_byte x))) (closing_escape t rest)
    ∙ ap Some (n ∙ sym (ap length all))

-- a quoted text is a token, and takes all its bytes
pub quoted_lexed : (t rest : List ℕ) → first_token (quoted t ++ rest) ≡ lexeme (quotes (quoted t)) (length (quoted t))
quoted_lexed t rest =
    let body = escape t ++ 34 ∷ [] in
    ap (quote_token (34 ∷ body ++ rest)) (closing_escape t rest)
    ∙ ap (λ n. lexeme (quotes (take n (34 ∷ body ++ rest))) n) (add-one (length body))
    ∙ ap (λ bs. lexeme (quotes bs) (length (quoted t))) (take_at (quoted t) rest (length (quoted t)) refl)

-- the tokens of a quoted text and of what follows it
pub tokens_quoted : (at : ℕ) (t rest : List ℕ) → tokens_at at (quoted t ++ rest) ≡ token at (quotes (quoted t)) ∷ tokens_at (at + length (quoted t)) rest
tokens_quoted at t rest = tokens_front at (quotes (quoted t)) 34 (escape t ++ 34 ∷ []) rest refl (quoted_lexed t rest)
