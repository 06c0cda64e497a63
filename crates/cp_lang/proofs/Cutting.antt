-- Where a lexer cuts a text: between characters.
use Rattle.std.proofs.Common.{◌≡◌, ℕ, suc, ◌+◌, ◌-◌, ◌<◌, ◌≤◌, List, [], ◌∷◌, Bool, true, false, ◌==◌, length, drop, get_or, refl, ap, sym, ◌∙◌, arith, add-one, subst, Option, Some, None, if◌then◌else◌}
use Rattle.std.proofs.lemmas.Bool.Decides.{nat_tests}
use Rattle.std.proofs.lemmas.List.{drop_more, length-drop}
use Rattle.std.proofs.lemmas.Str.{IsCharBoundary-start, IsCharBoundary-after_ascii, IsUtf8-drop}
use Rattle.std.specs.Str.{IsUtf8, IsCharBoundary}
use Rattle.cp_path.specs.Spelling.{is_trigger}
use Rattle.cp_lang.specs.Spaces.{is_space}
use Rattle.cp_lang.specs.Lexer.{run, closing, front_token, tokens_in, tokens_at, spaces, first_token}
use Rattle.cp_lang.proofs.LexerLaws.{token, later, lexed_fits, tokens_spaces, tokens_first, spaces_stop}

space-ascii : (x : ℕ) → is_space x ≡ true → x < 128
space-ascii x e = grind (arith, nat_tests)

trigger-ascii : (x : ℕ) → is_trigger x ≡ true → x < 128
trigger-ascii x e = grind (arith, nat_tests)

-- a place behind one byte more
boundary-more : (x : ℕ) (xs : List ℕ) (n : ℕ) → IsCharBoundary xs n → IsCharBoundary (x ∷ xs) (suc n)
boundary-more x xs n p = (omega (arith, p.0), λ l. p.1 (omega (arith, l)))

-- the text may be cut behind the white space that it begins with
pub spaces_cut : (bs : List ℕ) → IsUtf8 bs → IsCharBoundary bs (spaces bs)
spaces_cut [] u = (omega arith, λ l. absurd (omega (arith, l)))
spaces_cut (x ∷ xs) u = by (is_space x) refl (spaces_cut xs)
  where
    by : (b : Bool) → is_space x ≡ b → (IsUtf8 xs → IsCharBoundary xs (spaces xs)) → IsCharBoundary (x ∷ xs) (spaces (x ∷ xs))
    by true e behind =
        let s : spaces (x ∷ xs) ≡ suc (spaces xs) = ap (λ b. if b then spaces xs + 1 else 0) e ∙ add-one (spaces xs) in
        let one : IsCharBoundary (x ∷ xs) 1 = IsCharBoundary-after_ascii (x ∷ xs) 0 u (omega arith) (space-ascii x e) in
        subst (IsCharBoundary (x ∷ xs)) (sym s) (boundary-more x xs (spaces xs) (behind (IsUtf8-drop (x ∷ xs) 1 u one)))
    by false e behind =
        let s : spaces (x ∷ xs) ≡ 0 = ap (λ b. if b then spaces xs + 1 else 0) e in
        subst (IsCharBoundary (x ∷ xs)) (sym s) (IsCharBoundary-start (x ∷ xs) u)

-- the text may be cut where a word ends
pub run_cut : (bs : List ℕ) → IsCharBoundary bs (run bs)
run_cut [] = (omega arith, λ l. absurd (omega (arith, l)))
run_cut (x ∷ xs) = by (is_trigger x) refl (run_cut xs)
  where
    by : (b : Bool) → is_trigger x ≡ b → IsCharBoundary xs (run xs) → IsCharBoundary (x ∷ xs) (run (x ∷ xs))
    by true e behind =
        let s : run (x ∷ xs) ≡ 0 = ap (λ b. if b then 0 else run xs + 1) e in
        let small = trigger-ascii x e in
        let here : IsCharBoundary (x ∷ xs) 0 = (omega arith, λ l h. absurd (omega (arith, h, small))) in
        subst (IsCharBoundary (x ∷ xs)) (sym s) here
    by false e behind =
        let s : run (x ∷ xs) ≡ suc (run xs) = ap (λ b. if b then 0 else run xs + 1) e ∙ add-one (run xs) in
        subst (IsCharBoundary (x ∷ xs)) (sym s) (boundary-more x xs (run xs) behind)

-- and behind a trigger
pub mark_cut : (bs : List ℕ) → IsUtf8 bs → 0 < length bs → is_trigger (get_or bs 0 0) ≡ true → IsCharBoundary bs 1
mark_cut bs u l e = IsCharBoundary-after_ascii bs 0 u l (trigger-ascii (get_or bs 0 0) e)

-- the byte before the end of a quoted text is a quotation mark
abbrev Closes : List ℕ → Option ℕ → Type 0
Closes xs None = Unit {0}
Closes xs (Some n) = (n ≤ length xs) × ((y : ℕ) → get_or (y ∷ xs) n 0 ≡ 34)

closes-more : (x : ℕ) (xs : List ℕ) (o : Option ℕ) → Closes xs o → Closes (x ∷ xs) (later 1 o)
closes-more x xs None p = tt
closes-more x xs (Some n) p = (omega (arith, p.0), λ y. ap (λ k. get_or (y ∷ x ∷ xs) k 0) (add-one n) ∙ p.1 x)

closing-closes : (e : Bool) (xs : List ℕ) → Closes xs (closing e xs)
closing-closes true [] = tt
closing-closes false [] = tt
closing-closes true (x ∷ xs) = closes-more x xs (closing false xs) (closing-closes false xs)
closing-closes false (x ∷ xs) =
    elim (x == 34) as (λ b. (x == 34) ≡ b → Closes (x ∷ xs) (if b then Some 1 else later 1 (closing (x == 92) xs))) [
      | true ↦ λ h. (omega arith, λ y. (let k : x ≡ 34 = grind (arith, nat_tests) in k))
      | false ↦ λ h. closes-more x xs (closing (x == 92) xs) (closing-closes (x == 92) xs)
    ] refl

-- and behind the quotation mark that closes
pub quoted_cut : (bs : List ℕ) (n : ℕ) → IsUtf8 bs → 0 < length bs → closing false (drop 1 bs) ≡ Some n → IsCharBoundary bs (n + 1)
quoted_cut [] n u l e = absurd (omega (arith, l))
quoted_cut (x ∷ xs) n u l e =
    let p : Closes xs (Some n) = subst (Closes xs) e (closing-closes false xs) in
    let b = p.1 x in
    IsCharBoundary-after_ascii (x ∷ xs) n u (omega (arith, p.0)) (omega (arith, b))

later-one : (k : ℕ) (o : Option ℕ) → later k (later 1 o) ≡ later (k + 1) o
later-one k None = refl
later-one k (Some n) = ap Some (omega arith)

-- a byte behind a backslash is passed over
pub escaped_step : (text : List ℕ) (at : ℕ) → at < length text → later at (closing true (drop at text)) ≡ later (at + 1) (closing false (drop (at + 1) text))
escaped_step text at l = ap (λ bs. later at (closing true bs)) (drop_more text at 0 l) ∙ later-one at (closing false (drop (at + 1) text))

-- any other byte, but a quotation mark
pub plain_step : (text : List ℕ) (at x : ℕ) → at < length text → x ≡ get_or text at 0 → (x == 34) ≡ false → later at (closing false (drop at text)) ≡ later (at + 1) (closing (x == 92) (drop (at + 1) text))
plain_step text at x l r q =
    let behind = drop (at + 1) text in
    ap (λ bs. later at (closing false bs)) (drop_more text at 0 l)
    ∙ ap (λ y. later at (closing false (y ∷ behind))) (sym r)
    ∙ ap (λ b. later at (if b then Some 1 else later 1 (closing (x == 92) behind))) q
    ∙ later-one at (closing (x == 92) behind)

pub tokens_empty : (at : ℕ) (bs : List ℕ) → length bs ≡ 0 → tokens_at at bs ≡ []
unfolding tokens_in
tokens_empty at [] l = refl
tokens_empty at (x ∷ xs) l = absurd (omega (arith, l))

-- white space alone has no token
pub tokens_none : (at k : ℕ) (bs mid : List ℕ) → k ≡ spaces bs → mid ≡ drop k bs → length mid ≡ 0 → tokens_at at bs ≡ []
tokens_none at k bs mid s m l =
    tokens_spaces at bs ∙ sym (ap (λ n. tokens_at (at + n) (drop n bs)) s) ∙ ap (tokens_at (at + k)) (sym m) ∙ tokens_empty (at + k) mid l

-- the first token behind white space, and the tokens of what follows
pub tokens_next : (at k : ℕ) (bs mid rest : List ℕ) → k ≡ spaces bs → mid ≡ drop k bs → 0 < length mid → rest ≡ drop (first_token mid).size mid →
    tokens_at at bs ≡ token (at + k) (first_token mid).shape ∷ tokens_at (at + k + (length mid - length rest)) rest
tokens_next at k bs [] rest s m l r = absurd (omega (arith, l))
tokens_next at k bs (x ∷ xs) rest s m l r =
    let n = (front_token x xs).size in
    let f = lexed_fits x xs in
    let d = length-drop n (x ∷ xs) in
    let lr : length rest ≡ length (drop n (x ∷ xs)) = ap length r in
    let size : n ≡ suc (length xs) - length rest = omega (arith, f.0, f.1, d, lr) in
    let stop = spaces_stop bs x xs (sym (ap (λ j. drop j bs) s) ∙ sym m) in
    tokens_spaces at bs ∙ sym (ap (λ j. tokens_at (at + j) (drop j bs)) s) ∙ ap (tokens_at (at + k)) (sym m)
    ∙ tokens_first (at + k) x xs stop
    ∙ ap (λ bs. token (at + k) (front_token x xs).shape ∷ tokens_at (at + k + n) bs) (sym r)
    ∙ ap (λ j. token (at + k) (front_token x xs).shape ∷ tokens_at (at + k + j) rest) size
