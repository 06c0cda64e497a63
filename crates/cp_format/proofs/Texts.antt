-- A text of so many bytes, read from bytes that may be anything.
use Rattle.std.proofs.Common.{◌≡◌, ℕ, zero, suc, ◌+◌, ◌-◌, ◌<◌, ◌≤◌, List, [], ◌∷◌, ◌++◌, ◌⊎◌, inl, inr, refl, sym, ap, ◌∙◌, subst, append_assoc, append-nil, length, length-append, take, drop, min, arith, IsUtf8}
use Rattle.std.proofs.lemmas.Bool.{cases_lt}
use Rattle.std.proofs.lemmas.Str.{IsUtf8-append, IsUtf8-nil}
use Rattle.std.proofs.lemmas.List.{take-append-drop, take-take, take_all, take_at, length-take-le, length-take, take_min, take_rest}
use Rattle.std.proofs.Math.Seq.{take-append-add, take-add}
use Rattle.cp_format.specs.Formats.{Reads, Goes, Stops}
use Rattle.std.specs.Str.{IsValidUpTo}
use Rattle.cp_format.specs.Chars.{IsChar, HasNoChar, char_format}
use Rattle.cp_format.specs.Parts.{text_format}
use Rattle.cp_format.proofs.Formats.{HasSome, IsPlain, plain_fixed, two_fronts}
use Rattle.cp_format.proofs.Chars.{FirstChar, first_char, utf8_char, behind_text}

abbrev filler : ℕ → List ℕ
filler zero = []
filler (suc n) = 97 ∷ filler n

length-filler : (n : ℕ) → length (filler n) ≡ n
length-filler zero = refl
length-filler (suc n) = ap suc (length-filler n)

utf8_filler : (n : ℕ) → IsUtf8 (filler n)
utf8_filler zero = IsUtf8-nil
utf8_filler (suc n) = IsUtf8-append (97 ∷ []) (filler n) (utf8_char (97 ∷ []) (omega arith)) (utf8_filler n)

-- some text has so many bytes
pub has_text : (n : ℕ) → HasSome (text_format n)
has_text n = record { first = filler n; fit = (utf8_filler n, length-filler n) }

pub plain_text : (n : ℕ) → IsPlain (text_format n)
plain_text n = plain_fixed (text_format n) n (λ a f. f.1) (λ a b f g e. e)

-- all bytes that are there are a text, and too few
pub text_short : (n : ℕ) (bytes : List ℕ) → IsUtf8 bytes → length bytes < n → Stops (text_format n) bytes (length bytes)
text_short n bytes u less =
    let size : length (bytes ++ filler (n - length bytes)) ≡ n = omega (arith, less, length-append bytes (filler (n - length bytes)), length-filler (n - length bytes)) in
    record {
      within = omega arith;
      begins = record { first = bytes ++ filler (n - length bytes); fit = (IsUtf8-append bytes (filler (n - length bytes)) u (utf8_filler (n - length bytes)), size); checked = tt; rest = filler (n - length bytes); is = ap (λ l. l ++ filler (n - length bytes)) (sym (take_all (length bytes) bytes (omega arith))) };
      stops = λ lt z. absurd (omega (arith, lt));
      none = λ a rest r. let all : length bytes ≡ length a + length rest = ap length r.is ∙ length-append a rest in absurd (omega (arith, all, less, r.fit.1));
    }

module _ (n : ℕ) (bytes rest : List ℕ) (u : IsUtf8 bytes) (less : length bytes < n) where
  -- what follows a text in a text of so many bytes begins with a character that has room
  next_char : (tail : List ℕ) → IsUtf8 (bytes ++ tail) → length (bytes ++ tail) ≡ n → (c : FirstChar tail) × (length c.char ≤ n - length bytes)
  next_char tail t size =
      let long : length bytes + length tail ≡ n = sym (length-append bytes tail) ∙ size in
      let c = first_char tail (behind_text bytes tail u t) (omega (arith, long, less)) in
      let parts : length tail ≡ length c.char + length c.rest = ap length c.is ∙ length-append c.char c.rest in
      (c, omega (arith, long, parts))

  char_there : (front : List ℕ) → Goes (text_format n) (bytes ++ front) → Goes (char_format (n - length bytes)) front ⊎ ((w : List ℕ) × (more : List ℕ) × Reads (char_format (n - length bytes)) front w more)
  char_there front z =
      let all : z.first ≡ bytes ++ (front ++ z.rest) = z.is ∙ append_assoc bytes front z.rest in
      let next = next_char (front ++ z.rest) (subst IsUtf8 all z.fit.0) (sym (ap length all) ∙ z.fit.1) in
      let c = next.0 in
      let same : c.char ++ c.rest ≡ front ++ z.rest = sym {b = c.char ++ c.rest} c.is in
      elim (two_fronts c.char front c.rest z.rest same) [
        | inl l ↦ inr (c.char, l.more, record { fit = (c.is_char, next.1); checked = tt; is = l.is })
        | inr l ↦ inl (record { first = c.char; fit = (c.is_char, next.1); checked = tt; rest = l.more; is = l.is })
      ]

  taken : (k : ℕ) → take (length bytes + k) (bytes ++ rest) ≡ bytes ++ take k rest
  taken k = take-append-add bytes rest k

  module _ (k : ℕ) (s : Stops (char_format (n - length bytes)) rest k) where
    text_begins : Goes (text_format n) (take (length bytes + k) (bytes ++ rest))
    text_begins =
        let b = s.begins in
        let fill = filler (n - length bytes - length b.first) in
        let size : length (bytes ++ (b.first ++ fill)) ≡ n = omega (arith, less, b.fit.1, length-append bytes (b.first ++ fill), length-append b.first fill, length-filler (n - length bytes - length b.first)) in
        record {
          first = bytes ++ (b.first ++ fill);
          fit = (IsUtf8-append bytes (b.first ++ fill) u (IsUtf8-append b.first fill (utf8_char b.first b.fit.0) (utf8_filler (n - length bytes - length b.first))), size);
          checked = tt;
          rest = b.rest ++ fill;
          is = ap (λ l. bytes ++ (l ++ fill)) b.is ∙ ap (λ l. bytes ++ l) (append_assoc (take k rest) b.rest fill) ∙ sym (append_assoc bytes (take k rest) (b.rest ++ fill)) ∙ ap (λ l. l ++ (b.rest ++ fill)) (sym (taken k));
        }

    text_goes : k < length rest → Goes (text_format n) (take (length bytes + k + 1) (bytes ++ rest)) → ⊥
    text_goes lt z =
        let more : length bytes + k + 1 ≡ length bytes + (k + 1) = omega arith in
        let front : take (length bytes + k + 1) (bytes ++ rest) ≡ bytes ++ take (k + 1) rest = ap (λ m. take m (bytes ++ rest)) more ∙ taken (k + 1) in
        elim (char_there (take (k + 1) rest) (subst (λ l. Goes (text_format n) l) front z)) [
          | inl g ↦ s.stops lt g
          | inr r ↦ s.none r.0 (r.1 ++ drop (k + 1) rest) (record { fit = r.2.fit; checked = tt; is = sym (take-append-drop (k + 1) rest) ∙ ap (λ l. l ++ drop (k + 1) rest) r.2.is ∙ append_assoc r.0 r.1 (drop (k + 1) rest) })
        ]

    text_none : (a more : List ℕ) → Reads (text_format n) (bytes ++ rest) a more → ⊥
    text_none a more r =
        elim (two_fronts bytes a rest more r.is) [
          | inl l ↦
              let next = next_char l.more (subst IsUtf8 l.is r.fit.0) (sym (ap length l.is) ∙ r.fit.1) in
              let c = next.0 in
              s.none c.char (c.rest ++ more) (record { fit = (c.is_char, next.1); checked = tt; is = l.left ∙ ap (λ t. t ++ more) c.is ∙ append_assoc c.char c.rest more })
          | inr l ↦ let size : length bytes ≡ length a + length l.more = ap length l.is ∙ length-append a l.more in absurd (omega (arith, size, less, r.fit.1))
        ]

    -- a text is read, and then the bytes stop beginning a character
    pub text_front : Stops (text_format n) (bytes ++ rest) (length bytes + k)
    text_front =
        record {
          within = omega (arith, s.within, length-append bytes rest);
          begins = text_begins;
          stops = λ lt z. text_goes (omega (arith, lt, length-append bytes rest)) z;
          none = text_none;
        }

char_some : (w : List ℕ) → IsChar w → 0 < length w
char_some [] h = absurd h
char_some (x ∷ w) h = omega arith

-- what is no text in the first n bytes is none in all
pub text_within : (n k : ℕ) (bytes : List ℕ) → Stops (text_format n) (take n bytes) k → Stops (text_format n) bytes k
text_within n k bytes s =
    let size : length (take n bytes) ≡ min n (length bytes) = length-take n bytes in
    record {
      within = omega (arith, s.within, size);
      begins = subst (λ l. Goes (text_format n) l) (take-take k n bytes (omega (arith, s.within, size))) s.begins;
      stops = λ lt z. elim (cases_lt k n) [
        | inl l ↦ s.stops (omega (arith, size, l, lt)) (subst (λ l. Goes (text_format n) l) (sym (take-take (k + 1) n bytes (omega (arith, l)))) z)
        | inr l ↦
            let long : n ≡ length (take (k + 1) bytes) + length z.rest = sym z.fit.1 ∙ ap length z.is ∙ length-append (take (k + 1) bytes) z.rest in
            absurd (omega (arith, l, lt, long, length-take (k + 1) bytes))
      ];
      none = λ a rest r. s.none a [] (record { fit = r.fit; checked = tt; is = ap (take n) r.is ∙ take_at a rest n r.fit.1 ∙ sym (append-nil a) });
    }

-- a text of the first n bytes is one of all
pub text_read : (n : ℕ) (bytes a : List ℕ) → a ≡ take n bytes → IsUtf8 a → length a ≡ n → Reads (text_format n) bytes a (drop n bytes)
text_read n bytes a e u size = record { fit = (u, size); checked = tt; is = sym (take-append-drop n bytes) ∙ ap (λ l. l ++ drop n bytes) (sym e) }

module _ (n m : ℕ) (bytes : List ℕ) (least : m ≡ min n (length bytes)) where
  there : take m bytes ≡ take n bytes
  there = ap (λ k. take k bytes) least ∙ take_min n bytes

  -- all bytes that are there are a text, and too few
  pub text_too_short : (a : List ℕ) → a ≡ take m bytes → IsUtf8 (take m bytes) → length a < n → Stops (text_format n) bytes (length a)
  text_too_short a e u less =
      let all : a ≡ take n bytes = e ∙ there in
      text_within n (length a) bytes (subst (λ l. Stops (text_format n) l (length a)) all (text_short n a (subst IsUtf8 (sym e) u) less))

  module _ (good : ℕ) (v : IsValidUpTo (take m bytes) good) where
    -- behind the valid bytes stands no character
    pub no_char_there : HasNoChar (n - good) (take (length (take m bytes) - good) (drop good (take m bytes)))
    no_char_there w rest r =
        let all : drop good (take m bytes) ≡ w ++ rest = sym (take_rest (take m bytes) good) ∙ r.is in
        let longer : take (good + length w) (take m bytes) ≡ take good (take m bytes) ++ w = take-add good (length w) (take m bytes) ∙ ap (λ l. take good (take m bytes) ++ take (length w) l) all ∙ ap (λ l. take good (take m bytes) ++ l) (take_at w rest (length w) refl) in
        let some : 0 < length w = char_some w r.fit.0 in
        v.longest (good + length w) (omega (arith, some)) (subst IsUtf8 (sym longer) (IsUtf8-append (take good (take m bytes)) w v.front (utf8_char w r.fit.0)))

    -- the valid bytes are read, and then the bytes stop beginning a character
    pub text_bad : (k : ℕ) → Stops (char_format (n - good)) (take (length (take m bytes) - good) (drop good (take m bytes))) k → Stops (text_format n) bytes (good + k)
    text_bad k s =
        let front = take good (take m bytes) in
        let size : length front ≡ good = length-take-le good (take m bytes) (omega (arith, v.short)) in
        let few : length (take m bytes) ≤ n = omega (arith, length-take m bytes, least) in
        let behind : Stops (char_format (n - length front)) (drop good (take m bytes)) k = subst (λ l. Stops (char_format (n - length front)) l k) (take_rest (take m bytes) good) (subst (λ g. Stops (char_format (n - g)) (take (length (take m bytes) - good) (drop good (take m bytes))) k) (sym size) s) in
        let whole : Stops (text_format n) (front ++ drop good (take m bytes)) (length front + k) = text_front n front (drop good (take m bytes)) v.front (omega (arith, size, few, v.short)) k behind in
        let same : Stops (text_format n) (take m bytes) (length front + k) = subst (λ l. Stops (text_format n) l (length front + k)) (take-append-drop good (take m bytes)) whole in
        text_within n (good + k) bytes (subst (λ l. Stops (text_format n) l (good + k)) there (subst (λ g. Stops (text_format n) (take m bytes) (g + k)) size same))
