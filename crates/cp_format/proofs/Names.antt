-- A name of so many bytes, read byte by byte.
use Rattle.std.proofs.Common.{◌≡◌, ℕ, zero, suc, ◌+◌, ◌-◌, ◌<◌, ◌≤◌, Bool, true, false, ◌&&◌, nat_le, List, [], ◌∷◌, ◌++◌, inl, inr, refl, sym, ap, ◌∙◌, subst, length, length-append, take, drop, replicate, get_or, arith, IsUtf8}
use Rattle.std.proofs.lemmas.Bool.{cases_lt}
use Rattle.std.proofs.lemmas.Bool.Decides.{nat_tests}
use Rattle.std.proofs.lemmas.List.{length-take-le, length-drop, drop-drop, take_rest, length-replicate, get_or-replicate, get_or-take, get_or_append_left, get_or-append_right, get_or_past, take-append-drop}
use Rattle.std.proofs.lemmas.Str.{IsUtf8-from_ascii}
use Rattle.std.specs.List.{list_all}
use Rattle.cp_path.specs.Text.{is_letter, is_name_byte, is_name}
use Rattle.cp_path.specs.declared.limits.TheConstants.{NAME_MAX}
use Rattle.cp_format.specs.Formats.{Stops, ReadsAt, FailsAt}
use Rattle.cp_format.specs.Parts.{name_text_format, fits_name}
use Rattle.cp_format.proofs.Formats.{HasSome, IsPlain, plain_fixed}

-- each of the first bytes may stand where it stands in a name
abbrev pub FitUpTo : ℕ → List ℕ → Type 0
FitUpTo n w = (i : ℕ) → i < n → fits_name i (get_or w i 0) ≡ true

letter_fits : (x : ℕ) → is_letter x ≡ true → is_name_byte x ≡ true
letter_fits x e = grind (arith, nat_tests)

and_parts : (a b : Bool) → (a && b) ≡ true → (a ≡ true) × (b ≡ true)
and_parts true b e = (refl, e)
and_parts false b e = absurd (cc)

and_true : (a b : Bool) → a ≡ true → b ≡ true → (a && b) ≡ true
and_true a b e f = ap (λ z. z && b) e ∙ f

all_bytes : (w : List ℕ) → ((i : ℕ) → i < length w → is_name_byte (get_or w i 0) ≡ true) → list_all is_name_byte w ≡ true
all_bytes [] h = refl
all_bytes (x ∷ w) h = and_true (is_name_byte x) (list_all is_name_byte w) (h 0 (omega arith)) (all_bytes w (λ i lt. h (suc i) (omega (arith, lt))))

each_byte : (w : List ℕ) → list_all is_name_byte w ≡ true → (i : ℕ) → i < length w → is_name_byte (get_or w i 0) ≡ true
each_byte [] h i lt = absurd (omega (arith, lt))
each_byte (x ∷ w) h zero lt = (and_parts (is_name_byte x) (list_all is_name_byte w) h).0
each_byte (x ∷ w) h (suc i) lt = each_byte w (and_parts (is_name_byte x) (list_all is_name_byte w) h).1 i (omega (arith, lt))

fits_any : (i x : ℕ) → fits_name i x ≡ true → is_name_byte x ≡ true
fits_any zero x e = letter_fits x e
fits_any (suc i) x e = e

-- bytes that may stand where they stand are a name
pub name_of : (w : List ℕ) → 1 ≤ length w → length w ≤ NAME_MAX → FitUpTo (length w) w → is_name w ≡ true
name_of w some few h =
    let low : nat_le 1 (length w) ≡ true = grind (arith, nat_tests) in
    let high : nat_le (length w) NAME_MAX ≡ true = grind (arith, nat_tests) in
    and_true (nat_le 1 (length w)) (nat_le (length w) NAME_MAX && (is_letter (get_or w 0 0) && list_all is_name_byte w)) low
    (and_true (nat_le (length w) NAME_MAX) (is_letter (get_or w 0 0) && list_all is_name_byte w) high
    (and_true (is_letter (get_or w 0 0)) (list_all is_name_byte w) (h 0 (omega (arith, some))) (all_bytes w (λ i lt. fits_any i (get_or w i 0) (h i lt)))))

-- what a name is
pub record NameParts (w : List ℕ) : Type 0 where
  pub some : 1 ≤ length w
  pub few : length w ≤ NAME_MAX
  pub fit : FitUpTo (length w) w

pub name_parts : (w : List ℕ) → is_name w ≡ true → NameParts w
name_parts w e =
    let a = and_parts (nat_le 1 (length w)) (nat_le (length w) NAME_MAX && (is_letter (get_or w 0 0) && list_all is_name_byte w)) e in
    let b = and_parts (nat_le (length w) NAME_MAX) (is_letter (get_or w 0 0) && list_all is_name_byte w) a.1 in
    let c = and_parts (is_letter (get_or w 0 0)) (list_all is_name_byte w) b.1 in
    let low = a.0 in
    let high = b.0 in
    record { some = grind (arith, nat_tests); few = grind (arith, nat_tests); fit = fit_each c.0 c.1 }
  where
    fit_each : is_letter (get_or w 0 0) ≡ true → list_all is_name_byte w ≡ true → FitUpTo (length w) w
    fit_each l h zero lt = l
    fit_each l h (suc i) lt = each_byte w h (suc i) lt

small_byte : (x : ℕ) → is_name_byte x ≡ true → x < 128
small_byte x e = grind (arith, nat_tests)

-- a name is a text
pub name_utf8 : (w : List ℕ) → is_name w ≡ true → IsUtf8 w
name_utf8 w e =
    let p = name_parts w e in
    IsUtf8-from_ascii w (λ i. elim (cases_lt i (length w)) [
      | inl lt ↦ small_byte (get_or w i 0) (fits_any i (get_or w i 0) (p.fit i lt))
      | inr le ↦ let none : get_or w i 0 ≡ 0 = get_or_past w i 0 le in omega (arith, none)
    ])

fits_filler : (i : ℕ) → fits_name i 97 ≡ true
fits_filler zero = refl
fits_filler (suc i) = refl

-- so many bytes of a name, and then letters
module _ (n k : ℕ) (bytes : List ℕ) (some : 1 ≤ n) (few : n ≤ NAME_MAX) (there : k ≤ length bytes) (less : k < n) (fit : FitUpTo k bytes) where
  abbrev filled : List ℕ
  filled = take k bytes ++ replicate (n - k) 97

  front : length (take k bytes) ≡ k
  front = length-take-le k bytes there

  long : length filled ≡ n
  long = omega (arith, less, front, length-append (take k bytes) (replicate (n - k) 97), length-replicate {A = ℕ} (n - k) 97)

  filled_fits : FitUpTo (length filled) filled
  filled_fits i lt = elim (cases_lt i k) [
    | inl h ↦ let same : get_or filled i 0 ≡ get_or bytes i 0 = get_or_append_left (take k bytes) (replicate (n - k) 97) 0 i (omega (arith, front, h)) ∙ get_or-take k bytes i 0 h in ap (fits_name i) same ∙ fit i h
    | inr h ↦ let same : get_or filled i 0 ≡ 97 = get_or-append_right (take k bytes) (replicate (n - k) 97) k i 0 front h ∙ get_or-replicate (n - k) (i - k) 97 0 (omega (arith, h, lt, long)) in ap (fits_name i) same ∙ fits_filler i
  ]

  -- the next byte can't stand in a name, or isn't there
  pub name_text_stops : (k < length bytes → fits_name k (get_or bytes k 0) ≡ false) → Stops (name_text_format n) bytes k
  name_text_stops bad = record {
    within = there;
    begins = record { first = filled; fit = (name_of filled (omega (arith, long, some)) (omega (arith, long, few)) filled_fits, long); checked = tt; rest = replicate (n - k) 97; is = refl };
    stops = λ lt z. wrong z.first z.fit.0 z.fit.1 (bad lt) (ap (λ l. get_or l k 0) z.is ∙ get_or_append_left (take (k + 1) bytes) z.rest 0 k (omega (arith, length-take-le (k + 1) bytes (omega (arith, lt)))) ∙ get_or-take (k + 1) bytes k 0 (omega arith));
    none = λ w rest r.
        let size : length bytes ≡ length w + length rest = ap length r.is ∙ length-append w rest in
        let lt : k < length bytes = omega (arith, size, less, r.fit.1) in
        wrong w r.fit.0 r.fit.1 (bad lt) (sym (ap (λ l. get_or l k 0) r.is ∙ get_or_append_left w rest 0 k (omega (arith, less, r.fit.1))));
  }
    where
      wrong : (w : List ℕ) → is_name w ≡ true → length w ≡ n → fits_name k (get_or bytes k 0) ≡ false → get_or w k 0 ≡ get_or bytes k 0 → ⊥
      wrong w e size f same = let fits = (name_parts w e).fit k (omega (arith, size, less)) in let both : true ≡ false = sym fits ∙ ap (fits_name k) same ∙ f in absurd (cc)

pub has_name_text : (n : ℕ) → 1 ≤ n → n ≤ NAME_MAX → HasSome (name_text_format n)
has_name_text n some few =
    let size : length (replicate n 97) ≡ n = length-replicate n 97 in
    record { first = replicate n 97; fit = (name_of (replicate n 97) (omega (arith, size, some)) (omega (arith, size, few)) (λ i lt. ap (fits_name i) (get_or-replicate n i 97 0 (omega (arith, size, lt))) ∙ fits_filler i), size) }

pub plain_name_text : (n : ℕ) → IsPlain (name_text_format n)
plain_name_text n = plain_fixed (name_text_format n) n (λ a f. f.1) (λ a b f g e. e)

-- ---- at an offset, where the first good of the bytes may stand in a name

module _ (bytes : List ℕ) (at n good : ℕ) (le : at ≤ length bytes) (some : 1 ≤ n) (few : n ≤ NAME_MAX) where
  abbrev left : List ℕ
  left = take (length bytes - at) (drop at bytes)

  all_rest : left ≡ drop at bytes
  all_rest = take_rest bytes at

  module _ (there : good ≤ length left) (fit : FitUpTo good left) where
    -- a byte that can't stand in a name, or too few
    pub name_text_fails : good < n → (good < length left → fits_name good (get_or left good 0) ≡ false) → FailsAt (name_text_format n) bytes at (at + good)
    name_text_fails less bad =
        let k : good ≡ at + good - at = omega arith in
        let s = name_text_stops n good left some few there less fit bad in
        record { past = omega arith; stops = subst (λ m. Stops (name_text_format n) (drop at bytes) m) k (subst (λ l. Stops (name_text_format n) l good) all_rest s) }

    module _ (whole : n ≤ good) where
      whole_size : length (take n left) ≡ n
      whole_size = length-take-le n left (omega (arith, whole, there))

      is_one : is_name (take n left) ≡ true
      is_one = name_of (take n left) (omega (arith, whole_size, some)) (omega (arith, whole_size, few)) (λ i lt. ap (fits_name i) (get_or-take n left i 0 (omega (arith, whole_size, lt))) ∙ fit i (omega (arith, lt, whole_size, whole)))

      pub name_text_utf8 : IsUtf8 (take n left)
      name_text_utf8 = name_utf8 (take n left) is_one

      -- all of the bytes may stand in a name
      pub name_text_reads : (a : List ℕ) → a ≡ take n left → ReadsAt (name_text_format n) bytes at a (at + n)
      name_text_reads a e =
          let size : length a ≡ n = ap length e ∙ whole_size in
          record {
            reads = record {
              fit = (ap is_name e ∙ is_one, size);
              checked = tt;
              is = sym (take-append-drop n (drop at bytes)) ∙ ap (λ l. l ++ drop n (drop at bytes)) (ap (take n) (sym all_rest) ∙ sym e) ∙ ap (λ l. a ++ l) (drop-drop n at bytes);
            };
            count = ap (λ m. at + m) (sym size);
            within = omega (arith, whole, there, ap length all_rest, length-drop at bytes, le);
          }
