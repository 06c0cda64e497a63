-- Numbers, letters and counts as formats, and any format of one byte.
use Rattle.std.proofs.Common.{◌≡◌, ◌≢◌, ℕ, zero, suc, ◌+◌, ◌-◌, ◌<◌, ◌≤◌, ◌^◌, List, [], ◌∷◌, ◌++◌, refl, sym, ap, ◌∙◌, subst, length, length-append, take, drop, get_or, arith}
use Rattle.std.proofs.lemmas.List.{take-append-drop, take_all, length-take-le, length-drop, drop-drop, get_or-drop, drop_more}
use Rattle.std.proofs.lemmas.Nat.{be_bytes_8, from_be_bytes-to_be_bytes_8}
use Rattle.std.specs.Int.{to_be_bytes, from_be_bytes, w64}
use Rattle.cp_model.specs.declared.record.RecOp.{RecOp}
use Rattle.cp_model.specs.declared.record.RecOp.TheVariants as op
use Rattle.cp_record.specs.Bytes.{letter}
use Rattle.cp_format.specs.Formats.{AllHold, Format, Stops, ReadsAt, FailsAt}
use Rattle.cp_format.specs.Parts.{number_format, letter_format, count_format}
use Rattle.cp_format.proofs.Checks.{none_within}
use Rattle.cp_format.proofs.Formats.{HasSome, IsPlain, plain_fixed}

-- ---- one byte

-- the first byte spells nothing, or isn't there
pub stops_byte : {X : Type 0} (F : Format X) (bytes : List ℕ) → HasSome F → ((x : X) → F.fit x → (b : ℕ) × (F.bytes x ≡ b ∷ [])) → ((x : X) → 0 < length bytes → F.fit x → F.bytes x ≡ get_or bytes 0 0 ∷ [] → ⊥) → Stops F bytes 0
stops_byte F [] some one bad = record {
  within = omega arith;
  begins = record { first = some.first; fit = some.fit; checked = none_within (F.checks some.first); rest = F.bytes some.first; is = refl };
  stops = λ lt z. absurd (omega (arith, lt));
  none = λ x rest r. let b = one x r.fit in let long : 0 ≡ suc (length rest) = ap length r.is ∙ ap (λ l. length (l ++ rest)) b.1 in absurd (omega (arith, long));
}
stops_byte F (y ∷ bytes) some one bad = record {
  within = omega arith;
  begins = record { first = some.first; fit = some.fit; checked = none_within (F.checks some.first); rest = F.bytes some.first; is = refl };
  stops = λ lt z.
      let b = one z.first z.fit in
      let all : b.0 ∷ [] ≡ y ∷ z.rest = sym b.1 ∙ z.is in
      let same : b.0 ≡ y = cc in
      bad z.first (omega arith) z.fit (b.1 ∙ ap (λ n. n ∷ []) same);
  none = λ x rest r.
      let b = one x r.fit in
      let all : y ∷ bytes ≡ b.0 ∷ rest = r.is ∙ ap (λ l. l ++ rest) b.1 in
      let same : b.0 ≡ y = cc in
      bad x (omega arith) r.fit (b.1 ∙ ap (λ n. n ∷ []) same);
}

-- the byte at the offset spells x
pub reads_byte : {X : Type 0} (F : Format X) (bytes : List ℕ) (at : ℕ) (x : X) → at < length bytes → F.fit x → AllHold (F.checks x) → F.bytes x ≡ get_or bytes at 0 ∷ [] → ReadsAt F bytes at x (at + 1)
reads_byte F bytes at x lt f c e = record {
  reads = record { fit = f; checked = c; is = drop_more bytes at 0 lt ∙ ap (λ l. l ++ drop (at + 1) bytes) (sym e) };
  count = ap (λ l. at + length l) (sym e);
  within = omega (arith, lt);
}

-- the byte at the offset spells nothing, or isn't there
pub fails_byte : {X : Type 0} (F : Format X) (bytes : List ℕ) (at : ℕ) → at ≤ length bytes → HasSome F → ((x : X) → F.fit x → (b : ℕ) × (F.bytes x ≡ b ∷ [])) → ((x : X) → at < length bytes → F.fit x → F.bytes x ≡ get_or bytes at 0 ∷ [] → ⊥) → FailsAt F bytes at at
fails_byte F bytes at le some one bad =
    let none : 0 ≡ at - at = omega arith in
    let same : get_or (drop at bytes) 0 0 ≡ get_or bytes at 0 = get_or-drop at bytes 0 0 ∙ (let k : at + 0 ≡ at = omega arith in ap (λ n. get_or bytes n 0) k) in
    let s = stops_byte F (drop at bytes) some one (λ x lt f e. bad x (omega (arith, lt, length-drop at bytes)) f (e ∙ ap (λ n. n ∷ []) same)) in
    record { past = omega arith; stops = subst (λ n. Stops F (drop at bytes) n) none s }

-- ---- numbers

-- each is a byte
abbrev pub AreBytes : List ℕ → Type 0
AreBytes bytes = (i : ℕ) → get_or bytes i 0 < 256

bytes_after : (x : ℕ) (bytes : List ℕ) → AreBytes (x ∷ bytes) → AreBytes bytes
bytes_after x bytes h i = h (suc i)

pub bytes_cons : (x : ℕ) (bytes : List ℕ) → x < 256 → AreBytes bytes → AreBytes (x ∷ bytes)
bytes_cons x bytes h k zero = h
bytes_cons x bytes h k (suc i) = k i

pub bytes_append : (xs ys : List ℕ) → AreBytes xs → AreBytes ys → AreBytes (xs ++ ys)
bytes_append [] ys h k = k
bytes_append (x ∷ xs) ys h k = bytes_cons x (xs ++ ys) (h 0) (bytes_append xs ys (bytes_after x xs h) k)

pub bytes_drop : (n : ℕ) (bytes : List ℕ) → AreBytes bytes → AreBytes (drop n bytes)
bytes_drop zero bytes h = h
bytes_drop (suc n) [] h = h
bytes_drop (suc n) (x ∷ bytes) h = bytes_drop n bytes (bytes_after x bytes h)

bytes_take : (n : ℕ) (bytes : List ℕ) → AreBytes bytes → AreBytes (take n bytes)
bytes_take zero bytes h = λ i. omega arith
bytes_take (suc n) [] h = h
bytes_take (suc n) (x ∷ bytes) h = bytes_cons x (take n bytes) (h 0) (bytes_take n bytes (bytes_after x bytes h))

abbrev zeros : ℕ → List ℕ
zeros zero = []
zeros (suc n) = 0 ∷ zeros n

length-zeros : (n : ℕ) → length (zeros n) ≡ n
length-zeros zero = refl
length-zeros (suc n) = ap suc (length-zeros n)

bytes_zeros : (n : ℕ) → AreBytes (zeros n)
bytes_zeros zero = λ i. omega arith
bytes_zeros (suc n) = bytes_cons 0 (zeros n) (omega arith) (bytes_zeros n)

pub number_fits : (bytes : List ℕ) → AreBytes bytes → from_be_bytes w64 bytes < 2 ^ 64
number_fits bytes h = omega (arith, h 0, h 1, h 2, h 3, h 4, h 5, h 6, h 7)

pub plain_number : IsPlain number_format
plain_number = plain_fixed number_format 8 (λ x f. refl) (λ x y f g e. sym (from_be_bytes-to_be_bytes_8 x f) ∙ ap (from_be_bytes w64) e ∙ from_be_bytes-to_be_bytes_8 y g)

pub has_number : HasSome number_format
has_number = record { first = 0; fit = omega arith }

-- eight bytes spell a number
pub number_reads : (bytes : List ℕ) (at n : ℕ) (first : List ℕ) → AreBytes bytes → at ≤ length bytes → 8 ≤ length (drop at bytes) → first ≡ take 8 (drop at bytes) → n ≡ from_be_bytes w64 first → ReadsAt number_format bytes at n (at + 8)
number_reads bytes at n first h le long e f =
    let eight : length first ≡ 8 = ap length e ∙ length-take-le 8 (drop at bytes) long in
    let are : AreBytes first = subst AreBytes (sym e) (bytes_take 8 (drop at bytes) (bytes_drop at bytes h)) in
    let spelled : to_be_bytes w64 n ≡ take 8 (drop at bytes) = be_bytes_8 first n eight are f ∙ e in
    record {
      reads = record {
        fit = subst (λ m. m < 2 ^ 64) (sym f) (number_fits first are);
        checked = tt;
        is = sym (take-append-drop 8 (drop at bytes)) ∙ (λ i. sym spelled i ++ drop-drop 8 at bytes i);
      };
      count = refl;
      within = omega (arith, long, length-drop at bytes);
    }

number_stops : (bytes : List ℕ) → AreBytes bytes → length bytes < 8 → Stops number_format bytes (length bytes)
number_stops bytes h less =
    let fill = zeros (8 - length bytes) in
    let all = bytes ++ fill in
    let eight : length all ≡ 8 = omega (arith, less, length-append bytes fill, length-zeros (8 - length bytes)) in
    let are : AreBytes all = bytes_append bytes fill h (bytes_zeros (8 - length bytes)) in
    record {
      within = omega arith;
      begins = record {
        first = from_be_bytes w64 all;
        fit = number_fits all are;
        checked = tt;
        rest = fill;
        is = be_bytes_8 all (from_be_bytes w64 all) eight are refl ∙ ap (λ l. l ++ fill) (sym (take_all (length bytes) bytes (omega arith)));
      };
      stops = λ lt z. absurd (omega (arith, lt));
      none = λ x rest r. let size : length bytes ≡ 8 + length rest = ap length r.is ∙ length-append (to_be_bytes w64 x) rest in absurd (omega (arith, size, less));
    }

-- fewer than eight bytes
pub number_fails : (bytes : List ℕ) (at : ℕ) → AreBytes bytes → at ≤ length bytes → length (drop at bytes) < 8 → FailsAt number_format bytes at (length bytes)
number_fails bytes at h le less = record {
  past = le;
  stops = subst (λ n. Stops number_format (drop at bytes) n) (length-drop at bytes) (number_stops (drop at bytes) (bytes_drop at bytes h) less);
}

-- ---- letters

same_letter : (x y : RecOp) → letter x ≡ letter y → x ≡ y
same_letter op.I op.I e = refl
same_letter op.C op.C e = refl
same_letter op.D op.D e = refl
same_letter op.K op.K e = refl
same_letter op.I op.C e = absurd (omega (arith, e))
same_letter op.I op.D e = absurd (omega (arith, e))
same_letter op.I op.K e = absurd (omega (arith, e))
same_letter op.C op.I e = absurd (omega (arith, e))
same_letter op.C op.D e = absurd (omega (arith, e))
same_letter op.C op.K e = absurd (omega (arith, e))
same_letter op.D op.I e = absurd (omega (arith, e))
same_letter op.D op.C e = absurd (omega (arith, e))
same_letter op.D op.K e = absurd (omega (arith, e))
same_letter op.K op.I e = absurd (omega (arith, e))
same_letter op.K op.C e = absurd (omega (arith, e))
same_letter op.K op.D e = absurd (omega (arith, e))

pub plain_letter : IsPlain letter_format
plain_letter = plain_fixed letter_format 1 (λ x f. refl) (λ x y f g e. let same : letter x ≡ letter y = cc in same_letter x y same)

pub has_letter : HasSome letter_format
has_letter = record { first = op.I; fit = tt }

no_letter : (x : RecOp) (b : ℕ) → b ≢ 73 → b ≢ 67 → b ≢ 68 → b ≢ 75 → letter x ≡ b → ⊥
no_letter op.I b i c d k e = i (sym e)
no_letter op.C b i c d k e = c (sym e)
no_letter op.D b i c d k e = d (sym e)
no_letter op.K b i c d k e = k (sym e)

-- no letter at the offset
pub letter_fails : (bytes : List ℕ) (at : ℕ) → at ≤ length bytes → (at < length bytes → let b = get_or bytes at 0 in (b ≢ 73) × (b ≢ 67) × (b ≢ 68) × (b ≢ 75)) → FailsAt letter_format bytes at at
letter_fails bytes at le bad =
    fails_byte letter_format bytes at le has_letter (λ x f. (letter x, refl))
    (λ x lt f e. let h = bad lt in let same : letter x ≡ get_or bytes at 0 = cc in no_letter x (get_or bytes at 0) h.0 h.1 h.2 h.3 same)

pub letter_reads : (bytes : List ℕ) (at : ℕ) (x : RecOp) → at < length bytes → get_or bytes at 0 ≡ letter x → ReadsAt letter_format bytes at x (at + 1)
letter_reads bytes at x lt e = reads_byte letter_format bytes at x lt tt tt (ap (λ n. n ∷ []) (sym e))

-- ---- counts

pub plain_count : (least most : ℕ) → IsPlain (count_format least most)
plain_count least most = plain_fixed (count_format least most) 1 (λ x f. refl) (λ x y f g e. cc)

pub has_count : (least most : ℕ) → least ≤ most → least < 256 → HasSome (count_format least most)
has_count least most le lt = record { first = least; fit = (omega arith, le, lt) }

-- no number within the limits at the offset
pub count_fails : (least most : ℕ) (bytes : List ℕ) (at : ℕ) → least ≤ most → least < 256 → at ≤ length bytes → (at < length bytes → least ≤ get_or bytes at 0 → get_or bytes at 0 ≤ most → ⊥) → FailsAt (count_format least most) bytes at at
count_fails least most bytes at some byte le bad =
    fails_byte (count_format least most) bytes at le (has_count least most some byte) (λ x f. (x, refl))
    (λ x lt f e. let same : x ≡ get_or bytes at 0 = cc in bad lt (omega (arith, same, f.0)) (omega (arith, same, f.1)))

pub count_reads : (least most : ℕ) (bytes : List ℕ) (at n : ℕ) → at < length bytes → get_or bytes at 0 < 256 → n ≡ get_or bytes at 0 → least ≤ n → n ≤ most → ReadsAt (count_format least most) bytes at n (at + 1)
count_reads least most bytes at n lt byte e low high = reads_byte (count_format least most) bytes at n lt (low, high, omega (arith, byte, e)) tt (ap (λ m. m ∷ []) e)
