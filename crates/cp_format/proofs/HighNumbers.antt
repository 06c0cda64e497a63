-- Numbers of eight bytes whose highest bit is set.
use Rattle.std.proofs.Common.{◌≡◌, ℕ, zero, suc, ◌+◌, ◌-◌, ◌<◌, ◌≤◌, ◌^◌, List, [], ◌∷◌, ◌++◌, refl, sym, ap, ◌∙◌, subst, length, length-append, take, drop, get_or, arith}
use Rattle.std.proofs.lemmas.List.{take_all, length-drop, get_or-drop, get_or-take}
use Rattle.std.proofs.lemmas.Nat.{be_bytes_8, from_be_bytes-to_be_bytes_8}
use Rattle.std.specs.Int.{to_be_bytes, from_be_bytes, w64}
use Rattle.cp_format.specs.Contents.{high_format}
use Rattle.cp_format.specs.Formats.{Stops, ReadsAt, FailsAt}
use Rattle.cp_format.specs.Parts.{number_format}
use Rattle.cp_format.proofs.Formats.{HasSome, IsPlain, plain_fixed}
use Rattle.cp_format.proofs.Leaves.{AreBytes, bytes_append, bytes_cons, bytes_drop, number_fits, number_reads}

-- a byte of each
abbrev fulls : ℕ → List ℕ
fulls zero = []
fulls (suc n) = 255 ∷ fulls n

length-fulls : (n : ℕ) → length (fulls n) ≡ n
length-fulls zero = refl
length-fulls (suc n) = ap suc (length-fulls n)

bytes_fulls : (n : ℕ) → AreBytes (fulls n)
bytes_fulls zero = λ i. omega arith
bytes_fulls (suc n) = bytes_cons 255 (fulls n) (omega arith) (bytes_fulls n)

pub plain_high : IsPlain high_format
plain_high = plain_fixed high_format 8 (λ x f. refl) (λ x y f g e. sym (from_be_bytes-to_be_bytes_8 x f.1) ∙ ap (from_be_bytes w64) e ∙ from_be_bytes-to_be_bytes_8 y g.1)

pub has_high : HasSome high_format
has_high = record { first = 2 ^ 63; fit = (omega arith, omega arith) }

-- a high first byte makes a high number
number_high : (bytes : List ℕ) → 128 ≤ get_or bytes 0 0 → 2 ^ 63 ≤ from_be_bytes w64 bytes
number_high bytes h = omega (arith, h)

-- a high number has a high first byte
head_high : (n y : ℕ) (rest : List ℕ) → 2 ^ 63 ≤ n → n < 2 ^ 64 → to_be_bytes w64 n ≡ y ∷ rest → 128 ≤ y
head_high n y rest low high e =
    let same : get_or (to_be_bytes w64 n) 0 0 ≡ y = ap (λ l. get_or l 0 0) e in
    omega (arith, same, low, high)

-- filled up, bytes have a high first one
filled_high : (bytes : List ℕ) (k : ℕ) → 0 < k → (0 < length bytes → 128 ≤ get_or bytes 0 0) → 128 ≤ get_or (bytes ++ fulls k) 0 0
filled_high [] zero some h = absurd (omega arith)
filled_high [] (suc k) some h = omega arith
filled_high (x ∷ bytes) k some h = h (omega arith)

high_short : (bytes : List ℕ) → AreBytes bytes → length bytes < 8 → (0 < length bytes → 128 ≤ get_or bytes 0 0) → Stops high_format bytes (length bytes)
high_short bytes h less high =
    let fill = fulls (8 - length bytes) in
    let all = bytes ++ fill in
    let eight : length all ≡ 8 = omega (arith, less, length-append bytes fill, length-fulls (8 - length bytes)) in
    let are : AreBytes all = bytes_append bytes fill h (bytes_fulls (8 - length bytes)) in
    let front : 128 ≤ get_or all 0 0 = filled_high bytes (8 - length bytes) (omega (arith, less)) high in
    record {
      within = omega arith;
      begins = record {
        first = from_be_bytes w64 all;
        fit = (number_high all front, number_fits all are);
        checked = tt;
        rest = fill;
        is = be_bytes_8 all (from_be_bytes w64 all) eight are refl ∙ ap (λ l. l ++ fill) (sym (take_all (length bytes) bytes (omega arith)));
      };
      stops = λ lt z. absurd (omega (arith, lt));
      none = λ x rest r. let size : length bytes ≡ 8 + length rest = ap length r.is ∙ length-append (to_be_bytes w64 x) rest in absurd (omega (arith, size, less));
    }

high_low : (bytes : List ℕ) → 0 < length bytes → get_or bytes 0 0 < 128 → Stops high_format bytes 0
high_low [] some low = absurd (omega arith)
high_low (y ∷ bytes) some low = record {
  within = omega arith;
  begins = record { first = has_high.first; fit = has_high.fit; checked = tt; rest = to_be_bytes w64 has_high.first; is = refl };
  stops = λ lt z. let first : 128 ≤ y = head_high z.first y z.rest z.fit.0 z.fit.1 z.is in absurd (omega (arith, first, low));
  none = λ x rest r.
      let head : y ≡ get_or (to_be_bytes w64 x) 0 0 = ap (λ l. get_or l 0 0) r.is in
      absurd (omega (arith, head, low, r.fit.0, r.fit.1));
}

head_at : (bytes : List ℕ) (at : ℕ) → get_or (drop at bytes) 0 0 ≡ get_or bytes at 0
head_at bytes at = get_or-drop at bytes 0 0 ∙ (let k : at + 0 ≡ at = omega arith in ap (λ n. get_or bytes n 0) k)

-- the first byte is low
pub high_bad : (bytes : List ℕ) (at : ℕ) → at < length bytes → get_or bytes at 0 < 128 → FailsAt high_format bytes at at
high_bad bytes at lt low =
    let none : 0 ≡ at - at = omega arith in
    record {
      past = omega arith;
      stops = subst (λ n. Stops high_format (drop at bytes) n) none (high_low (drop at bytes) (omega (arith, lt, length-drop at bytes)) (omega (arith, low, head_at bytes at)));
    }

-- fewer than eight bytes
pub high_fails : (bytes : List ℕ) (at : ℕ) → AreBytes bytes → at ≤ length bytes → (at < length bytes → 128 ≤ get_or bytes at 0) → length (drop at bytes) < 8 → FailsAt high_format bytes at (length bytes)
high_fails bytes at h le high less = record {
  past = le;
  stops = subst (λ n. Stops high_format (drop at bytes) n) (length-drop at bytes)
      (high_short (drop at bytes) (bytes_drop at bytes h) less (λ some. let front = high (omega (arith, some, length-drop at bytes)) in omega (arith, front, head_at bytes at)));
}

-- eight bytes spell a high number
pub high_reads : (bytes : List ℕ) (at n : ℕ) (first : List ℕ) → AreBytes bytes → at ≤ length bytes → (at < length bytes → 128 ≤ get_or bytes at 0) → 8 ≤ length (drop at bytes) → first ≡ take 8 (drop at bytes) → n ≡ from_be_bytes w64 first →
    ReadsAt high_format bytes at n (at + 8)
high_reads bytes at n first h le high long e f =
    let r : ReadsAt number_format bytes at n (at + 8) = number_reads bytes at n first h le long e f in
    let front = high (omega (arith, long, length-drop at bytes)) in
    let head : get_or first 0 0 ≡ get_or (drop at bytes) 0 0 = ap (λ l. get_or l 0 0) e ∙ get_or-take 8 (drop at bytes) 0 0 (omega arith) in
    let big : 2 ^ 63 ≤ from_be_bytes w64 first = number_high first (omega (arith, front, head, head_at bytes at)) in
    record {
      reads = record { fit = (omega (arith, big, f), r.reads.fit); checked = tt; is = r.reads.is };
      count = r.count;
      within = r.within;
    }
