-- Numbers within bounds in four bytes, digit by digit.
use Rattle.std.proofs.Common.{◌≡◌, ℕ, ◌+◌, ◌*◌, ◌-◌, ◌/◌, ◌%◌, ◌<◌, ◌≤◌, ◌^◌, List, [], ◌∷◌, refl, sym, ap, ◌∙◌, arith}
use Rattle.std.proofs.lemmas.Nat.{be_bytes_4, from_be_bytes-to_be_bytes_4}
use Rattle.std.specs.Int.{to_be_bytes, from_be_bytes, w32}
use Rattle.cp_format.specs.declared.fault.FormatFault.{FormatFault}
use Rattle.cp_format.specs.Faults.{FaultAt}
use Rattle.cp_format.specs.Formats.{Format, ReadsAt}
use Rattle.cp_format.specs.Parts.{bounded_format, count_format, digit_format}
use Rattle.cp_format.proofs.Faults.{fault_alike, fault_first, fault_second}
use Rattle.cp_format.proofs.Formats.{HasSome, IsPlain, Alike, both, has_both, plain_fixed, reads_alike_at, reads_both_at}
use Rattle.cp_format.proofs.Leaves.{AreBytes, bytes_cons}

-- ---- one digit

-- a digit is a byte within the bounds that the digits before it leave
pub alike_digit : (high least most : ℕ) → high * 256 ≤ most → Alike (count_format (least - high * 256) (most - high * 256)) (digit_format high least most) (λ d. high * 256 + d)
alike_digit high least most le = record {
  there = λ d f.
      let rest : (high * 256 + d) % 256 ≡ d = omega (arith, f.2) in
      ((omega (arith, f.0), omega (arith, f.1, le), omega (arith, f.2)), ap (λ b. b ∷ []) rest, refl);
  back = λ n f. (n - high * 256, (omega (arith, f.0), omega (arith, f.1), omega (arith, f.2)), omega (arith, f.2));
}

-- no digit begins another
pub plain_digit : (high least most : ℕ) → IsPlain (digit_format high least most)
plain_digit high least most =
    plain_fixed (digit_format high least most) 1 (λ n f. refl)
    (λ n m f g e. let same : n % 256 ≡ m % 256 = cc in omega (arith, f.2, g.2, same))

-- some digit follows those that make a number within the bounds
pub has_digit : (high least most : ℕ) → least ≤ most → least / 256 ≤ high → high ≤ most / 256 → HasSome (digit_format high least most)
has_digit high least most some low top = record { first = least - high * 256 + high * 256; fit = (omega arith, omega (arith, some, top), omega (arith, low)) }

-- ---- four digits

-- the last digit, after those that make this number
abbrev pub behind_third : ℕ → ℕ → ℕ → Format ℕ
behind_third least most high = digit_format high least most

-- the last two digits
abbrev pub behind_second : ℕ → ℕ → ℕ → Format (ℕ × ℕ)
behind_second least most high = both (digit_format high (least / 256) (most / 256)) (behind_third least most)

-- the last three digits
abbrev pub behind_first : ℕ → ℕ → ℕ → Format (ℕ × (ℕ × ℕ))
behind_first least most high = both (digit_format high (least / 65536) (most / 65536)) (behind_second least most)

-- the first digit
abbrev pub first_digit : ℕ → ℕ → Format ℕ
first_digit least most = digit_format 0 (least / 16777216) (most / 16777216)

-- the numbers that the first digit makes, the first two, three and all four
abbrev pub digits_format : ℕ → ℕ → Format (ℕ × (ℕ × (ℕ × ℕ)))
digits_format least most = both (first_digit least most) (behind_first least most)

no_bytes : AreBytes []
no_bytes = λ i. omega arith

-- the four digits of a number are its bytes
spelled : (a b c n : ℕ) → a / 256 ≡ 0 → b / 256 ≡ a → c / 256 ≡ b → n / 256 ≡ c → to_be_bytes w32 n ≡ a % 256 ∷ b % 256 ∷ c % 256 ∷ n % 256 ∷ []
spelled a b c n e f g h =
    be_bytes_4 (a % 256 ∷ b % 256 ∷ c % 256 ∷ n % 256 ∷ []) n refl
    (bytes_cons (a % 256) (b % 256 ∷ c % 256 ∷ n % 256 ∷ []) (omega arith)
    (bytes_cons (b % 256) (c % 256 ∷ n % 256 ∷ []) (omega arith) (bytes_cons (c % 256) (n % 256 ∷ []) (omega arith) (bytes_cons (n % 256) [] (omega arith) no_bytes))))
    (omega (arith, e, f, g, h))

-- a number is its four digits
pub alike_bounded : (least most : ℕ) → Alike (digits_format least most) (bounded_format least most) (λ z. z.1.1.1)
alike_bounded least most = record {
  there = λ z f.
      let last = f.1.1.1 in (
        (last.0, last.1, omega (arith, f.0.2, f.1.0.2, f.1.1.0.2, last.2)),
        spelled z.0 z.1.0 z.1.1.0 z.1.1.1 f.0.2 f.1.0.2 f.1.1.0.2 last.2,
        refl,
      );
  back = λ n f. (
    (n / 256 / 256 / 256, (n / 256 / 256, (n / 256, n))),
    (
      (omega (arith, f.0), omega (arith, f.1), omega (arith, f.2)),
      ((omega (arith, f.0), omega (arith, f.1), refl), ((omega (arith, f.0), omega (arith, f.1), refl), (f.0, f.1, refl))),
    ),
    refl,
  );
}

-- no number in four bytes begins another
pub plain_bounded : (least most : ℕ) → IsPlain (bounded_format least most)
plain_bounded least most = plain_fixed (bounded_format least most) 4 (λ x f. refl) (λ x y f g e. sym (from_be_bytes-to_be_bytes_4 x f.2) ∙ ap (from_be_bytes w32) e ∙ from_be_bytes-to_be_bytes_4 y g.2)

-- some number is within the bounds
pub has_bounded : (least most : ℕ) → least ≤ most → least < 2 ^ 32 → HasSome (bounded_format least most)
has_bounded least most some four = record { first = least; fit = (omega arith, some, four) }

module _ (least most : ℕ) (some : least ≤ most) where
  has_third : (high : ℕ) → least / 256 ≤ high → high ≤ most / 256 → HasSome (behind_third least most high)
  has_third high low top = has_digit high least most some low top

  has_second : (high : ℕ) → least / 65536 ≤ high → high ≤ most / 65536 → HasSome (behind_second least most high)
  has_second high low top =
      has_both (digit_format high (least / 256) (most / 256)) (behind_third least most)
      (has_digit high (least / 256) (most / 256) (omega (arith, some)) (omega (arith, low)) (omega (arith, top))) (λ n f. has_third n f.0 f.1)

  has_first : (high : ℕ) → least / 16777216 ≤ high → high ≤ most / 16777216 → HasSome (behind_first least most high)
  has_first high low top =
      has_both (digit_format high (least / 65536) (most / 65536)) (behind_second least most)
      (has_digit high (least / 65536) (most / 65536) (omega (arith, some)) (omega (arith, low)) (omega (arith, top))) (λ n f. has_second n f.0 f.1)

  module _ (bytes : List ℕ) (at : ℕ) where
    number_fault : (e : FormatFault) → FaultAt (digits_format least most) bytes at e → FaultAt (bounded_format least most) bytes at e
    number_fault e f = fault_alike (digits_format least most) (bounded_format least most) (λ z. z.1.1.1) (alike_bounded least most) bytes at e f

    -- a fault in the first digit is one of the number
    pub first_fault : (e : FormatFault) → FaultAt (first_digit least most) bytes at e → FaultAt (bounded_format least most) bytes at e
    first_fault e f = number_fault e (fault_first (first_digit least most) (behind_first least most) bytes at (λ x g h. tt) (λ n h. has_first n h.0 h.1) e f)

    module _ (a after : ℕ) (r : ReadsAt (first_digit least most) bytes at a after) where
      after_fault : (e : FormatFault) → FaultAt (behind_first least most a) bytes after e → FaultAt (bounded_format least most) bytes at e
      after_fault e f = number_fault e (fault_second (first_digit least most) (behind_first least most) bytes at (plain_digit 0 (least / 16777216) (most / 16777216)) after a r e f)

      -- a fault in the second digit is one of the number
      pub second_fault : (e : FormatFault) → FaultAt (digit_format a (least / 65536) (most / 65536)) bytes after e → FaultAt (bounded_format least most) bytes at e
      second_fault e f = after_fault e (fault_first (digit_format a (least / 65536) (most / 65536)) (behind_second least most) bytes after (λ x g h. tt) (λ n h. has_second n h.0 h.1) e f)

      module _ (b behind : ℕ) (s : ReadsAt (digit_format a (least / 65536) (most / 65536)) bytes after b behind) where
        behind_fault : (e : FormatFault) → FaultAt (behind_second least most b) bytes behind e → FaultAt (bounded_format least most) bytes at e
        behind_fault e f = after_fault e (fault_second (digit_format a (least / 65536) (most / 65536)) (behind_second least most) bytes after (plain_digit a (least / 65536) (most / 65536)) behind b s e f)

        -- a fault in the third digit is one of the number
        pub third_fault : (e : FormatFault) → FaultAt (digit_format b (least / 256) (most / 256)) bytes behind e → FaultAt (bounded_format least most) bytes at e
        third_fault e f = behind_fault e (fault_first (digit_format b (least / 256) (most / 256)) (behind_third least most) bytes behind (λ x g h. tt) (λ n h. has_third n h.0 h.1) e f)

        module _ (c below : ℕ) (t : ReadsAt (digit_format b (least / 256) (most / 256)) bytes behind c below) where
          -- a fault in the last digit is one of the number
          pub last_fault : (e : FormatFault) → FaultAt (digit_format c least most) bytes below e → FaultAt (bounded_format least most) bytes at e
          last_fault e f = behind_fault e (fault_second (digit_format b (least / 256) (most / 256)) (behind_third least most) bytes behind (plain_digit b (least / 256) (most / 256)) below c t e f)

          -- the four digits are read, and so is the number
          pub bounded_read : (n next : ℕ) → ReadsAt (digit_format c least most) bytes below n next → ReadsAt (bounded_format least most) bytes at n next
          bounded_read n next u =
              let two = reads_both_at (digit_format b (least / 256) (most / 256)) (behind_third least most) bytes behind below next c n t u in
              let three = reads_both_at (digit_format a (least / 65536) (most / 65536)) (behind_second least most) bytes after behind next b (c, n) s two in
              let four = reads_both_at (first_digit least most) (behind_first least most) bytes at after next a (b, (c, n)) r three in
              reads_alike_at (digits_format least most) (bounded_format least most) (λ z. z.1.1.1) (alike_bounded least most) bytes at (a, (b, (c, n))) next four
