-- Contents as a form and what follows it.
use Rattle.std.proofs.Common.{◌≡◌, ℕ, pos, negsuc, zero, suc, ◌-◌, ◌<◌, ◌≤◌, ◌^◌, List, [], refl, sym, ap, ◌∙◌, subst, length, arith}
use Rattle.std.proofs.lemmas.Int.{ints}
use Rattle.std.specs.Int.{to_be_bytes, w64}
use Rattle.cp_path.specs.Whole.{IsWhole}
use Rattle.cp_path.specs.declared.limits.TheConstants.{TEXT_MAX}
use Rattle.cp_path.specs.declared.value.Value.TheVariants.{Null, False, True, Whole, Text}
use Rattle.cp_model.specs.Tree.{text_bytes}
use Rattle.cp_model.specs.declared.row.Content.{Content}
use Rattle.cp_model.specs.declared.row.Content.TheVariants.{Node, Leaf}
use Rattle.cp_format.specs.declared.fault.FormatFault.{FormatFault}
use Rattle.cp_format.specs.Contents.{content_form, content_rest, content_behind, content_format, FitsIn, IsContent, high_format, long_text_format}
use Rattle.cp_format.specs.Faults.{FaultAt}
use Rattle.cp_format.specs.Formats.{ReadsAt, unchecked}
use Rattle.cp_format.specs.Parts.{count_format, number_format}
use Rattle.cp_format.proofs.Faults.{fault_alike, fault_first, fault_second}
use Rattle.cp_format.proofs.Forms.{alike_forms, plain_nothing, reads_nothing}
use Rattle.cp_format.proofs.Formats.{HasSome, IsPlain, Alike, both, has_alike, plain_alike, plain_both, reads_alike_at, reads_both_at}
use Rattle.cp_format.proofs.HighNumbers.{has_high, plain_high}
use Rattle.cp_format.proofs.Leaves.{plain_count, has_number, plain_number}
use Rattle.cp_format.proofs.LongTexts.{has_long_text, plain_long_text}

-- ---- contents that are their form

-- the content of a form that has nothing behind its number
abbrev pub bare : ℕ → Content
bare zero = Node
bare (suc zero) = Leaf Null
bare (suc (suc zero)) = Leaf False
bare (suc (suc (suc n))) = Leaf True

bare_parts : (c : Content) → content_form c < 4 → (c ≡ bare (content_form c)) × (content_rest c ≡ [])
bare_parts Node h = (refl, refl)
bare_parts (Leaf Null) h = (refl, refl)
bare_parts (Leaf False) h = (refl, refl)
bare_parts (Leaf True) h = (refl, refl)
bare_parts (Leaf (Whole (pos n))) h = absurd (omega arith)
bare_parts (Leaf (Whole (negsuc n))) h = absurd (omega arith)
bare_parts (Leaf (Text a)) h = absurd (omega arith)

bare_is : (room k : ℕ) → k < 4 → FitsIn room (bare k) × (content_form (bare k) ≡ k)
bare_is room zero h = ((tt, omega arith), refl)
bare_is room (suc zero) h = ((tt, omega arith), refl)
bare_is room (suc (suc zero)) h = ((tt, omega arith), refl)
bare_is room (suc (suc (suc zero))) h = ((tt, omega arith), refl)
bare_is room (suc (suc (suc (suc n)))) h = absurd (omega arith)

plain_bare : (room k : ℕ) → k < 4 → IsPlain (content_behind room k)
plain_bare room k h =
    plain_nothing (content_behind room k) (bare k)
    (λ c f. let p = bare_parts c (omega (arith, h, f.1)) in (p.0 ∙ ap bare f.1, p.1))

-- ---- numbers and texts

-- a number that is not below zero
alike_number : (room : ℕ) → Alike number_format (content_behind room 4) (λ n. Leaf (Whole (pos n)))
alike_number room = record {
  there = λ n f. ((((omega (arith, ints), omega (arith, ints, f)), omega arith), refl), refl, refl);
  back = λ c f. number_of c f.0.0 f.1;
}
  where
    number_of : (c : Content) → IsContent c → content_form c ≡ 4 → (n : ℕ) × (n < 2 ^ 64) × (◌≡◌ {A = Content} (Leaf (Whole (pos n))) c)
    number_of Node h e = absurd (omega (arith, e))
    number_of (Leaf Null) h e = absurd (omega (arith, e))
    number_of (Leaf False) h e = absurd (omega (arith, e))
    number_of (Leaf True) h e = absurd (omega (arith, e))
    number_of (Leaf (Whole (pos n))) h e = (n, omega (arith, ints, h.1), refl)
    number_of (Leaf (Whole (negsuc n))) h e = absurd (omega (arith, e))
    number_of (Leaf (Text a)) h e = absurd (omega (arith, e))

-- the number below zero with these bits
abbrev pub below_zero : ℕ → Content
below_zero n = Leaf (Whole (negsuc (2 ^ 64 - suc n)))

is_below : (n : ℕ) → 2 ^ 63 ≤ n → n < 2 ^ 64 → IsWhole (negsuc (2 ^ 64 - suc n))
is_below n low high = (omega (arith, ints, low, high), omega (arith, ints))

-- a number below zero
alike_below : (room : ℕ) → Alike high_format (content_behind room 5) below_zero
alike_below room = record {
  there = λ n f.
      let same : 2 ^ 64 - suc (2 ^ 64 - suc n) ≡ n = omega (arith, f.0, f.1) in
      (((is_below n f.0 f.1, omega arith), refl), ap (to_be_bytes w64) same, refl);
  back = λ c f. bits_of c f.0.0 f.1;
}
  where
    bits_of : (c : Content) → IsContent c → content_form c ≡ 5 → (n : ℕ) × ((2 ^ 63 ≤ n) × (n < 2 ^ 64)) × (below_zero n ≡ c)
    bits_of Node h e = absurd (omega (arith, e))
    bits_of (Leaf Null) h e = absurd (omega (arith, e))
    bits_of (Leaf False) h e = absurd (omega (arith, e))
    bits_of (Leaf True) h e = absurd (omega (arith, e))
    bits_of (Leaf (Whole (pos n))) h e = absurd (omega (arith, e))
    bits_of (Leaf (Whole (negsuc n))) h e =
        let small : n < 2 ^ 63 = omega (arith, ints, h.0) in
        let same : 2 ^ 64 - suc (2 ^ 64 - suc n) ≡ n = omega (arith, small) in
        (2 ^ 64 - suc n, (omega (arith, small), omega (arith, small)), ap (λ (m : ℕ). Leaf (Whole (negsuc m))) same)
    bits_of (Leaf (Text a)) h e = absurd (omega (arith, e))

-- a text
alike_text : (room : ℕ) → Alike (long_text_format room) (content_behind room 6) (λ a. Leaf (Text a))
alike_text room = record {
  there = λ a f. ((f, refl), refl, refl);
  back = λ c f. text_of c f.0 f.1;
}
  where
    text_of : (c : Content) → FitsIn room c → content_form c ≡ 6 → (a : List ℕ) × ((long_text_format room).fit a) × (◌≡◌ {A = Content} (Leaf (Text a)) c)
    text_of Node h e = absurd (omega (arith, e))
    text_of (Leaf Null) h e = absurd (omega (arith, e))
    text_of (Leaf False) h e = absurd (omega (arith, e))
    text_of (Leaf True) h e = absurd (omega (arith, e))
    text_of (Leaf (Whole (pos n))) h e = absurd (omega (arith, e))
    text_of (Leaf (Whole (negsuc n))) h e = absurd (omega (arith, e))
    text_of (Leaf (Text a)) h e = (a, h, refl)

-- ---- any form

has_bare : (room k : ℕ) → k < 4 → HasSome (content_behind room k)
has_bare room k h = record { first = bare k; fit = bare_is room k h }

pub plain_behind : (room k : ℕ) → k ≤ 6 → IsPlain (content_behind room k)
plain_behind room zero h = plain_bare room 0 (omega arith)
plain_behind room (suc zero) h = plain_bare room 1 (omega arith)
plain_behind room (suc (suc zero)) h = plain_bare room 2 (omega arith)
plain_behind room (suc (suc (suc zero))) h = plain_bare room 3 (omega arith)
plain_behind room (suc (suc (suc (suc zero)))) h = plain_alike number_format (content_behind room 4) (λ n. Leaf (Whole (pos n))) (alike_number room) plain_number
plain_behind room (suc (suc (suc (suc (suc zero))))) h = plain_alike high_format (content_behind room 5) below_zero (alike_below room) plain_high
plain_behind room (suc (suc (suc (suc (suc (suc zero)))))) h = plain_alike (long_text_format room) (content_behind room 6) (λ a. Leaf (Text a)) (alike_text room) (plain_long_text room)
plain_behind room (suc (suc (suc (suc (suc (suc (suc n))))))) h = absurd (omega arith)

pub has_behind : (room k : ℕ) → k ≤ 6 → HasSome (content_behind room k)
has_behind room zero h = has_bare room 0 (omega arith)
has_behind room (suc zero) h = has_bare room 1 (omega arith)
has_behind room (suc (suc zero)) h = has_bare room 2 (omega arith)
has_behind room (suc (suc (suc zero))) h = has_bare room 3 (omega arith)
has_behind room (suc (suc (suc (suc zero)))) h = has_alike number_format (content_behind room 4) (λ n. Leaf (Whole (pos n))) (alike_number room) has_number
has_behind room (suc (suc (suc (suc (suc zero))))) h = has_alike high_format (content_behind room 5) below_zero (alike_below room) has_high
has_behind room (suc (suc (suc (suc (suc (suc zero)))))) h = has_alike (long_text_format room) (content_behind room 6) (λ a. Leaf (Text a)) (alike_text room) (has_long_text room)
has_behind room (suc (suc (suc (suc (suc (suc (suc n))))))) h = absurd (omega arith)

module _ (room : ℕ) (bytes : List ℕ) (at : ℕ) where
  -- a form that has nothing behind its number
  pub bare_read : (k : ℕ) → k < 4 → at ≤ length bytes → ReadsAt (content_behind room k) bytes at (bare k) at
  bare_read k h le =
      let is = bare_is room k h in
      reads_nothing (content_behind room k) bytes at (bare k) le is tt (bare_parts (bare k) (omega (arith, h, is.1))).1

  -- a number that is not below zero
  pub number_read : (k n next : ℕ) → k ≡ 4 → ReadsAt number_format bytes at n next → ReadsAt (content_behind room k) bytes at (Leaf (Whole (pos n))) next
  number_read k n next e r = subst (λ f. ReadsAt (content_behind room f) bytes at (Leaf (Whole (pos n))) next) (sym e) (reads_alike_at number_format (content_behind room 4) (λ m. Leaf (Whole (pos m))) (alike_number room) bytes at n next r)

  pub number_fault : (k : ℕ) → k ≡ 4 → (e : FormatFault) → FaultAt number_format bytes at e → FaultAt (content_behind room k) bytes at e
  number_fault k same e f = subst (λ n. FaultAt (content_behind room n) bytes at e) (sym same) (fault_alike number_format (content_behind room 4) (λ m. Leaf (Whole (pos m))) (alike_number room) bytes at e f)

  -- a number below zero
  pub below_read : (k n next : ℕ) (c : Content) → k ≡ 5 → c ≡ below_zero n → ReadsAt high_format bytes at n next → ReadsAt (content_behind room k) bytes at c next
  below_read k n next c e same r =
      subst (λ f. ReadsAt (content_behind room f) bytes at c next) (sym e)
      (subst (λ x. ReadsAt (content_behind room 5) bytes at x next) (sym same) (reads_alike_at high_format (content_behind room 5) below_zero (alike_below room) bytes at n next r))

  pub below_fault : (k : ℕ) → k ≡ 5 → (e : FormatFault) → FaultAt high_format bytes at e → FaultAt (content_behind room k) bytes at e
  below_fault k same e f = subst (λ n. FaultAt (content_behind room n) bytes at e) (sym same) (fault_alike high_format (content_behind room 5) below_zero (alike_below room) bytes at e f)

  -- a text
  pub text_read : (k : ℕ) (a : List ℕ) (next : ℕ) → k ≡ 6 → ReadsAt (long_text_format room) bytes at a next → ReadsAt (content_behind room k) bytes at (Leaf (Text a)) next
  text_read k a next e r = subst (λ f. ReadsAt (content_behind room f) bytes at (Leaf (Text a)) next) (sym e) (reads_alike_at (long_text_format room) (content_behind room 6) (λ b. Leaf (Text b)) (alike_text room) bytes at a next r)

  pub text_fault : (k : ℕ) → k ≡ 6 → (e : FormatFault) → FaultAt (long_text_format room) bytes at e → FaultAt (content_behind room k) bytes at e
  text_fault k same e f = subst (λ n. FaultAt (content_behind room n) bytes at e) (sym same) (fault_alike (long_text_format room) (content_behind room 6) (λ b. Leaf (Text b)) (alike_text room) bytes at e f)

-- ---- contents

form_within : (c : Content) → (0 ≤ content_form c) × (content_form c ≤ 6) × (content_form c < 256)
form_within Node = (omega arith, omega arith, omega arith)
form_within (Leaf Null) = (omega arith, omega arith, omega arith)
form_within (Leaf False) = (omega arith, omega arith, omega arith)
form_within (Leaf True) = (omega arith, omega arith, omega arith)
form_within (Leaf (Whole (pos n))) = (omega arith, omega arith, omega arith)
form_within (Leaf (Whole (negsuc n))) = (omega arith, omega arith, omega arith)
form_within (Leaf (Text a)) = (omega arith, omega arith, omega arith)

-- a text is within the limit
pub within_text_max : (c : Content) → IsContent c → text_bytes c ≤ TEXT_MAX
within_text_max Node h = omega arith
within_text_max (Leaf Null) h = omega arith
within_text_max (Leaf False) h = omega arith
within_text_max (Leaf True) h = omega arith
within_text_max (Leaf (Whole n)) h = omega arith
within_text_max (Leaf (Text a)) h = h.1

-- a content is its form and what follows it
pub alike_content : (room : ℕ) → Alike (both (count_format 0 6) (content_behind room)) (content_format room) (λ z. z.1)
alike_content room = alike_forms (FitsIn room) content_form content_rest unchecked 0 6 form_within

pub plain_content : (room : ℕ) → IsPlain (content_format room)
plain_content room =
    plain_alike (both (count_format 0 6) (content_behind room)) (content_format room) (λ z. z.1) (alike_content room)
    (plain_both (count_format 0 6) (content_behind room) (plain_count 0 6) (λ k f. plain_behind room k f.1))

pub has_content : (room : ℕ) → HasSome (content_format room)
has_content room = record { first = Node; fit = (tt, omega arith) }

module _ (room : ℕ) (bytes : List ℕ) (at : ℕ) where
  -- a fault in the form is one of the content
  pub form_fault : (e : FormatFault) → FaultAt (count_format 0 6) bytes at e → FaultAt (content_format room) bytes at e
  form_fault e f =
      fault_alike (both (count_format 0 6) (content_behind room)) (content_format room) (λ z. z.1) (alike_content room) bytes at e
      (fault_first (count_format 0 6) (content_behind room) bytes at (λ x g h. tt) (λ k h. has_behind room k h.1) e f)

  module _ (k mid : ℕ) (r : ReadsAt (count_format 0 6) bytes at k mid) where
    -- a fault in what follows the form is one of the content
    pub behind_fault : (e : FormatFault) → FaultAt (content_behind room k) bytes mid e → FaultAt (content_format room) bytes at e
    behind_fault e f =
        fault_alike (both (count_format 0 6) (content_behind room)) (content_format room) (λ z. z.1) (alike_content room) bytes at e
        (fault_second (count_format 0 6) (content_behind room) bytes at (plain_count 0 6) mid k r e f)

    -- the form is read, and what follows it
    pub content_read : (c : Content) (next : ℕ) → ReadsAt (content_behind room k) bytes mid c next → ReadsAt (content_format room) bytes at c next
    content_read c next s =
        reads_alike_at (both (count_format 0 6) (content_behind room)) (content_format room) (λ z. z.1) (alike_content room) bytes at (k, c) next
        (reads_both_at (count_format 0 6) (content_behind room) bytes at mid next k c r s)
