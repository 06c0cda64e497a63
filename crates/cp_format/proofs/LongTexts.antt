-- A text of so many bytes at most, behind its length in four bytes.
use Rattle.std.proofs.Common.{◌≡◌, ℕ, List, ◌++◌, refl, sym, ap, subst, length, min, arith}
use Rattle.std.specs.Int.{to_be_bytes, w32}
use Rattle.cp_path.specs.declared.limits.TheConstants.{TEXT_MAX}
use Rattle.cp_format.specs.declared.fault.FormatFault.{FormatFault}
use Rattle.cp_format.specs.Contents.{long_text_format}
use Rattle.cp_format.specs.Faults.{FaultAt}
use Rattle.cp_format.specs.Formats.{ReadsAt}
use Rattle.cp_format.specs.Parts.{bounded_format, text_format}
use Rattle.cp_format.proofs.Faults.{fault_alike, fault_first, fault_second}
use Rattle.cp_format.proofs.Formats.{HasSome, IsPlain, Alike, both, has_both, has_alike, plain_alike, plain_both, reads_alike_at, reads_both_at}
use Rattle.cp_format.proofs.Numbers.{has_bounded, plain_bounded}
use Rattle.cp_format.proofs.Texts.{has_text, plain_text}

-- a text is its length and its bytes
pub alike_long_text : (room most : ℕ) → most ≡ min room TEXT_MAX → Alike (both (bounded_format 0 most) text_format) (long_text_format room) (λ z. z.1)
alike_long_text room most least = record {
  there = λ z f. (((f.1.0, omega (arith, f.0.1, f.1.1, least)), omega (arith, f.0.1, f.1.1, least)), ap (λ n. to_be_bytes w32 n ++ z.1) f.1.1, refl);
  back = λ a f. ((length a, a), ((omega arith, omega (arith, f.0.1, f.1, least), omega (arith, f.0.1)), (f.0.0, refl)), refl);
}

pub plain_long_text : (room : ℕ) → IsPlain (long_text_format room)
plain_long_text room =
    let most = min room TEXT_MAX in
    plain_alike (both (bounded_format 0 most) text_format) (long_text_format room) (λ z. z.1) (alike_long_text room most refl)
    (plain_both (bounded_format 0 most) text_format (plain_bounded 0 most) (λ n f. plain_text n))

pub has_long_text : (room : ℕ) → HasSome (long_text_format room)
has_long_text room =
    let most = min room TEXT_MAX in
    has_alike (both (bounded_format 0 most) text_format) (long_text_format room) (λ z. z.1) (alike_long_text room most refl)
    (has_both (bounded_format 0 most) text_format (has_bounded 0 most (omega arith) (omega arith)) (λ n f. has_text n))

module _ (room most : ℕ) (least : most ≡ min room TEXT_MAX) (bytes : List ℕ) (at : ℕ) where
  long_text_fault : (e : FormatFault) → FaultAt (both (bounded_format 0 most) text_format) bytes at e → FaultAt (long_text_format room) bytes at e
  long_text_fault e f = fault_alike (both (bounded_format 0 most) text_format) (long_text_format room) (λ z. z.1) (alike_long_text room most least) bytes at e f

  -- a fault in the length is one of the text
  pub length_of_fault : (e : FormatFault) → FaultAt (bounded_format 0 most) bytes at e → FaultAt (long_text_format room) bytes at e
  length_of_fault e f = long_text_fault e (fault_first (bounded_format 0 most) text_format bytes at (λ x g h. tt) (λ n h. has_text n) e f)

  module _ (n mid : ℕ) (r : ReadsAt (bounded_format 0 most) bytes at n mid) where
    -- a fault in the text's bytes is one of the text
    pub text_of_fault : (e : FormatFault) → FaultAt (text_format n) bytes mid e → FaultAt (long_text_format room) bytes at e
    text_of_fault e f = long_text_fault e (fault_second (bounded_format 0 most) text_format bytes at (plain_bounded 0 most) mid n r e f)

    -- the length is read and then the text
    pub long_text_read : (a b : List ℕ) (next : ℕ) → b ≡ a → ReadsAt (text_format n) bytes mid a next → ReadsAt (long_text_format room) bytes at b next
    long_text_read a b next e s =
        subst (λ t. ReadsAt (long_text_format room) bytes at t next) (sym e)
        (reads_alike_at (both (bounded_format 0 most) text_format) (long_text_format room) (λ z. z.1) (alike_long_text room most least) bytes at (n, a) next
        (reads_both_at (bounded_format 0 most) text_format bytes at mid next n a r s))
