-- What was read, or failed, is judged by the bytes up to where reading stopped.
use Rattle.std.proofs.Common.{ℕ, ◌+◌, ◌-◌, ◌<◌, ◌≤◌, Bool, List, Result, Ok, Err, IfErr, IfOk, length, take, drop, arith}
use Rattle.std.proofs.lemmas.List.{length-drop, length-take}
use Rattle.cp_format.specs.declared.fault.FormatFault.{FormatFault}
use Rattle.cp_format.specs.declared.fault.FormatFault.TheVariants.{BadByte, Memory}
use Rattle.cp_format.specs.Faults.{FaultAt}
use Rattle.cp_format.specs.Formats.{FailsAt, Format, ReadsAt}
use Rattle.cp_format.specs.Judging.{IsRefused, MayPass}
use Rattle.cp_format.proofs.Checked.{fails_checked, fails_refused, goes_read, reads_checked, with_check}
use Rattle.cp_format.proofs.Formats.{IsPlain}
use Rattle.cp_frame.specs.OrderReading.{end_of}

module _ {X : Type 0} (F : Format X) where
  module _ (bytes : List ℕ) (at : ℕ) (within : at ≤ length bytes) where
    -- reading stops behind the offset at which it began, within the bytes
    pub to_end : (read : Result (X × ℕ) FormatFault) → IfOk read (λ x. ReadsAt F bytes at x.0 x.1) → IfErr read (FaultAt F bytes at) → (at ≤ end_of read at) × (end_of read at ≤ length bytes)
    to_end (Ok x) r f = (omega (arith, r.count), r.within)
    to_end (Err (BadByte n)) r f = (f.past, omega (arith, f.past, f.stops.within, length-drop at bytes, within))
    to_end (Err Memory) r f = (omega arith, within)

  module _ (last : X → ℕ) (test : X → Bool) where
    -- a value that is refused fails at the byte that tells
    pub fails_early : IsPlain F → (bytes : List ℕ) (at : ℕ) → at ≤ length bytes → (read : Result (X × ℕ) FormatFault) → IfOk read (λ x. ReadsAt F bytes at x.0 x.1) → IfErr read (FaultAt F bytes at) →
        (k : ℕ) → IsRefused F test last (take (end_of read at - at) (drop at bytes)) k → FailsAt (with_check F last test) bytes at (at + k)
    fails_early p bytes at within (Ok x) r f k refused =
        let e = to_end bytes at within (Ok x) r f in
        fails_refused F last test p bytes at x.1 e.0 e.1 (goes_read F bytes at x.0 x.1 r) k refused
    fails_early p bytes at within (Err (BadByte n)) r f k refused =
        let e = to_end bytes at within (Err (BadByte n)) r f in
        fails_refused F last test p bytes at n e.0 e.1 f.stops.begins k refused
    fails_early p bytes at within (Err Memory) r f k refused = absurd (omega (arith, refused.there, length-take (at - at) (drop at bytes)))

    -- a value that may pass is read with the check
    pub read_later : ((x : X) → F.fit x → last x < length (F.bytes x)) → (bytes : List ℕ) (at : ℕ) (read : Result (X × ℕ) FormatFault) → IfOk read (λ x. ReadsAt F bytes at x.0 x.1) →
        MayPass F test last (take (end_of read at - at) (drop at bytes)) → IfOk read (λ x. ReadsAt (with_check F last test) bytes at x.0 x.1)
    read_later judged bytes at (Ok x) r may = reads_checked F last test bytes at x.0 x.1 r (judged x.0 r.reads.fit) may
    read_later judged bytes at (Err e) r may = tt

    -- and a fault stays where it is
    pub fault_later : (bytes : List ℕ) (at : ℕ) (read : Result (X × ℕ) FormatFault) → IfErr read (FaultAt F bytes at) → MayPass F test last (take (end_of read at - at) (drop at bytes)) → IfErr read (FaultAt (with_check F last test) bytes at)
    fault_later bytes at (Ok x) f may = tt
    fault_later bytes at (Err (BadByte n)) f may = fails_checked F last test bytes at n f may
    fault_later bytes at (Err Memory) f may = tt
