-- The label of a child: one that comes after that of the child before.
use Rattle.std.proofs.Common.{ℕ, ◌+◌, ◌-◌, ◌<◌, ◌≤◌, List, Option, None, Some, Result, IfErr, IfOk, refl, length, take, drop, arith}
use Rattle.cp_path.specs.Encoding.{counted_bytes}
use Rattle.cp_model.specs.Place.{Label}
use Rattle.cp_format.specs.declared.fault.FormatFault.{FormatFault}
use Rattle.cp_format.specs.Faults.{FaultAt}
use Rattle.cp_format.specs.Formats.{FailsAt, ReadsAt}
use Rattle.cp_format.specs.Judging.{IsRefused, MayPass}
use Rattle.cp_format.specs.Parts.{label_format}
use Rattle.cp_format.proofs.Checked.{judged_checked}
use Rattle.cp_format.proofs.Checks.{IsJudged}
use Rattle.cp_format.proofs.Formats.{HasSome, IsPlain}
use Rattle.cp_format.proofs.Labels.{has_label, plain_label}
use Rattle.cp_frame.specs.OrderReading.{end_of}
use Rattle.cp_frame.specs.Trees.{comes_after, judged_at}
use Rattle.cp_frame.specs.Reading.{next_label_format}
use Rattle.cp_frame.proofs.Early.{decided_within}
use Rattle.cp_frame.proofs.ReadTo.{fails_early, fault_later, read_later, to_end}

-- a label is judged at its length or at one of its bytes
pub judged_within : (elder : Option Label) (a : Label) → judged_at elder a ≤ length a
judged_within None a = omega arith
judged_within (Some b) a = decided_within b a

within_spelling : (elder : Option Label) (a : Label) → judged_at elder a < length (counted_bytes a)
within_spelling elder a = omega (arith, judged_within elder a)

module _ (most : ℕ) (elder : Option Label) where
  pub has_next : HasSome (next_label_format most elder)
  has_next = let h = has_label most in record { first = h.first; fit = h.fit }

  pub plain_next : IsPlain (next_label_format most elder)
  plain_next = plain_label most

  pub judged_next : IsJudged (next_label_format most elder)
  judged_next = judged_checked (label_format most) (judged_at elder) (comes_after elder) (λ a f. within_spelling elder a) (λ x g h. tt)

-- after no child any label comes
pub may_be_first : (most : ℕ) (bytes : List ℕ) → MayPass (label_format most) (comes_after None) (judged_at None) bytes
may_be_first most bytes = λ a rest f e lt. refl

module _ (most : ℕ) (elder : Option Label) (bytes : List ℕ) (at : ℕ) (within : at ≤ length bytes) (read : Result (Label × ℕ) FormatFault) (ok : IfOk read (λ x. ReadsAt (label_format most) bytes at x.0 x.1)) (err : IfErr read (FaultAt (label_format most) bytes at)) where
  -- so far the bytes are read
  pub label_to : (at ≤ end_of read at) × (end_of read at ≤ length bytes)
  label_to = to_end (label_format most) bytes at within read ok err

  -- a label that comes too early fails at the byte that tells
  pub early_label : (k : ℕ) → IsRefused (label_format most) (comes_after elder) (judged_at elder) (take (end_of read at - at) (drop at bytes)) k → FailsAt (next_label_format most elder) bytes at (at + k)
  early_label k r = fails_early (label_format most) (judged_at elder) (comes_after elder) (plain_label most) bytes at within read ok err k r

  -- a label that may come is read as it was, and fails as it did
  pub later_label : MayPass (label_format most) (comes_after elder) (judged_at elder) (take (end_of read at - at) (drop at bytes)) → IfOk read (λ x. ReadsAt (next_label_format most elder) bytes at x.0 x.1)
  later_label may = read_later (label_format most) (judged_at elder) (comes_after elder) (λ a f. within_spelling elder a) bytes at read ok may

  pub later_label_fault : MayPass (label_format most) (comes_after elder) (judged_at elder) (take (end_of read at - at) (drop at bytes)) → IfErr read (FaultAt (next_label_format most elder) bytes at)
  later_label_fault may = fault_later (label_format most) (judged_at elder) (comes_after elder) bytes at read err may
