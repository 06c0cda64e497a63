-- Records in order, each judged by the one before it.
use Rattle.std.proofs.Common.{◌≡◌, ℕ, zero, suc, ◌+◌, ◌-◌, ◌<◌, ◌≤◌, List, [], ◌∷◌, ◌++◌, Option, None, Some, Result, IfErr, IfOk, take, drop, refl, sym, ap, ◌∙◌, subst, append_assoc, length, length-append, slice_get, arith}
use Rattle.std.specs.Int.{to_be_bytes, w32}
use Rattle.std.specs.List.{flat_map, AllByRecursion}
use Rattle.cp_model.specs.declared.record.Record.{Record}
use Rattle.cp_record.specs.Bytes.{record_bytes, records_bytes}
use Rattle.cp_format.specs.declared.fault.FormatFault.{FormatFault}
use Rattle.cp_format.specs.Faults.{FaultAt}
use Rattle.cp_format.specs.Formats.{FailsAt, Format, ReadsAt}
use Rattle.cp_format.specs.Judging.{IsRefused, MayPass}
use Rattle.cp_format.specs.Parts.{bounded_format, record_format}
use Rattle.cp_format.specs.Spelled.{IsSpelled}
use Rattle.cp_format.proofs.Checked.{has_checked, judged_checked}
use Rattle.cp_format.proofs.Checks.{IsJudged}
use Rattle.cp_format.proofs.Counted.{IsCounted, SoFar, all_read, has_counted, next_fails, next_read, none_yet, plain_counted}
use Rattle.cp_format.proofs.Faults.{fault_alike, fault_by, fault_first, fault_second}
use Rattle.cp_format.proofs.Formats.{Alike, HasSome, IsPlain, both, has_alike, has_both, plain_alike, plain_both, reads_alike_at, reads_both_at}
use Rattle.cp_format.proofs.Numbers.{has_bounded, plain_bounded}
use Rattle.cp_format.proofs.Records.{has_record, plain_record}
use Rattle.cp_frame.specs.Entries.{counted_records, follows, record_judged_at, records_format_of}
use Rattle.cp_frame.specs.EntryReading.{counted_records_format, next_record_format}
use Rattle.cp_frame.specs.OrderReading.{end_of}
use Rattle.cp_frame.proofs.EarlyRecords.{judged_in_record}
use Rattle.cp_frame.proofs.ReadTo.{fails_early, fault_later, read_later, to_end}

-- ---- one record

module _ (elder : Option Record) where
  pub has_next_record : HasSome (next_record_format elder)
  has_next_record = has_checked record_format (record_judged_at elder) (follows elder) has_record

  pub plain_next_record : IsPlain (next_record_format elder)
  plain_next_record = plain_record

  pub judged_next_record : IsJudged (next_record_format elder)
  judged_next_record = judged_checked record_format (record_judged_at elder) (follows elder) (λ r f. judged_in_record elder r) (λ r f h. tt)

-- after no record any comes
pub may_be_first : (bytes : List ℕ) → MayPass record_format (follows None) (record_judged_at None) bytes
may_be_first bytes = λ r rest f e lt. refl

module _ (elder : Option Record) (bytes : List ℕ) (at : ℕ) (within : at ≤ length bytes) (read : Result (Record × ℕ) FormatFault) (ok : IfOk read (λ x. ReadsAt record_format bytes at x.0 x.1)) (err : IfErr read (FaultAt record_format bytes at)) where
  -- so far the bytes are read
  pub record_to : (at ≤ end_of read at) × (end_of read at ≤ length bytes)
  record_to = to_end record_format bytes at within read ok err

  -- a record that doesn't follow fails at the byte that tells
  pub early_record : (k : ℕ) → IsRefused record_format (follows elder) (record_judged_at elder) (take (end_of read at - at) (drop at bytes)) k → FailsAt (next_record_format elder) bytes at (at + k)
  early_record k r = fails_early record_format (record_judged_at elder) (follows elder) plain_record bytes at within read ok err k r

  -- a record that may follow is read as it was, and fails as it did
  pub later_record : MayPass record_format (follows elder) (record_judged_at elder) (take (end_of read at - at) (drop at bytes)) → IfOk read (λ x. ReadsAt (next_record_format elder) bytes at x.0 x.1)
  later_record may = read_later record_format (record_judged_at elder) (follows elder) (λ r f. judged_in_record elder r) bytes at read ok may

  pub later_record_fault : MayPass record_format (follows elder) (record_judged_at elder) (take (end_of read at - at) (drop at bytes)) → IfErr read (FaultAt (next_record_format elder) bytes at)
  later_record_fault may = fault_later record_format (record_judged_at elder) (follows elder) bytes at read err may

-- ---- so many records

-- any number of records is allowed
abbrev pub AnyRecords : ℕ → Option Record → Type 0
AnyRecords n elder = Unit {0}

-- the next record, after this one
abbrev pub next_of : ℕ → Option Record → Format Record
next_of n elder = next_record_format elder

-- each record is the one before the next
abbrev pub elder_after : Option Record → Record → Option Record
elder_after elder r = Some r

-- the records still to come, after this one
abbrev pub records_after : ℕ → Option Record → Format (List Record)
records_after n elder = records_format_of elder n

no_record : (rs : List Record) → length rs ≡ 0 → rs ≡ []
no_record [] e = refl
no_record (r ∷ rs) e = absurd (omega (arith, e))

record_parts : (n : ℕ) (elder : Option Record) (rs : List Record) → AllByRecursion IsSpelled rs → length rs ≡ suc n → (z : Record × List Record) × (both (next_of n elder) (λ r. records_after n (elder_after elder r))).fit z × (◌≡◌ {A = List Record} (z.0 ∷ z.1) rs)
record_parts n elder [] all size = absurd (omega (arith, size))
record_parts n elder (r ∷ rs) all size = ((r, rs), (all.0, (all.1, omega (arith, size))), refl)

-- records are one after another, each after the one before
pub records_counted : IsCounted AnyRecords next_of elder_after records_after
records_counted = record {
  none = λ elder. ((tt, refl), refl, refl);
  only = λ elder rs f. no_record rs f.1;
  more = λ n elder h. record {
    there = λ z f. (((f.0, f.1.0), ap suc f.1.1), refl, refl);
    back = λ rs f. record_parts n elder rs f.0 f.1;
  };
  keeps = λ n elder r h f. tt;
  some = λ n elder h. has_next_record elder;
  plain = λ n elder h. plain_next_record elder;
  judged = λ n elder h. judged_next_record elder;
}

pub has_records : (n : ℕ) (elder : Option Record) → HasSome (records_format_of elder n)
has_records n elder = has_counted AnyRecords next_of elder_after records_after records_counted n elder tt

pub plain_records : (n : ℕ) (elder : Option Record) → IsPlain (records_format_of elder n)
plain_records n elder = plain_counted AnyRecords next_of elder_after records_after records_counted n elder tt

-- ---- records in a loop

-- the last of these records
abbrev pub last_record : List Record → Option Record
last_record rs = slice_get rs (length rs - 1)

last_at : (rs : List Record) (r : Record) (n : ℕ) → n ≡ length rs → slice_get (rs ++ r ∷ []) n ≡ Some r
last_at [] r zero e = refl
last_at [] r (suc n) e = absurd (omega (arith, e))
last_at (q ∷ rs) r zero e = absurd (omega (arith, e))
last_at (q ∷ rs) r (suc n) e = last_at rs r n (omega (arith, e))

pub last_added : (rs : List Record) (r : Record) → last_record (rs ++ r ∷ []) ≡ Some r
last_added rs r = last_at rs r (length (rs ++ r ∷ []) - 1) (omega (arith, length-append rs (r ∷ [])))

-- the first so many records are read
abbrev pub RecordsSoFar : List ℕ → ℕ → ℕ → ℕ → List Record → ℕ → Type 0
RecordsSoFar bytes at count k rs next = SoFar AnyRecords records_after bytes at count None k rs next (last_record rs)

-- no record is read
pub no_records_yet : (bytes : List ℕ) (at count : ℕ) (rs : List Record) → rs ≡ [] → at ≤ length bytes → RecordsSoFar bytes at count 0 rs at
no_records_yet bytes at count rs e le =
    subst (λ q. SoFar AnyRecords records_after bytes at count None 0 rs at q) (sym (ap last_record e))
    (none_yet AnyRecords next_of elder_after records_after records_counted bytes at count None rs e le tt)

module _ (bytes : List ℕ) (at count k : ℕ) (rs : List Record) (next : ℕ) (s : RecordsSoFar bytes at count k rs next) where
  -- all records are read
  pub records_read : count ≤ k → ReadsAt (records_format_of None count) bytes at rs next
  records_read le = all_read AnyRecords next_of elder_after records_after records_counted bytes at count None k rs next (last_record rs) s le

  module _ (lt : k < count) where
    -- a fault in the next record is one of all
    pub record_fault : (e : FormatFault) → FaultAt (next_record_format (last_record rs)) bytes next e → FaultAt (records_format_of None count) bytes at e
    record_fault e f =
        fault_by (next_record_format (last_record rs)) (records_format_of None count) bytes next at
        (λ n g. next_fails AnyRecords next_of elder_after records_after records_counted bytes at count None k rs next (last_record rs) s lt n g) e f

    -- one record more is read
    pub record_read : (r : Record) (behind : ℕ) → ReadsAt (next_record_format (last_record rs)) bytes next r behind → (now : List Record) → now ≡ rs ++ r ∷ [] → RecordsSoFar bytes at count (k + 1) now behind
    record_read r behind t now e =
        next_read AnyRecords next_of elder_after records_after records_counted bytes at count None k rs next (last_record rs) s lt r behind t now (last_record now) e (ap last_record e ∙ last_added rs r)

-- ---- their number, and these

-- the most records
abbrev pub records_most : ℕ
records_most = 4294967295

-- so many records, the first of which comes after none
abbrev pub none_before : ℕ → Format (List Record)
none_before n = records_format_of None n

-- records are their number and these
pub alike_records : Alike (both (bounded_format 0 records_most) none_before) counted_records_format (λ z. z.1)
alike_records = record {
  there = λ z f. ((f.1.0, omega (arith, f.0.2, f.1.1)), ap (λ n. to_be_bytes w32 n ++ flat_map record_bytes z.1) f.1.1, refl);
  back = λ rs f. ((length rs, rs), ((omega arith, omega (arith, f.1), f.1), (f.0, refl)), refl);
}

pub has_counted_records : HasSome counted_records_format
has_counted_records = has_alike (both (bounded_format 0 records_most) none_before) counted_records_format (λ z. z.1) alike_records (has_both (bounded_format 0 records_most) none_before (has_bounded 0 records_most (omega arith) (omega arith)) (λ n f. has_records n None))

pub plain_counted_records : IsPlain counted_records_format
plain_counted_records = plain_alike (both (bounded_format 0 records_most) none_before) counted_records_format (λ z. z.1) alike_records (plain_both (bounded_format 0 records_most) none_before (plain_bounded 0 records_most) (λ n f. plain_records n None))

module _ (bytes : List ℕ) (at : ℕ) where
  -- a fault in the number is one of all
  pub records_number_fault : (e : FormatFault) → FaultAt (bounded_format 0 records_most) bytes at e → FaultAt counted_records_format bytes at e
  records_number_fault e f =
      fault_alike (both (bounded_format 0 records_most) none_before) counted_records_format (λ z. z.1) alike_records bytes at e
      (fault_first (bounded_format 0 records_most) none_before bytes at (λ n g h. tt) (λ n g. has_records n None) e f)

  module _ (count mid : ℕ) (r : ReadsAt (bounded_format 0 records_most) bytes at count mid) where
    -- a fault in the records is one of all
    pub records_fault : (e : FormatFault) → FaultAt (records_format_of None count) bytes mid e → FaultAt counted_records_format bytes at e
    records_fault e f =
        fault_alike (both (bounded_format 0 records_most) none_before) counted_records_format (λ z. z.1) alike_records bytes at e
        (fault_second (bounded_format 0 records_most) none_before bytes at (plain_bounded 0 records_most) mid count r e f)

    -- the number is read, and the records
    pub counted_records_read : (rs : List Record) (next : ℕ) → ReadsAt (records_format_of None count) bytes mid rs next → ReadsAt counted_records_format bytes at rs next
    counted_records_read rs next s =
        reads_alike_at (both (bounded_format 0 records_most) none_before) counted_records_format (λ z. z.1) alike_records bytes at (count, rs) next
        (reads_both_at (bounded_format 0 records_most) none_before bytes at mid next count rs r s)

-- ---- their bytes

-- the number and the bytes of records were appended
pub records_put : (old mid new bytes : List ℕ) (n : ℕ) (rs : List Record) → n ≡ length rs → mid ≡ old ++ to_be_bytes w32 n → bytes ≡ records_bytes rs → new ≡ mid ++ bytes → new ≡ old ++ counted_records rs
unfolding records_bytes
records_put old mid new bytes n rs e f b g =
    g ∙ ap (λ (l : List ℕ). mid ++ l) b ∙ ap (λ (l : List ℕ). l ++ flat_map record_bytes rs) f ∙ append_assoc old (to_be_bytes w32 n) (flat_map record_bytes rs)
    ∙ ap (λ (k : ℕ). old ++ (to_be_bytes w32 k ++ flat_map record_bytes rs)) e
