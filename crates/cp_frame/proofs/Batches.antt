-- Operations and records as a batch.
use Rattle.std.proofs.Common.{◌≡◌, ℕ, ◌+◌, Bool, List, ◌++◌, None, refl, sym, ap, ◌∙◌, append_assoc, length, arith}
use Rattle.std.specs.Int.{to_be_bytes, w32}
use Rattle.std.specs.List.{flat_map}
use Rattle.cp_model.specs.declared.limits.TheConstants.{OPS_MAX}
use Rattle.cp_model.specs.declared.op.Op.{Op}
use Rattle.cp_model.specs.declared.record.Record.{Record}
use Rattle.cp_format.specs.declared.fault.FormatFault.{FormatFault}
use Rattle.cp_format.specs.Faults.{FaultAt}
use Rattle.cp_format.specs.Formats.{Format, ReadsAt, moved}
use Rattle.cp_format.specs.Parts.{bounded_format}
use Rattle.cp_format.proofs.Faults.{fault_alike, fault_first, fault_second}
use Rattle.cp_format.proofs.Formats.{Alike, HasSome, IsPlain, both, has_alike, has_both, plain_alike, plain_both, reads_alike_at, reads_both_at}
use Rattle.cp_format.proofs.Numbers.{has_bounded, plain_bounded}
use Rattle.cp_frame.specs.Entries.{Batch, batch_bytes, batch_checks, batch_format, counted_records, ops_bytes, record_checks}
use Rattle.cp_frame.specs.EntryReading.{HasReadBatch, counted_records_format}
use Rattle.cp_frame.specs.Operations.{HasTakenOps, WrittenOp, ops_checks, ops_format_of, written_bytes}
use Rattle.cp_frame.proofs.Moved.{moved_both, moved_twice}
use Rattle.cp_frame.proofs.RecordLists.{has_counted_records, plain_counted_records}
use Rattle.cp_frame.proofs.WrittenOps.{has_ops, judged_ops, plain_ops}

-- the records, which follow the operations
abbrev pub behind_ops : List WrittenOp → Format (List Record)
behind_ops ws = counted_records_format

module _ (trees : Bool) where
  -- the operations and the records, which follow the number of operations
  abbrev pub behind_count : ℕ → Format (List WrittenOp × List Record)
  behind_count n = both (ops_format_of trees n) behind_ops

  -- the parts of a batch, one after another
  abbrev pub batch_parts : Format (ℕ × (List WrittenOp × List Record))
  batch_parts = both (bounded_format 1 OPS_MAX) behind_count

  -- the batch of these parts
  abbrev pub batch_of : ℕ × (List WrittenOp × List Record) → Batch
  batch_of z = record { ops = z.1.0; records = z.1.1 }

  same_bytes : (n : ℕ) (ws : List WrittenOp) (rs : List Record) → length ws ≡ n → batch_bytes (record { ops = ws; records = rs }) ≡ to_be_bytes w32 n ++ (flat_map written_bytes ws ++ counted_records rs)
  same_bytes n ws rs e =
      append_assoc (to_be_bytes w32 (length ws)) (flat_map written_bytes ws) (counted_records rs)
      ∙ ap (λ (m : ℕ). to_be_bytes w32 m ++ (flat_map written_bytes ws ++ counted_records rs)) e

  same_checks : (ws : List WrittenOp) (rs : List Record) → batch_checks (record { ops = ws; records = rs }) ≡ moved 4 (ops_checks ws ++ moved (length (flat_map written_bytes ws)) (moved 4 (record_checks None rs)))
  same_checks ws rs =
      let size = length (flat_map written_bytes ws) in
      let checks = record_checks None rs in
      let all : length (ops_bytes ws) + 4 ≡ 4 + (size + 4) = omega arith in
      ap (λ (n : ℕ). moved 4 (ops_checks ws) ++ moved n checks) all
      ∙ ap (λ cs. moved 4 (ops_checks ws) ++ cs) (sym (moved_twice 4 (size + 4) checks))
      ∙ ap (λ cs. moved 4 (ops_checks ws) ++ moved 4 cs) (sym (moved_twice size 4 checks))
      ∙ sym (moved_both 4 (ops_checks ws) (moved size (moved 4 checks)))

  -- a batch is the number of its operations, these, and its records
  pub alike_batch : Alike batch_parts (batch_format trees) batch_of
  alike_batch = record {
    there = λ z f. (
      record {
        some = omega (arith, f.0.0, f.1.0.1);
        few = omega (arith, f.0.1, f.1.0.1);
        ops = f.1.0.0;
        records = f.1.1.0;
        counted = f.1.1.1;
      },
      same_bytes z.0 z.1.0 z.1.1 f.1.0.1,
      same_checks z.1.0 z.1.1,
    );
    back = λ b f. ((length b.ops, (b.ops, b.records)), ((f.some, f.few, omega (arith, f.few)), ((f.ops, refl), (f.records, f.counted))), refl);
  }

  has_behind_count : (n : ℕ) → HasSome (behind_count n)
  has_behind_count n = has_both (ops_format_of trees n) behind_ops (has_ops trees n) (λ ws f. has_counted_records)

  pub has_batch : HasSome (batch_format trees)
  has_batch = has_alike batch_parts (batch_format trees) batch_of alike_batch (has_both (bounded_format 1 OPS_MAX) behind_count (has_bounded 1 OPS_MAX (omega arith) (omega arith)) (λ n f. has_behind_count n))

  pub plain_batch : IsPlain (batch_format trees)
  plain_batch =
      plain_alike batch_parts (batch_format trees) batch_of alike_batch
      (plain_both (bounded_format 1 OPS_MAX) behind_count (plain_bounded 1 OPS_MAX) (λ n f. plain_both (ops_format_of trees n) behind_ops (plain_ops trees n) (λ ws g. plain_counted_records)))

  module _ (bytes : List ℕ) (at : ℕ) where
    parts_fault : (e : FormatFault) → FaultAt batch_parts bytes at e → FaultAt (batch_format trees) bytes at e
    parts_fault e f = fault_alike batch_parts (batch_format trees) batch_of alike_batch bytes at e f

    -- a fault in the number of operations is one of the batch
    pub count_fault : (e : FormatFault) → FaultAt (bounded_format 1 OPS_MAX) bytes at e → FaultAt (batch_format trees) bytes at e
    count_fault e f = parts_fault e (fault_first (bounded_format 1 OPS_MAX) behind_count bytes at (λ x g h. tt) (λ n g. has_behind_count n) e f)

    module _ (n mid : ℕ) (r : ReadsAt (bounded_format 1 OPS_MAX) bytes at n mid) where
      behind_fault : (e : FormatFault) → FaultAt (behind_count n) bytes mid e → FaultAt (batch_format trees) bytes at e
      behind_fault e f = parts_fault e (fault_second (bounded_format 1 OPS_MAX) behind_count bytes at (plain_bounded 1 OPS_MAX) mid n r e f)

      -- a fault in the operations is one of the batch
      pub ops_fault : (e : FormatFault) → FaultAt (ops_format_of trees n) bytes mid e → FaultAt (batch_format trees) bytes at e
      ops_fault e f = behind_fault e (fault_first (ops_format_of trees n) behind_ops bytes mid (judged_ops trees n) (λ ws g. has_counted_records) e f)

      module _ (os : List Op) (behind : ℕ) (s : HasTakenOps trees n bytes mid os behind) where
        -- a fault in the records is one of the batch
        pub batch_records_fault : (e : FormatFault) → FaultAt counted_records_format bytes behind e → FaultAt (batch_format trees) bytes at e
        batch_records_fault e f = behind_fault e (fault_second (ops_format_of trees n) behind_ops bytes mid (plain_ops trees n) behind s.written s.reads e f)

        -- the operations are read, and the records
        pub batch_read : (rs : List Record) (next : ℕ) → ReadsAt counted_records_format bytes behind rs next → HasReadBatch trees bytes at os rs next
        batch_read rs next t = record {
          batch = record { ops = s.written; records = rs };
          reads =
              reads_alike_at batch_parts (batch_format trees) batch_of alike_batch bytes at (n, (s.written, rs)) next
              (reads_both_at (bounded_format 1 OPS_MAX) behind_count bytes at mid next n (s.written, rs) r
              (reads_both_at (ops_format_of trees n) behind_ops bytes mid behind next s.written rs s.reads t));
          is = record { ops = s.are; records = refl };
        }
