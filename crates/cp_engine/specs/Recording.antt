-- Operations replayed with the records of their steps.
use Rattle.std.specs.Prelude.{ℕ, ◌≡◌, List}
use Rattle.std.specs.declared.option.Option.{Option}
use Rattle.std.specs.declared.option.Option.TheVariants.{None, Some}
use Rattle.cp_model.specs.Tree.{Tree, Source}
use Rattle.cp_model.specs.declared.kind.Kind.{Kind}
use Rattle.cp_model.specs.declared.op.Op.{Op}
use Rattle.cp_model.specs.declared.record.Record.{Record}
use Rattle.cp_operation.specs.Passed.{stage_after, records_of, AllAccepted}

-- the operations are accepted and lead from the old tree to the new one, and the records that are given are all of their records
pub record AreRecorded (ss : List Source) (old new : Tree) (ops : List Op) (all rs : List Record) : Type 0 where
  pub accepted : AllAccepted ss old ops
  pub tree : (k : Kind) (n : ℕ) → new ≡ (stage_after k ss old n ops).tree
  pub records : rs ≡ all

-- the operations were replayed with all of these records, or one isn't accepted
abbrev pub RecordsWith : List Source → Tree → Tree → List Op → List Record → Option (List Record) → Type 0
RecordsWith ss old new ops all (Some rs) = AreRecorded ss old new ops all rs
RecordsWith ss old new ops all None = AllAccepted ss old ops → ⊥

-- the operations were replayed with the records of the steps that they make in the kind, the first with the Tid n, or one isn't accepted
abbrev pub RecordsAs : List Source → Tree → Tree → Kind → ℕ → List Op → Option (List Record) → Type 0
RecordsAs ss old new k n ops o = RecordsWith ss old new ops (records_of k ss old n ops) o
