use Rattle.std.proofs.Common.{◌≡◌, ◌≤◌, ◌*◌, take}
use Rattle.std.specs.Prelude.{sum_by}
use Rattle.cp_record.specs.Bytes.{op_length}
use Rattle.cp_engine.proofs.held.HeldOps.bytes.Given as goal

abbrev pub invariant-loop-op : goal.invariant-loop-op
invariant-loop-op l = record {
  so_far : l.total ≡ sum_by op_length (take l.op-index l.op-items);
  bound : sum_by op_length (take l.op-index l.op-items) ≤ 67108864 * l.op-index;
}
