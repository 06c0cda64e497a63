use Rattle.cp_frame.proofs.PutOps.{OpsPut}
use Rattle.cp_frame.proofs.entry.put_ops.Given as goal

abbrev pub invariant-loop-op : goal.invariant-loop-op
invariant-loop-op l = OpsPut l.op-items l.fn.out.items l.op-index l.out.items
