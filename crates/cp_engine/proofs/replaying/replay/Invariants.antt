use Rattle.cp_operation.specs.Loaded.{sources_in}
use Rattle.cp_operation.proofs.Replayed.{HaveReplayed}
use Rattle.cp_engine.proofs.replaying.replay.Given as goal

abbrev pub invariant-loop-op : goal.invariant-loop-op
invariant-loop-op g l = HaveReplayed (sources_in g.S.TreeRep.contents l.sources) (g.R.TreeRep.contents l.initial.tree) l.ops l.op-index (g.R.TreeRep.contents l.tree)
