use Rattle.cp_operation.specs.Loaded.{sources_in}
use Rattle.cp_engine.proofs.RecordingLemmas.{HaveRecorded}
use Rattle.cp_engine.proofs.recording.record_each.Given as goal

abbrev pub invariant-loop-op : goal.invariant-loop-op
invariant-loop-op g l = HaveRecorded l.kind (sources_in g.S.TreeRep.contents l.sources) (g.R.TreeRep.contents l.initial.tree) l.first l.ops l.op-index (g.R.TreeRep.contents l.tree) l.tid l.rows
