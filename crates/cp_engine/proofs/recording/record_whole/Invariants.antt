use Rattle.cp_overlay.specs.Seen.{seen}
use Rattle.cp_operation.specs.Loaded.{sources_in}
use Rattle.cp_engine.proofs.RecordingLemmas.{HaveFollowed}
use Rattle.cp_engine.proofs.recording.record_whole.Given as goal

abbrev pub invariant-loop-op : goal.invariant-loop-op
invariant-loop-op g l = HaveFollowed (sources_in g.S.TreeRep.contents l.sources) (g.R.TreeRep.contents l.initial.tree) l.ops l.op-index (g.R.TreeRep.contents l.tree) (seen l.overlay)
