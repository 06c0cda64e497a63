use Rattle.cp_operation.specs.Loaded.{sources_in}
use Rattle.cp_archive.proofs.HistoryTrees.{HaveStepped}
use Rattle.cp_archive.proofs.archive.Archive.replay_each.Given as goal

-- the first operations are replayed, each with its version
abbrev pub invariant-loop-op : goal.invariant-loop-op
invariant-loop-op g l = HaveStepped (sources_in g.S.TreeRep.contents l.sources) (g.R.TreeRep.contents l.initial.tree) l.ops l.initial.self l.op-index (g.R.TreeRep.contents l.tree) l.self
