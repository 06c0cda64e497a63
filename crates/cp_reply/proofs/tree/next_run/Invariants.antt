use Rattle.std.proofs.Common.{◌≡◌, drop}
use Rattle.cp_model.specs.Trees.{groups}
use Rattle.cp_reply.specs.Runs.{all_seen}
use Rattle.cp_reply.proofs.tree.next_run.Given as goal

abbrev pub invariant-loop-index : goal.invariant-loop-index
invariant-loop-index l = groups (all_seen l.depth l.rows) ≡ groups (all_seen l.depth (drop l.index l.rows))
