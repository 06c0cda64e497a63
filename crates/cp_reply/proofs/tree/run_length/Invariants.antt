use Rattle.std.proofs.Common.{◌≡◌, ◌+◌, drop}
use Rattle.cp_reply.specs.Runs.{all_seen, run_length}
use Rattle.cp_reply.proofs.tree.run_length.Given as goal

abbrev pub invariant-loop-index : goal.invariant-loop-index
invariant-loop-index l = run_length l.label (all_seen l.depth l.rows) ≡ l.index + run_length l.label (all_seen l.depth (drop l.index l.rows))
