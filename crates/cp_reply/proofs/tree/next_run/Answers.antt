use Rattle.std.proofs.Common.{sym}
use Rattle.cp_reply.proofs.Runs.{next_is, groups_pass}
use Rattle.cp_reply.proofs.tree.next_run.Goals as goal

pub returns-in-Some-clause-some : goal.returns-in-Some-clause-some
returns-in-Some-clause-some c =
    next_is c.args.depth c.args.rows.now c.loop-index.index c.index-rows-index.result c.in-Some.label.now c.split_at.result.1.now c.split_at-in-Some.result.0.now c.split_at-in-Some.result.1.now
    c.run_length.result c.loop-index-test.true c.index-rows-index.is (sym c.in-Some.ensures.value) c.in-Some.ensures.deep c.loop-index.invariant c.split_at.ensures.back
    c.run_length.ensures.length c.split_at-in-Some.ensures.front c.split_at-in-Some.ensures.back

pub loop-index-preserved : goal.loop-index-preserved
loop-index-preserved c =
    groups_pass c.args.depth c.args.rows.now c.loop-index.index c.index-rows-index.result c.loop-index-test.true c.index-rows-index.is (sym c.in_default.ensures.value) c.loop-index.invariant
