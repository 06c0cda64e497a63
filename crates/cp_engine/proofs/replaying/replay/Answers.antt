use Rattle.std.proofs.Common.{sym, ap, ◌∙◌}
use Rattle.std.specs.Prelude.{is_some}
use Rattle.cp_model.proofs.Accepted.{none_is}
use Rattle.cp_operation.specs.Loaded.{sources_in}
use Rattle.cp_operation.proofs.Replayed.{written-at, replayed-none, replayed-more, replayed-refused, replayed-until, replayed-all}
use Rattle.cp_engine.proofs.replaying.replay.Goals as goal

pub loop-op-init : goal.loop-op-init
loop-op-init g c = replayed-none (sources_in g.S.TreeRep.contents c.args.sources.now) (g.R.TreeRep.contents c.args.tree.now) c.args.ops.now

pub check-requires : goal.check-requires
check-requires g c = record { written = written-at c.args.ops.now c.loop-op.op-index c.op-item.result c.loop-op-test.true c.op-item.is c.requires.written }

pub returns-then-is_some-clause-accepted : goal.returns-then-is_some-clause-accepted
returns-then-is_some-clause-accepted g c = (
  λ f. absurd (cc),
  λ a. absurd (replayed-refused (sources_in g.S.TreeRep.contents c.args.sources.now) (g.R.TreeRep.contents c.args.tree.now) c.args.ops.now c.loop-op.op-index (g.R.TreeRep.contents c.loop-op.tree) c.loop-op.invariant
      c.op-item.result c.loop-op-test.true c.op-item.is (ap is_some (sym c.check.ensures) ∙ sym c.is_some.ensures ∙ c.if-is_some.true) a),
)

pub change_tree-requires-clause-written : goal.change_tree-requires-clause-written
change_tree-requires-clause-written g c = written-at c.args.ops.now c.loop-op.op-index c.op-item.result c.loop-op-test.true c.op-item.is c.requires.written

pub loop-op-preserved : goal.loop-op-preserved
loop-op-preserved g c = replayed-more (sources_in g.S.TreeRep.contents c.args.sources.now) (g.R.TreeRep.contents c.args.tree.now) c.args.ops.now c.loop-op.op-index (g.R.TreeRep.contents c.loop-op.tree) c.loop-op.invariant
    c.op-item.result (g.R.TreeRep.contents c.change_tree.new.tree) c.loop-op-test.true c.op-item.is (sym c.check.ensures ∙ none_is c.check.result (sym c.is_some.ensures ∙ c.if-is_some.false)) c.in_ok-change_tree.ensures.tree

pub returns-then-is_some-clause-stops : goal.returns-then-is_some-clause-stops
returns-then-is_some-clause-stops g c =
    replayed-until (sources_in g.S.TreeRep.contents c.args.sources.now) (g.R.TreeRep.contents c.args.tree.now) c.args.ops.now c.loop-op.op-index (g.R.TreeRep.contents c.loop-op.tree) c.loop-op.invariant
    c.op-item.result c.loop-op-test.true c.op-item.is (ap is_some (sym c.check.ensures) ∙ sym c.is_some.ensures ∙ c.if-is_some.true)

pub returns-clause-stops : goal.returns-clause-stops
returns-clause-stops g c =
    replayed-all (sources_in g.S.TreeRep.contents c.args.sources.now) (g.R.TreeRep.contents c.args.tree.now) c.args.ops.now c.loop-op.op-index (g.R.TreeRep.contents c.loop-op.tree) c.loop-op.invariant c.loop-op-test.false
