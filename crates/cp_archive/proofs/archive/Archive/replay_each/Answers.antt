use Rattle.std.proofs.Common.{◌≡◌, true, false, refl, sym, subst, ◌∙◌}
use Rattle.cp_model.specs.History.{AreWritten}
use Rattle.cp_operation.specs.Loaded.{sources_in}
use Rattle.cp_operation.proofs.Replayed.{written-at}
use Rattle.cp_archive.proofs.HistoryTrees.{stepped-none, stepped-few, stepped-refused, stepped-more, stepped-accepted, stepped-until, stepped-added}
use Rattle.cp_archive.proofs.archive.Archive.replay_each.Goals as goal

pub loop-op-init : goal.loop-op-init
loop-op-init g c = stepped-none (sources_in g.S.TreeRep.contents c.args.sources.now) (g.R.TreeRep.contents c.args.tree.now) c.args.ops.now c.args.self.now c.requires.newest

pub replay_step-requires-clause-few : goal.replay_step-requires-clause-few
replay_step-requires-clause-few g c = stepped-few (sources_in g.S.TreeRep.contents c.args.sources.now) (g.R.TreeRep.contents c.args.tree.now) c.args.ops.now c.args.self.now c.loop-op.op-index (g.R.TreeRep.contents c.loop-op.tree) c.loop-op.self c.loop-op.invariant c.requires.few

pub replay_step-requires-clause-newest : goal.replay_step-requires-clause-newest
replay_step-requires-clause-newest g c = c.loop-op.invariant.newest

pub replay_step-requires-clause-written : goal.replay_step-requires-clause-written
replay_step-requires-clause-written g c =
    subst AreWritten (sym c.from_ref.ensures.value) (written-at c.args.ops.now c.loop-op.op-index c.op-item.result c.loop-op-test.true c.op-item.is c.requires.written, tt)

pub returns-then-not-branch-clause-accepted : goal.returns-then-not-branch-clause-accepted
returns-then-not-branch-clause-accepted g c = (
  λ f. absurd (cc f),
  λ a. absurd (stepped-refused (sources_in g.S.TreeRep.contents c.args.sources.now) (g.R.TreeRep.contents c.args.tree.now) c.args.ops.now c.args.self.now c.loop-op.op-index (g.R.TreeRep.contents c.loop-op.tree) c.loop-op.self c.loop-op.invariant c.op-item.result c.loop-op-test.true c.op-item.is c.from_ref.result.now c.from_ref.ensures.value
      (λ one. let yes = c.in_ok-replay_step.ensures.accepted.1 one in let no = c.if-not-branch.true in cc (yes, no)) a),
)

pub loop-op-preserved : goal.loop-op-preserved
loop-op-preserved g c =
    stepped-more (sources_in g.S.TreeRep.contents c.args.sources.now) (g.R.TreeRep.contents c.args.tree.now) c.args.ops.now c.args.self.now c.loop-op.op-index (g.R.TreeRep.contents c.loop-op.tree) c.loop-op.self c.loop-op.invariant c.op-item.result c.loop-op-test.true c.op-item.is c.from_ref.result.now c.from_ref.ensures.value
    (g.R.TreeRep.contents c.replay_step.new.tree) c.replay_step.new.self (c.in_ok-replay_step.ensures.accepted.0 c.if-not-branch.false) c.in_ok-replay_step.ensures.tree
    (c.in_ok-replay_step.ensures.added c.if-not-branch.false)

pub returns-clause-accepted : goal.returns-clause-accepted
returns-clause-accepted g c = (λ _. stepped-accepted (sources_in g.S.TreeRep.contents c.args.sources.now) (g.R.TreeRep.contents c.args.tree.now) c.args.ops.now c.args.self.now c.loop-op.op-index (g.R.TreeRep.contents c.loop-op.tree) c.loop-op.self c.loop-op.invariant c.loop-op-test.false, λ _. refl)

pub returns-clause-tree : goal.returns-clause-tree
returns-clause-tree g c = λ _. stepped-until (sources_in g.S.TreeRep.contents c.args.sources.now) (g.R.TreeRep.contents c.args.tree.now) c.args.ops.now c.args.self.now c.loop-op.op-index (g.R.TreeRep.contents c.loop-op.tree) c.loop-op.self c.loop-op.invariant c.loop-op-test.false

pub returns-clause-added : goal.returns-clause-added
returns-clause-added g c = λ _. stepped-added (sources_in g.S.TreeRep.contents c.args.sources.now) (g.R.TreeRep.contents c.args.tree.now) c.args.ops.now c.args.self.now c.loop-op.op-index (g.R.TreeRep.contents c.loop-op.tree) c.loop-op.self c.loop-op.invariant c.loop-op-test.false

pub returns-clause-newest : goal.returns-clause-newest
returns-clause-newest g c = λ _. c.loop-op.invariant.newest
