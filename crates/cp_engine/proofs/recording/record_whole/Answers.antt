use Rattle.std.proofs.Common.{sym, ap, ◌∙◌}
use Rattle.std.specs.Prelude.{is_some}
use Rattle.cp_model.proofs.Accepted.{none_is}
use Rattle.cp_overlay.specs.Seen.{seen}
use Rattle.cp_operation.specs.Loaded.{sources_in}
use Rattle.cp_operation.proofs.Replayed.{written-at, replayed-refused}
use Rattle.cp_engine.proofs.RecordingLemmas.{followed-none, followed-more, followed-all}
use Rattle.cp_engine.proofs.recording.record_whole.Goals as goal

pub loop-op-init : goal.loop-op-init
loop-op-init g c = followed-none (sources_in g.S.TreeRep.contents c.args.sources.now) (g.R.TreeRep.contents c.args.tree.now) c.args.ops.now (seen c.new-overlay.result) c.new-overlay.ensures

pub check-requires : goal.check-requires
check-requires g c = record { written = written-at c.args.ops.now c.loop-op.op-index c.op-item.result c.loop-op-test.true c.op-item.is c.requires.written }

pub returns-then-is_some : goal.returns-then-is_some
returns-then-is_some g c = λ a. absurd (replayed-refused (sources_in g.S.TreeRep.contents c.args.sources.now) (g.R.TreeRep.contents c.args.tree.now) c.args.ops.now c.loop-op.op-index (g.R.TreeRep.contents c.loop-op.tree) c.loop-op.invariant.replayed
    c.op-item.result c.loop-op-test.true c.op-item.is (ap is_some (sym c.check.ensures) ∙ sym c.is_some.ensures ∙ c.if-is_some.true) a)

pub change_tree-requires-clause-written : goal.change_tree-requires-clause-written
change_tree-requires-clause-written g c = written-at c.args.ops.now c.loop-op.op-index c.op-item.result c.loop-op-test.true c.op-item.is c.requires.written

pub loop-op-preserved : goal.loop-op-preserved
loop-op-preserved g c =
    let ss = sources_in g.S.TreeRep.contents c.args.sources.now in
    let view = g.R.TreeRep.contents in
    followed-more ss (view c.args.tree.now) c.args.ops.now c.loop-op.op-index (view c.loop-op.tree) (seen c.loop-op.overlay) c.loop-op.invariant (view c.in_ok-start.start) c.in_ok-start.ensures (g.met.R.TreeRep.is_tree c.args.tree.now) c.requires.sources
    c.op-item.result (view c.change_tree.new.tree) (seen c.follow.new.overlay) c.loop-op-test.true c.op-item.is
    (written-at c.args.ops.now c.loop-op.op-index c.op-item.result c.loop-op-test.true c.op-item.is c.requires.written) (sym c.check.ensures ∙ none_is c.check.result (sym c.is_some.ensures ∙ c.if-is_some.false)) c.in_ok-change_tree.ensures.tree
    (c.in_ok-follow.ensures.ok ss)

pub returns : goal.returns
returns g c =
    let ss = sources_in g.S.TreeRep.contents c.args.sources.now in
    let view = g.R.TreeRep.contents in
    followed-all ss (view c.args.tree.now) c.args.ops.now c.loop-op.op-index (view c.loop-op.tree) (seen c.loop-op.overlay) c.loop-op.invariant (view c.in_ok-start.start) c.in_ok-start.ensures (g.met.R.TreeRep.is_tree c.args.tree.now) c.requires.sources
    c.args.kind c.args.first c.in_ok-rows.rows c.loop-op-test.false c.in_ok-rows.ensures
