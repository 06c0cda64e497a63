use Rattle.std.proofs.Common.{sym, ap, ◌∙◌, arith}
use Rattle.std.specs.Prelude.{is_some}
use Rattle.cp_model.proofs.Accepted.{none_is}
use Rattle.cp_operation.specs.Loaded.{sources_in}
use Rattle.cp_operation.proofs.LoadedLemmas.{trees-loaded}
use Rattle.cp_operation.proofs.Replayed.{written-at, replayed-refused}
use Rattle.cp_engine.proofs.RecordingLemmas.{recorded-none, recorded-more, recorded-all}
use Rattle.cp_engine.proofs.recording.record_each.Goals as goal

pub loop-op-init : goal.loop-op-init
loop-op-init g c = recorded-none c.args.kind (sources_in g.S.TreeRep.contents c.args.sources.now) (g.R.TreeRep.contents c.args.tree.now) c.args.first c.args.ops.now c.new-rows.result c.new-rows.ensures

pub check-requires : goal.check-requires
check-requires g c = record { written = written-at c.args.ops.now c.loop-op.op-index c.op-item.result c.loop-op-test.true c.op-item.is c.requires.written }

pub returns-then-is_some : goal.returns-then-is_some
returns-then-is_some g c = λ a. absurd (replayed-refused (sources_in g.S.TreeRep.contents c.args.sources.now) (g.R.TreeRep.contents c.args.tree.now) c.args.ops.now c.loop-op.op-index (g.R.TreeRep.contents c.loop-op.tree) c.loop-op.invariant.replayed
    c.op-item.result c.loop-op-test.true c.op-item.is (ap is_some (sym c.check.ensures) ∙ sym c.is_some.ensures ∙ c.if-is_some.true) a)

pub record_alone-requires-clause-written : goal.record_alone-requires-clause-written
record_alone-requires-clause-written g c = written-at c.args.ops.now c.loop-op.op-index c.op-item.result c.loop-op-test.true c.op-item.is c.requires.written

pub overflow_add-tid : goal.overflow_add-tid
overflow_add-tid g c = omega (arith, c.loop-op.invariant.number, c.requires.first, c.requires.few, c.loop-op-test.true)

pub loop-op-preserved : goal.loop-op-preserved
loop-op-preserved g c = recorded-more c.args.kind (sources_in g.S.TreeRep.contents c.args.sources.now) (g.R.TreeRep.contents c.args.tree.now) c.args.first c.args.ops.now c.loop-op.op-index (g.R.TreeRep.contents c.loop-op.tree) c.loop-op.tid c.loop-op.rows c.loop-op.invariant
    (trees-loaded g.S.TreeRep.contents g.met.S.TreeRep.is_tree c.args.sources.now) (g.met.R.TreeRep.is_tree c.loop-op.tree) c.op-item.result (g.R.TreeRep.contents c.record_alone.new.tree) c.record_alone.new.rows c.loop-op-test.true c.op-item.is
    (written-at c.args.ops.now c.loop-op.op-index c.op-item.result c.loop-op-test.true c.op-item.is c.requires.written) (sym c.check.ensures ∙ none_is c.check.result (sym c.is_some.ensures ∙ c.if-is_some.false)) c.in_ok-record_alone.ensures.tree c.in_ok-record_alone.ensures.rows

pub returns : goal.returns
returns g c = recorded-all c.args.kind (sources_in g.S.TreeRep.contents c.args.sources.now) (g.R.TreeRep.contents c.args.tree.now) c.args.first c.args.ops.now c.loop-op.op-index (g.R.TreeRep.contents c.loop-op.tree) c.loop-op.tid c.loop-op.rows c.loop-op.invariant
    c.loop-op-test.false
