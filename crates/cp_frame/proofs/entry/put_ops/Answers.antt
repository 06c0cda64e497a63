use Rattle.std.proofs.Common.{true, sym, ◌∙◌, subst}
use Rattle.std.specs.List.{AllByRecursion}
use Rattle.cp_frame.specs.Sound.{IsSoundOp}
use Rattle.cp_frame.proofs.PutOps.{one_op_put, op_at_writable}
use Rattle.cp_frame.proofs.entry.put_ops.Goals as goal

pub put_op-requires-clause-texts : goal.put_op-requires-clause-texts
put_op-requires-clause-texts c =
    let ops = subst (AllByRecursion (IsSoundOp true)) (sym (c.deref-op-items.ensures.value ∙ c.ops.view_is)) c.requires.sound in
    (op_at_writable c.deref-op-items.result.now c.loop-op.op-index c.op-item.result ops c.loop-op-test.true c.op-item.is).0

pub put_op-requires-clause-few : goal.put_op-requires-clause-few
put_op-requires-clause-few c =
    let ops = subst (AllByRecursion (IsSoundOp true)) (sym (c.deref-op-items.ensures.value ∙ c.ops.view_is)) c.requires.sound in
    (op_at_writable c.deref-op-items.result.now c.loop-op.op-index c.op-item.result ops c.loop-op-test.true c.op-item.is).1

pub loop-op-preserved : goal.loop-op-preserved
loop-op-preserved c =
    one_op_put c.deref-op-items.result.now c.args.out.now.items c.loop-op.op-index c.loop-op.out.items c.put_op.new.out.items c.op-item.result c.loop-op-test.true c.op-item.is c.loop-op.invariant c.in_ok-put_op.ensures.ok
