use Rattle.cp_format.specs.Faults.{FaultAt}
use Rattle.cp_format.proofs.Faults.{passed_on}
use Rattle.cp_frame.specs.Operations.{ops_format_of}
use Rattle.cp_frame.proofs.WrittenOps.{no_ops_yet, op_in_fault, op_in_read, ops_read}
use Rattle.cp_frame.proofs.entry.ops_at.Goals as goal

pub loop-init : goal.loop-init
loop-init c = no_ops_yet c.args.trees c.args.bytes.now c.args.at c.args.count c.new-items.result.items c.new-items.ensures.items c.requires

pub take_op-requires : goal.take_op-requires
take_op-requires c = c.loop.invariant.so_far.there

pub returns-in_err-op-clause-fault : goal.returns-in_err-op-clause-fault
returns-in_err-op-clause-fault c =
    let e = c.in_err-op.field-0.0 in
    passed_on (FaultAt (ops_format_of c.args.trees c.args.count) c.args.bytes.now c.args.at) c.from_residual.result e c.from_residual.ensures
    (op_in_fault c.args.trees c.args.bytes.now c.args.at c.args.count c.loop.counter c.loop.items.items c.loop.next c.loop.invariant c.loop-test.true e c.in_err-op.ensures.fault)

pub loop-preserved : goal.loop-preserved
loop-preserved c =
    op_in_read c.args.trees c.args.bytes.now c.args.at c.args.count c.loop.counter c.loop.items.items c.loop.next c.loop.invariant c.loop-test.true
    c.in_ok-op.op c.in_ok-op.behind c.in_ok-op.ensures.read c.push.new.self.items c.in_ok-push.ensures.items

pub returns-clause-read : goal.returns-clause-read
returns-clause-read c = ops_read c.args.trees c.args.bytes.now c.args.at c.args.count c.loop.counter c.loop.items.items c.loop.next c.loop.invariant c.loop-test.false
