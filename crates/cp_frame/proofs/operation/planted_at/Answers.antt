use Rattle.std.proofs.Common.{sym}
use Rattle.cp_format.specs.Faults.{FaultAt}
use Rattle.cp_format.proofs.Faults.{passed_on}
use Rattle.cp_model.specs.declared.literal.Literal.TheVariants as literal
use Rattle.cp_model.specs.declared.op.Op.TheVariants.{Ins}
use Rattle.cp_frame.specs.OpReading.{planted_format}
use Rattle.cp_frame.proofs.Planted.{into_fault, label_fault, planted_read, tree_fault}
use Rattle.cp_frame.proofs.operation.planted_at.Goals as goal

pub returns-in_err-into-clause-fault : goal.returns-in_err-into-clause-fault
returns-in_err-into-clause-fault c =
    passed_on (FaultAt planted_format c.args.bytes.now c.args.at) c.from_residual.result c.in_err-into.field-0.0 c.from_residual.ensures
    (into_fault c.args.bytes.now c.args.at c.in_err-into.field-0.0 c.in_err-into.ensures.fault)

pub returns-in_err-label-clause-fault : goal.returns-in_err-label-clause-fault
returns-in_err-label-clause-fault c =
    passed_on (FaultAt planted_format c.args.bytes.now c.args.at) c.from_residual-in_err-label.result c.in_err-label.field-0.0 c.from_residual-in_err-label.ensures
    (label_fault c.args.bytes.now c.args.at c.in_ok-into.into c.in_ok-into.at c.in_ok-into.ensures.read c.in_err-label.field-0.0 c.in_err-label.ensures.fault)

pub returns-in_err-list-clause-fault : goal.returns-in_err-list-clause-fault
returns-in_err-list-clause-fault c =
    passed_on (FaultAt planted_format c.args.bytes.now c.args.at) c.from_residual-in_err-list.result c.in_err-list.field-0.0 c.from_residual-in_err-list.ensures
    (tree_fault c.args.bytes.now c.args.at c.in_ok-into.into c.in_ok-into.at c.in_ok-into.ensures.read c.in_ok-label.label c.in_ok-label.at c.in_ok-label.ensures.read c.in_err-list.field-0.0 c.in_err-list.ensures.fault)

pub returns-clause-read : goal.returns-clause-read
returns-clause-read c =
    let b = c.in_ok-list.ensures.read in
    record {
      into = c.in_ok-into.into;
      label = c.in_ok-label.label;
      children = b.children;
      reads = planted_read c.args.bytes.now c.args.at c.in_ok-into.into c.in_ok-into.at c.in_ok-into.ensures.read c.in_ok-label.label c.in_ok-label.at c.in_ok-label.ensures.read b.children c.in_ok-list.at b.reads;
      is = λ i. Ins c.in_ok-into.into c.in_ok-label.label (literal.Node (sym b.rows i));
    }
