use Rattle.cp_format.specs.Faults.{FaultAt}
use Rattle.cp_format.proofs.Faults.{passed_on}
use Rattle.cp_frame.specs.EntryReading.{entry_behind}
use Rattle.cp_frame.proofs.EntryForms.{start_kind_fault, start_read, start_tree_fault}
use Rattle.cp_frame.proofs.entry.start_at.Goals as goal

pub returns-in_err-kind-clause-fault : goal.returns-in_err-kind-clause-fault
returns-in_err-kind-clause-fault c =
    passed_on (FaultAt (entry_behind 1) c.args.bytes.now c.args.at) c.from_residual.result c.in_err-kind.field-0.0 c.from_residual.ensures
    (start_kind_fault c.args.bytes.now c.args.at c.in_err-kind.field-0.0 c.in_err-kind.ensures.fault)

pub returns-in_err-tree-clause-fault : goal.returns-in_err-tree-clause-fault
returns-in_err-tree-clause-fault c =
    passed_on (FaultAt (entry_behind 1) c.args.bytes.now c.args.at) c.from_residual-in_err-tree.result c.in_err-tree.field-0.0 c.from_residual-in_err-tree.ensures
    (start_tree_fault c.args.bytes.now c.args.at c.in_ok-kind.kind c.in_ok-kind.at c.in_ok-kind.ensures.read c.in_err-tree.field-0.0 c.in_err-tree.ensures.fault)

pub returns-clause-read : goal.returns-clause-read
returns-clause-read c = start_read c.args.bytes.now c.args.at c.in_ok-kind.kind c.in_ok-kind.at c.in_ok-kind.ensures.read c.in_ok-tree.tree c.in_ok-tree.at c.in_ok-tree.ensures.read
