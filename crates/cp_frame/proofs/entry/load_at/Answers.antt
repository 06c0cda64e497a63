use Rattle.std.proofs.Common.{length, subst}
use Rattle.cp_format.specs.Faults.{FaultAt}
use Rattle.cp_format.proofs.Faults.{passed_on}
use Rattle.cp_frame.specs.EntryReading.{entry_behind}
use Rattle.cp_frame.specs.Rooms.{HasTakenTree, tree_format, whole_room}
use Rattle.cp_frame.proofs.EntryForms.{load_name_fault, load_read, load_tree_fault}
use Rattle.cp_frame.proofs.entry.load_at.Goals as goal

pub returns-in_err-name-clause-fault : goal.returns-in_err-name-clause-fault
returns-in_err-name-clause-fault c =
    passed_on (FaultAt (entry_behind 2) c.args.bytes.now c.args.at) c.from_residual.result c.in_err-name.field-0.0 c.from_residual.ensures
    (load_name_fault c.args.bytes.now c.args.at c.in_err-name.field-0.0 c.in_err-name.ensures.fault)

pub returns-in_err-tree-clause-fault : goal.returns-in_err-tree-clause-fault
returns-in_err-tree-clause-fault c =
    let e = c.in_err-tree.field-0.0 in
    let f = subst (λ n. FaultAt (tree_format (whole_room (length n))) c.args.bytes.now c.in_ok-name.at e) c.as_str.ensures.text c.in_err-tree.ensures.fault in
    passed_on (FaultAt (entry_behind 2) c.args.bytes.now c.args.at) c.from_residual-in_err-tree.result e c.from_residual-in_err-tree.ensures
    (load_tree_fault c.args.bytes.now c.args.at c.in_ok-name.name c.in_ok-name.at c.in_ok-name.ensures.read e f)

pub returns-clause-read : goal.returns-clause-read
returns-clause-read c =
    let t = subst (λ n. HasTakenTree (whole_room (length n)) c.args.bytes.now c.in_ok-name.at c.in_ok-tree.tree c.in_ok-tree.at) c.as_str.ensures.text c.in_ok-tree.ensures.read in
    load_read c.args.bytes.now c.args.at c.in_ok-name.name c.in_ok-name.at c.in_ok-name.ensures.read c.in_ok-tree.tree c.in_ok-tree.at t
