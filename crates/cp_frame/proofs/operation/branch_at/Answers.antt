use Rattle.std.proofs.Common.{◌∙◌, ap, subst}
use Rattle.cp_format.specs.Faults.{FaultAt}
use Rattle.cp_format.specs.Formats.{ReadsAt}
use Rattle.cp_format.specs.Parts.{bounded_format}
use Rattle.cp_format.proofs.Faults.{passed_by, passed_on}
use Rattle.cp_frame.specs.OpReading.{branch_format}
use Rattle.cp_frame.specs.Rooms.{most_children, with_children}
use Rattle.cp_frame.proofs.Moved.{passed_ok}
use Rattle.cp_frame.proofs.Planted.{branch_read, children_fault, node_fault, number_fault}
use Rattle.cp_frame.proofs.operation.branch_at.Goals as goal

pub returns-in_err-at-clause-fault : goal.returns-in_err-at-clause-fault
returns-in_err-at-clause-fault c =
    passed_on (FaultAt branch_format c.args.bytes.now c.args.at) c.from_residual.result c.in_err-at.field-0.0 c.from_residual.ensures
    (node_fault c.args.bytes.now c.args.at c.in_err-at.field-0.0 c.in_err-at.ensures.fault)

pub returns-in_err-count-clause-fault : goal.returns-in_err-count-clause-fault
returns-in_err-count-clause-fault c =
    let e = c.in_err-count.field-0.0 in
    let most = c.most_children.ensures ∙ ap most_children c.whole-room.ensures in
    passed_on (FaultAt branch_format c.args.bytes.now c.args.at) c.from_residual-in_err-count.result e c.from_residual-in_err-count.ensures
    (number_fault c.args.bytes.now c.args.at c.in_ok-at.field-0-0 c.in_ok-at.at c.in_ok-at.ensures.read e
    (subst (λ n. FaultAt (bounded_format 1 n) c.args.bytes.now c.in_ok-at.at e) most c.in_err-count.ensures.fault))

pub returns-clause-read : goal.returns-clause-read
returns-clause-read c =
    let bytes = c.args.bytes.now in
    let most = c.most_children.ensures ∙ ap most_children c.whole-room.ensures in
    let count = subst (λ n. ReadsAt (bounded_format 1 n) bytes c.in_ok-at.at c.in_ok-count.count c.in_ok-count.at) most c.in_ok-count.ensures.read in
    let room = c.announce.ensures ∙ ap (with_children c.in_ok-count.count) c.whole-room.ensures in
    passed_ok c.children_at.result
    (λ x h. branch_read bytes c.args.at c.in_ok-at.field-0-0 c.in_ok-at.at c.in_ok-at.ensures.read c.in_ok-count.count c.in_ok-count.at count c.announce.new.self room x.0 x.1 c.children_at.new.room h)
    c.children_at.ensures.read

pub returns-clause-fault : goal.returns-clause-fault
returns-clause-fault c =
    let bytes = c.args.bytes.now in
    let most = c.most_children.ensures ∙ ap most_children c.whole-room.ensures in
    let count = subst (λ n. ReadsAt (bounded_format 1 n) bytes c.in_ok-at.at c.in_ok-count.count c.in_ok-count.at) most c.in_ok-count.ensures.read in
    let room = c.announce.ensures ∙ ap (with_children c.in_ok-count.count) c.whole-room.ensures in
    passed_by c.children_at.result
    (λ e f. children_fault bytes c.args.at c.in_ok-at.field-0-0 c.in_ok-at.at c.in_ok-at.ensures.read c.in_ok-count.count c.in_ok-count.at count c.announce.new.self room e f)
    c.children_at.ensures.fault
