use Rattle.std.proofs.Common.{◌+◌, ◌-◌, ap, length}
use Rattle.cp_format.specs.Faults.{FaultAt}
use Rattle.cp_format.specs.Parts.{labels_format}
use Rattle.cp_format.proofs.Counted.{none_yet, all_read}
use Rattle.cp_format.proofs.Faults.{passed_on}
use Rattle.cp_format.proofs.Labels.{HaveRoom, next_label, room_after, labels_counted, label_fault, label_read}
use Rattle.cp_format.proofs.place.labels_at.Goals as goal

pub loop-k-init : goal.loop-k-init
loop-k-init c = none_yet HaveRoom next_label room_after labels_format labels_counted c.args.bytes.now c.args.at c.args.count c.args.room c.root-path.result c.root-path.ensures c.requires.at c.requires.room

pub returns-in_err-label-clause-fault : goal.returns-in_err-label-clause-fault
returns-in_err-label-clause-fault c =
    let e = c.in_err-label.field-0.0 in
    passed_on (FaultAt (labels_format c.args.count c.args.room) c.args.bytes.now c.args.at) c.from_residual.result e c.from_residual.ensures
    (label_fault c.args.bytes.now c.args.at c.args.count c.args.room c.loop-k.k c.loop-k.path c.loop-k.next c.loop-k.left c.loop-k.invariant c.loop-k-test.true e c.in_err-label.ensures.fault)

pub loop-k-preserved : goal.loop-k-preserved
loop-k-preserved c =
    label_read c.args.bytes.now c.args.at c.args.count c.args.room c.loop-k.k c.loop-k.path c.loop-k.next c.loop-k.left c.loop-k.invariant c.loop-k-test.true
    c.in_ok-label.label c.in_ok-label.behind c.in_ok-label.ensures.read c.push.new.path (c.loop-k.left - (length c.as_str.result.now + 1)) c.in_ok-push.ensures (ap (λ a. c.loop-k.left - (length a + 1)) c.as_str.ensures.text)

pub returns-clause-read : goal.returns-clause-read
returns-clause-read c = all_read HaveRoom next_label room_after labels_format labels_counted c.args.bytes.now c.args.at c.args.count c.args.room c.loop-k.k c.loop-k.path c.loop-k.next c.loop-k.left c.loop-k.invariant c.loop-k-test.false
