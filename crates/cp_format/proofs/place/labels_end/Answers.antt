use Rattle.std.proofs.Common.{◌+◌, ◌-◌, [], ◌∷◌, ◌++◌, refl, length}
use Rattle.cp_format.specs.Faults.{FaultAt}
use Rattle.cp_format.specs.Parts.{labels_format}
use Rattle.cp_format.proofs.Counted.{none_yet, all_read}
use Rattle.cp_format.proofs.Faults.{passed_on}
use Rattle.cp_format.proofs.Labels.{HaveRoom, next_label, room_after, labels_counted, label_fault, label_read}
use Rattle.cp_format.proofs.place.labels_end.Goals as goal

pub loop-k-init : goal.loop-k-init
loop-k-init c = ([], none_yet HaveRoom next_label room_after labels_format labels_counted c.args.bytes.now c.args.at c.args.count c.args.room [] refl c.requires.at c.requires.room)

pub returns-in_err-label-clause-fault : goal.returns-in_err-label-clause-fault
returns-in_err-label-clause-fault c =
    let e = c.in_err-label.field-0.0 in
    passed_on (FaultAt (labels_format c.args.count c.args.room) c.args.bytes.now c.args.at) c.from_residual.result e c.from_residual.ensures
    (label_fault c.args.bytes.now c.args.at c.args.count c.args.room c.loop-k.k c.loop-k.invariant.0 c.loop-k.next c.loop-k.left c.loop-k.invariant.1 c.loop-k-test.true e c.in_err-label.ensures.fault)

pub loop-k-preserved : goal.loop-k-preserved
loop-k-preserved c =
    let p = c.loop-k.invariant.0 in
    let label = c.in_ok-label.label.now in (
      p ++ label ∷ [],
      label_read c.args.bytes.now c.args.at c.args.count c.args.room c.loop-k.k p c.loop-k.next c.loop-k.left c.loop-k.invariant.1 c.loop-k-test.true
          label c.in_ok-label.behind c.in_ok-label.ensures.read (p ++ label ∷ []) (c.loop-k.left - (length label + 1)) refl refl,
    )

pub returns-clause-read : goal.returns-clause-read
returns-clause-read c = record {
  value = c.loop-k.invariant.0;
  reads = all_read HaveRoom next_label room_after labels_format labels_counted c.args.bytes.now c.args.at c.args.count c.args.room c.loop-k.k c.loop-k.invariant.0 c.loop-k.next c.loop-k.left c.loop-k.invariant.1 c.loop-k-test.false;
}
