use Rattle.cp_format.specs.Faults.{FaultAt}
use Rattle.cp_format.proofs.Faults.{passed_on}
use Rattle.cp_frame.specs.EntryReading.{stamp_format}
use Rattle.cp_frame.proofs.EntryForms.{curator_fault, moment_fault, stamp_read}
use Rattle.cp_frame.proofs.entry.stamp_at.Goals as goal

pub returns-in_err-curator-clause-fault : goal.returns-in_err-curator-clause-fault
returns-in_err-curator-clause-fault c =
    passed_on (FaultAt stamp_format c.args.bytes.now c.args.at) c.from_residual.result c.in_err-curator.field-0.0 c.from_residual.ensures
    (curator_fault c.args.bytes.now c.args.at c.in_err-curator.field-0.0 c.in_err-curator.ensures.fault)

pub returns-in_err-moment-clause-fault : goal.returns-in_err-moment-clause-fault
returns-in_err-moment-clause-fault c =
    passed_on (FaultAt stamp_format c.args.bytes.now c.args.at) c.from_residual-in_err-moment.result c.in_err-moment.field-0.0 c.from_residual-in_err-moment.ensures
    (moment_fault c.args.bytes.now c.args.at c.in_ok-curator.curator c.in_ok-curator.at c.in_ok-curator.ensures.read c.in_err-moment.field-0.0 c.in_err-moment.ensures.fault)

pub returns-clause-read : goal.returns-clause-read
returns-clause-read c = stamp_read c.args.bytes.now c.args.at c.in_ok-curator.curator c.in_ok-curator.at c.in_ok-curator.ensures.read c.in_ok-moment.moment c.in_ok-moment.at c.in_ok-moment.ensures.read
