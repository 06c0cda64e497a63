use Rattle.std.proofs.Common.{sym, subst}
use Rattle.cp_format.specs.Faults.{FaultAt}
use Rattle.cp_format.specs.Formats.{ReadsAt}
use Rattle.cp_format.specs.Parts.{record_format}
use Rattle.cp_format.proofs.Faults.{passed_on}
use Rattle.cp_format.proofs.Standing.{spelling_at}
use Rattle.cp_format.proofs.reading.record_at.Goals as goal

pub returns-in_err-end-clause-fault : goal.returns-in_err-end-clause-fault
returns-in_err-end-clause-fault c =
    passed_on (FaultAt record_format c.args.bytes.now c.args.at) c.from_residual.result c.in_err-end.field-0.0 c.from_residual.ensures c.in_err-end.ensures.fault

pub of-requires : goal.of-requires
of-requires c =
    let s = c.in_ok-end.ensures.read in
    (s.value, s.reads.reads.fit.packable, spelling_at record_format c.args.bytes.now c.args.at c.in_ok-end.end s.value s.reads)

pub returns-clause-read : goal.returns-clause-read
returns-clause-read c =
    let bytes = c.args.bytes.now in
    let s = c.in_ok-end.ensures.read in
    subst (λ r. ReadsAt record_format bytes c.args.at r c.in_ok-end.end)
    (sym (c.of.ensures s.value s.reads.reads.fit.packable (spelling_at record_format bytes c.args.at c.in_ok-end.end s.value s.reads))) s.reads
