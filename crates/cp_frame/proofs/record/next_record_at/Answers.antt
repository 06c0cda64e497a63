use Rattle.std.proofs.Common.{◌+◌, ◌-◌, sym, subst, ap, refl, take, drop, None, Some, IfErr, IfOk}
use Rattle.std.specs.Option.{option_map}
use Rattle.cp_format.specs.Faults.{FaultAt}
use Rattle.cp_format.specs.Formats.{FailsAt, ReadsAt}
use Rattle.cp_format.specs.Judging.{IsRefused, MayPass}
use Rattle.cp_format.specs.Parts.{record_format}
use Rattle.cp_model.specs.Changes.{goes_before}
use Rattle.cp_frame.specs.Entries.{record_decided_at}
use Rattle.cp_frame.specs.EntryReading.{next_record_format}
use Rattle.cp_frame.specs.OrderReading.{end_of}
use Rattle.cp_frame.proofs.RecordLists.{early_record, later_record, later_record_fault, may_be_first}
use Rattle.cp_frame.proofs.record.next_record_at.Goals as goal

pub returns-in_default-clause-fault : goal.returns-in_default-clause-fault
returns-in_default-clause-fault c =
    let bytes = c.args.bytes.now in
    subst (λ o. IfErr c.record_at-read.result (FaultAt (next_record_format o) bytes c.args.at)) (sym (ap (option_map (λ r. r.now)) c.in_default.is))
    (later_record_fault None bytes c.args.at c.requires c.record_at-read.result c.record_at-read.ensures.read c.record_at-read.ensures.fault
    (may_be_first (take (end_of c.record_at-read.result c.args.at - c.args.at) (drop c.args.at bytes))))

pub returns-in-Some-record_early-clause-fault : goal.returns-in-Some-record_early-clause-fault
returns-in-Some-record_early-clause-fault c =
    let bytes = c.args.bytes.now in
    let elder = c.in-Some.elder.now in
    let early = c.in-Some-record_early.early in
    let refused = subst (λ n. IsRefused record_format (goes_before elder) (record_decided_at elder) (take (n - c.args.at) (drop c.args.at bytes)) early) c.read_to.ensures c.in-Some-record_early.ensures.early in
    subst (λ o. FailsAt (next_record_format o) bytes c.args.at (c.args.at + early)) (sym (ap (option_map (λ r. r.now)) c.in-Some.is))
    (early_record (Some elder) bytes c.args.at c.requires c.record_at-read.result c.record_at-read.ensures.read c.record_at-read.ensures.fault early refused)

pub returns-in-None-clause-read : goal.returns-in-None-clause-read
returns-in-None-clause-read c =
    let bytes = c.args.bytes.now in
    let elder = c.in-Some.elder.now in
    let may = subst (λ n. MayPass record_format (goes_before elder) (record_decided_at elder) (take (n - c.args.at) (drop c.args.at bytes))) c.read_to.ensures (c.in-None.ensures.follows refl) in
    subst (λ o. IfOk c.record_at-read.result (λ x. ReadsAt (next_record_format o) bytes c.args.at x.0 x.1)) (sym (ap (option_map (λ r. r.now)) c.in-Some.is))
    (later_record (Some elder) bytes c.args.at c.requires c.record_at-read.result c.record_at-read.ensures.read c.record_at-read.ensures.fault may)

pub returns-in-None-clause-fault : goal.returns-in-None-clause-fault
returns-in-None-clause-fault c =
    let bytes = c.args.bytes.now in
    let elder = c.in-Some.elder.now in
    let may = subst (λ n. MayPass record_format (goes_before elder) (record_decided_at elder) (take (n - c.args.at) (drop c.args.at bytes))) c.read_to.ensures (c.in-None.ensures.follows refl) in
    subst (λ o. IfErr c.record_at-read.result (FaultAt (next_record_format o) bytes c.args.at)) (sym (ap (option_map (λ r. r.now)) c.in-Some.is))
    (later_record_fault (Some elder) bytes c.args.at c.requires c.record_at-read.result c.record_at-read.ensures.read c.record_at-read.ensures.fault may)
