use Rattle.std.proofs.Common.{◌∙◌, sym, ap, subst}
use Rattle.cp_format.specs.Faults.{FaultAt}
use Rattle.cp_format.specs.Formats.{ReadsAt}
use Rattle.cp_format.proofs.Faults.{passed_on}
use Rattle.cp_frame.specs.EntryReading.{counted_records_format, next_record_format}
use Rattle.cp_frame.proofs.RecordLists.{counted_records_read, last_added, last_record, no_records_yet, record_fault, record_read, records_fault, records_number_fault, records_read}
use Rattle.cp_frame.proofs.record.records_at.Goals as goal

pub returns-in_err-count-clause-fault : goal.returns-in_err-count-clause-fault
returns-in_err-count-clause-fault c =
    passed_on (FaultAt counted_records_format c.args.bytes.now c.args.at) c.from_residual.result c.in_err-count.field-0.0 c.from_residual.ensures
    (records_number_fault c.args.bytes.now c.args.at c.in_err-count.field-0.0 c.in_err-count.ensures.fault)

pub loop-init : goal.loop-init
loop-init c = record {
  so_far = no_records_yet c.args.bytes.now c.in_ok-count.at c.in_ok-count.count c.new-records.result c.new-records.ensures c.in_ok-count.ensures.read.within;
  last = sym (ap last_record c.new-records.ensures);
}

pub next_record_at-requires : goal.next_record_at-requires
next_record_at-requires c = c.loop.invariant.so_far.there

pub returns-in_err-record-clause-fault : goal.returns-in_err-record-clause-fault
returns-in_err-record-clause-fault c =
    let bytes = c.args.bytes.now in
    let e = c.in_err-record.field-0.0 in
    let rs = c.loop.records in
    let elder = c.as_ref.ensures.value ∙ c.loop.invariant.last in
    let f = subst (λ q. FaultAt (next_record_format q) bytes c.loop.next e) elder c.in_err-record.ensures.fault in
    passed_on (FaultAt counted_records_format bytes c.args.at) c.from_residual-in_err-record.result e c.from_residual-in_err-record.ensures
    (records_fault bytes c.args.at c.in_ok-count.count c.in_ok-count.at c.in_ok-count.ensures.read e
    (record_fault bytes c.in_ok-count.at c.in_ok-count.count c.loop.counter rs c.loop.next c.loop.invariant.so_far c.loop-test.true e f))

pub loop-preserved : goal.loop-preserved
loop-preserved c =
    let bytes = c.args.bytes.now in
    let rs = c.loop.records in
    let elder = c.as_ref.ensures.value ∙ c.loop.invariant.last in
    let r = subst (λ q. ReadsAt (next_record_format q) bytes c.loop.next c.in_ok-record.record c.in_ok-record.behind) elder c.in_ok-record.ensures.read in
    record {
      so_far = record_read bytes c.in_ok-count.at c.in_ok-count.count c.loop.counter rs c.loop.next c.loop.invariant.so_far c.loop-test.true
          c.in_ok-record.record c.in_ok-record.behind r c.push_packed.new.self c.in_ok-push_packed.ensures.ok;
      last = sym (ap last_record c.in_ok-push_packed.ensures.ok ∙ last_added rs c.in_ok-record.record);
    }

pub returns-clause-read : goal.returns-clause-read
returns-clause-read c =
    let bytes = c.args.bytes.now in
    counted_records_read bytes c.args.at c.in_ok-count.count c.in_ok-count.at c.in_ok-count.ensures.read c.loop.records c.loop.next
    (records_read bytes c.in_ok-count.at c.in_ok-count.count c.loop.counter c.loop.records c.loop.next c.loop.invariant.so_far c.loop-test.false)
