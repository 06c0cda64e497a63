use Rattle.cp_frame.proofs.RecordLists.{records_put}
use Rattle.cp_frame.proofs.record.put_records.Goals as goal

pub returns-clause-ok : goal.returns-clause-ok
returns-clause-ok c =
    records_put c.args.out.now.items c.put_number.new.out.items c.extend_from_slice.new.self.items c.as_bytes.result.now c.count.result c.args.records.now c.count.ensures c.in_ok-put_number.ensures.ok c.as_bytes.ensures.bytes
    c.in_ok-extend_from_slice.ensures.items
