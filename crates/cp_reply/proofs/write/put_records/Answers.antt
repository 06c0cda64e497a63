use Rattle.std.proofs.Common.{rules}
use Rattle.cp_reply.specs.Lines.{line_for, record_text}
use Rattle.cp_reply.proofs.Front.{begins_same, begins_then, lines_step}
use Rattle.cp_reply.proofs.write.put_records.Goals as goal

pub loop-entry-init : goal.loop-entry-init
loop-entry-init c = record { put = search rules; front = begins_same c.args.out.now.items }

pub loop-entry-preserved : goal.loop-entry-preserved
loop-entry-preserved c = record {
  put = lines_step (λ x. line_for c.args.whose.now (record_text x)) c.args.out.now.items c.loop-entry.out.items c.put_record.new.out.items c.args.records.now c.loop-entry.entry-index c.entry-item.result
      c.loop-entry-test.true c.entry-item.is c.loop-entry.invariant.put c.in_ok-put_record.ensures.ok;
  front = begins_then c.args.out.now.items c.loop-entry.out.items c.put_record.new.out.items c.loop-entry.invariant.front c.in_ok-put_record.ensures.front;
}

pub returns-in_err-put_record-clause-front : goal.returns-in_err-put_record-clause-front
returns-in_err-put_record-clause-front c = begins_then c.args.out.now.items c.loop-entry.out.items c.put_record.new.out.items c.loop-entry.invariant.front c.in_err-put_record.ensures.front
