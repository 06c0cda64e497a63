use Rattle.cp_frame.proofs.Moved.{after_both}
use Rattle.cp_frame.proofs.PutEntries.{batch_put}
use Rattle.cp_frame.proofs.entry.put_batch.Goals as goal

pub returns : goal.returns
returns c =
    after_both c.put_records.result
    (λ e kept. batch_put c.args.ops.now c.args.records.now c.args.out.now.items c.put_ops.new.out.items c.put_records.new.out.items c.in_ok-put_ops.ensures e kept)
    c.put_records.ensures.ok c.put_records.ensures.kept
