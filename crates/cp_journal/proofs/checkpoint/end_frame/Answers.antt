use Rattle.std.proofs.Common.{arith}
use Rattle.cp_disk.proofs.Composing.{only_when_known, still}
use Rattle.cp_journal.proofs.FrameWrites.{of_success}
use Rattle.cp_journal.proofs.Pieces.{closed_before, opened_gate, ended}
use Rattle.cp_journal.proofs.Places.{length-spelled}
use Rattle.cp_journal.proofs.checkpoint.end_frame.Goals as goal

pub returns-in_err-close_frame-clause-crash : goal.returns-in_err-close_frame-clause-crash
returns-in_err-close_frame-clause-crash g c = λ known f ok tagged long body. closed_before _ _ f ok (c.requires.rest known) _ (g.D.Disk.known c.close_frame.new.disk).view (c.close_frame.ensures.front known)

pub returns-clause-crash : goal.returns-clause-crash
returns-clause-crash g c = λ known f ok tagged long body.
    let closed_known = still c.in_ok-close_frame.ensures.cause.same known in
    opened_gate _ _ f ok (c.requires.rest known) _ _ (c.close_frame.ensures.front known) (c.in_ok-close_frame.ensures.closed known f tagged long body) (c.in_ok-close_frame.ensures.durable closed_known) (c.put.ensures.crash closed_known)

pub returns-clause-added : goal.returns-clause-added
returns-clause-added g c = λ known f ok tagged long body.
    let closed_known = still c.in_ok-close_frame.ensures.cause.same known in
    of_success c.put.result (ended _ _ f ok (c.requires.rest known) _ _ (c.close_frame.ensures.front known) (c.in_ok-close_frame.ensures.closed known f tagged long body) _ (omega (arith, length-spelled f, long)))
    (c.put.ensures.content closed_known) (only_when_known c.put.result (g.D.Disk.known c.put.new.disk) c.put.ensures.durable (still c.put.ensures.cause.same closed_known))
