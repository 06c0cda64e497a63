use Rattle.std.proofs.Common.{refl, ◌∙◌}
use Rattle.cp_disk.proofs.Composing.{still}
use Rattle.cp_journal.proofs.FrameWrites.{of_any}
use Rattle.cp_journal.proofs.Pieces.{frame_closed}
use Rattle.cp_journal.proofs.checkpoint.close_frame.Goals as goal

pub returns-clause-closed : goal.returns-clause-closed
returns-clause-closed g c = λ known f tagged long body.
    let gate_known = still c.in_ok-put_after.ensures.cause.same known in
    let head_known = still c.in_ok-put_after-2.ensures.cause.same gate_known in
    of_any c.sync.result (frame_closed (g.D.Disk.known c.args.disk.now).view.content (g.D.Disk.known c.put_after.new.disk).view.content (g.D.Disk.known c.sync.new.self).view.content c.args.at c.args.tag c.args.len _ f _ tagged long body (c.requires.within known)
    c.head_bytes.ensures refl (c.in_ok-put_after.ensures.content known) ((c.sync.ensures.synced head_known).rests.content ∙ c.in_ok-put_after-2.ensures.content gate_known))
