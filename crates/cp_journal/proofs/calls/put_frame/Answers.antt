use Rattle.std.proofs.Common.{arith}
use Rattle.cp_disk.proofs.Composing.{only_when_known, still}
use Rattle.cp_journal.proofs.Places.{length-spelled}
use Rattle.cp_journal.proofs.FrameWrites.{of_success, after_first, after_second, at_ok}
use Rattle.cp_journal.proofs.calls.put_frame.Goals as goal

pub returns-in_err-put-clause-crash : goal.returns-in_err-put-clause-crash
returns-in_err-put-clause-crash g c = λ known f ok is. after_first _ _ f ok (c.requires.rest known) _ _ (c.put.ensures.crash known)

pub returns-clause-crash : goal.returns-clause-crash
returns-clause-crash g c = λ known f ok is.
    after_second _ _ f ok (c.requires.rest known) _ _ _ is _ (c.put.ensures.crash known) (c.in_ok-put.ensures.content known) (c.in_ok-put.ensures.durable (still c.in_ok-put.ensures.cause.same known)) (c.put-2.ensures.crash (still c.in_ok-put.ensures.cause.same known))

pub returns-clause-added : goal.returns-clause-added
returns-clause-added g c = λ known f ok is.
    of_success c.put-2.result (at_ok _ _ f ok (c.requires.rest known) _ _ _ is _ (c.put.ensures.crash known) (c.in_ok-put.ensures.content known) (c.in_ok-put.ensures.durable (still c.in_ok-put.ensures.cause.same known)) _ (omega (arith, length-spelled f)))
    (c.put-2.ensures.content (still c.in_ok-put.ensures.cause.same known)) (only_when_known c.put-2.result (g.D.Disk.known c.put-2.new.disk) c.put-2.ensures.durable (still c.put-2.ensures.cause.same (still c.in_ok-put.ensures.cause.same known)))
