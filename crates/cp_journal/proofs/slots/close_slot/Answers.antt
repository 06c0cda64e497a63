use Rattle.std.proofs.Common.{◌∙◌, sym, ap}
use Rattle.cp_disk.proofs.Composing.{still}
use Rattle.cp_journal.proofs.FrameWrites.{of_ok}
use Rattle.cp_journal.proofs.SlotWrites.{close_crash, close_done}
use Rattle.cp_journal.proofs.slots.close_slot.Goals as goal

pub returns-then-is_some-clause-crash : goal.returns-then-is_some-clause-crash
returns-then-is_some-clause-crash g c = λ known.
    let some = sym (c.is_some.ensures ∙ ap (λ o. Rattle.std.specs.Option.is_some o) c.slot_at.ensures) ∙ c.if-is_some.true in
    close_crash c.args.at c.requires.place c.args.header.now _ _ (c.requires.durable known) (c.requires.says known) some (c.put.ensures.crash known)

pub returns-then-is_some-clause-says : goal.returns-then-is_some-clause-says
returns-then-is_some-clause-says g c = λ known.
    of_ok c.put.result (close_done c.args.at c.requires.place c.args.header.now _ (g.D.Disk.known c.put.new.disk).view (c.requires.durable known) (c.requires.says known) (c.put.ensures.crash known) (g.met.D.Disk.leaves_content c.put.new.disk (still c.put.ensures.cause.same known))) (c.put.ensures.content known)
