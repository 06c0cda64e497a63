use Rattle.cp_disk.proofs.Composing.{still}
use Rattle.cp_journal.proofs.FrameWrites.{of_ok}
use Rattle.cp_journal.proofs.SlotWrites.{open_crash, open_done}
use Rattle.cp_journal.proofs.slots.open_slot.Goals as goal

pub returns-clause-says : goal.returns-clause-says
returns-clause-says g c = λ known h first own says.
    of_ok c.put.result (open_done c.args.at c.requires.place h _ _ (c.requires.durable known) first says c.args.slot.now c.requires.fits.0 c.requires.fits.1 own (c.requires.filled known) (c.put.ensures.crash known) (g.met.D.Disk.leaves_content c.put.new.disk (still c.put.ensures.cause.same known))) (c.put.ensures.content known)

pub returns-clause-crash : goal.returns-clause-crash
returns-clause-crash g c = λ known h first own says.
    open_crash c.args.at c.requires.place h _ _ (c.requires.durable known) first says c.args.slot.now c.requires.fits.0 c.requires.fits.1 own (c.requires.filled known) (c.put.ensures.crash known)
