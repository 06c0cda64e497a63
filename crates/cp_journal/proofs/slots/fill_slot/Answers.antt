use Rattle.std.proofs.Common.{◌+◌, ap, ℕ, length, subst}
use Rattle.cp_disk.specs.Views.{ViewSteps}
use Rattle.cp_disk.specs.Writes.{Torn}
use Rattle.cp_disk.proofs.Composing.{still}
use Rattle.cp_journal.proofs.FrameWrites.{of_any, of_ok}
use Rattle.cp_journal.proofs.SlotWrites.{fill_crash, filled_is}
use Rattle.cp_journal.proofs.slots.fill_slot.Goals as goal

pub returns-clause-filled : goal.returns-clause-filled
returns-clause-filled g c = λ known. let says = (c.requires.says known) in of_ok c.put.result (filled_is c.args.at c.requires.place says.0 c.args.slot.now _ _ _ says.1 c.rest_of.ensures) (c.put.ensures.content known)

pub returns-clause-crash : goal.returns-clause-crash
returns-clause-crash g c = λ known h first says.
    fill_crash c.args.at c.requires.place h _ (g.D.Disk.known c.put.new.disk).view (c.requires.durable known) first says (subst (λ (n : ℕ). ViewSteps (Torn (c.args.at + 1) n) (g.D.Disk.known c.args.disk.now).view (g.D.Disk.known c.put.new.disk).view) (ap length c.rest_of.ensures) (c.put.ensures.crash known))

pub returns-clause-says : goal.returns-clause-says
returns-clause-says g c = λ known h first says. of_any c.put.result ((returns-clause-crash g c known h first says).now _ (g.met.D.Disk.leaves_content c.put.new.disk (still c.put.ensures.cause.same known)))
