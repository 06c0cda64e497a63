use Rattle.std.proofs.Common.{arith, refl, Err}
use Rattle.cp_disk.proofs.Composing.{still}
use Rattle.cp_journal.proofs.Upgrading.{upgrade_crash, upgrade_frames, upgrade_slots, upgrade_stands, upgraded_says, upgraded_holds, upgraded_describes}
use Rattle.cp_journal.proofs.Faults.{disk_kinds, disk_accounts, disk_wants}
use Rattle.cp_journal.proofs.journal.Journal.upgrade.Goals as goal

pub returns-in-Ok-clause-crash : goal.returns-in-Ok-clause-crash
returns-in-Ok-clause-crash g c = λ known. upgrade_crash _ _ _ (c.requires.rest known) (omega (arith, c.requires.header known)) (c.put.ensures.crash known)

pub returns-in-Ok-clause-frames : goal.returns-in-Ok-clause-frames
returns-in-Ok-clause-frames g c = λ known. upgrade_frames _ _ (returns-in-Ok-clause-crash g c known)

pub returns-in-Ok-clause-slots : goal.returns-in-Ok-clause-slots
returns-in-Ok-clause-slots g c = λ known h. upgrade_slots _ _ (returns-in-Ok-clause-crash g c known) h _ (c.requires.rest known) (c.requires.header known)

pub returns-in-Ok-clause-version : goal.returns-in-Ok-clause-version
returns-in-Ok-clause-version g c = λ known h says. upgraded_says h _ _ says (c.in-Ok.ensures.content known)

pub returns-in-Ok-clause-described : goal.returns-in-Ok-clause-described
returns-in-Ok-clause-described g c = λ known head fs lt.
    upgraded_describes head fs _ _ lt (c.in-Ok.ensures.content known) (c.in-Ok.ensures.durable (still c.in-Ok.ensures.cause.same known)) _ _ refl refl

pub returns-in-Ok-clause-holds : goal.returns-in-Ok-clause-holds
returns-in-Ok-clause-holds g c = λ known head fs lt. upgraded_holds head fs _ _ lt (c.in-Ok.ensures.content known) (c.in-Ok.ensures.durable (still c.in-Ok.ensures.cause.same known)) _

pub returns-in-Ok-clause-stands : goal.returns-in-Ok-clause-stands
returns-in-Ok-clause-stands g c = λ known head fs lt. upgrade_stands _ _ (returns-in-Ok-clause-crash g c known) head fs _ lt

pub returns-in-Err-clause-crash : goal.returns-in-Err-clause-crash
returns-in-Err-clause-crash g c = λ known. upgrade_crash _ _ _ (c.requires.rest known) (omega (arith, c.requires.header known)) (c.put.ensures.crash known)

pub returns-in-Err-clause-frames : goal.returns-in-Err-clause-frames
returns-in-Err-clause-frames g c = λ known. upgrade_frames _ _ (returns-in-Err-clause-crash g c known)

pub returns-in-Err-clause-slots : goal.returns-in-Err-clause-slots
returns-in-Err-clause-slots g c = λ known h. upgrade_slots _ _ (returns-in-Err-clause-crash g c known) h _ (c.requires.rest known) (c.requires.header known)

pub returns-in-Err-clause-stands : goal.returns-in-Err-clause-stands
returns-in-Err-clause-stands g c = λ known head fs lt. upgrade_stands _ _ (returns-in-Err-clause-crash g c known) head fs _ lt

pub returns-in-Err-clause-cause : goal.returns-in-Err-clause-cause
returns-in-Err-clause-cause g c = disk_accounts {T = Unit {0}} (Err c.into.result) _ _ _ c.in-Err.fault refl refl c.in-Err.ensures.cause c.into.ensures

pub returns-in-Err-clause-kinds : goal.returns-in-Err-clause-kinds
returns-in-Err-clause-kinds g c = disk_kinds {T = Unit {0}} (Err c.into.result) c.in-Err.fault c.into.ensures

pub returns-in-Err-clause-memory : goal.returns-in-Err-clause-memory
returns-in-Err-clause-memory g c = disk_wants {T = Unit {0}} (Err c.into.result) _ _ c.in-Err.fault c.in-Err.ensures.cause c.into.ensures
