use Rattle.std.proofs.Common.{◌∙◌, inr, refl}
use Rattle.cp_journal.proofs.FrameWrites.{before_writes}
use Rattle.cp_journal.proofs.Faults.{disk_kinds, disk_accounts, disk_wants, memory_kinds, memory_accounts}
use Rattle.cp_journal.proofs.journal.Journal.write_frame.Goals as goal

pub returns-in_err-bytes-clause-crash : goal.returns-in_err-bytes-clause-crash
returns-in_err-bytes-clause-crash g c = λ known. before_writes _ _ _ (c.requires.rest known)

pub returns-in_err-put_frame-clause-crash : goal.returns-in_err-put_frame-clause-crash
returns-in_err-put_frame-clause-crash g c =
    let is = c.deref.ensures.value ∙ c.in_ok-bytes.ensures.bytes in
    rw (← c.self.view_is) (λ known. c.put_frame.ensures.crash known _ c.requires.lawful is)

pub returns-clause-crash : goal.returns-clause-crash
returns-clause-crash g c =
    let is = c.deref.ensures.value ∙ c.in_ok-bytes.ensures.bytes in
    rw (← c.self.view_is) (λ known. c.put_frame.ensures.crash known _ c.requires.lawful is)

pub returns-clause-added : goal.returns-clause-added
returns-clause-added g c =
    let is = c.deref.ensures.value ∙ c.in_ok-bytes.ensures.bytes in
    rw (← c.self.view_is) (λ known. c.in_ok-put_frame.ensures.added known _ c.requires.lawful is)

pub returns-in_err-bytes-clause-kinds : goal.returns-in_err-bytes-clause-kinds
returns-in_err-bytes-clause-kinds g c = memory_kinds c.from_residual.result c.from_residual.ensures.1

pub returns-in_err-bytes-clause-cause : goal.returns-in_err-bytes-clause-cause
returns-in_err-bytes-clause-cause g c = memory_accounts c.from_residual.result _ _ refl refl c.from_residual.ensures.1

pub returns-in_err-put_frame-clause-kinds : goal.returns-in_err-put_frame-clause-kinds
returns-in_err-put_frame-clause-kinds g c = disk_kinds c.from_residual-in_err-put_frame.result c.in_err-put_frame.field-0.0 c.from_residual-in_err-put_frame.ensures.1

pub returns-in_err-put_frame-clause-cause : goal.returns-in_err-put_frame-clause-cause
returns-in_err-put_frame-clause-cause g c = disk_accounts c.from_residual-in_err-put_frame.result _ _ _ c.in_err-put_frame.field-0.0 refl refl c.in_err-put_frame.ensures.cause c.from_residual-in_err-put_frame.ensures.1

pub returns-in_err-put_frame-clause-memory : goal.returns-in_err-put_frame-clause-memory
returns-in_err-put_frame-clause-memory g c = λ is. inr (disk_wants c.from_residual-in_err-put_frame.result _ _ c.in_err-put_frame.field-0.0 c.in_err-put_frame.ensures.cause c.from_residual-in_err-put_frame.ensures.1 is)
