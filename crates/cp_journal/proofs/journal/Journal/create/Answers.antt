use Rattle.std.proofs.Common.{arith, ap, ◌∙◌, inr, refl}
use Rattle.cp_journal.specs.Frames.{entry}
use Rattle.cp_journal.specs.Journals.{JournalState}
use Rattle.cp_journal.proofs.FrameWrites.{lawful_entry}
use Rattle.cp_journal.proofs.Places.{length-spelled}
use Rattle.cp_journal.proofs.NewStores.{new_file_describes}
use Rattle.cp_journal.proofs.Faults.{disk_kinds, disk_accounts, disk_wants, memory_kinds, memory_accounts}
use Rattle.cp_journal.proofs.journal.Journal.create.Goals as goal

pub returns-in_err-put_store-clause-crash : goal.returns-in_err-put_store-clause-crash
returns-in_err-put_store-clause-crash g c = λ known.
    let ok = lawful_entry c.args.body.now c.requires.short in
    let bytes = c.deref.ensures.value ∙ c.in_ok-bytes.ensures in
    c.put_store.ensures.crash known _ ok bytes

pub returns-clause-crash : goal.returns-clause-crash
returns-clause-crash g c = λ known.
    let ok = lawful_entry c.args.body.now c.requires.short in
    let bytes = c.deref.ensures.value ∙ c.in_ok-bytes.ensures in
    c.put_store.ensures.crash known _ ok bytes

pub returns-clause-durable : goal.returns-clause-durable
returns-clause-durable g c = λ known.
    let ok = lawful_entry c.args.body.now c.requires.short in
    let bytes = c.deref.ensures.value ∙ c.in_ok-bytes.ensures in
    c.in_ok-put_store.ensures.durable known _ ok bytes

pub returns-clause-described : goal.returns-clause-described
returns-clause-described g c = λ known.
    let ok = lawful_entry c.args.body.now c.requires.short in
    let made = returns-clause-durable g c known in
    let is = c.in_ok-journal.ensures in
    new_file_describes (entry c.args.body.now) ok _ made _ (omega (arith, length-spelled (entry c.args.body.now), ap (λ (j : JournalState). j.next) is)) (ap (λ (j : JournalState). j.frames) is)

pub returns-in_err-bytes-clause-kinds : goal.returns-in_err-bytes-clause-kinds
returns-in_err-bytes-clause-kinds g c = memory_kinds c.from_residual.result c.from_residual.ensures.1

pub returns-in_err-bytes-clause-cause : goal.returns-in_err-bytes-clause-cause
returns-in_err-bytes-clause-cause g c = memory_accounts c.from_residual.result _ _ refl refl c.from_residual.ensures.1

pub returns-in_err-journal-clause-kinds : goal.returns-in_err-journal-clause-kinds
returns-in_err-journal-clause-kinds g c = memory_kinds c.from_residual-in_err-journal.result c.from_residual-in_err-journal.ensures.1

pub returns-in_err-journal-clause-cause : goal.returns-in_err-journal-clause-cause
returns-in_err-journal-clause-cause g c = memory_accounts c.from_residual-in_err-journal.result _ _ refl refl c.from_residual-in_err-journal.ensures.1

pub returns-in_err-put_store-clause-kinds : goal.returns-in_err-put_store-clause-kinds
returns-in_err-put_store-clause-kinds g c = disk_kinds c.from_residual-in_err-put_store.result c.in_err-put_store.field-0.0 c.from_residual-in_err-put_store.ensures.1

pub returns-in_err-put_store-clause-cause : goal.returns-in_err-put_store-clause-cause
returns-in_err-put_store-clause-cause g c = disk_accounts c.from_residual-in_err-put_store.result _ _ _ c.in_err-put_store.field-0.0 refl refl c.in_err-put_store.ensures.cause c.from_residual-in_err-put_store.ensures.1

pub returns-in_err-put_store-clause-memory : goal.returns-in_err-put_store-clause-memory
returns-in_err-put_store-clause-memory g c = λ is. inr (disk_wants c.from_residual-in_err-put_store.result _ _ c.in_err-put_store.field-0.0 c.in_err-put_store.ensures.cause c.from_residual-in_err-put_store.ensures.1 is)

pub returns-in_err-put_store-clause-settles : goal.returns-in_err-put_store-clause-settles
returns-in_err-put_store-clause-settles g c = λ known.
    let ok = lawful_entry c.args.body.now c.requires.short in
    let bytes = c.deref.ensures.value ∙ c.in_ok-bytes.ensures in
    c.put_store.ensures.settles known _ ok bytes

pub returns-clause-settles : goal.returns-clause-settles
returns-clause-settles g c = λ known.
    let ok = lawful_entry c.args.body.now c.requires.short in
    let bytes = c.deref.ensures.value ∙ c.in_ok-bytes.ensures in
    c.put_store.ensures.settles known _ ok bytes
