use Rattle.std.proofs.Common.{refl}
use Rattle.std.proofs.lemmas.List.{take_rest}
use Rattle.cp_disk.proofs.Composing.{still}
use Rattle.cp_journal.proofs.FrameWrites.{of_any}
use Rattle.cp_journal.proofs.NewStores.{trim_crash, sync_crash, filled, opening_size}
use Rattle.cp_journal.proofs.Faults.{counted_error, counted_after}
use Rattle.cp_journal.proofs.new_store.fill.Goals as goal

pub returns-in_err-trim-clause-crash : goal.returns-in_err-trim-clause-crash
returns-in_err-trim-clause-crash g c = λ known.
    let o = c.requires.vacant known in
    trim_crash c.args.start _ o.0 o.2 _ _ _ _ _ c.requires.range.0 (c.write_at.ensures.wrote known) (c.trim.ensures.crash (still c.in_ok-write_at.ensures.cause.same known))

pub returns-clause-crash : goal.returns-clause-crash
returns-clause-crash g c = λ known.
    let o = c.requires.vacant known in
    sync_crash c.args.start _ o.0 o.2 _ _ _ _ _ _ c.requires.range.0 (c.write_at.ensures.wrote known) (c.trim.ensures.crash (still c.in_ok-write_at.ensures.cause.same known)) (c.sync.ensures.synced (still c.in_ok-trim.ensures.cause.same (still c.in_ok-write_at.ensures.cause.same known))).rests

pub returns-clause-content : goal.returns-clause-content
returns-clause-content g c = λ known.
    let o = c.requires.vacant known in
    of_any c.sync.result (filled c.args.start _ _ _ c.args.bytes.now _ _ _ (opening_size c.args.start _ o.0) refl c.requires.range.0 (take_rest c.args.bytes.now c.args.start) (c.in_ok-write_at.ensures.wrote known).content (c.in_ok-trim.ensures.content (still c.in_ok-write_at.ensures.cause.same known)) (c.sync.ensures.synced (still c.in_ok-trim.ensures.cause.same (still c.in_ok-write_at.ensures.cause.same known))).rests.content)

pub returns-in_err-write_at-clause-cause : goal.returns-in_err-write_at-clause-cause
returns-in_err-write_at-clause-cause g c = counted_error c.from_residual.result _ _ c.in_err-write_at.field-0.0 c.in_err-write_at.ensures.cause c.from_residual.ensures.1

pub returns-in_err-trim-clause-cause : goal.returns-in_err-trim-clause-cause
returns-in_err-trim-clause-cause g c = counted_after c.from_residual-in_err-trim.result _ _ _ _ c.in_ok-write_at.ensures.cause (counted_error c.from_residual-in_err-trim.result _ _ c.in_err-trim.field-0.0 c.in_err-trim.ensures.cause c.from_residual-in_err-trim.ensures.1)
