use Rattle.std.proofs.Common.{arith, refl}
use Rattle.cp_disk.proofs.Composing.{still}
use Rattle.cp_journal.proofs.Stretch.{opened, opened_describes, opened_past, clean_is}
use Rattle.cp_journal.proofs.Faults.{disk_kinds, disk_accounts}
use Rattle.cp_journal.proofs.journal.Journal.open_on.Goals as goal

pub returns-then-at-size-clause-walked : goal.returns-then-at-size-clause-walked
returns-then-at-size-clause-walked g c = λ known.
    let size = (c.in_ok-size.ensures.sized known).size in
    opened_past c.args.at _ _ (omega (arith, size, c.if-at-size.true)) c.new.ensures.items refl

pub returns-clause-walked : goal.returns-clause-walked
returns-clause-walked g c = λ known.
    let w = c.in_ok-walked.ensures.walked (still c.in_ok-size.ensures.cause.same known) in
    opened c.args.at w.found.0 _ _ _ _ _ (c.in_ok-size.ensures.sized known).rests (c.walk_frames.ensures.rests (still c.in_ok-size.ensures.cause.same known)) w.found.1 w.end w.found.2 c.kept_gate.ensures

pub returns-clause-described : goal.returns-clause-described
returns-clause-described g c = λ known only none.
    let w = c.in_ok-walked.ensures.walked (still c.in_ok-size.ensures.cause.same known) in
    opened_describes c.args.at w.found.0 _ _ _ _ _ (c.in_ok-size.ensures.sized known).rests (c.walk_frames.ensures.rests (still c.in_ok-size.ensures.cause.same known)) w.found.1 w.end w.found.2 (clean_is _ _ _ c.kept_gate.ensures none) only

pub returns-in_err-size-clause-kinds : goal.returns-in_err-size-clause-kinds
returns-in_err-size-clause-kinds g c = disk_kinds c.from_residual.result c.in_err-size.field-0.0 c.from_residual.ensures.1

pub returns-in_err-size-clause-cause : goal.returns-in_err-size-clause-cause
returns-in_err-size-clause-cause g c = disk_accounts c.from_residual.result _ _ _ c.in_err-size.field-0.0 refl refl c.in_err-size.ensures.cause c.from_residual.ensures.1
