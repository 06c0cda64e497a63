use Rattle.std.proofs.Common.{◌∙◌}
use Rattle.cp_uses.proofs.CopySteps.{copies-same, copies-more, on_ok-then}
use Rattle.cp_uses.proofs.index.note_copy.Goals as goal

pub returns-in_default : goal.returns-in_default
returns-in_default c = λ rs n h. copies-same rs c.args.row.now c.args.copies.now c.in_default.ensures h

pub returns : goal.returns
returns c =
    on_ok-then c.note.result
    (λ noted rs n h. copies-more rs c.args.row.now c.in-Some.source.now c.args.copies.now c.note.new.index c.as_slice.result.now c.args.number c.in-Some.ensures (c.as_slice.ensures.value ∙ c.in_ok-write_key.ensures) n noted h)
    c.note.ensures.ok
