use Rattle.std.proofs.Common.{sym, ap, ◌∙◌, Err}
use Rattle.cp_gen.proofs.Answered.{answers-at}
use Rattle.cp_gen.proofs.summary.answer_in.Goals as goal

pub returns-in-Ok-clause-answer : goal.returns-in-Ok-clause-answer
returns-in-Ok-clause-answer g c = λ t z. sym (answers-at g.R.TreeRep.contents g.S.TreeRep.contents c.args.db.now t c.args.query.now _ c.in-Ok.ensures.answer z).answer

pub returns-in-Ok-clause-same : goal.returns-in-Ok-clause-same
returns-in-Ok-clause-same g c = record { same = c.query.ensures.same; file = c.query.ensures.file }

pub returns-in-Err-NoPlace-clause-answer : goal.returns-in-Err-NoPlace-clause-answer
returns-in-Err-NoPlace-clause-answer g c = λ t z.
    let there = answers-at g.R.TreeRep.contents g.S.TreeRep.contents c.args.db.now t c.args.query.now c.query.result c.query.ensures.answer z in
    sym (there.place.0 (c.in-Err-NoPlace.is ∙ ap (λ e. Err e) c.in-Err-NoPlace.field-0-is))

pub returns-in-Err-NoPlace-clause-same : goal.returns-in-Err-NoPlace-clause-same
returns-in-Err-NoPlace-clause-same g c = record { same = c.query.ensures.same; file = c.query.ensures.file }

pub returns-in-Err-Memory-clause-same : goal.returns-in-Err-Memory-clause-same
returns-in-Err-Memory-clause-same g c = record { same = c.query.ensures.same; file = c.query.ensures.file }
