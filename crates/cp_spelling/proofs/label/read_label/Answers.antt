use Rattle.std.proofs.Common.{inr}
use Rattle.cp_spelling.proofs.WordLaws.{label_bad_at}
use Rattle.cp_spelling.proofs.Words.{label_answers}
use Rattle.cp_spelling.proofs.label.read_label.Goals as goal

pub returns-in-Err-clause-answers : goal.returns-in-Err-clause-answers
returns-in-Err-clause-answers c = inr (label_bad_at c.args.word.now c.in-Err.at c.in-Err.ensures)

pub returns-in-Ok-clause-answers : goal.returns-in-Ok-clause-answers
returns-in-Ok-clause-answers c = label_answers c.args.word.now c.spelled_label.result c.spelled_label.ensures.value c.spelled_label.ensures.fault c.spelled_label.ensures.short
