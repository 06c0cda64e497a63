use Rattle.std.proofs.Common.{inr}
use Rattle.cp_spelling.proofs.WordLaws.{place_bad_at}
use Rattle.cp_spelling.proofs.Words.{place_answers}
use Rattle.cp_spelling.proofs.place.read_place.Goals as goal

pub returns-in-Err-clause-answers : goal.returns-in-Err-clause-answers
returns-in-Err-clause-answers c = inr (place_bad_at c.args.word.now c.in-Err.at c.in-Err.ensures)

pub returns-in-Ok-clause-answers : goal.returns-in-Ok-clause-answers
returns-in-Ok-clause-answers c = place_answers c.args.word.now c.spelled_place.result c.spelled_place.ensures.reads c.spelled_place.ensures.fault
