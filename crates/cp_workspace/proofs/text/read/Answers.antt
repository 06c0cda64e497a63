use Rattle.std.proofs.Common.{rules}
use Rattle.cp_workspace.proofs.Readings.{says_syntax, says_place}
use Rattle.cp_workspace.proofs.text.read.Goals as goal

pub returns-in-Err-Syntax : goal.returns-in-Err-Syntax
returns-in-Err-Syntax c = says_syntax c.args.text.now _ c.in-Err-Syntax.at c.in-Err-Syntax.ensures.answers (search rules)

pub returns-in-Err-Place : goal.returns-in-Err-Place
returns-in-Err-Place c = says_place c.args.text.now _ c.in-Err-Place.at c.in-Err-Place.fault c.in-Err-Place.ensures.answers (search rules)
