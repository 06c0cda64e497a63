use Rattle.std.proofs.Common.{sym, subst, FitsSigned, to_z-of_z}
use mir.Syntax.{w128}
use Rattle.cp_spelling.proofs.Numbers.{made, parsed, refused}
use Rattle.cp_spelling.proofs.value.parse_whole.Goals as goal

pub returns-in-Ok : goal.returns-in-Ok
returns-in-Ok c = λ n range is.
    let read = c.in-Ok.ensures.value.0 in
    let fits : FitsSigned w128 c.in-Ok.number = subst (FitsSigned w128) (sym read.1) read.0.1 in
    let same = to_z-of_z fits in
    made c.new.result c.in-Ok.number n (rw same at c.new.ensures.some) (rw same at c.new.ensures.value) range (parsed c.in-Ok.number n c.args.word.now range is read)

pub returns-in-Err : goal.returns-in-Err
returns-in-Err c = λ n range is. absurd (refused n c.args.word.now range is c.in-Err.ensures.value.0)
