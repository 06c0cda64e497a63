use Rattle.std.proofs.Common.{◌≡◌, sym, subst}
use Rattle.std.specs.Prelude.{IfErr}
use Rattle.cp_outside.specs.Causes.{Accounts}
use Rattle.cp_interpreter.specs.Begins.{GaveAnswer, IsOpeningStop}
use Rattle.cp_interpreter.specs.Outside.{known_output}
use Rattle.cp_interpreter.specs.Story.{result_of}
use Rattle.cp_interpreter.specs.declared.end.End.TheVariants as how
use Rattle.cp_program.proofs.Answered.{stopped-output}
use Rattle.cp_program.proofs.answer.give_answer.Goals as goal

pub returns-in-Ok-clause-gave : goal.returns-in-Ok-clause-gave
returns-in-Ok-clause-gave g c =
    subst (λ r. GaveAnswer r (known_output g.O.Sink c.args.output.now) (known_output g.O.Sink c.end_with.new.output) c.end_with.result) (sym c.in-Ok.is) c.end_with.ensures.said

pub returns-in-Err-clause-gave : goal.returns-in-Err-clause-gave
returns-in-Err-clause-gave g c =
    subst (λ r. GaveAnswer r (known_output g.O.Sink c.args.output.now) (known_output g.O.Sink c.stopped.new.output) c.stopped.result) (sym c.in-Err.is) (c.stopped.ensures.end, c.stopped.ensures.wrote)

pub returns-in-Err-clause-cause : goal.returns-in-Err-clause-cause
returns-in-Err-clause-cause g c = λ kind.
    let n = g.O.Sink.faults c.args.output.now in
    let m = g.O.Sink.faults c.stopped.new.output in
    subst (λ e. Accounts (λ z. z ≡ how.Output) n m (result_of e)) (sym c.stopped.ensures.end)
    (stopped-output n m c.in-Err.stop (subst (λ r. IfErr r IsOpeningStop) c.in-Err.is kind) c.stopped.ensures.later)
