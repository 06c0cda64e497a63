use Rattle.std.proofs.Common.{◌≡◌, ◌||◌, Ok, Err, rules}
use Rattle.std.proofs.lemmas.Result.{err_from_is_err_and}
use Rattle.cp_interpreter.specs.Job.{says_refusal}
use Rattle.cp_interpreter.specs.Outside.{known_output}
use Rattle.cp_interpreter.specs.Replied.{SendsReplies}
use Rattle.cp_interpreter.specs.Turns.{has_refused}
use Rattle.cp_interpreter.proofs.Replied.{sent-reply}
use Rattle.cp_interpreter.proofs.interpreter.Interpreter.say.Goals as goal
use Rattle.cp_interpreter.proofs.interpreter.Interpreter.say.Goals.{then-self, else-self}

pub returns-in_err-told-clause-replied : goal.returns-in_err-told-clause-replied
returns-in_err-told-clause-replied g c =
    let f = has_refused c.args.self.now in
    let b = known_output g.O.Sink c.args.output.now in
    let a = known_output g.O.Sink c.tell-told.new.output in
    let e = c.in_err-told.field-0.0 in
    let met = c.in_err-told.ensures in
    let whole : SendsReplies f f b a (Err e) = sent-reply c.args.said c.says_refusal-refused.ensures.named f f b a (Err e) met.went met.used tt in
    let p = err_from_is_err_and c.from_residual.result c.from_residual.ensures.1 in rw (p.1, p.2) whole

pub returns-clause-replied : goal.returns-clause-replied
returns-clause-replied g c =
    let f = has_refused c.args.self.now in
    let met = c.in_ok-told.ensures in
    let flag : c.if-self.self ≡ (f || says_refusal c.args.said) = elim c.if-self.branch [ then-self w ↦ search rules | else-self w ↦ search rules ] in
    sent-reply c.args.said c.says_refusal-refused.ensures.named f c.if-self.self (known_output g.O.Sink c.args.output.now) (known_output g.O.Sink c.tell-told.new.output) (Ok tt) met.went met.used flag
