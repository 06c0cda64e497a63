use Rattle.std.proofs.Common.{[], ◌++◌, codes, decimal, sym, ◌∙◌, subst}
use Rattle.cp_interpreter.specs.Outside.{known_output}
use Rattle.cp_interpreter.specs.Story.{Writes, WritesLast}
use Rattle.cp_interpreter.proofs.Lines.{last-then, last-refused, part-wrote}
use Rattle.cp_interpreter.proofs.tell.no_store_line.Goals as goal

pub returns-then-is_err-clause-wrote : goal.returns-then-is_err-clause-wrote
returns-then-is_err-clause-wrote g c =
    let met = c.write_all.ensures in
    last-refused (known_output g.O.Sink c.args.output.now) (known_output g.O.Sink c.write_all.new.output) (codes "error: not a store at ") (decimal c.args.at ++ codes "\n") c.write_all.result (sym c.is_err.ensures.value ∙ c.if-is_err.true) met.part met.refused met.since

pub returns-then-is_err-2-clause-wrote : goal.returns-then-is_err-2-clause-wrote
returns-then-is_err-2-clause-wrote g c =
    let b = known_output g.O.Sink c.args.output.now in
    let m = known_output g.O.Sink c.write_all.new.output in
    let a = known_output g.O.Sink c.write_all-2.new.output in
    let one = c.write_all.ensures in
    let two = c.write_all-2.ensures in
    last-then b m a (codes "error: not a store at ") (decimal c.args.at ++ codes "\n")
    (part-wrote b m (codes "error: not a store at ") c.write_all.result (sym c.is_err.ensures.value ∙ c.if-is_err.false) one.all one.refused)
    (subst (λ xs. WritesLast m a [] (xs ++ codes "\n")) (c.as_bytes.ensures.value ∙ c.format.ensures.text)
    (last-refused m a c.as_bytes.result.now (codes "\n") c.write_all-2.result (sym c.is_err-2.ensures.value ∙ c.if-is_err-2.true) two.part two.refused two.since))

pub returns-clause-wrote : goal.returns-clause-wrote
returns-clause-wrote g c =
    let b = known_output g.O.Sink c.args.output.now in
    let m = known_output g.O.Sink c.write_all.new.output in
    let n = known_output g.O.Sink c.write_all-2.new.output in
    let a = known_output g.O.Sink c.last_line.new.output in
    let one = c.write_all.ensures in
    let two = c.write_all-2.ensures in
    last-then b m a (codes "error: not a store at ") (decimal c.args.at ++ codes "\n")
    (part-wrote b m (codes "error: not a store at ") c.write_all.result (sym c.is_err.ensures.value ∙ c.if-is_err.false) one.all one.refused)
    (last-then m n a (decimal c.args.at) (codes "\n")
    (subst (λ xs. Writes m n xs) (c.as_bytes.ensures.value ∙ c.format.ensures.text) (part-wrote m n c.as_bytes.result.now c.write_all-2.result (sym c.is_err-2.ensures.value ∙ c.if-is_err-2.false) two.all two.refused))
    c.last_line.ensures.wrote)
