use Rattle.std.proofs.Common.{◌+◌, ◌-◌, ◌≤◌, refl, sym, ◌∙◌, arith}
use Rattle.cp_gen.proofs.ScriptLaws.{next-bound, operation-given}
use Rattle.cp_gen.proofs.generator.Generator.next.Goals as goal

pub invariant_of-self-2 : goal.invariant_of-self-2
invariant_of-self-2 c =
    let bound : c.next.new.self.next ≤ c.self.inside.drawing.next + 1 = next-bound c.self.inside.drawing c.next.new.self c.in_ok-op.ensures.ok in
    (omega arith, omega arith)

pub returns-clause-gives : goal.returns-clause-gives
returns-clause-gives c =
    sym c.self.view_is
    ∙ operation-given c.self.inside.drawing c.next.new.self c.in_ok-op.op c.self.inside.left (c.self.inside.left - 1) c.self.inside.pending (c.self.inside.pending + 1) (omega arith) refl (omega arith) refl c.in_ok-op.ensures.ok c.in_ok-op.ensures.operation
