use Rattle.std.proofs.Common.{sym, ap, inl, inr}
use Rattle.cp_model.specs.declared.op.Op.TheVariants.{Copy}
use Rattle.cp_reply.specs.Session.{why_refused}
use Rattle.cp_workspace.proofs.workspace.refusal.why_of_copy.Goals as goal

pub returns-in-NoPlace : goal.returns-in-NoPlace
returns-in-NoPlace c =
    elim c.in-NoPlace.is [
      | inl e ↦ ap (why_refused (Copy c.args.from c.args.into)) (sym e)
      | inr x ↦ elim x [
        | inl e ↦ ap (why_refused (Copy c.args.from c.args.into)) (sym e)
        | inr e ↦ ap (why_refused (Copy c.args.from c.args.into)) (sym e)
      ]
    ]
