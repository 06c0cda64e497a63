use Rattle.std.proofs.Common.{sym, ◌∙◌}
use Rattle.cp_format.specs.Operations.{IsShort}
use Rattle.cp_frame.proofs.PutOps.{bare_short, other_short, short_put}
use Rattle.cp_frame.proofs.operation.put_op.Goals.{in_default-via-in-Ins+else-is_branch, in_default-via-in_default}
use Rattle.cp_frame.proofs.operation.put_op.Goals as goal

pub returns-in_default-clause-ok : goal.returns-in_default-clause-ok
returns-in_default-clause-ok c =
    let form : IsShort c.args.op.now =
    elim c.in_default.branch [
      | in_default-via-in-Ins+else-is_branch w ↦ bare_short c.args.op.now w.in-Ins.into w.in-Ins.label w.in-Ins.tree w.in-Ins.is (sym w.is_branch.ensures ∙ w.if-is_branch.false)
      | in_default-via-in_default w ↦ other_short c.args.op.now w.in_default.not-Ins
    ]
    in
    short_put c.args.op.now c.args.out.now.items c.put_short.new.out.items c.put_short.result form c.put_short.ensures.ok c.put_short.ensures.parts
