use Rattle.std.proofs.Common.{sym, ◌∙◌}
use Rattle.cp_reply.proofs.Runs.{leaves_some, leaves_none}
use Rattle.cp_reply.proofs.tree.leaves.Goals as goal

pub returns-in-Some : goal.returns-in-Some
returns-in-Some c = c.ne.ensures ∙ sym (leaves_some c.args.label.now c.in-Some.other.now c.args.depth c.args.row.now (sym c.in-Some.ensures.value))

pub returns-in-None : goal.returns-in-None
returns-in-None c = sym (leaves_none c.args.label.now c.args.depth c.args.row.now (sym c.in-None.ensures.value))
