use Rattle.cp_lang.specs.declared.syntax_tree.Stmt.TheVariants as stmt
use Rattle.cp_program.proofs.Answered.{answered-statement}
use Rattle.cp_program.proofs.answer.reply_to_show.Goals as goal

pub returns-in_ok-reply-in-Ok-clause-answered : goal.returns-in_ok-reply-in-Ok-clause-answered
returns-in_ok-reply-in-Ok-clause-answered g c = λ known.
    answered-statement g.R.TreeRep.contents g.S.TreeRep.contents (g.D.Disk.known c.args.disk.now) (g.D.Disk.known c.open_workspace.new.disk) c.in-Ok.workspace c.in-Ok.workspace (stmt.Show c.args.place) c.in_ok-reply-in-Ok.field-0
    (c.in-Ok.ensures.opened known) c.in_ok-reply-in-Ok.ensures
