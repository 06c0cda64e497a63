use Rattle.cp_program.proofs.Used.{answered-uses}
use Rattle.cp_program.proofs.uses.reply_to_uses.Goals as goal

pub returns-in_ok-reply_on-in-Ok-clause-answered : goal.returns-in_ok-reply_on-in-Ok-clause-answered
returns-in_ok-reply_on-in-Ok-clause-answered g c = λ known.
    answered-uses g.R.TreeRep.contents g.S.TreeRep.contents (g.D.Disk.known c.args.disk.now) c.in-Ok.db c.args.place c.in_ok-reply_on-in-Ok.field-0 (c.in-Ok.ensures.opened known) c.in_ok-reply_on-in-Ok.ensures
