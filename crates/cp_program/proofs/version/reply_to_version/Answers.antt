use Rattle.cp_program.proofs.Versioned.{answered-version}
use Rattle.cp_program.proofs.version.reply_to_version.Goals as goal

pub returns-clause-answered : goal.returns-clause-answered
returns-clause-answered g c = λ known.
    answered-version (g.D.Disk.known c.args.disk.now) c.in_ok-kept.kept c.args.tid c.args.asked c.in_ok-reply_of_version.field-0 (c.in_ok-kept.ensures.archived known) c.in_ok-reply_of_version.ensures
