use Rattle.cp_disk.proofs.Composing.{still}
use Rattle.cp_journal.proofs.Fronts.{front_written}
use Rattle.cp_journal.proofs.checkpoint.put_after.Goals as goal

pub returns-clause-front : goal.returns-clause-front
returns-clause-front g c = λ known.
    front_written c.args.gate c.args.at _ _ _ c.requires.after (c.requires.rest known) (c.write_at.ensures.wrote known).steps (g.met.D.Disk.leaves_content c.write_at.new.self (still c.write_at.ensures.cause.same known))
