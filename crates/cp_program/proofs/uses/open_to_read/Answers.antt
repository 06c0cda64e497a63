use Rattle.cp_program.proofs.Used.{opened-database}
use Rattle.cp_program.proofs.uses.open_to_read.Goals as goal

pub returns-clause-opened : goal.returns-clause-opened
returns-clause-opened g c = λ known.
    opened-database g.R.TreeRep.contents g.S.TreeRep.contents (g.D.Disk.known c.args.disk.now) (g.D.Disk.known c.open_on.new.disk).view c.in_ok-open_on.field-0 (c.in_ok-open_on.ensures.opened known)
