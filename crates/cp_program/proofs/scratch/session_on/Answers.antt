use Rattle.std.proofs.Common.{false, true}
use Rattle.cp_scratch.specs.Sessions.{sure_disk}
use Rattle.cp_program.proofs.FromStart.{scratch-follows, scratch-goes_on}
use Rattle.cp_program.proofs.scratch.session_on.Goals as goal

pub new-requires-clause-stands : goal.new-requires-clause-stands
new-requires-clause-stands g c = let z = c.in_ok-db.ensures.stands false in (z.state, z.holds)

pub returns-clause-follows : goal.returns-clause-follows
returns-clause-follows g c =
    let made = c.in_ok-db.ensures in
    scratch-follows g.R.TreeRep.contents g.S.TreeRep.contents c.in_ok-db.db c.new.result c.new-2.result (sure_disk c.new_db.new.disk) c.new.ensures.same c.new-2.ensures.cutter c.new-2.ensures.workspace
    c.args.kind (g.R.TreeRep.contents c.args.tree) c.in_ok-curator.curator c.in_ok-curator.ensures made.made.2 made.kept (λ supply. c.new.ensures.stands _ supply (made.stands true))

pub returns-clause-goes_on : goal.returns-clause-goes_on
returns-clause-goes_on g c = (
  scratch-goes_on g.R.TreeRep.contents g.S.TreeRep.contents c.in_ok-db.db c.new.result c.new-2.result (sure_disk c.new_db.new.disk) c.new.ensures.same c.new-2.ensures.cutter c.new-2.ensures.workspace c.new.ensures.workspace c.in_ok-db.ensures.ready c.in_ok-db.ensures.made.0,
  c.new-2.ensures.refused,
)
