use Rattle.std.proofs.Common.{◌∙◌, sym, subst}
use Rattle.cp_model.specs.Tree.{IsTree}
use Rattle.cp_tree.proofs.Found.{whole_put}
use Rattle.cp_memory_calls.proofs.copies.moved.Goals as goal

pub graft-requires-clause-from : goal.graft-requires-clause-from
graft-requires-clause-from g c = rw c.root-top.ensures (g.met.O.TreeRep.is_tree c.args.tree.now).rooted.root

pub graft-requires-clause-there : goal.graft-requires-clause-there
graft-requires-clause-there g c = rw c.root-top.ensures (g.met.R.TreeRep.is_tree c.in_ok-copy.copy).rooted.root

pub graft-requires-clause-fits : goal.graft-requires-clause-fits
graft-requires-clause-fits g c = rw c.root-top.ensures (subst IsTree (sym (whole_put (g.R.TreeRep.contents c.in_ok-copy.copy) (g.O.TreeRep.contents c.args.tree.now))) (g.met.O.TreeRep.is_tree c.args.tree.now))

pub returns : goal.returns
returns g c = rw c.root-top.ensures at (c.in_ok-graft.ensures.ok) ∙ whole_put (g.R.TreeRep.contents c.in_ok-copy.copy) (g.O.TreeRep.contents c.args.tree.now)
