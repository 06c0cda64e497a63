use Rattle.cp_tree_share.proofs.At.{at_full}
use Rattle.cp_tree_share.proofs.InPlace.{parts_full}
use Rattle.cp_tree_share.proofs.forest.Forest.root.Goals as goal

pub returns-in-Full-clause-full : goal.returns-in-Full-clause-full
returns-in-Full-clause-full c =
    let f = at_full c.in-Full.fork c.self.view_is c.self.invariant c.in-Full.is in
    rw c.deref-fork.ensures (parts_full _ _ f)
