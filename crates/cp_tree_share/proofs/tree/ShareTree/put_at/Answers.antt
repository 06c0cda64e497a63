use Rattle.std.proofs.Common.{sym, subst}
use Rattle.cp_model.specs.Tree.{IsTree}
use Rattle.cp_tree.proofs.Found.{no_length, root_put, parent_is}
use Rattle.cp_tree_share.proofs.tree.ShareTree.put_at.Goals as goal

pub invariant_of-self : goal.invariant_of-self
invariant_of-self c = record { tree = subst IsTree (root_put _ _) (rw (no_length _ c.in-None.ensures.cases) at c.requires.fits) }

pub returns-in-None-clause-ok : goal.returns-in-None-clause-ok
returns-in-None-clause-ok c = rw (no_length _ c.in-None.ensures.cases) (sym (root_put _ _))

pub put_child-requires-clause-node : goal.put_child-requires-clause-node
put_child-requires-clause-node c = parent_is _ _ _ c.in-Some.label.now c.args.self.now.tree c.in-Some.ensures.cases.0 c.requires.there
