use Rattle.std.proofs.Common.{ap, sym, subst, []}
use Rattle.cp_model.specs.Tree.{IsRooted}
use Rattle.cp_tree.specs.Branch.{branch}
use Rattle.cp_tree.proofs.GoodLemmas.{good_single, rooted-branch}
use Rattle.cp_tree_share.proofs.forest.ShareNode.leaf.Goals as goal

pub returns-clause-tree : goal.returns-clause-tree
unfolding branch
returns-clause-tree c = ap (λ k. branch c.args.content k.0) c.new.ensures

pub returns-clause-rooted : goal.returns-clause-rooted
returns-clause-rooted c = subst (λ k. IsRooted (branch c.args.content k.0)) (sym c.new.ensures) (rooted-branch c.args.content [] (good_single c.args.content))
