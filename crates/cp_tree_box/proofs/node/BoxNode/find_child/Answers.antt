use Rattle.cp_tree.proofs.Answering.{gone_below}
use Rattle.cp_tree_box.proofs.Copies.{child_there, child_rooted, child_gone}
use Rattle.cp_tree_box.proofs.node.BoxNode.find_child.Goals as goal

pub returns-in-Some-clause-there : goal.returns-in-Some-clause-there
returns-in-Some-clause-there c = child_there _ _ _ _ _ _ c.in-Some.ensures.there c.node.view_is c.node.invariant _ c.get.ensures.value

pub returns-in-Some-clause-rooted : goal.returns-in-Some-clause-rooted
returns-in-Some-clause-rooted c = child_rooted _ _ _ _ _ _ c.in-Some.ensures.there c.node.view_is c.node.invariant _ c.get.ensures.value

pub returns-in-Some-clause-gone : goal.returns-in-Some-clause-gone
returns-in-Some-clause-gone c = child_gone _ _ _ _ _ _ c.in-Some.ensures.there c.node.view_is c.node.invariant _ c.get.ensures.value

pub returns-in-None-clause-gone : goal.returns-in-None-clause-gone
returns-in-None-clause-gone c = gone_below _ _ c.args.label.now c.find.ensures.whole c.in-None.ensures.gone
