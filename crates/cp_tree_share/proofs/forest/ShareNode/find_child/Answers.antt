use Rattle.std.proofs.Common.{◌∙◌, ap, sym, Some}
use Rattle.cp_tree.proofs.GoodLemmas.{rooted_found}
use Rattle.cp_tree.proofs.Found.{child_there, child_gone}
use Rattle.cp_tree_share.proofs.forest.ShareNode.find_child.Goals as goal

pub returns-in-Some-find-clause-there : goal.returns-in-Some-find-clause-there
returns-in-Some-find-clause-there c =
    let is = c.in-Some-find.ensures.there ∙ ap (λ z. Some z.1) (sym c.entry.view_is) in
    child_there _ _ _ _ _ _ c.in-Some.ensures.there c.node.view_is c.node.invariant _ is

pub returns-in-Some-find-clause-rooted : goal.returns-in-Some-find-clause-rooted
returns-in-Some-find-clause-rooted c =
    let is = c.in-Some-find.ensures.there ∙ ap (λ z. Some z.1) (sym c.entry.view_is) in
    rooted_found c.args.label.now c.node.inside.children.0 _ c.node.invariant.trees is

pub returns-in-None-find-clause-gone : goal.returns-in-None-find-clause-gone
returns-in-None-find-clause-gone c = child_gone _ _ _ _ _ _ c.in-Some.ensures.there c.node.view_is c.node.invariant c.in-None-find.ensures.gone
