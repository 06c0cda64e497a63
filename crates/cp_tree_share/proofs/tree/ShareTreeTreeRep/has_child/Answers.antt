use Rattle.std.proofs.Common.{◌∙◌, ap}
use Rattle.cp_model.specs.Place.{child}
use Rattle.cp_tree.proofs.Answering.{got}
use Rattle.cp_tree_share.proofs.tree.ShareTreeTreeRep.has_child.Goals as goal

pub returns : goal.returns
returns c = c.is_some.ensures ∙ got _ _ _ _ (ap (λ z. child z c.args.label.now) c.labels.ensures.labels) c.find_child.ensures.there c.find_child.ensures.rooted c.find_child.ensures.gone
