use Rattle.std.proofs.Common.{◌∙◌}
use Rattle.cp_tree.proofs.Answering.{got}
use Rattle.cp_tree_share.proofs.tree.ShareTreeTreeRep.is_there.Goals as goal

pub returns : goal.returns
returns c = c.is_some.ensures ∙ got _ _ _ _ c.labels.ensures.labels c.find.ensures.there c.find.ensures.rooted c.find.ensures.gone
