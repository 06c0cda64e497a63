use Rattle.std.proofs.Common.{◌∙◌}
use Rattle.cp_tree.proofs.Answering.{fits_as, done_as, below_is}
use Rattle.cp_tree_box.proofs.tree.BoxTreeTreeRep.copy_inside.Goals as goal

pub swap-requires-clause-fits : goal.swap-requires-clause-fits
swap-requires-clause-fits c = fits_as _ _ _ _ _ c.labels-2.ensures.labels (below_is _ _ _ _ (c.in_ok-new.ensures ∙ c.node.ensures.at) c.labels.ensures.labels) c.requires.fits

pub returns-clause-ok : goal.returns-clause-ok
returns-clause-ok c = done_as _ _ _ _ _ c.labels-2.ensures.labels (below_is _ _ _ _ (c.in_ok-new.ensures ∙ c.node.ensures.at) c.labels.ensures.labels) _ c.swap.ensures
