use Rattle.std.proofs.Common.{◌∙◌}
use Rattle.cp_tree.proofs.Answering.{fits_as, tried_as, below_is}
use Rattle.cp_tree_share.proofs.tree.ShareTreeTreeRep.copy_inside.Goals as goal

pub put_at-requires-clause-fits : goal.put_at-requires-clause-fits
put_at-requires-clause-fits c = fits_as _ _ _ _ _ c.labels-2.ensures.labels (below_is _ _ _ _ (c.in_ok-new.ensures ∙ c.node.ensures.at) c.labels.ensures.labels) c.requires.fits

pub returns-clause-ok : goal.returns-clause-ok
returns-clause-ok c = tried_as _ _ _ _ _ c.labels-2.ensures.labels (below_is _ _ _ _ (c.in_ok-new.ensures ∙ c.node.ensures.at) c.labels.ensures.labels) c.put_at.result _ c.put_at.ensures.ok
