use Rattle.cp_tree.proofs.Answering.{fits_as, tried_as, built_rows}
use Rattle.cp_tree_rows.proofs.Wrapping.{few_given}
use Rattle.cp_tree_rows.proofs.tree.RowTreeTreeRep.put_rows.Goals as goal

pub build-requires-clause-few : goal.build-requires-clause-few
build-requires-clause-few c = few_given _ _ _ c.requires.rows c.requires.fits

pub swap-requires-clause-fits : goal.swap-requires-clause-fits
swap-requires-clause-fits c = fits_as _ _ _ _ _ c.labels.ensures.labels (built_rows _ _ c.requires.rows c.in_ok-new.ensures).0 c.requires.fits

pub returns-clause-ok : goal.returns-clause-ok
returns-clause-ok c = tried_as _ _ _ _ _ c.labels.ensures.labels (built_rows _ _ c.requires.rows c.in_ok-new.ensures).0 c.swap.result _ c.swap.ensures.ok
