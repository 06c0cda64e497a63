use Rattle.cp_tree.proofs.Answering.{fits_as, done_as, built_rows}
use Rattle.cp_tree_box.proofs.tree.BoxTreeTreeRep.put_rows.Goals as goal

pub swap-requires-clause-fits : goal.swap-requires-clause-fits
swap-requires-clause-fits c = fits_as _ _ _ _ _ c.labels.ensures.labels (built_rows _ _ c.requires.rows c.in_ok-new.ensures).0 c.requires.fits

pub swap-requires-clause-rooted : goal.swap-requires-clause-rooted
swap-requires-clause-rooted c = (built_rows _ _ c.requires.rows c.in_ok-new.ensures).1

pub returns-clause-ok : goal.returns-clause-ok
returns-clause-ok c = done_as _ _ _ _ _ c.labels.ensures.labels (built_rows _ _ c.requires.rows c.in_ok-new.ensures).0 _ c.swap.ensures
