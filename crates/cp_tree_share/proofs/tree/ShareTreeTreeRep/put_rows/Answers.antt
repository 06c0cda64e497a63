use Rattle.cp_tree.proofs.Answering.{fits_as, tried_as, built_rows}
use Rattle.cp_tree.proofs.FewRows.{small_rows}
use Rattle.cp_tree_share.proofs.tree.ShareTreeTreeRep.put_rows.Goals as goal

pub build-requires-clause-small : goal.build-requires-clause-small
build-requires-clause-small c = small_rows _ _ _ c.requires.rows c.requires.fits

pub put_at-requires-clause-fits : goal.put_at-requires-clause-fits
put_at-requires-clause-fits c = fits_as _ _ _ _ _ c.labels.ensures.labels (built_rows _ _ c.requires.rows c.in_ok-new.ensures).0 c.requires.fits

pub put_at-requires-clause-rooted : goal.put_at-requires-clause-rooted
put_at-requires-clause-rooted c = (built_rows _ _ c.requires.rows c.in_ok-new.ensures).1

pub returns-clause-ok : goal.returns-clause-ok
returns-clause-ok c = tried_as _ _ _ _ _ c.labels.ensures.labels (built_rows _ _ c.requires.rows c.in_ok-new.ensures).0 c.put_at.result _ c.put_at.ensures.ok
