use Rattle.std.proofs.Common.{ap}
use Rattle.cp_model.specs.Place.{child}
use Rattle.cp_tree.proofs.Answering.{fits_as, tried_as, built_rows}
use Rattle.cp_tree_rows.proofs.Wrapping.{few_given}
use Rattle.cp_tree_rows.proofs.tree.RowTreeTreeRep.insert_rows.Goals as goal

pub build-requires-clause-few : goal.build-requires-clause-few
build-requires-clause-few c = few_given _ _ _ c.requires.rows c.requires.fits

pub insert-requires-clause-fits : goal.insert-requires-clause-fits
insert-requires-clause-fits c = fits_as _ _ _ _ _ (ap (λ z. child z c.args.label.now) c.labels.ensures.labels) (built_rows _ _ c.requires.rows c.in_ok-new.ensures).0 c.requires.fits

pub returns-clause-ok : goal.returns-clause-ok
returns-clause-ok c = tried_as _ _ _ _ _ (ap (λ z. child z c.args.label.now) c.labels.ensures.labels) (built_rows _ _ c.requires.rows c.in_ok-new.ensures).0 c.insert.result _ c.insert.ensures.ok
