use Rattle.std.proofs.Common.{ap}
use Rattle.cp_model.specs.Place.{child}
use Rattle.cp_tree.proofs.Answering.{fits_as, tried_as, leaf_rows}
use Rattle.cp_tree_box.proofs.tree.BoxTreeTreeRep.insert_leaf.Goals as goal

pub insert-requires-clause-fits : goal.insert-requires-clause-fits
insert-requires-clause-fits c =
    let rows = leaf_rows _ _ _ c.leaf-leaf.ensures.tree c.in_ok-copy_content.ensures in
    fits_as _ _ _ _ _ (ap (λ z. child z c.args.label.now) c.labels.ensures.labels) rows c.requires.fits

pub returns-clause-ok : goal.returns-clause-ok
returns-clause-ok c =
    let rows = leaf_rows _ _ _ c.leaf-leaf.ensures.tree c.in_ok-copy_content.ensures in
    tried_as _ _ _ _ _ (ap (λ z. child z c.args.label.now) c.labels.ensures.labels) rows c.insert.result _ c.insert.ensures.ok
