use Rattle.std.proofs.Common.{ap}
use Rattle.cp_model.specs.Place.{child}
use Rattle.cp_tree.proofs.Answering.{fits_as, tried_as, leaf_rows}
use Rattle.cp_tree.proofs.FewRows.{text_fits}
use Rattle.cp_tree_share.proofs.tree.ShareTreeTreeRep.insert_leaf.Goals as goal

pub of-requires : goal.of-requires
of-requires c = text_fits _ _ _ c.requires.fits

pub put_child-requires-clause-fits : goal.put_child-requires-clause-fits
put_child-requires-clause-fits c =
    let rows = leaf_rows _ _ _ c.leaf-leaf.ensures.tree c.in_ok-of.ensures in
    fits_as _ _ _ _ _ (ap (λ z. child z c.args.label.now) c.labels.ensures.labels) rows c.requires.fits

pub returns-clause-ok : goal.returns-clause-ok
returns-clause-ok c =
    let rows = leaf_rows _ _ _ c.leaf-leaf.ensures.tree c.in_ok-of.ensures in
    tried_as _ _ _ _ _ (ap (λ z. child z c.args.label.now) c.labels.ensures.labels) rows c.put_child.result _ c.put_child.ensures.ok
