use Rattle.std.proofs.Common.{◌∙◌, ap, refl}
use Rattle.cp_model.specs.Place.{child}
use Rattle.cp_tree_rows.proofs.Wrapping.{got}
use Rattle.cp_tree_rows.proofs.tree.RowTreeTreeRep.has_child.Goals as goal

pub returns : goal.returns
returns c = c.is_some.ensures ∙ got c.find_below.result _ _ (child c.args.place.now c.args.label.now) _ refl (ap (λ z. child z c.args.label.now) c.labels.ensures.labels) c.find_below.ensures.at c.find_below.ensures.gone
