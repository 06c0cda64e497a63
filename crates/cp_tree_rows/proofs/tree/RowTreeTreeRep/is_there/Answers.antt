use Rattle.std.proofs.Common.{◌∙◌}
use Rattle.cp_tree_rows.proofs.Wrapping.{got}
use Rattle.cp_tree_rows.proofs.tree.RowTreeTreeRep.is_there.Goals as goal

pub returns : goal.returns
returns c = c.is_some.ensures ∙ got c.find.result _ _ c.args.place.now _ c.whole.ensures.tree c.labels.ensures.labels c.find.ensures.there c.find.ensures.gone
