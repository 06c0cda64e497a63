use Rattle.std.proofs.Common.{◌∙◌, sym, ap}
use Rattle.cp_model.specs.Keyed.{entries}
use Rattle.cp_tree.proofs.Answering.{below_is}
use Rattle.cp_tree_share.proofs.tree.ShareTreeTreeRep.are_known_equal.Goals as goal

pub returns-in-Some-Some : goal.returns-in-Some-Some
returns-in-Some-Some c same =
    let one = below_is _ _ _ _ c.in-Some-Some.ensures.there c.labels.ensures.labels in
    let other = below_is _ _ _ _ c.in-Some-Some.ensures'.there c.labels-2.ensures.labels in
    sym one ∙ ap entries (c.is_known_equal.ensures same) ∙ other
