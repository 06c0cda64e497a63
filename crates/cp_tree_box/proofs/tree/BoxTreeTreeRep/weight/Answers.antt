use Rattle.std.proofs.Common.{◌∙◌}
use Rattle.cp_tree_box.specs.Tallies.{weighs}
use Rattle.cp_tree_box.proofs.Changes.{counts_weight}
use Rattle.cp_tree_box.proofs.tree.BoxTreeTreeRep.weight.Goals as goal

pub returns : goal.returns
returns c = c.args.self.now.tallied weighs ∙ counts_weight c.args.self.now.root
