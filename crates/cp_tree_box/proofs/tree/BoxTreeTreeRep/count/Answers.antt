use Rattle.std.proofs.Common.{◌∙◌}
use Rattle.cp_tree_box.specs.Tallies.{places}
use Rattle.cp_tree_box.proofs.Changes.{counts_places}
use Rattle.cp_tree_box.proofs.tree.BoxTreeTreeRep.count.Goals as goal

pub returns : goal.returns
returns c = c.args.self.now.tallied places ∙ counts_places c.args.self.now.root
