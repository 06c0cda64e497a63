use Rattle.std.proofs.Common.{◌∙◌, ap}
use Rattle.cp_model.specs.Subtrees.{is_there}
use Rattle.cp_tree_arena.proofs.Nodes.{found_there}
use Rattle.cp_tree_arena.proofs.tree.ArenaTreeTreeRep.is_there.Goals as goal

pub returns : goal.returns
returns c =
    c.is_some.ensures ∙ found_there c.find.result _ _ c.find.ensures.there c.find.ensures.gone ∙ ap (λ z. is_there z c.labels.result.now) c.root.ensures.tree
    ∙ ap (is_there c.args.self.now.arena) c.labels.ensures.labels
