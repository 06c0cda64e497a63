use Rattle.std.proofs.Common.{◌∙◌, sym, ap}
use Rattle.cp_model.specs.Tree.{is_node}
use Rattle.cp_tree.specs.Branch.{sub}
use Rattle.cp_tree_arena.proofs.Nodes.{content_there}
use Rattle.cp_tree_arena.proofs.tree.ArenaTreeTreeRep.is_node.Goals as goal

pub returns-in-Some : goal.returns-in-Some
returns-in-Some c =
    c.is_node.ensures ∙ ap is_node (sym (content_there c.in-Some.node _ _ _ (c.in-Some.ensures.there ∙ ap (λ z. sub z c.labels.result.now) c.root.ensures.tree) c.labels.ensures.labels))
