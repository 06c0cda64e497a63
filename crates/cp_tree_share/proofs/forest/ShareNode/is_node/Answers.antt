use Rattle.std.proofs.Common.{sym, ap, ◌∙◌, []}
use Rattle.cp_model.specs.Tree.{is_node}
use Rattle.cp_model.specs.Keyed.{get}
use Rattle.cp_tree.proofs.BranchLemmas.{get-branch_root}
use Rattle.cp_tree_share.proofs.forest.ShareNode.is_node.Goals as goal

pub returns : goal.returns
returns c = c.is_node.ensures ∙ ap is_node (sym (get-branch_root _ _) ∙ ap (λ z. get z []) c.self.view_is)
