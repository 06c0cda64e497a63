use Rattle.std.proofs.Common.{◌∙◌, ap, sym, Some, []}
use Rattle.cp_model.specs.Keyed.{get}
use Rattle.cp_tree.proofs.BranchLemmas.{get-branch_root}
use Rattle.cp_tree.proofs.Answering.{root_of}
use Rattle.cp_tree_box.proofs.tree.BoxTreeTreeRep.content_at.Goals as goal

pub returns-in_ok-copy_content-in-Some : goal.returns-in_ok-copy_content-in-Some
returns-in_ok-copy_content-in-Some c =
    ap (λ x. Some x) c.in_ok-copy_content-in-Some.ensures ∙ sym (get-branch_root c.node.inside.content c.node.inside.children.entries) ∙ ap (λ z. get z []) c.node.view_is
    ∙ root_of _ _ _ _ c.in-Some.ensures.there c.labels.ensures.labels
