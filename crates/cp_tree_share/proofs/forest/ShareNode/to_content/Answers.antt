use Rattle.std.proofs.Common.{sym, ap, ◌∙◌, []}
use Rattle.cp_model.specs.Keyed.{get}
use Rattle.cp_tree.proofs.BranchLemmas.{get-branch_root}
use Rattle.cp_tree_share.proofs.At.{some_content}
use Rattle.cp_tree_share.proofs.forest.ShareNode.to_content.Goals as goal

pub returns : goal.returns
returns c = some_content c.to_content.result _ (get c.args.self.now []) (ap (λ z. get z []) (sym c.self.view_is) ∙ get-branch_root c.self.inside.content c.self.inside.children.0) c.to_content.ensures
