use Rattle.std.proofs.Common.{◌∙◌, sym, ap, [], ◌++◌, map}
use Rattle.cp_tree.proofs.BranchLemmas.{sub-root}
use Rattle.cp_tree.proofs.ListingLemmas.{labels-branch}
use Rattle.cp_tree_share.proofs.forest.ShareNode.labels.Goals as goal

pub returns : goal.returns
returns c =
    c.in_ok-labels_into.ensures ∙ ap (λ z. z ++ map (λ e. e.0) c.self.inside.children.0) c.new-labels.ensures.items
    ∙ sym (labels-branch c.args.self.now [] c.self.inside.content c.self.inside.children.0 c.self.invariant (c.self.view_is ∙ sym (sub-root c.args.self.now)))
