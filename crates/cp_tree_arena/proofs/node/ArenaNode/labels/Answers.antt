use Rattle.std.proofs.Common.{◌∙◌, sym, ap, [], ◌++◌, map}
use Rattle.cp_tree.proofs.BranchLemmas.{sub-root}
use Rattle.cp_tree.proofs.ListingLemmas.{labels-branch}
use Rattle.cp_tree_arena.specs.Kept.{edges_at, tree_at}
use Rattle.cp_tree_arena.proofs.node.ArenaNode.labels.Goals as goal

pub returns : goal.returns
returns c =
    let es = edges_at c.args.self.slots.now c.args.self.children.number in
    let m = tree_at c.args.self.slots.now c.args.self.content.now c.args.self.children.number in
    c.in_ok-labels_into.ensures ∙ ap (λ z. z ++ map (λ e. e.0) es) c.new-labels.ensures.items ∙ sym (labels-branch m [] _ es c.requires.good (sym (sub-root m)))
