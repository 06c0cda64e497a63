use Rattle.std.proofs.Common.{sym, ap, ◌∙◌}
use Rattle.cp_model.specs.Keyed.{entries}
use Rattle.cp_tree.specs.Rows.{reach_of}
use Rattle.cp_tree.specs.Sums.{reach_of_sums}
use Rattle.cp_tree.proofs.SumsLemmas.{reach-branch}
use Rattle.cp_tree_share.proofs.forest.ShareNode.reach.Goals as goal

pub returns : goal.returns
returns c =
    c.reach.ensures ∙ rw c.text_bytes.ensures.bytes (ap (reach_of_sums _) c.sums.ensures.is)
    ∙ sym (reach-branch c.self.inside.content c.self.inside.children.0 c.self.invariant) ∙ ap (λ z. reach_of (entries z)) c.self.view_is
