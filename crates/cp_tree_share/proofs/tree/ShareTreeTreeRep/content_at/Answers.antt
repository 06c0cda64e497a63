use Rattle.std.proofs.Common.{◌∙◌, sym}
use Rattle.cp_tree.proofs.Answering.{root_of}
use Rattle.cp_tree_share.proofs.tree.ShareTreeTreeRep.content_at.Goals as goal

pub returns-in_ok-to_content-in-Some : goal.returns-in_ok-to_content-in-Some
returns-in_ok-to_content-in-Some c = sym c.in_ok-to_content-in-Some.ensures ∙ root_of _ _ _ _ c.in-Some.ensures.there c.labels.ensures.labels
