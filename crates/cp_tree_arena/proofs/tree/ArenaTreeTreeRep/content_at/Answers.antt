use Rattle.std.proofs.Common.{◌∙◌, sym, ap, Some}
use Rattle.cp_tree.specs.Branch.{sub}
use Rattle.cp_tree_arena.proofs.Nodes.{content_there}
use Rattle.cp_tree_arena.proofs.tree.ArenaTreeTreeRep.content_at.Goals as goal

pub returns-in_ok-to_content-in-Some : goal.returns-in_ok-to_content-in-Some
returns-in_ok-to_content-in-Some c =
    ap (λ z. Some z) c.in_ok-to_content-in-Some.ensures ∙ sym (content_there c.in-Some.node _ _ _ (c.in-Some.ensures.there ∙ ap (λ z. sub z c.labels.result.now) c.root.ensures.tree) c.labels.ensures.labels)
