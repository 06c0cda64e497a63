use Rattle.std.proofs.Common.{◌∙◌, ap}
use Rattle.std.specs.Prelude.{is_some}
use Rattle.cp_model.specs.Place.{child}
use Rattle.cp_model.specs.Subtrees.{is_there}
use Rattle.cp_tree.specs.Branch.{sub}
use Rattle.cp_tree_arena.proofs.Nodes.{found_there, child_of}
use Rattle.cp_tree_arena.proofs.tree.ArenaTreeTreeRep.has_child.Goals as goal

pub returns-in-Some : goal.returns-in-Some
returns-in-Some c =
    let at = c.in-Some.ensures.there ∙ ap (λ z. sub z c.labels.result.now) c.root.ensures.tree in
    c.is_some.ensures ∙ found_there c.child.result _ _ c.child.ensures.there c.child.ensures.gone ∙ ap is_some (child_of _ _ _ c.args.label.now at)
    ∙ ap (λ z. is_there c.args.self.now.arena (child z c.args.label.now)) c.labels.ensures.labels
