use Rattle.std.proofs.Common.{◌∙◌, ap}
use Rattle.cp_model.specs.Keyed.{entries}
use Rattle.cp_model.specs.Subtrees.{below}
use Rattle.cp_tree.proofs.BranchLemmas.{entries-sub}
use Rattle.cp_tree_rows.specs.Branches.{tree_in}
use Rattle.cp_tree.proofs.Answering.{fits_as, tried_as}
use Rattle.cp_tree_rows.proofs.tree.RowTreeTreeRep.copy_inside.Goals as goal

pub swap-requires-clause-fits : goal.swap-requires-clause-fits
swap-requires-clause-fits c =
    let m = tree_in c.args.self.now.branch in
    let rows = ap entries (c.in_ok-new.ensures ∙ c.part.ensures.at) ∙ entries-sub m _ ∙ ap (λ z. below z m) c.labels.ensures.labels in
    fits_as _ _ _ _ _ c.labels-2.ensures.labels rows c.requires.fits

pub returns-clause-ok : goal.returns-clause-ok
returns-clause-ok c =
    let m = tree_in c.args.self.now.branch in
    let rows = ap entries (c.in_ok-new.ensures ∙ c.part.ensures.at) ∙ entries-sub m _ ∙ ap (λ z. below z m) c.labels.ensures.labels in
    tried_as _ _ _ _ _ c.labels-2.ensures.labels rows c.swap.result _ c.swap.ensures.ok
