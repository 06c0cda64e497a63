use Rattle.std.proofs.Common.{◌∙◌, ap, Some}
use Rattle.cp_tree_rows.proofs.Wrapping.{root_of}
use Rattle.cp_tree_rows.proofs.tree.RowTreeTreeRep.content_at.Goals as goal

pub returns-in_ok-to_content-in-Some : goal.returns-in_ok-to_content-in-Some
returns-in_ok-to_content-in-Some c = (let n = c.in-Some.part in ap (λ x. Some x) c.in_ok-to_content-in-Some.ensures ∙ root_of n.item.now n.rows.now _ _ c.args.place.now _ c.in-Some.ensures.there c.whole.ensures.tree c.labels.ensures.labels)
