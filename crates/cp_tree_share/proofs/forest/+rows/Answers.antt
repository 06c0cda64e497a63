use Rattle.std.proofs.Common.{◌≡◌, ◌∙◌, refl, sym, ap, subst, [], ◌++◌, ◌∷◌}
use Rattle.cp_tree.specs.Rows.{entry_row}
use Rattle.cp_tree.proofs.Walking.{pop_push}
use Rattle.cp_tree_share.specs.Siblings.{siblings_of}
use Rattle.cp_tree_share.proofs.At.{at_full}
use Rattle.cp_tree.proofs.EdgeRows.{no_rows, rows_fork, rows_node}
use Rattle.cp_tree_share.proofs.forest.+rows.Goals as goal

pub Forest::rows_into-returns-in-Tip-clause-rows : goal.Forest::rows_into-returns-in-Tip-clause-rows
Forest::rows_into-returns-in-Tip-clause-rows t c = no_rows _ _ _ (ap (λ z. z.0) (sym c.self.view_is ∙ ap siblings_of c.in-Tip.is))

pub Forest::rows_into-returns-in_ok-rows_into-in-Full-2-clause-rows : goal.Forest::rows_into-returns-in_ok-rows_into-in-Full-2-clause-rows
Forest::rows_into-returns-in_ok-rows_into-in-Full-2-clause-rows t c =
    let f = at_full c.in-Full.fork c.self.view_is c.self.invariant c.in-Full.is in
    let edges = subst (λ z. c.args.self.now.0 ≡ z.left.0 ++ z.entry ∷ z.right.0) (sym c.deref-fork.ensures) f.edges in
    let place = c.in_ok-rows_into-in-Full.ensures.same_place in
    let deeper = c.in_ok-push-in-Full.ensures.items ∙ ap (λ z. z ++ c.in_ok-to_label-in-Full.field-0 ∷ []) place in
    let back = c.pop.ensures.rest ∙ pop_push c.args.at.now.items c.rows_into-in-Full.new.at.items c.in_ok-to_label-in-Full.field-0 _ (c.in_ok-rows_into-in-Full-2.ensures.same_place ∙ deeper) (c.rows_into-in-Full.new.at.ok.0) in
    rows_fork c.rows_into-in-Full-2.result _ _ _ _ _ _ _ _ _ _ _ _ _ (edges ∙ ap (λ z. z.left.0 ++ z.entry ∷ z.right.0) (sym c.fork.view_is))
    c.in_ok-rows_into-in-Full.ensures.rows c.in_ok-rows_into-in-Full-2.ensures.rows deeper c.in_ok-to_label-in-Full.ensures back c.rows_into-in-Full-2.ensures.rows

pub ShareNode::rows_into-returns-clause-rows : goal.ShareNode::rows_into-returns-clause-rows
ShareNode::rows_into-returns-clause-rows t c =
    rows_node c.rows_into.result _ _ _ _ (entry_row (c.as_slice.result.now, c.self.inside.content)) _ _ _ c.self.view_is c.self.invariant c.in_ok-place_into.ensures c.as_slice.ensures.value refl c.rows_into.ensures.rows
