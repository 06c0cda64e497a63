use Rattle.std.proofs.Common.{◌∙◌, refl}
use Rattle.std.specs.Map.Iter.{deref_pair}
use Rattle.std.proofs.lemmas.Map.Iter.{rest_more, rest_all}
use Rattle.cp_tree.specs.Rows.{entry_row}
use Rattle.cp_tree.proofs.Walking.{pop_push, rows_more, rows_all, listed_child}
use Rattle.cp_tree_box.proofs.Copies.{children_fewer, still_fewer}
use Rattle.cp_tree_box.proofs.node.BoxNode.+rows_into.Goals as goal

pub loop-label-init : goal.loop-label-init
loop-label-init t c = record {
  same_place = refl;
  rows = refl;
  fewer = children_fewer _ _ _ c.into_iter-label-iterator.result c.self.view_is c.self.invariant c.into_iter-label-iterator.ensures.into_iter_gives.0;
}

pub loop-label-preserved-in_ok-rows_into : goal.loop-label-preserved-in_ok-rows_into
loop-label-preserved-in_ok-rows_into t c =
    let more = rest_more deref_pair c.loop-label.label-iterator c.next.new.self c.next.result (c.in-Some.label, c.in-Some.child) c.in-Some.is c.next.ensures.steps in
    let label = c.in-Some.label.now in
    let deeper = c.in_ok-push_label.ensures in
    record {
      same_place = c.pop.ensures.rest ∙ pop_push c.loop-label.at.items c.rows_into.new.at.items label _ (c.in_ok-rows_into.ensures.same_place ∙ deeper) (c.rows_into.new.at.ok.0) ∙ c.loop-label.invariant.same_place;
      rows = rows_more _ _ _ _ _ _ _ _ more (listed_child _ _ _ _ _ _ _ _ c.in_ok-rows_into.ensures.rows deeper c.loop-label.invariant.same_place refl) c.loop-label.invariant.rows;
      fewer = still_fewer _ _ _ _ _ c.loop-label.invariant.fewer more;
    }

pub returns-clause-rows : goal.returns-clause-rows
returns-clause-rows t c =
    let none = rest_all deref_pair c.loop-label.label-iterator c.next.new.self c.next.result c.in-None.is c.next.ensures.steps in
    rows_all _ _ _ _ _ _ _ _ _ (entry_row (c.as_slice.result.now, c.self.inside.content)) c.self.view_is c.self.invariant c.into_iter-label-iterator.ensures.into_iter_gives.0 none
    c.in_ok-place_into.ensures c.as_slice.ensures.value refl c.loop-label.invariant.rows
