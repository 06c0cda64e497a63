use Rattle.std.proofs.Common.{◌∙◌, ap, ◌++◌, refl}
use Rattle.std.specs.Map.Iter.{deref_pair}
use Rattle.std.proofs.lemmas.Map.Iter.{rest_more, rest_all}
use Rattle.cp_tree_box.proofs.Copies.{copied, children_fewer, still_fewer, sorted_as, good_copy, same_copy}
use Rattle.cp_tree_box.proofs.node.BoxNode.+copy.Goals as goal

pub loop-label-init : goal.loop-label-init
loop-label-init t c = record {
  all = ap (λ z. z ++ c.into_iter-label-iterator.result) c.new-children.ensures.empty;
  fewer = children_fewer _ _ _ c.into_iter-label-iterator.result c.self.view_is c.self.invariant c.into_iter-label-iterator.ensures.into_iter_gives.0;
}

pub loop-label-preserved : goal.loop-label-preserved
loop-label-preserved t c =
    let more = rest_more deref_pair c.loop-label.label-iterator c.next.new.self c.next.result (c.in-Some.label, c.in-Some.child) c.in-Some.is c.next.ensures.steps in
    record {
      all = copied _ _ _ _ _ _ _ _ _ (sorted_as c.into_iter-label-iterator.ensures.into_iter_gives.0 c.self.invariant.sorted) c.loop-label.invariant.all more refl c.in_ok-copy.ensures c.in_ok-put_child.ensures.ok;
      fewer = still_fewer _ _ _ _ _ c.loop-label.invariant.fewer more;
    }

pub invariant_of-result : goal.invariant_of-result
invariant_of-result t c =
    let none = rest_all deref_pair c.loop-label.label-iterator c.next.new.self c.next.result c.in-None.is c.next.ensures.steps in
    good_copy _ _ _ _ _ _ c.in_ok-content.ensures c.into_iter-label-iterator.ensures.into_iter_gives.0 none c.loop-label.invariant.all c.self.invariant

pub returns : goal.returns
returns t c =
    let none = rest_all deref_pair c.loop-label.label-iterator c.next.new.self c.next.result c.in-None.is c.next.ensures.steps in
    same_copy _ _ _ _ _ _ c.in_ok-content.ensures c.into_iter-label-iterator.ensures.into_iter_gives.0 none c.loop-label.invariant.all ∙ c.self.view_is
