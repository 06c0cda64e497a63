use Rattle.std.proofs.Common.{◌≡◌, Some, ap, arith}
use Rattle.std.proofs.lemmas.Map.Views.{All-turn}
use Rattle.std.proofs.lemmas.Map.Iter.{rest_more, rest_all}
use Rattle.std.specs.Map.{lookup}
use Rattle.std.specs.Map.Iter.{deref_pair}
use Rattle.std.specs.BTreeMap.{is_at}
use Rattle.cp_path.specs.Text.{text_cmp}
use Rattle.cp_tree.specs.Branch.{child_rows}
use Rattle.cp_tree.specs.Rows.{greatest}
use Rattle.cp_tree.proofs.Totals.{children_total}
use Rattle.cp_tree_box.specs.Tallies.{places, weighs, row_counts, row_depth, row_size}
use Rattle.cp_tree_box.proofs.Tallying.{counts_root, near_child_tree, near_edge, counts_child, fewer_child, greatest_root, greatest_child}
use Rattle.cp_tree_box.proofs.reach.+reach_subtree.Goals as goal

pub reach_place-requires-clause-nodes : goal.reach_place-requires-clause-nodes
reach_place-requires-clause-nodes t c = omega (arith, c.requires.nodes, counts_root _ _ _ c.node.view_is c.node.invariant c.args.at places)

pub reach_place-requires-clause-inner : goal.reach_place-requires-clause-inner
reach_place-requires-clause-inner t c = omega (arith, c.requires.inner, counts_root _ _ _ c.node.view_is c.node.invariant c.args.at weighs)

pub child-requires : goal.child-requires
child-requires t c =
    let item = All-turn deref_pair (λ e. lookup (is_at (text_cmp e.0)) c.node.inside.children.entries ≡ Some e.1) _ _ _ _ _ _ (c.in-Some.label, c.in-Some.child) c.into_iter-label-iterator.ensures.into_iter_gives.6 c.into_iter-label-iterator.ensures.into_iter_gives.0 c.loop-label.yielded_by c.in-Some.is c.next.ensures.steps in
    near_edge _ _ _ c.node.view_is c.node.invariant c.args.at _ _ item c.requires.near

pub reach_subtree-requires : goal.reach_subtree-requires
reach_subtree-requires t c =
    let item = All-turn deref_pair (λ e. lookup (is_at (text_cmp e.0)) c.node.inside.children.entries ≡ Some e.1) _ _ _ _ _ _ (c.in-Some.label, c.in-Some.child) c.into_iter-label-iterator.ensures.into_iter_gives.6 c.into_iter-label-iterator.ensures.into_iter_gives.0 c.loop-label.yielded_by c.in-Some.is c.next.ensures.steps in
    let more = rest_more deref_pair c.loop-label.label-iterator c.next.new.self c.next.result (c.in-Some.label, c.in-Some.child) c.in-Some.is c.next.ensures.steps in
    let start = c.into_iter-label-iterator.ensures.into_iter_gives.0 in (
      omega (arith, fewer_child _ _ _ c.node.view_is c.node.invariant _ _ item),
      (
        rw c.child.ensures (near_child_tree _ _ _ c.node.view_is c.node.invariant c.args.at _ _ item c.requires.near),
        (
          omega (arith, c.loop-label.invariant.nodes, c.reach_place.ensures.nodes, c.requires.nodes, counts_root _ _ _ c.node.view_is c.node.invariant c.args.at places, counts_child places c.args.at _ _ _ _ more, ap (children_total (row_counts places c.args.at)) start),
          rw c.child.ensures (omega (arith, c.loop-label.invariant.inner, c.reach_place.ensures.inner, c.requires.inner, counts_root _ _ _ c.node.view_is c.node.invariant c.args.at weighs, counts_child weighs c.args.at _ _ _ _ more, ap (children_total (row_counts weighs c.args.at)) start)),
        ),
      ),
    )

pub loop-label-preserved : goal.loop-label-preserved
loop-label-preserved t c =
    let more = rest_more deref_pair c.loop-label.label-iterator c.next.new.self c.next.result (c.in-Some.label, c.in-Some.child) c.in-Some.is c.next.ensures.steps in
    let farther = rw c.child.ensures at c.reach_subtree.ensures in
    record {
      nodes = omega (arith, c.loop-label.invariant.nodes, farther.nodes, counts_child places c.args.at _ _ _ _ more);
      inner = omega (arith, c.loop-label.invariant.inner, farther.inner, counts_child weighs c.args.at _ _ _ _ more);
      depth = omega (arith, c.loop-label.invariant.depth, farther.depth, greatest_child (row_depth c.args.at) _ _ _ _ more);
      size = omega (arith, c.loop-label.invariant.size, farther.size, greatest_child (row_size c.args.at) _ _ _ _ more);
    }

pub returns : goal.returns
returns t c =
    let none = rest_all deref_pair c.loop-label.label-iterator c.next.new.self c.next.result c.in-None.is c.next.ensures.steps in
    let start = c.into_iter-label-iterator.ensures.into_iter_gives.0 in
    let at = c.args.at in
    record {
      nodes = omega (arith, c.loop-label.invariant.nodes, c.reach_place.ensures.nodes, counts_root _ _ _ c.node.view_is c.node.invariant at places, ap (children_total (row_counts places at)) start, ap (children_total (row_counts places at)) none);
      inner = omega (arith, c.loop-label.invariant.inner, c.reach_place.ensures.inner, counts_root _ _ _ c.node.view_is c.node.invariant at weighs, ap (children_total (row_counts weighs at)) start, ap (children_total (row_counts weighs at)) none);
      depth = omega (arith, c.loop-label.invariant.depth, c.reach_place.ensures.depth, greatest_root _ _ _ c.node.view_is c.node.invariant at (row_depth at), ap (λ z. greatest (row_depth at) (child_rows z)) start, ap (λ z. greatest (row_depth at) (child_rows z)) none);
      size = omega (arith, c.loop-label.invariant.size, c.reach_place.ensures.size, greatest_root _ _ _ c.node.view_is c.node.invariant at (row_size at), ap (λ z. greatest (row_size at) (child_rows z)) start, ap (λ z. greatest (row_size at) (child_rows z)) none);
    }
