use Rattle.std.proofs.Common.{◌≡◌, ◌+◌, length, drop, refl, sym, ap, subst, ◌∙◌}
use Rattle.cp_model.specs.Literals.{edge_rows}
use Rattle.cp_model.specs.declared.literal.Literal.TheVariants as literal
use Rattle.cp_tree.specs.Rows.{reach_of}
use Rattle.cp_operation.specs.Reaching.{reach_with, alone_at, literal_reach}
use Rattle.cp_tree.proofs.Edges.{drop-one}
use Rattle.cp_operation.proofs.Reached.{IsReach, alone-leaf, reach-alone, reach-joined, joined-edge, joined-edges, joined-node}
use Rattle.cp_operation.proofs.checks.+reach_of_literal.Goals as goal

pub loop-edge-init : goal.loop-edge-init
loop-edge-init t c = record {
  so_far = refl;
  within = subst (IsReach (length c.args.label.now + 1)) (sym c.reach_alone-all.ensures.alone) (reach-alone (length c.args.label.now) 0 c.reach_alone-all.ensures.short);
}

pub loop-edge-preserved : goal.loop-edge-preserved
loop-edge-preserved t c =
    let k = length c.args.label.now + 1 in
    let edges = c.deref-edge-items.result.now in
    let i = c.loop-edge.edge-index in
    let e = c.edge-item.result in
    let more = joined-edge k c.loop-edge.all c.reach_of_literal.result _ e (drop (i + 1) edges) (drop i edges) (drop-one edges i e c.loop-edge-test.true c.edge-item.is) c.reach_of_literal.ensures c.loop-edge.invariant.so_far in
    record {
      so_far = ap (λ r. reach_with k r (reach_of (edge_rows (drop (i + 1) edges)))) c.joined-all.ensures ∙ more;
      within = subst (IsReach k) (sym c.joined-all.ensures) (reach-joined k c.loop-edge.all c.reach_of_literal.result c.loop-edge.invariant.within);
    }

pub returns-in-Leaf : goal.returns-in-Leaf
returns-in-Leaf t c =
    c.reach_alone.ensures.alone ∙ ap (alone_at (length c.args.label.now)) c.bytes_of.ensures.bytes
    ∙ alone-leaf c.args.label.now c.in-Leaf.value ∙ ap (literal_reach c.args.label.now) (sym c.in-Leaf.is)

pub returns-after-loop-edge : goal.returns-after-loop-edge
returns-after-loop-edge t c =
    let k = length c.args.label.now + 1 in
    let edges = c.deref-edge-items.result.now in
    let rows : edge_rows edges ≡ c.in-Node.below = ap edge_rows c.deref-edge-items.ensures.value ∙ c.below.view_is in
    joined-edges k c.loop-edge.all _ c.loop-edge.edge-index edges c.loop-edge-test.false c.loop-edge.invariant.within c.loop-edge.invariant.so_far
    ∙ ap (λ r. reach_with k r (reach_of (edge_rows edges))) c.reach_alone-all.ensures.alone
    ∙ joined-node c.args.label.now edges
    ∙ ap (λ rs. literal_reach c.args.label.now (literal.Node rs)) rows
    ∙ ap (literal_reach c.args.label.now) (sym c.in-Node.is)
