use Rattle.cp_model.specs.declared.limits.TheConstants.{WEIGHT_MAX}
use Rattle.std.proofs.Common.{◌≡◌, ◌≤◌, length, sym, ap, ◌∙◌, subst, arith, sum_by}
use Rattle.cp_model.specs.Tree.{weight_of}
use Rattle.cp_model.specs.Literals.{edge_rows}
use Rattle.cp_record.specs.Packed.{AreBelow}
use Rattle.cp_record.proofs.Lengths.{rows_light, node_light, node_weight, node_count, edges_below, next_count, next_length, next_weight}
use Rattle.cp_record.proofs.length.+tree.Goals as goal

pub edges_length-loop-edge-init : goal.edges_length-loop-edge-init
edges_length-loop-edge-init t c =
    let edges = c.deref-edge-items.result.now in
    let same : c.args.list.now ≡ edge_rows edges = sym c.list.view_is ∙ ap edge_rows (sym c.deref-edge-items.ensures.value) in
    let weight : sum_by weight_of (edge_rows edges) ≤ WEIGHT_MAX = subst (λ rows. sum_by weight_of rows ≤ WEIGHT_MAX) same c.requires.weight in
    record { so_far = omega arith; weight = weight; small = omega (arith, rows_light (edge_rows edges), weight) }

pub edges_length-rows_length-requires : goal.edges_length-rows_length-requires
edges_length-rows_length-requires t c =
    let edges = c.deref-edge-items.result.now in
    let same : c.args.list.now ≡ edge_rows edges = sym c.list.view_is ∙ ap edge_rows (sym c.deref-edge-items.ensures.value) in
    let rows : length c.args.list.now ≡ length (edge_rows edges) = ap length same in
    let count = next_count edges c.loop-edge.edge-index c.edge-item.result c.loop-edge-test.true c.edge-item.is in
    let weight = next_weight edges c.loop-edge.edge-index c.edge-item.result c.loop-edge-test.true c.edge-item.is in
    (omega (arith, count, rows, c.decreases), omega (arith, weight, c.loop-edge.invariant.weight))

pub rows_length-edges_length-requires : goal.rows_length-edges_length-requires
rows_length-edges_length-requires t c =
    let count = node_count c.args.tree.now c.in-Node.list c.in-Node.is in
    let weight = node_weight c.args.tree.now c.in-Node.list c.in-Node.is c.requires.weight in
    (omega (arith, count, c.decreases), weight)

pub edges_length-overflow_add-total : goal.edges_length-overflow_add-total
edges_length-overflow_add-total t c =
    let next = next_length c.deref-edge-items.result.now c.loop-edge.edge-index c.edge-item.result c.loop-edge-test.true c.edge-item.is c.rows_length.ensures.below in
    omega (arith, next, c.loop-edge.invariant.so_far, c.loop-edge.invariant.small, c.label_length.ensures.length, c.rows_length.ensures.length)

pub edges_length-overflow_add-total-in-loop-edge : goal.edges_length-overflow_add-total-in-loop-edge
edges_length-overflow_add-total-in-loop-edge t c =
    let next = next_length c.deref-edge-items.result.now c.loop-edge.edge-index c.edge-item.result c.loop-edge-test.true c.edge-item.is c.rows_length.ensures.below in
    omega (arith, next, c.loop-edge.invariant.so_far, c.loop-edge.invariant.small, c.label_length.ensures.length, c.rows_length.ensures.length)

pub edges_length-loop-edge-preserved : goal.edges_length-loop-edge-preserved
edges_length-loop-edge-preserved t c =
    let edges = c.deref-edge-items.result.now in
    let long = next_length edges c.loop-edge.edge-index c.edge-item.result c.loop-edge-test.true c.edge-item.is c.rows_length.ensures.below in
    let weight = next_weight edges c.loop-edge.edge-index c.edge-item.result c.loop-edge-test.true c.edge-item.is in
    record {
      so_far = omega (arith, long, c.loop-edge.invariant.so_far, c.label_length.ensures.length, c.rows_length.ensures.length);
      weight = omega (arith, weight, c.loop-edge.invariant.weight);
      small = c.loop-edge.invariant.small;
    }

pub edges_length-returns-clause-below : goal.edges_length-returns-clause-below
edges_length-returns-clause-below t c =
    let edges = c.deref-edge-items.result.now in
    let same : c.args.list.now ≡ edge_rows edges = sym c.list.view_is ∙ ap edge_rows (sym c.deref-edge-items.ensures.value) in
    subst AreBelow (sym same) (edges_below edges)

pub rows_length-overflow_add-result : goal.rows_length-overflow_add-result
rows_length-overflow_add-result t c =
    let light = node_light c.args.tree.now c.in-Node.list c.in-Node.is c.requires.weight in
    omega (arith, light, c.edges_length.ensures.length)
