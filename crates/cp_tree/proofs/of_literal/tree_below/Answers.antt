use Rattle.std.proofs.Common.{◌≡◌, ◌∙◌, ap, arith}
use Rattle.cp_model.specs.Literals.{edge_rows}
use Rattle.cp_tree.proofs.Siblings.{edge_fits, edge_free, edge_literal, edge_parent, edge_put, edges_put, node_alone}
use Rattle.cp_tree.proofs.of_literal.tree_below.Goals as goal

pub loop-edge-init : goal.loop-edge-init
loop-edge-init g c = c.in_ok-tree.ensures ∙ node_alone

pub insert_tree-requires-clause-node : goal.insert_tree-requires-clause-node
insert_tree-requires-clause-node g c =
    let edges = c.deref-edge-items.result.now in
    let all : edge_rows edges ≡ c.args.below.now = ap edge_rows c.deref-edge-items.ensures.value ∙ c.below.view_is in
    edge_parent edges c.args.below.now all c.requires.literal c.requires.tree c.loop-edge.edge-index c.edge-item.result c.loop-edge-test.true c.edge-item.is _ c.loop-edge.invariant _ c.root-root.ensures

pub insert_tree-requires-clause-free : goal.insert_tree-requires-clause-free
insert_tree-requires-clause-free g c =
    let edges = c.deref-edge-items.result.now in
    let all : edge_rows edges ≡ c.args.below.now = ap edge_rows c.deref-edge-items.ensures.value ∙ c.below.view_is in
    edge_free edges c.args.below.now all c.requires.literal c.requires.tree c.loop-edge.edge-index c.edge-item.result c.loop-edge-test.true c.edge-item.is _ c.loop-edge.invariant _ c.root-root.ensures

pub insert_tree-requires-clause-literal : goal.insert_tree-requires-clause-literal
insert_tree-requires-clause-literal g c =
    let edges = c.deref-edge-items.result.now in
    let all : edge_rows edges ≡ c.args.below.now = ap edge_rows c.deref-edge-items.ensures.value ∙ c.below.view_is in
    edge_literal edges c.args.below.now all c.requires.literal c.requires.tree c.loop-edge.edge-index c.edge-item.result c.loop-edge-test.true c.edge-item.is

pub insert_tree-requires-clause-fits : goal.insert_tree-requires-clause-fits
insert_tree-requires-clause-fits g c =
    let edges = c.deref-edge-items.result.now in
    let all : edge_rows edges ≡ c.args.below.now = ap edge_rows c.deref-edge-items.ensures.value ∙ c.below.view_is in
    edge_fits edges c.args.below.now all c.requires.literal c.requires.tree c.loop-edge.edge-index c.edge-item.result c.loop-edge-test.true c.edge-item.is _ c.loop-edge.invariant _ c.root-root.ensures

pub loop-edge-preserved : goal.loop-edge-preserved
loop-edge-preserved g c =
    let edges = c.deref-edge-items.result.now in
    let all : edge_rows edges ≡ c.args.below.now = ap edge_rows c.deref-edge-items.ensures.value ∙ c.below.view_is in
    edge_put edges c.args.below.now all c.requires.literal c.requires.tree c.loop-edge.edge-index c.edge-item.result c.loop-edge-test.true c.edge-item.is _ c.loop-edge.invariant _ c.root-root.ensures _ c.in_ok-insert_tree.ensures.ok

pub returns : goal.returns
returns g c =
    let edges = c.deref-edge-items.result.now in
    let all : edge_rows edges ≡ c.args.below.now = ap edge_rows c.deref-edge-items.ensures.value ∙ c.below.view_is in
    edges_put edges c.args.below.now all c.requires.literal c.requires.tree c.loop-edge.edge-index _ (omega (arith, c.loop-edge-test.false)) c.loop-edge.invariant
