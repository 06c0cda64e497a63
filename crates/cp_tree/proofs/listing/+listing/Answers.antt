use Rattle.std.proofs.Common.{◌≡◌, ◌+◌, drop, arith, ap, ◌∙◌, refl, rules}
use Rattle.cp_model.specs.Literals.{edge_rows}
use Rattle.cp_model.specs.declared.row.Content.TheVariants.{Leaf}
use Rattle.cp_tree.specs.Rows.{entries_in}
use Rattle.cp_tree.proofs.Edges.{drop-one}
use Rattle.cp_tree.proofs.Listed.{deepest-edge, rows-edge, rows-leaf, rows-end, path-within, rows-node, rows-fewer}
use Rattle.cp_tree.proofs.listing.+listing.Goals as goal

pub list_edges-loop-edge-preserved : goal.list_edges-loop-edge-preserved
list_edges-loop-edge-preserved t c =
    let edges = c.deref-edge-items.result.now in
    let i = c.loop-edge.edge-index in
    let e = c.edge-item.result in
    let split = drop-one edges i e c.loop-edge-test.true c.edge-item.is in
    record {
      so_far = rows-edge c.args.at.now c.in_ok-path.path e (drop (i + 1) edges) (drop i edges) (entries_in c.loop-edge.rows.items) (entries_in c.list_tree.new.rows.items) _ split c.in_ok-path.ensures c.in_ok-list_tree.ensures c.loop-edge.invariant.so_far;
      shallow = omega (arith, deepest-edge e (drop (i + 1) edges) (drop i edges) split, c.loop-edge.invariant.shallow);
    }

pub list_edges-list_tree-requires : goal.list_edges-list_tree-requires
list_edges-list_tree-requires t c =
    let edges = c.deref-edge-items.result.now in
    let i = c.loop-edge.edge-index in
    let e = c.edge-item.result in
    let split = drop-one edges i e c.loop-edge-test.true c.edge-item.is in
    let shallow = path-within c.args.at.now c.in_ok-path.path e (drop (i + 1) edges) (drop i edges) split c.in_ok-path.ensures c.loop-edge.invariant.shallow in
    let all : edge_rows edges ≡ c.args.below.now = ap edge_rows c.deref-edge-items.ensures.value ∙ c.below.view_is in
    let fewer = rows-fewer e (drop (i + 1) edges) edges i c.args.below.now split all in
    search rules

pub list_edges-returns : goal.list_edges-returns
list_edges-returns t c =
    let edges = c.deref-edge-items.result.now in
    let all : edge_rows edges ≡ c.args.below.now = ap edge_rows c.deref-edge-items.ensures.value ∙ c.below.view_is in
    rows-end c.args.at.now edges c.loop-edge.edge-index (entries_in c.loop-edge.rows.items) (entries_in c.args.rows.now.items) c.args.below.now c.loop-edge-test.false all c.loop-edge.invariant.so_far

pub list_tree-returns-in_ok-push-in-Leaf : goal.list_tree-returns-in_ok-push-in-Leaf
list_tree-returns-in_ok-push-in-Leaf t c =
    rw c.in-Leaf.is (rows-leaf c.args.at (Leaf c.in-Leaf.value) c.args.rows.now.items (record { path = c.args.at; content = c.in_ok-content-in-Leaf.content }) c.push.new.self.items c.in_ok-push-in-Leaf.ensures.items refl c.in_ok-content-in-Leaf.ensures)

pub list_tree-returns-in_ok-push-in-Node : goal.list_tree-returns-in_ok-push-in-Node
list_tree-returns-in_ok-push-in-Node t c = rw c.in-Node.is (rows-node c.list_edges.result c.args.at c.args.rows.now.items c.push-in-Node.new.self.items c.list_edges.new.rows.items c.in-Node.below _ c.in_ok-push-in-Node.ensures.items c.in_ok-clone-in-Node.ensures.cases refl c.list_edges.ensures)
