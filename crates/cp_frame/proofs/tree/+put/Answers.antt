use Rattle.std.proofs.Common.{◌≡◌, ◌+◌, ◌<◌, ◌^◌, ◌++◌, IsUtf8, length, ap, ◌∙◌, subst, arith}
use Rattle.cp_path.specs.Encoding.{counted_bytes}
use Rattle.cp_model.specs.Literals.{literal_rows, edge_rows}
use Rattle.cp_record.specs.Kept.{IsLabel}
use Rattle.cp_format.proofs.Growing.{after_success}
use Rattle.cp_frame.proofs.Putting.{edges_few, node_count, next_count, next_few, tree_texts, other_texts, grew_more, grew_by, grew_tree, leaf_short, leaf_put, node_put, none_put, next_put}
use Rattle.cp_frame.proofs.tree.+put.Goals as goal

pub put_children-returns-in_err-put_counted-clause-err : goal.put_children-returns-in_err-put_counted-clause-err
put_children-returns-in_err-put_counted-clause-err t c = grew_more _ _ _ c.loop-edge.invariant.grew c.put_counted.ensures.err

pub put_children-put_tree-requires : goal.put_children-put_tree-requires
put_children-put_tree-requires t c =
    let edges = c.args.edges.now in
    let few = next_few edges c.loop-edge.edge-index c.edge-item.result c.loop-edge-test.true c.edge-item.is in
    let count = next_count edges c.loop-edge.edge-index c.edge-item.result c.loop-edge-test.true c.edge-item.is in
    let texts = tree_texts edges c.loop-edge.edge-index c.edge-item.result c.loop-edge-test.true c.edge-item.is c.loop-edge.invariant.texts in
    (omega (arith, few, c.decreases), (texts, omega (arith, count, c.loop-edge.invariant.few)))

pub put_children-returns-in_err-put_tree-clause-err : goal.put_children-returns-in_err-put_tree-clause-err
put_children-returns-in_err-put_tree-clause-err t c =
    grew_more _ _ _ c.loop-edge.invariant.grew (grew_more _ _ _ (grew_by _ _ (counted_bytes c.as_bytes.result.now) c.in_ok-put_counted.ensures.ok) c.in_err-put_tree.ensures.err)

pub put_children-loop-edge-preserved : goal.put_children-loop-edge-preserved
put_children-loop-edge-preserved t c =
    let edges = c.args.edges.now in
    let i = c.loop-edge.edge-index in
    let e = c.edge-item.result in
    let out = c.loop-edge.out.items in
    let front = c.put_counted.new.out.items in
    let same : c.as_bytes.result.now ≡ e.label = c.as_bytes.ensures.value ∙ c.as_str.ensures.text in
    let label : IsLabel e.label = record { text = subst IsUtf8 c.as_str.ensures.text c.as_str.utf8; short = omega (arith, c.as_str.ensures.short, ap length c.as_str.ensures.text) } in
    let head : front ≡ out ++ counted_bytes e.label = c.in_ok-put_counted.ensures.ok ∙ ap (λ a. out ++ counted_bytes a) same in
    let tree = c.in_ok-put_tree.ensures.ok in
    record {
      so_far = λ new q. c.loop-edge.invariant.so_far new (next_put edges i e out front c.put_tree.new.out.items new c.loop-edge-test.true c.edge-item.is label head tree q);
      grew = grew_more _ _ _ c.loop-edge.invariant.grew (grew_more _ _ _ (grew_by _ _ (counted_bytes e.label) head) (grew_tree e.tree front c.put_tree.new.out.items tree));
      texts = other_texts edges i e c.loop-edge-test.true c.edge-item.is c.loop-edge.invariant.texts;
      few = omega (arith, next_count edges i e c.loop-edge-test.true c.edge-item.is, c.loop-edge.invariant.few);
    }

pub put_children-returns-clause-ok : goal.put_children-returns-clause-ok
put_children-returns-clause-ok t c = c.loop-edge.invariant.so_far _ (none_put c.args.edges.now c.loop-edge.edge-index _ c.loop-edge-test.false)

pub put_tree-put_number-requires : goal.put_tree-put_number-requires
put_tree-put_number-requires t c =
    let rows : length (literal_rows c.args.tree.now) ≡ 1 + length c.in-Node.list = node_count c.args.tree.now c.in-Node.list c.in-Node.is in
    omega (arith, c.len.ensures, edges_few c.list.inside.items.items, ap length c.list.view_is, rows, c.requires.few)

pub put_tree-put_leaf-requires : goal.put_tree-put_leaf-requires
put_tree-put_leaf-requires t c = leaf_short c.args.tree.now c.in-Leaf.value c.in-Leaf.is c.requires.texts

pub put_tree-returns-in-Leaf-clause-ok : goal.put_tree-returns-in-Leaf-clause-ok
put_tree-returns-in-Leaf-clause-ok t c =
    after_success c.put_leaf.result (leaf_put c.args.tree.now c.in-Leaf.value c.args.out.now.items c.put_leaf.new.out.items c.in-Leaf.is c.put_leaf.ensures.spelled) c.put_leaf.ensures.ok

pub put_tree-returns-in_ok-put_number-in-Node-clause-ok : goal.put_tree-returns-in_ok-put_number-in-Node-clause-ok
put_tree-returns-in_ok-put_number-in-Node-clause-ok t c =
    let edges = c.deref.result.now in
    let rows : edge_rows edges ≡ c.in-Node.list = ap edge_rows c.deref.ensures.value ∙ c.list.view_is in
    let number : c.len.result ≡ length edges = omega (arith, c.len.ensures, ap length c.deref.ensures.value) in
    let count : length (literal_rows c.args.tree.now) ≡ 1 + length c.in-Node.list = node_count c.args.tree.now c.in-Node.list c.in-Node.is in
    let few : c.len.result < 2 ^ 32 = omega (arith, number, edges_few edges, ap length rows, count, c.requires.few) in
    after_success c.put_children.result
    (λ p. node_put c.args.tree.now c.in-Node.list edges c.len.result c.args.out.now.items c.put_node.new.out.items c.put_number.new.out.items c.put_children.new.out.items c.in-Node.is rows number few
    c.in_ok-put_node-in-Node.ensures.ok c.in_ok-put_number-in-Node.ensures.ok p)
    c.put_children.ensures.ok
