use Rattle.std.proofs.Common.{rules, ◌≡◌, ◌++◌, ◌∷◌, suc, codes, string_bytes, drop, sym, ap, ◌∙◌, add-one}
use Rattle.std.proofs.Math.Seq.{drop-cons}
use Rattle.std.proofs.lemmas.List.{drop_all}
use Rattle.cp_model.specs.Literals.{edge_rows}
use Rattle.cp_lang.proofs.Printing.{written_more, written_all, written_node, written_leaf, on_ok, on_ok_bytes}
use Rattle.cp_lang.proofs.printer.+tree.Goals as goal

pub push_edges-loop-edge-preserved : goal.push_edges-loop-edge-preserved
push_edges-loop-edge-preserved t c =
    let edges = c.deref-edge-items.result.now in
    let i = c.loop-edge.edge-index in
    record {
      text = search rules;
      written = written_more edges i c.edge-item.result c.loop-edge.separator.now (string_bytes c.loop-edge.out) (string_bytes c.push_str.new.self) (string_bytes c.push_edge.new.out) (string_bytes c.args.out.now)
          (drop-cons edges i c.edge-item.result c.loop-edge-test.true ∙ ap (λ e. e ∷ drop (suc i) edges) (sym c.edge-item.is) ∙ ap (λ k. c.edge-item.result ∷ drop k edges) (sym (add-one i)))
          c.loop-edge.invariant.written c.in_ok-push_str.ensures.bytes c.in_ok-push_edge.ensures;
    }

pub push_edges-returns : goal.push_edges-returns
push_edges-returns t c =
    let edges = c.deref-edge-items.result.now in
    let same : c.args.list.now ≡ edge_rows edges = sym c.list.view_is ∙ ap edge_rows (sym c.deref-edge-items.ensures.value) in
    written_all edges c.args.list.now c.loop-edge.edge-index c.loop-edge.separator.now (string_bytes c.loop-edge.out) (string_bytes c.args.out.now) same
    (drop_all c.loop-edge.edge-index edges c.loop-edge-test.false) c.loop-edge.invariant.written

pub push_tree-returns-in-Leaf : goal.push_tree-returns-in-Leaf
push_tree-returns-in-Leaf t c =
    on_ok c.push_value.result _ _ (λ h. written_leaf c.args.tree.now c.in-Leaf.value (string_bytes c.args.out.now) (string_bytes c.push_value.new.out) c.in-Leaf.is h) c.push_value.ensures

pub push_tree-returns-in_ok-push_edges-in-Node : goal.push_tree-returns-in_ok-push_edges-in-Node
push_tree-returns-in_ok-push_edges-in-Node t c =
    on_ok_bytes c.push_str-in-Node.result (string_bytes c.push_str-in-Node.new.self) (string_bytes c.push_edges.new.out ++ codes "}") (string_bytes c.push_edges.new.out) _ c.push_str-in-Node.ensures.bytes
    (written_node c.args.tree.now c.in-Node.list (string_bytes c.args.out.now) (string_bytes c.push_str.new.self) (string_bytes c.push_edges.new.out) (string_bytes c.push_str-in-Node.new.self) c.in-Node.is c.in_ok-push_str-in-Node.ensures.bytes c.in_ok-push_edges-in-Node.ensures)
