use Rattle.std.proofs.Common.{rules, ◌≡◌, ◌-◌, ◌+◌, ◌++◌, ℕ, List, [], codes, string_bytes, OnOk, sym, ap, ◌∙◌, subst, append-nil, arith}
use Rattle.cp_model.specs.Trees.{between, tree_at}
use Rattle.cp_reply.specs.Runs.{all_seen, edge_texts}
use Rattle.cp_reply.proofs.Runs.{pending, pending_first, edge_step, edges_end, no_rows, leaf_row, node_row, node_put, last_put}
use Rattle.cp_reply.proofs.tree.+level.Goals as goal

pub push_edges-loop-run-preserved : goal.push_edges-loop-run-preserved
push_edges-loop-run-preserved t c =
    let level : 65 - (c.args.depth + 1) ≡ 64 - c.args.depth = omega arith in
    let put = edge_step (64 - c.args.depth) (65 - (c.args.depth + 1)) c.args.depth c.in-Some.run'.label.now c.loop-run.rest.now c.in-Some.run'.rows.now c.in-Some.run'.after.now
    c.loop-run.separator.now (string_bytes c.loop-run.text) (string_bytes c.push_label.new.text) (string_bytes c.args.text.now ++ pending [] (edge_texts (64 - c.args.depth) (all_seen c.args.depth c.args.rows.now)))
    (string_bytes c.push_tree.new.text) level c.in-Some.ensures.some c.loop-run.invariant.put c.in_ok-push_label.ensures c.in_ok-push_tree.ensures in
    record { utf8 = search rules; put = put }

pub push_edges-returns : goal.push_edges-returns
push_edges-returns t c =
    edges_end (64 - c.args.depth) c.args.depth c.loop-run.rest.now c.loop-run.separator.now (string_bytes c.loop-run.text) (string_bytes c.args.text.now ++ pending [] (edge_texts (64 - c.args.depth) (all_seen c.args.depth c.args.rows.now)))
    c.in_default.ensures.none c.loop-run.invariant.put
    ∙ ap (λ w. string_bytes c.args.text.now ++ w) (pending_first (edge_texts (64 - c.args.depth) (all_seen c.args.depth c.args.rows.now)))

pub push_tree-returns-in_default : goal.push_tree-returns-in_default
push_tree-returns-in_default t c =
    sym (append-nil (string_bytes c.args.text.now)) ∙ ap (λ w. string_bytes c.args.text.now ++ w) (sym (no_rows c.args.depth c.args.rows.now c.requires c.in_default.ensures.cases))

pub push_tree-returns-in-Leaf : goal.push_tree-returns-in-Leaf
push_tree-returns-in-Leaf t c =
    subst (λ (w : List ℕ). OnOk c.push_value.result (string_bytes c.push_value.new.text ≡ string_bytes c.args.text.now ++ w))
    (sym (leaf_row c.args.depth c.args.rows.now c.in-Some.root.now c.in-Some.below.now c.in-Leaf.value c.requires c.in-Some.ensures.cases.0 c.in-Leaf.is)) c.push_value.ensures

pub push_tree-returns-in_ok-push_edges-in-Node : goal.push_tree-returns-in_ok-push_edges-in-Node
push_tree-returns-in_ok-push_edges-in-Node t c =
    let tree = node_row c.args.depth c.args.rows.now c.in-Some.root.now c.in-Some.below.now c.requires c.in-Some.ensures.cases.0 c.in-Node.is in
    last_put c.push_str-in-Node.result (string_bytes c.push_str-in-Node.new.self) (string_bytes c.push_edges.new.text) (codes "}")
    (string_bytes c.args.text.now ++ tree_at (65 - c.args.depth) (all_seen c.args.depth c.args.rows.now)) c.push_str-in-Node.ensures.bytes
    (node_put (string_bytes c.args.text.now) (string_bytes c.push_str.new.self) (string_bytes c.push_edges.new.text) (codes "{")
    (between (codes ", ") (edge_texts (64 - c.args.depth) (all_seen c.args.depth c.in-Some.below.now))) (codes "}")
    (tree_at (65 - c.args.depth) (all_seen c.args.depth c.args.rows.now)) c.in_ok-push_str-in-Node.ensures.bytes c.in_ok-push_edges-in-Node.ensures tree)
