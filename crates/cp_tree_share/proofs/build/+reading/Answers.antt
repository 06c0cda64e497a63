use Rattle.std.proofs.Common.{◌≡◌, ◌+◌, ◌-◌, ◌<◌, [], ◌∷◌, ◌++◌, length, ap, sym, ◌∙◌, subst, refl, arith, rules}
use Rattle.cp_tree_share.proofs.Read.{have_edge, texts_here, shorter_here, next_shorter, one_read, all_read, have_tree, no_root, edge_read, more_entries, have_siblings, good_node, same_entries, node_read, begins_above, none_above}
use Rattle.cp_tree.specs.Branch.{branch}
use Rattle.cp_tree.specs.Good.{IsGood}
use Rattle.cp_tree_share.specs.Reading.{BeginAbove, HaveSiblings, AreTaken}
use Rattle.cp_tree_share.proofs.build.+reading.Goals.{read_edges-in-Some+then-labels-depth, read_edges-in_default}
use Rattle.cp_tree_share.proofs.build.+reading.Goals as goal

pub read_edges-returns : goal.read_edges-returns
read_edges-returns t c =
    let above : BeginAbove c.args.depth c.loop-row.left.now = elim c.match-split_first.branch [
      | read_edges-in-Some+then-labels-depth w ↦ begins_above _ _ w.in-Some.row.now w.in-Some.after.now w.in-Some.ensures.cases.0 (omega (arith, w.if-labels-depth.true, ap length w.labels.ensures.labels))
      | read_edges-in_default w ↦ none_above _ _ w.in_default.ensures.cases
    ] in
    all_read _ _ _ _ _ c.loop-row.invariant above

pub read_edges-loop-row-preserved : goal.read_edges-loop-row-preserved
read_edges-loop-row-preserved t c =
    one_read _ _ _ _ _ c.loop-row.invariant c.in-Some.row.now c.in-Some.after.now c.in-Some.ensures.cases.0 (omega (arith, c.if-labels-depth.false, ap length c.labels.ensures.labels)) c.requires.edges _ _ c.in_ok-left.ensures

pub read_edges-loop-row-smaller : goal.read_edges-loop-row-smaller
read_edges-loop-row-smaller t c =
    let deep : c.args.depth < length c.in-Some.row.now.path = omega (arith, c.if-labels-depth.false, ap length c.labels.ensures.labels) in
    let next = next_shorter _ _ _ _ _ c.loop-row.invariant c.in-Some.row.now c.in-Some.after.now c.in-Some.ensures.cases.0 deep c.requires.edges _ _ c.in_ok-left.ensures in
    let cut : length c.loop-row.left.now ≡ length c.in-Some.after.now + 1 = ap length c.in-Some.ensures.cases.0 ∙ omega arith in
    let less : length c.in_ok-left.left.now < length c.loop-row.left.now = omega (arith, next, cut) in
    less

pub read_edges-read_edge-requires : goal.read_edges-read_edge-requires
read_edges-read_edge-requires t c =
    let deep : c.args.depth < length c.in-Some.row.now.path = omega (arith, c.if-labels-depth.false, ap length c.labels.ensures.labels) in
    let inv = c.loop-row.invariant in
    let cut = c.in-Some.ensures.cases.0 in
    let edge = have_edge _ _ _ _ _ inv c.in-Some.row.now c.in-Some.after.now cut deep c.requires.edges in
    let texts = texts_here _ _ _ _ _ inv c.in-Some.row.now c.in-Some.after.now cut deep in
    let shorter = shorter_here _ _ _ _ _ inv c.in-Some.row.now c.in-Some.after.now cut deep in
    search rules

pub read_edge-read_node-requires : goal.read_edge-read_node-requires
read_edge-read_node-requires t c =
    let tree = have_tree c.args.row.now c.args.rows.now c.labels-labels.result.now c.labels-labels.ensures.labels c.requires.edge in
    search rules

pub read_edge-unreachable-requires : goal.read_edge-unreachable-requires
read_edge-unreachable-requires t c = no_root c.args.row.now c.args.rows.now c.labels-labels.result.now c.labels-labels.ensures.labels c.requires.edge c.in_default.ensures.cases

pub read_edge-returns : goal.read_edge-returns
read_edge-returns t c =
    edge_read c.args.row.now c.args.rows.now c.labels-labels.result.now _ c.in-Some.label.now _ _ _ _ _ _ c.labels-labels.ensures.labels c.in-Some.ensures.cases.0 refl c.in_ok-node.ensures.tree c.in_ok-node.ensures.same_entries (c.in_ok-push.ensures.items ∙ ap (λ z. c.read_node.new.entries.items ++ z ∷ []) c.in_ok-of.ensures)

pub read_node-overflow_sub-len : goal.read_node-overflow_sub-len
read_node-overflow_sub-len t c =
    let more = more_entries _ _ _ c.requires.tree c.args.entries.now.items c.read_edges.new.entries.items _ c.in_ok-left.ensures in
    omega (arith, more, c.len.ensures, c.len-before.ensures)

pub read_node-of_last-requires : goal.read_node-of_last-requires
read_node-of_last-requires t c =
    let n : length c.read_edges.new.entries.items - length c.args.entries.now.items ≡ c.len.result - c.len-before.result = omega (arith, c.len.ensures, c.len-before.ensures) in
    subst (λ z. HaveSiblings z c.read_edges.new.entries.items) n (have_siblings _ _ _ c.requires.tree c.args.entries.now.items c.read_edges.new.entries.items _ c.in_ok-left.ensures)

pub read_node-invariant_of-result : goal.read_node-invariant_of-result
read_node-invariant_of-result t c =
    let n : c.len.result - c.len-before.result ≡ length c.read_edges.new.entries.items - length c.args.entries.now.items = omega (arith, c.len.ensures, c.len-before.ensures) in
    let take = subst (λ z. AreTaken z c.read_edges.new.entries.items c.in_ok-children.children.0 c.of_last.new.entries.items) n c.in_ok-children.ensures.edges in
    subst (λ z. IsGood z c.in_ok-children.children.0) (sym c.in_ok-content.ensures) (good_node _ _ _ c.requires.tree c.args.entries.now.items c.read_edges.new.entries.items _ c.in_ok-left.ensures _ _ take)

pub read_node-returns-clause-tree : goal.read_node-returns-clause-tree
read_node-returns-clause-tree t c =
    let n : c.len.result - c.len-before.result ≡ length c.read_edges.new.entries.items - length c.args.entries.now.items = omega (arith, c.len.ensures, c.len-before.ensures) in
    let take = subst (λ z. AreTaken z c.read_edges.new.entries.items c.in_ok-children.children.0 c.of_last.new.entries.items) n c.in_ok-children.ensures.edges in
    node_read _ _ _ c.requires.tree c.args.entries.now.items c.read_edges.new.entries.items _ c.in_ok-left.ensures _ _ take (branch c.in_ok-content.content c.in_ok-children.children.0) (ap (λ z. branch z c.in_ok-children.children.0) (sym c.in_ok-content.ensures))

pub read_node-returns-clause-same_entries : goal.read_node-returns-clause-same_entries
read_node-returns-clause-same_entries t c =
    let n : c.len.result - c.len-before.result ≡ length c.read_edges.new.entries.items - length c.args.entries.now.items = omega (arith, c.len.ensures, c.len-before.ensures) in
    let take = subst (λ z. AreTaken z c.read_edges.new.entries.items c.in_ok-children.children.0 c.of_last.new.entries.items) n c.in_ok-children.ensures.edges in
    same_entries _ _ _ c.requires.tree c.args.entries.now.items c.read_edges.new.entries.items _ c.in_ok-left.ensures _ _ take
