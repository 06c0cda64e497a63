use Rattle.std.proofs.Common.{◌≡◌, true, ◌<◌, ◌+◌, ◌∙◌, ap, sym, drop, length, arith, rules}
use Rattle.cp_model.specs.Subtrees.{below, is_there}
use Rattle.cp_model.specs.declared.row.Content.TheVariants.{Node}
use Rattle.cp_tree.specs.Rows.{labels_at}
use Rattle.cp_tree.proofs.Edges.{drop-one}
use Rattle.cp_tree.proofs.Labels.{below-leaf, child_fewer, child_fits, child_there, edge_listed, edges_listed, label_at}
use Rattle.cp_tree.proofs.literal.+subtree.Goals as goal

pub edges_at-child-requires : goal.edges_at-child-requires
edges_at-child-requires g t c =
    let m = g.R.TreeRep.contents c.args.tree.now in
    let i = c.loop-label.label-index in
    let a = c.label-item.result in
    let ls = c.deref-label-items.result.now in
    let split = label_at ls _ (labels_at m c.args.place.now) i a c.deref-label-items.ensures.value c.in_ok-labels.ensures c.loop-label-test.true c.label-item.is in
    record { room = child_fits m c.args.place.now (g.met.R.TreeRep.is_tree c.args.tree.now) i a (drop (i + 1) ls) split }

pub edges_at-literal_at-requires : goal.edges_at-literal_at-requires
edges_at-literal_at-requires g t c κs within =
    let m = g.R.TreeRep.contents c.args.tree.now in
    let i = c.loop-label.label-index in
    let a = c.label-item.result in
    let ls = c.deref-label-items.result.now in
    let split = label_at ls _ (labels_at m c.args.place.now) i a c.deref-label-items.ensures.value c.in_ok-labels.ensures c.loop-label-test.true c.label-item.is in
    let tree = g.met.R.TreeRep.is_tree c.args.tree.now in
    let there : is_there m c.in_ok-child.field-0 ≡ true = ap (is_there m) c.in_ok-child.ensures ∙ child_there m c.args.place.now tree i a (drop (i + 1) ls) split in
    let same = ap (λ p. length (below p m)) c.in_ok-child.ensures in
    let fewer : length (below c.in_ok-child.field-0 m) < length (below c.args.place.now m) = omega (arith, same, child_fewer m c.args.place.now tree i a (drop (i + 1) ls) split Node c.requires.node) in
    search rules

pub edges_at-loop-label-preserved : goal.edges_at-loop-label-preserved
edges_at-loop-label-preserved g t c =
    let m = g.R.TreeRep.contents c.args.tree.now in
    let i = c.loop-label.label-index in
    let a = c.label-item.result in
    let ls = c.deref-label-items.result.now in
    let split = drop-one ls i a c.loop-label-test.true c.label-item.is in
    record {
      so_far = edge_listed m c.args.place.now (g.met.R.TreeRep.is_tree c.args.tree.now) c.loop-label.items.items c.push.new.self.items _ a (drop i ls) (drop (i + 1) ls) _ c.in_ok-push.ensures.items c.in_ok-clone.ensures.cases
          (c.in_ok-below.ensures ∙ ap (λ p. below p m) c.in_ok-child.ensures) split c.loop-label.invariant.so_far;
    }

pub edges_at-returns : goal.edges_at-returns
edges_at-returns g t c =
    edges_listed _ _ (g.met.R.TreeRep.is_tree c.args.tree.now) c.loop-label.items.items c.deref-label-items.result.now c.loop-label.label-index c.requires.node
    (c.deref-label-items.ensures.value ∙ c.in_ok-labels.ensures) (omega (arith, c.loop-label-test.false)) c.loop-label.invariant.so_far

pub literal_at-returns-in-Some-Leaf : goal.literal_at-returns-in-Some-Leaf
literal_at-returns-in-Some-Leaf g t c = sym (below-leaf (g.R.TreeRep.contents c.args.tree.now) c.args.place.now (g.met.R.TreeRep.is_tree c.args.tree.now) c.in-Some-Leaf.value (search rules))
