use Rattle.cp_path.specs.declared.limits.TheConstants.{LABELS_MAX, LOC_MAX}
use Rattle.std.proofs.Common.{◌+◌}
use Rattle.cp_tree_box.proofs.Changes.{none_counted}
use Rattle.cp_tree_box.proofs.Wrapping.{single_tree, single_near, single_room, single_tallied}
use Rattle.cp_tree_box.proofs.tree.BoxTreeTreeRep.single.Goals as goal

pub add-requires-clause-near : goal.add-requires-clause-near
add-requires-clause-near c = single_near _ _ c.requires.text c.number_range.ensures c.in_ok-copy_content.ensures _ c.leaf-root.ensures.tree _ c.root-2.ensures

pub add-requires-clause-room : goal.add-requires-clause-room
add-requires-clause-room c =
    let n = c.in_ok-tally.ensures in
    single_room _ _ c.requires.text c.number_range.ensures c.in_ok-copy_content.ensures _ c.leaf-root.ensures.tree c.in_ok-tally.tally c.root-2.result c.root-2.ensures (none_counted c.in_ok-tally.tally (LABELS_MAX + 1) LOC_MAX n.places n.weight n.depths n.sizes)

pub invariant_of-result : goal.invariant_of-result
invariant_of-result c =
    let n = c.in_ok-tally.ensures in
    record {
      tree = single_tree _ _ c.requires.text c.number_range.ensures c.in_ok-copy_content.ensures _ c.leaf-root.ensures.tree;
      tallied = single_tallied _ _ c.requires.text c.number_range.ensures c.in_ok-copy_content.ensures _ c.leaf-root.ensures.tree c.in_ok-tally.tally c.root-2.result c.root-2.ensures (none_counted c.in_ok-tally.tally (LABELS_MAX + 1) LOC_MAX n.places n.weight n.depths n.sizes) c.add.new.self c.add.ensures;
    }
