use Rattle.std.proofs.Common.{◌≡◌, ◌-◌, length, refl, sym, ap, ◌∙◌, subst, None, arith}
use Rattle.cp_format.specs.Contents.{content_format}
use Rattle.cp_format.specs.Faults.{FaultAt}
use Rattle.cp_format.specs.Formats.{ReadsAt}
use Rattle.cp_format.proofs.Faults.{passed_on}
use Rattle.cp_frame.specs.Rooms.{tree_format, children_format}
use Rattle.cp_frame.specs.Reading.{child_format, label_in, label_of_last, HasReadChild}
use Rattle.cp_frame.proofs.TreeReading.{child_label_fault, child_tree_fault, child_read, none_read, still_within, still_allowed, next_child_fault, next_child_read, children_read, content_fault, leaf_read, count_fault, children_fault, children_allowed, node_read}
use Rattle.cp_frame.proofs.tree.+tree.Goals as goal

pub child_at-returns-in_err-label-clause-fault : goal.child_at-returns-in_err-label-clause-fault
child_at-returns-in_err-label-clause-fault t c =
    let elder = label_in c.args.elder in
    let e = c.in_err-label.field-0.0 in
    passed_on (FaultAt (child_format elder c.args.room.now) c.args.bytes.now c.args.at) c.from_residual.result e c.from_residual.ensures
    (child_label_fault elder c.args.room.now c.args.bytes.now c.args.at c.most_bytes.result c.most_bytes.ensures e c.in_err-label.ensures.fault)

pub child_at-tree_at-requires : goal.child_at-tree_at-requires
child_at-tree_at-requires t c =
    let below = c.below-below.ensures c.in_ok-label.label (ap length (sym c.as_str.ensures.text)) in
    (omega (arith, c.decreases, c.requires.level, ap (λ r. r.levels) below), c.in_ok-label.ensures.read.within)

pub child_at-returns-in_err-tree-clause-fault : goal.child_at-returns-in_err-tree-clause-fault
child_at-returns-in_err-tree-clause-fault t c =
    let elder = label_in c.args.elder in
    let e = c.in_err-tree.field-0.0 in
    let below = c.below-below.ensures c.in_ok-label.label (ap length (sym c.as_str.ensures.text)) in
    passed_on (FaultAt (child_format elder c.args.room.now) c.args.bytes.now c.args.at) c.from_residual-in_err-tree.result e c.from_residual-in_err-tree.ensures
    (child_tree_fault elder c.args.room.now c.args.bytes.now c.args.at c.most_bytes.result c.most_bytes.ensures c.in_ok-label.label c.in_ok-label.at c.in_ok-label.ensures.read c.below-below.result below e c.in_err-tree.ensures.fault)

pub child_at-returns-clause-read : goal.child_at-returns-clause-read
child_at-returns-clause-read t c =
    let below = c.below-below.ensures c.in_ok-label.label (ap length (sym c.as_str.ensures.text)) in
    child_read (label_in c.args.elder) c.args.room.now c.args.bytes.now c.args.at c.most_bytes.result c.most_bytes.ensures c.in_ok-label.label c.in_ok-label.at c.in_ok-label.ensures.read c.below-below.result below
    c.in_ok-tree.tree c.in_ok-tree.at c.tree_at.new.room _ c.in_ok-tree.ensures.read refl

pub children_at-loop-init : goal.children_at-loop-init
children_at-loop-init t c = record {
  read = none_read c.args.bytes.now c.args.at c.args.count c.args.room.now c.new-items.result.items c.new-items.ensures.items c.requires.at (λ lt. (c.requires.level lt, c.requires.size lt));
  levels = refl;
}

pub children_at-child_at-requires : goal.children_at-child_at-requires
children_at-child_at-requires t c =
    let read = c.loop.invariant.read in
    let some = still_allowed c.args.bytes.now c.args.at c.args.count c.args.room.now c.loop.counter c.loop.items.items c.loop.next c.loop.room read c.loop-test.true in
    (omega (arith, c.decreases, c.loop.invariant.levels), (still_within c.args.bytes.now c.args.at c.args.count c.args.room.now c.loop.counter c.loop.items.items c.loop.next c.loop.room read, (some.0, some.1)))

pub children_at-returns-in_err-edge-clause-fault : goal.children_at-returns-in_err-edge-clause-fault
children_at-returns-in_err-edge-clause-fault t c =
    let e = c.in_err-edge.field-0.0 in
    let elder : label_in c.last_label.result ≡ label_of_last c.loop.items.items = c.last_label.ensures ∙ ap label_of_last c.deref.ensures.value in
    passed_on (FaultAt (children_format c.args.count None c.args.room.now) c.args.bytes.now c.args.at) c.from_residual.result e c.from_residual.ensures
    (next_child_fault c.args.bytes.now c.args.at c.args.count c.args.room.now c.loop.counter c.loop.items.items c.loop.next c.loop.room c.loop.invariant.read c.loop-test.true e
    (subst (λ o. FaultAt (child_format o c.loop.room) c.args.bytes.now c.loop.next e) elder c.in_err-edge.ensures.fault))

pub children_at-loop-preserved : goal.children_at-loop-preserved
children_at-loop-preserved t c =
    let elder : label_in c.last_label.result ≡ label_of_last c.loop.items.items = c.last_label.ensures ∙ ap label_of_last c.deref.ensures.value in
    let child = subst (λ o. HasReadChild o c.loop.room c.args.bytes.now c.loop.next c.in_ok-edge.edge c.in_ok-edge.behind c.child_at.new.room) elder c.in_ok-edge.ensures.read in
    record {
      read =
          next_child_read c.args.bytes.now c.args.at c.args.count c.args.room.now c.loop.counter c.loop.items.items c.loop.next c.loop.room c.loop.invariant.read c.loop-test.true
          c.in_ok-edge.edge c.in_ok-edge.behind c.push.new.self.items c.child_at.new.room child c.in_ok-push.ensures.items;
      levels = ap (λ r. r.levels) child.left ∙ c.loop.invariant.levels;
    }

pub children_at-returns-clause-read : goal.children_at-returns-clause-read
children_at-returns-clause-read t c =
    children_read c.args.bytes.now c.args.at c.args.count c.args.room.now c.loop.counter c.loop.items.items c.loop.next c.loop.room c.loop.invariant.read c.loop-test.false _ refl

pub tree_at-returns-in_err-content-clause-fault : goal.tree_at-returns-in_err-content-clause-fault
tree_at-returns-in_err-content-clause-fault t c =
    let e = c.in_err-content.field-0.0 in
    passed_on (FaultAt (tree_format c.args.room.now) c.args.bytes.now c.args.at) c.from_residual.result e c.from_residual.ensures
    (content_fault c.args.room.now c.args.bytes.now c.args.at e c.in_err-content.ensures.fault)

pub tree_at-returns-in_err-count-in-Node-clause-fault : goal.tree_at-returns-in_err-count-in-Node-clause-fault
tree_at-returns-in_err-count-in-Node-clause-fault t c =
    let e = c.in_err-count-in-Node.field-0.0 in
    let r = c.args.room.now in
    let content = subst (λ x. ReadsAt (content_format r.weight) c.args.bytes.now c.args.at x c.in_ok-content.at) c.in-Node.is c.in_ok-content.ensures.read in
    passed_on (FaultAt (tree_format r) c.args.bytes.now c.args.at) c.from_residual-in_err-count-in-Node.result e c.from_residual-in_err-count-in-Node.ensures
    (count_fault r c.args.bytes.now c.args.at c.in_ok-content.at content c.most_children.result c.most_children.ensures e c.in_err-count-in-Node.ensures.fault)

pub tree_at-children_at-requires : goal.tree_at-children_at-requires
tree_at-children_at-requires t c =
    let r = c.args.room.now in
    let content = subst (λ x. ReadsAt (content_format r.weight) c.args.bytes.now c.args.at x c.in_ok-content.at) c.in-Node.is c.in_ok-content.ensures.read in
    let some = children_allowed r c.args.bytes.now c.args.at c.in_ok-content.at content c.most_children.result c.most_children.ensures c.in_ok-count-in-Node.count c.in_ok-count-in-Node.at c.in_ok-count-in-Node.ensures.read c.announce.new.self c.announce.ensures in
    (omega (arith, c.decreases, ap (λ s. s.levels) c.announce.ensures), (c.in_ok-count-in-Node.ensures.read.within, ((λ lt. (some lt).0), (λ lt. (some lt).1))))

pub tree_at-returns-in_err-list-in-Node-clause-fault : goal.tree_at-returns-in_err-list-in-Node-clause-fault
tree_at-returns-in_err-list-in-Node-clause-fault t c =
    let e = c.in_err-list-in-Node.field-0.0 in
    let r = c.args.room.now in
    let content = subst (λ x. ReadsAt (content_format r.weight) c.args.bytes.now c.args.at x c.in_ok-content.at) c.in-Node.is c.in_ok-content.ensures.read in
    passed_on (FaultAt (tree_format r) c.args.bytes.now c.args.at) c.from_residual-in_err-list-in-Node.result e c.from_residual-in_err-list-in-Node.ensures
    (children_fault r c.args.bytes.now c.args.at c.in_ok-content.at content c.most_children.result c.most_children.ensures c.in_ok-count-in-Node.count c.in_ok-count-in-Node.at c.in_ok-count-in-Node.ensures.read c.announce.new.self c.announce.ensures e c.in_err-list-in-Node.ensures.fault)

pub tree_at-returns-in-Leaf-clause-read : goal.tree_at-returns-in-Leaf-clause-read
tree_at-returns-in-Leaf-clause-read t c =
    let r = c.args.room.now in
    let content = subst (λ x. ReadsAt (content_format r.weight) c.args.bytes.now c.args.at x c.in_ok-content.at) c.in-Leaf.is c.in_ok-content.ensures.read in
    leaf_read r c.args.bytes.now c.args.at c.in-Leaf.value c.in_ok-content.at _ content (ap (λ n. record r { weight = r.weight - n }) c.text_len.ensures)

pub tree_at-returns-in_ok-list-in-Node-clause-read : goal.tree_at-returns-in_ok-list-in-Node-clause-read
tree_at-returns-in_ok-list-in-Node-clause-read t c =
    let r = c.args.room.now in
    let content = subst (λ x. ReadsAt (content_format r.weight) c.args.bytes.now c.args.at x c.in_ok-content.at) c.in-Node.is c.in_ok-content.ensures.read in
    node_read r c.args.bytes.now c.args.at c.in_ok-content.at content c.most_children.result c.most_children.ensures c.in_ok-count-in-Node.count c.in_ok-count-in-Node.at c.in_ok-count-in-Node.ensures.read c.announce.new.self c.announce.ensures
    c.in_ok-list-in-Node.list c.in_ok-list-in-Node.at c.children_at.new.room c.in_ok-list-in-Node.ensures.read
