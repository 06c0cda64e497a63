use Rattle.std.proofs.Common.{◌≡◌, drop}
use Rattle.serde_json.specs.View.{items_view, members_view}
use Rattle.cp_model.specs.Place.{child}
use Rattle.cp_sources.specs.Growing.{with_leaf, CanPut}
use Rattle.cp_sources.specs.Walks.{walk_items, walk_members, NeedsItems, NeedsMembers}
use Rattle.cp_sources.proofs.build.+grow.Given as goal

abbrev pub invariant-add_items-loop-item : goal.invariant-add_items-loop-item
invariant-add_items-loop-item g l =
    let left = items_view (drop l.item-index l.item-items) in
    record {
      counted : l.i ≡ l.item-index;
      room : NeedsItems child with_leaf CanPut l.at l.item-index left (g.R.TreeRep.contents l.tree);
      tree : walk_items child with_leaf l.at l.item-index left (g.R.TreeRep.contents l.tree) ≡ walk_items child with_leaf l.at 0 (items_view l.item-items) (g.R.TreeRep.contents l.initial.tree);
    }

abbrev pub invariant-add_members-loop-key : goal.invariant-add_members-loop-key
invariant-add_members-loop-key g l =
    let left = members_view l.key-iterator in
    record {
      room : NeedsMembers child with_leaf CanPut l.at left (g.R.TreeRep.contents l.tree);
      tree : walk_members child with_leaf l.at left (g.R.TreeRep.contents l.tree) ≡ walk_members child with_leaf l.at (members_view l.members.entries) (g.R.TreeRep.contents l.initial.tree);
    }
