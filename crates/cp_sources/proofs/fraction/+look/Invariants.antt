use Rattle.std.proofs.Common.{◌≡◌, drop}
use Rattle.serde_json.specs.View.{items_view, members_view}
use Rattle.cp_model.specs.Place.{child}
use Rattle.cp_sources.specs.Growing.{with_place, IsWithinLimits}
use Rattle.cp_sources.specs.Walks.{walk_items, walk_members, NeedsItems, NeedsMembers}
use Rattle.cp_sources.proofs.fraction.+look.Given as goal

abbrev pub invariant-look_at_items-loop-item : goal.invariant-look_at_items-loop-item
invariant-look_at_items-loop-item l =
    let left = items_view (drop l.item-index l.item-items) in
    record {
      counted : l.i ≡ l.item-index;
      near : NeedsItems child with_place IsWithinLimits l.at l.item-index left l.first;
      first : walk_items child with_place l.at l.item-index left l.first ≡ walk_items child with_place l.at 0 (items_view l.item-items) l.initial.first;
    }

abbrev pub invariant-look_at_members-loop-key : goal.invariant-look_at_members-loop-key
invariant-look_at_members-loop-key l =
    let left = members_view l.key-iterator in
    record {
      near : NeedsMembers child with_place IsWithinLimits l.at left l.first;
      first : walk_members child with_place l.at left l.first ≡ walk_members child with_place l.at (members_view l.members.entries) l.initial.first;
    }
