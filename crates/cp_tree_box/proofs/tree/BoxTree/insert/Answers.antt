use Rattle.std.proofs.Common.{ap, sym, subst, is_some, refl}
use Rattle.cp_model.specs.Place.{child}
use Rattle.cp_model.specs.Tree.{IsTree}
use Rattle.cp_tree_box.specs.Tallies.{IsTallyOf}
use Rattle.cp_tree.proofs.Answering.{put_there}
use Rattle.cp_tree_box.proofs.Wrapping.{spot_of, spot_child, near_there, near_child, near_new, insert_child, insert_found, insert_room, inserted_tally}
use Rattle.cp_tree_box.proofs.tree.BoxTree.insert.Goals as goal

pub below-requires : goal.below-requires
below-requires c = near_there _ c.args.self.now.tree _ c.args.place.now c.args.place.now c.root.ensures refl (ap is_some c.requires.node)

pub child-at-requires : goal.child-at-requires
child-at-requires c = near_child _ c.requires.fits _ c.args.place.now c.args.label.now (spot_of _ _ c.args.place.now c.args.place.now c.root.ensures c.below.ensures refl) (put_there c.args.self.now.root c.args.new (child c.args.place.now c.args.label.now) c.requires.rooted)

pub add-requires-clause-near : goal.add-requires-clause-near
add-requires-clause-near c =
    let spot = spot_child _ _ c.args.place.now c.args.label.now (spot_of _ _ c.args.place.now c.args.place.now c.root.ensures c.below.ensures refl) c.child-at.ensures in
    near_new c.args.self.now.root c.args.new _ (child c.args.place.now c.args.label.now) _ spot c.requires.fits (insert_child c.insert.new.self c.args.self.now.root c.args.new _ (child c.args.place.now c.args.label.now) c.in_ok-insert.ensures.ok c.in-Some.ensures.there)

pub add-requires-clause-room : goal.add-requires-clause-room
add-requires-clause-room c =
    let spot = spot_child _ _ c.args.place.now c.args.label.now (spot_of _ _ c.args.place.now c.args.place.now c.root.ensures c.below.ensures refl) c.child-at.ensures in
    rw spot (insert_room c.args.self.now.tally c.args.self.now.root c.args.new (child c.args.place.now c.args.label.now) c.args.self.now.tree c.args.self.now.tallied c.requires.fits c.requires.free _ (insert_child c.insert.new.self c.args.self.now.root c.args.new _ (child c.args.place.now c.args.label.now) c.in_ok-insert.ensures.ok c.in-Some.ensures.there))

pub invariant_of-self-in-Some : goal.invariant_of-self-in-Some
invariant_of-self-in-Some c =
    let spot = spot_child _ _ c.args.place.now c.args.label.now (spot_of _ _ c.args.place.now c.args.place.now c.root.ensures c.below.ensures refl) c.child-at.ensures in
    let more = rw spot at c.add.ensures in
    record {
      tree = subst IsTree (sym c.in_ok-insert.ensures.ok) c.requires.fits;
      tallied = subst (IsTallyOf c.add.new.self) (sym c.in_ok-insert.ensures.ok) (inserted_tally c.args.self.now.tally c.args.self.now.root c.args.new (child c.args.place.now c.args.label.now) c.args.self.now.tree c.args.self.now.tallied c.requires.fits c.requires.free _ (insert_child c.insert.new.self c.args.self.now.root c.args.new _ (child c.args.place.now c.args.label.now) c.in_ok-insert.ensures.ok c.in-Some.ensures.there) c.add.new.self more);
    }

pub unreachable-requires : goal.unreachable-requires
unreachable-requires c = insert_found c.insert.new.self c.args.self.now.root c.args.new (child c.args.place.now c.args.label.now) c.in_ok-insert.ensures.ok c.requires.rooted c.in-None.ensures.gone
