use Rattle.std.proofs.Common.{sym, subst, refl}
use Rattle.cp_model.specs.Tree.{IsTree}
use Rattle.cp_tree_box.specs.Tallies.{IsTallyOf}
use Rattle.cp_tree_box.proofs.Wrapping.{spot_of, near_there, near_new, near_cut, swap_room, swap_there, swapped_tally}
use Rattle.cp_tree_box.proofs.tree.BoxTree.swap.Goals as goal

pub below-at-requires : goal.below-at-requires
below-at-requires c = near_there _ c.args.self.now.tree _ c.args.place.now c.args.place.now c.root.ensures refl c.requires.there

pub add-requires-clause-near : goal.add-requires-clause-near
add-requires-clause-near c = near_new c.args.self.now.root c.args.new _ c.args.place.now _ (spot_of _ _ c.args.place.now c.args.place.now c.root.ensures c.below-at.ensures refl) c.requires.fits refl

pub add-requires-clause-room : goal.add-requires-clause-room
add-requires-clause-room c =
    let spot = spot_of _ _ c.args.place.now c.args.place.now c.root.ensures c.below-at.ensures refl in
    rw spot (swap_room c.args.self.now.tally c.args.self.now.root c.args.new c.args.place.now c.args.self.now.tree c.args.self.now.tallied c.requires.fits)

pub subtract-requires-clause-near : goal.subtract-requires-clause-near
subtract-requires-clause-near c = near_cut _ c.args.self.now.tree _ c.args.place.now _ (spot_of _ _ c.args.place.now c.args.place.now c.root.ensures c.below-at.ensures refl) c.swap-old.ensures.back

pub subtract-requires-clause-there : goal.subtract-requires-clause-there
subtract-requires-clause-there c =
    let spot = spot_of _ _ c.args.place.now c.args.place.now c.root.ensures c.below-at.ensures refl in
    let more = rw spot at c.add.ensures in
    rw spot (swap_there c.args.self.now.tally c.args.self.now.root c.args.new c.args.place.now c.args.self.now.tree c.args.self.now.tallied c.requires.fits c.add.new.self c.swap-old.result c.swap-old.ensures.back more)

pub invariant_of-self : goal.invariant_of-self
invariant_of-self c =
    let spot = spot_of _ _ c.args.place.now c.args.place.now c.root.ensures c.below-at.ensures refl in
    let more = rw spot at c.add.ensures in
    let less = rw spot at c.subtract.ensures in
    record {
      tree = subst IsTree (sym c.swap-old.ensures.changed) c.requires.fits;
      tallied = subst (IsTallyOf c.subtract.new.self) (sym c.swap-old.ensures.changed) (swapped_tally c.args.self.now.tally c.args.self.now.root c.args.new c.args.place.now c.args.self.now.tree c.args.self.now.tallied c.requires.fits c.add.new.self c.swap-old.result c.swap-old.ensures.back more c.subtract.new.self less);
    }
