use Rattle.std.proofs.Common.{◌-◌, ◌++◌, length, take, drop, ap, ◌∙◌}
use Rattle.std.proofs.lemmas.List.{take_rest}
use Rattle.cp_path.proofs.Held.{held_fits, first_fits, others_fit, held_both, room_made, room_holds}
use Rattle.cp_path.proofs.room.LocRoom.set.Goals as goal

pub push_labels-requires-clause-size : goal.push_labels-requires-clause-size
push_labels-requires-clause-size c = first_fits c.args.to.now.path (drop c.args.skip c.args.path.now) c.labels.result.now c.clear-3.new.self.items c.labels.ensures.labels c.clear-3.ensures (held_fits c.args.to.now.db c.args.to.now.path (drop c.args.skip c.args.path.now) c.requires.fits)

pub push_labels-requires-2-clause-size : goal.push_labels-requires-2-clause-size
push_labels-requires-2-clause-size c = others_fit c.args.to.now.path (drop c.args.skip c.args.path.now) c.labels.result.now (take (length c.labels-2.result.now - c.args.skip) (drop c.args.skip c.labels-2.result.now)) c.clear-3.new.self.items c.push_labels.new.bytes.items c.labels.ensures.labels (take_rest c.labels-2.result.now c.args.skip ∙ ap (drop c.args.skip) c.labels-2.ensures.labels) c.clear-3.ensures c.push_labels.ensures.bytes (held_fits c.args.to.now.db c.args.to.now.path (drop c.args.skip c.args.path.now) c.requires.fits)

pub invariant_of-self : goal.invariant_of-self
invariant_of-self c =
    let held = held_both c.labels.result.now (take (length c.labels-2.result.now - c.args.skip) (drop c.args.skip c.labels-2.result.now)) c.args.to.now.path (drop c.args.skip c.args.path.now) c.clear-2.new.self.items c.push_labels.new.lengths.items c.push_labels-2.new.lengths.items c.clear-3.new.self.items c.push_labels.new.bytes.items c.push_labels-2.new.bytes.items c.labels.ensures.labels (take_rest c.labels-2.result.now c.args.skip ∙ ap (drop c.args.skip) c.labels-2.ensures.labels) c.clear-2.ensures c.clear-3.ensures c.push_labels.ensures.lengths c.push_labels-2.ensures.lengths c.push_labels.ensures.bytes c.push_labels-2.ensures.bytes c.push_labels.ensures.texts c.push_labels-2.ensures.texts in
    room_made c.push_str.new.self.bytes c.args.to.now.db c.push_labels-2.new.lengths.items c.push_labels-2.new.bytes.items (c.args.to.now.path ++ (drop c.args.skip c.args.path.now)) (c.push_str.ensures.bytes ∙ ap (λ v. v ++ c.as_str.result.now) c.clear.ensures ∙ c.as_str.ensures.text) held c.as_str.ensures.name

pub returns : goal.returns
returns c =
    let held = held_both c.labels.result.now (take (length c.labels-2.result.now - c.args.skip) (drop c.args.skip c.labels-2.result.now)) c.args.to.now.path (drop c.args.skip c.args.path.now) c.clear-2.new.self.items c.push_labels.new.lengths.items c.push_labels-2.new.lengths.items c.clear-3.new.self.items c.push_labels.new.bytes.items c.push_labels-2.new.bytes.items c.labels.ensures.labels (take_rest c.labels-2.result.now c.args.skip ∙ ap (drop c.args.skip) c.labels-2.ensures.labels) c.clear-2.ensures c.clear-3.ensures c.push_labels.ensures.lengths c.push_labels-2.ensures.lengths c.push_labels.ensures.bytes c.push_labels-2.ensures.bytes c.push_labels.ensures.texts c.push_labels-2.ensures.texts in
    room_holds c.push_str.new.self.bytes c.args.to.now.db c.push_labels-2.new.lengths.items c.push_labels-2.new.bytes.items (c.args.to.now.path ++ (drop c.args.skip c.args.path.now)) (c.push_str.ensures.bytes ∙ ap (λ v. v ++ c.as_str.result.now) c.clear.ensures ∙ c.as_str.ensures.text) held
