use Rattle.std.proofs.Common.{[], ◌++◌, ap, ◌∙◌, refl}
use Rattle.cp_path.specs.Text.{target}
use Rattle.cp_path.proofs.Held.{room_made, room_holds}
use Rattle.cp_path.proofs.room.LocRoom.new.Goals as goal

pub invariant_of-result : goal.invariant_of-result
invariant_of-result c = room_made c.push_str.new.self.bytes target c.new.result.items c.new-2.result.items [] (c.push_str.ensures.bytes ∙ ap (λ v. v ++ target) c.new-name.ensures) (record { lengths = c.new.ensures; bytes = c.new-2.ensures; texts = tt }) refl

pub returns : goal.returns
returns c = room_holds c.push_str.new.self.bytes target c.new.result.items c.new-2.result.items [] (c.push_str.ensures.bytes ∙ ap (λ v. v ++ target) c.new-name.ensures) (record { lengths = c.new.ensures; bytes = c.new-2.ensures; texts = tt })
