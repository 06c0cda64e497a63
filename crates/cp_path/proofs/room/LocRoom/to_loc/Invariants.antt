use Rattle.std.proofs.Common.{◌≡◌, drop, length}
use Rattle.cp_path.specs.Room.{labels_in}
use Rattle.cp_path.proofs.Held.{IsLeft}
use Rattle.cp_path.proofs.room.LocRoom.to_loc.Given as goal

abbrev pub invariant-loop-count : goal.invariant-loop-count
invariant-loop-count l = record {
  left : IsLeft (drop l.count-index l.count-items) l.rest l.path (labels_in l.self-inside.lengths.items l.self-inside.bytes.items);
  labels : length l.path ≡ l.count-index;
}
