use Rattle.std.proofs.Common.{◌≡◌, map, take}
use Rattle.cp_archive.specs.Touching.{looked_at}
use Rattle.cp_archive.proofs.places.places_of.Given as goal

-- the places so far are those of the first operations
abbrev pub invariant-loop-op : goal.invariant-loop-op
invariant-loop-op l = l.places.items ≡ map looked_at (take l.op-index l.ops)
