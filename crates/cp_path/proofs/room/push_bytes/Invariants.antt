use Rattle.std.proofs.Common.{◌≡◌, ◌++◌, take}
use Rattle.cp_path.proofs.room.push_bytes.Given as goal

abbrev pub invariant-loop-byte : goal.invariant-loop-byte
invariant-loop-byte l = l.all.items ≡ l.initial.all.items ++ take l.byte-index l.bytes
