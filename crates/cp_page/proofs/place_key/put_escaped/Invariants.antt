use Rattle.std.proofs.Common.{◌≡◌, ◌++◌, take}
use Rattle.cp_page.specs.PlaceKeys.{escaped}
use Rattle.cp_page.proofs.place_key.put_escaped.Given as goal

abbrev pub invariant-loop-byte : goal.invariant-loop-byte
invariant-loop-byte l = record { bytes : l.out.items ≡ l.initial.out.items ++ escaped (take l.byte-index l.bytes) }
