use Rattle.std.proofs.Common.{◌≡◌, ◌++◌, length}
use Rattle.cp_page.specs.PlaceKeys.{escaped}
use Rattle.cp_page.proofs.place_key.take_label.Given as goal

abbrev pub invariant-loop-byte : goal.invariant-loop-byte
invariant-loop-byte l = record { is : l.bytes ≡ escaped l.label.items ++ l.rest }

abbrev pub decreases-loop-byte : goal.decreases-loop-byte
decreases-loop-byte l = length l.rest
