use Rattle.std.proofs.Common.{◌≡◌, ◌++◌}
use Rattle.cp_uses.proofs.noting.list_places.Given as goal

abbrev pub invariant-loop-place : goal.invariant-loop-place
invariant-loop-place l = l.items.items ++ l.place-iterator ≡ l.users.keys
