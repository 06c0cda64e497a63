use Rattle.std.proofs.Common.{◌≡◌}
use Rattle.std.specs.Prelude.{fold}
use Rattle.cp_query.specs.Rows.{with_next}
use Rattle.cp_query.proofs.listing.add_rising.Given as goal

abbrev pub invariant-loop-row : goal.invariant-loop-row
invariant-loop-row l = l.items.items ≡ fold with_next l.initial.items.items l.yielded
