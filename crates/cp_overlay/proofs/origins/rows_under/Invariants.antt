use Rattle.std.proofs.Common.{◌≡◌, ◌++◌}
use Rattle.cp_model.specs.Subtrees.{entries_under}
use Rattle.cp_overlay.specs.Shown.{shown}
use Rattle.cp_overlay.proofs.origins.rows_under.Given as goal

abbrev pub invariant-loop-row : goal.invariant-loop-row
invariant-loop-row l = shown l.all.items ++ entries_under l.place (shown l.row-iterator.rest.items) ≡ entries_under l.place (shown l.fn.rows.items)
