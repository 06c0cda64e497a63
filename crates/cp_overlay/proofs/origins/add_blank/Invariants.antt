use Rattle.std.proofs.Common.{◌≡◌, ◌++◌, take}
use Rattle.cp_model.specs.Subtrees.{entries_under}
use Rattle.cp_overlay.specs.Shown.{shown, blank}
use Rattle.cp_overlay.proofs.origins.add_blank.Given as goal

abbrev pub invariant-loop-row : goal.invariant-loop-row
invariant-loop-row l = shown l.all.items ≡ shown l.initial.all.items ++ entries_under l.place (blank (shown (take l.row-index l.stale)))
