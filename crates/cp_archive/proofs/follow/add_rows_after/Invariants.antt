use Rattle.std.proofs.Common.{◌≡◌, ◌++◌, take, drop, map}
use Rattle.cp_archive.specs.Touching.{with_after}
use Rattle.cp_archive.proofs.follow.add_rows_after.Given as goal

-- the first have their rows
abbrev pub invariant-loop-one : goal.invariant-loop-one
invariant-loop-one g l = l.touched ≡ map (with_after (g.R.TreeRep.contents l.tree)) (take l.one-index l.fn.touched) ++ drop l.one-index l.fn.touched
