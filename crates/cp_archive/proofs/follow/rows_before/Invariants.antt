use Rattle.std.proofs.Common.{◌≡◌, take, map}
use Rattle.cp_archive.specs.Touching.{touched_before}
use Rattle.cp_archive.proofs.follow.rows_before.Given as goal

-- the first places are listed
abbrev pub invariant-loop-place : goal.invariant-loop-place
invariant-loop-place g l = l.touched.items ≡ map (touched_before (g.R.TreeRep.contents l.tree)) (take l.place-index l.places)
