use Rattle.std.proofs.Common.{◌≡◌, ◌++◌, drop}
use Rattle.std.specs.List.{flat_map}
use Rattle.cp_archive.specs.Differences.{differences_at}
use Rattle.cp_archive.proofs.difference.differences.Given as goal

-- what is found and what the places to come give is what all give
abbrev pub invariant-loop-one : goal.invariant-loop-one
invariant-loop-one l = l.found.items ++ flat_map differences_at (drop l.one-index l.touched) ≡ flat_map differences_at l.touched
