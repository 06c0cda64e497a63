use Rattle.std.proofs.Common.{◌≡◌, take, Some}
use Rattle.cp_spelling.specs.Scan.{scan_over}
use Rattle.cp_spelling.specs.declared.scan.Spot.TheVariants as spot
use Rattle.cp_spelling.proofs.scan.scan.Given as goal

abbrev pub invariant-loop-at : goal.invariant-loop-at
invariant-loop-at l = scan_over l.fn.deep (spot.Start l.fn.part) (take l.at l.fn.word) ≡ Some l.spot
