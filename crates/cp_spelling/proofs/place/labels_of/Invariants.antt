use Rattle.std.proofs.Common.{◌≡◌, take, false}
use Rattle.cp_spelling.specs.Reading.{any_long}
use Rattle.cp_spelling.proofs.place.labels_of.Given as goal

abbrev pub invariant-loop-piece : goal.invariant-loop-piece
invariant-loop-piece l = record {
  same : l.labels.items ≡ take l.piece-index l.pieces;
  short : any_long (take l.piece-index l.pieces) ≡ false;
}
