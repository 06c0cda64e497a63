use Rattle.std.proofs.Common.{◌≡◌, ◌≤◌, take}
use Rattle.cp_model.specs.History.{State}
use Rattle.cp_gen.specs.Summaries.{IsAt, HasAnswered, count_born, count_copies, row_paths}
use Rattle.cp_gen.proofs.summary.count_places.Given as goal

abbrev pub invariant-loop-row : goal.invariant-loop-row
invariant-loop-row g l = record {
  born : (t : State) → IsAt g.R.TreeRep.contents g.S.TreeRep.contents l.initial.db t → l.counts.born ≡ count_born t (row_paths (take l.row-index l.rows));
  copies : (t : State) → IsAt g.R.TreeRep.contents g.S.TreeRep.contents l.initial.db t → l.counts.copies ≡ count_copies t (row_paths (take l.row-index l.rows));
  few : l.counts.born ≤ l.row-index;
  same : HasAnswered g.R.TreeRep.contents g.S.TreeRep.contents l.initial.db l.db;
}
