use Rattle.std.specs.Prelude.{◌≡◌, ◌++◌, filter, length}
use Rattle.cp_model.specs.Laws.{is_upto}
use Rattle.cp_db.proofs.archive.rows_upto.Given as goal

-- what is kept, and those up to the step among what is left
abbrev pub invariant-loop-record : goal.invariant-loop-record
invariant-loop-record l = l.kept ++ filter (is_upto l.tid) l.rest ≡ filter (is_upto l.tid) l.rows

abbrev pub decreases-loop-record : goal.decreases-loop-record
decreases-loop-record l = length l.rest
