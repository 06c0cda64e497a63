use Rattle.std.specs.Prelude.{◌≡◌, ◌++◌, length}
use Rattle.cp_db.proofs.archive.append.Given as goal

-- what is there and what is left are what was there and what is appended
abbrev pub invariant-loop-record : goal.invariant-loop-record
invariant-loop-record l = l.initial.rows ++ l.more ≡ l.rows ++ l.rest

abbrev pub decreases-loop-record : goal.decreases-loop-record
decreases-loop-record l = length l.rest
