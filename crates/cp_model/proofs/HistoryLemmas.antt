-- Histories: their replay, what makes one legal, and the log of their commits.
use Rattle.std.specs.Prelude.{ℕ, ◌+◌, List, [], ◌∷◌, length}
use Rattle.cp_model.specs.declared.kind.Kind.{Kind}
use Rattle.cp_model.specs.declared.kind.Kind.TheVariants as kind
use Rattle.cp_model.specs.declared.op.Op.{Op}
use Rattle.cp_model.specs.declared.stamp.Stamp.{Stamp}
use Rattle.cp_model.specs.declared.answer.LogLine.{LogLine}
use Rattle.cp_model.specs.History.{Entry, start, load, commit, steps_of}

-- ---- log

-- a commit of these operations, the last Tid before it being now
abbrev pub log_line : Kind → ℕ → Stamp → List Op → LogLine
log_line k now stamp ops =
    record { low = now + 1; high = now + length (steps_of k ops); curator = stamp.curator; moment = stamp.moment; operations = length ops }

-- the commits of entries, from this kind and last Tid on
abbrev pub log_from : Kind → ℕ → List Entry → List LogLine
log_from k now [] = []
log_from k now (start j t ∷ es) = log_from j 0 es
log_from k now (load n t ∷ es) = log_from k now es
log_from k now (commit stamp ops ∷ es) = log_line k now stamp ops ∷ log_from k (now + length (steps_of k ops)) es

-- each commit's first and last Tid, curator, moment and number of operations
abbrev pub log : List Entry → List LogLine
log h = log_from kind.N 0 h
