-- The records of a history as the rows of its steps.
use Rattle.std.specs.Prelude.{ℕ, ◌==◌, Bool, true, false, ◌&&◌, List, if◌then◌else◌}
use Rattle.std.specs.List.{filter_map, list_any}
use Rattle.std.specs.declared.option.Option.{Option}
use Rattle.std.specs.declared.option.Option.TheVariants.{None, Some}
use Rattle.cp_path.specs.declared.loc.Loc.{Loc}
use Rattle.cp_model.specs.declared.kind.Kind.{Kind}
use Rattle.cp_model.specs.declared.record.Record.{Record}
use Rattle.cp_model.specs.declared.record.RecOp.{RecOp}
use Rattle.cp_model.specs.declared.record.RecOp.TheVariants as op
use Rattle.cp_model.specs.Place.{Path}
use Rattle.cp_model.specs.Keyed.{look}
use Rattle.cp_model.specs.Past.{is_child}
use Rattle.cp_model.specs.Rows.{Reading, Mark, I, C, D, K}
use Rattle.cp_model.specs.History.{read_rows}

-- the row says that the place is gone
abbrev pub is_D : Mark → Bool
is_D I = false
is_D (C q) = false
is_D D = true
is_D K = false

-- the row by a record's letter and source
abbrev pub mark_by : RecOp → Option Loc → Mark
mark_by op.I q = I
mark_by op.C None = K
mark_by op.C (Some q) = C q
mark_by op.D q = D
mark_by op.K q = K

-- the record as a row, if it is of step t
abbrev pub row_in_step : ℕ → Record → Option (Path × Mark)
row_in_step t r = if r.tid == t then Some (r.loc.path, mark_by r.op r.src) else None

-- the rows of step t among the records
unfoldable pub rows_at : List Record → ℕ → List (Path × Mark)
rows_at rs t = filter_map (row_in_step t) rs

-- what the records say that step t did to each place
abbrev pub reads : Kind → List Record → ℕ → Path → Reading
reads k rs t p = read_rows k (λ r. look r (rows_at rs t)) p

-- the records say that in step t a child of p is gone
abbrev pub loses : List Record → ℕ → Path → Bool
loses rs t p = list_any (λ r. is_child p r.0 && is_D r.1) (rows_at rs t)
