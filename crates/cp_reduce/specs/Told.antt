-- What the reduced records of a step tell of each place.
use Rattle.std.specs.Prelude.{Bool, ◌&&◌, List, map, if◌then◌else◌}
use Rattle.std.proofs.Common.{T}
use Rattle.std.specs.List.{list_any}
use Rattle.std.specs.declared.option.Option.{Option}
use Rattle.std.specs.declared.option.Option.TheVariants.{None, Some}
use Rattle.std.specs.FinMap.Entries.{is_sorted}
use Rattle.cp_path.specs.declared.loc.Loc.{Loc}
use Rattle.cp_model.specs.Place.{Path, path_cmp, over_limit}
use Rattle.cp_model.specs.Keyed.{look}
use Rattle.cp_model.specs.Tree.{Tree}
use Rattle.cp_model.specs.declared.record.Record.{Record}
use Rattle.cp_model.specs.declared.record.RowMark.{RowMark as Mark}
use Rattle.cp_model.specs.declared.record.RowMark.TheVariants.{Copied as C}
use Rattle.cp_model.specs.Rows.{Reading, left, gone, full_mark, read_reduced}
use Rattle.cp_model.specs.Records.{is_D, mark_by}
use Rattle.cp_overlay.specs.Net.{is_within}

-- what a record says of its place
abbrev pub mark_in : Record → Mark
mark_in r = mark_by r.op r.src

-- the records as rows
abbrev pub marks_in : List Record → List (Path × Mark)
marks_in rs = map (λ r. (r.loc.path, mark_in r)) rs

-- the records rise by place
abbrev pub RiseByPlace : List Record → Type 0
RiseByPlace rs = T (is_sorted path_cmp (marks_in rs))

-- what the records say of a place itself
abbrev pub mark_at : List Record → Path → Option Mark
mark_at rs p = look p (marks_in rs)

-- the full row of a place that is left
abbrev pub mark_left : Reading → Option Mark
mark_left (left e) = full_mark e
mark_left gone = None

-- the full row of a place that is left, as the record at its longest prefix tells
unfoldable pub mark_told : List Record → Path → Option Mark
mark_told rs p = mark_left (read_reduced (mark_at rs) p)

-- the row of what is a copy of this place, unless that is over a limit
abbrev pub copy_mark : Loc → Option Mark
copy_mark q = if over_limit q then None else Some (C q)

-- r was at or below a place of which a record says that it is gone
unfoldable pub any_gone : Tree → Path → List Record → Bool
any_gone t r rs = list_any (λ x. is_D (mark_in x) && is_within t x.loc.path r) rs
