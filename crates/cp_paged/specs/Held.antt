-- Which rows runs hold of records, in three orders.
use Rattle.std.specs.Prelude.{ℕ, zero, suc, ◌≡◌, ◌<◌, ◌≤◌, ◌^◌, true, List, length, map, Contains, if◌then◌else◌}
use Rattle.std.specs.List.{AllByRecursion, IsDistinct, filter_map, list_all}
use Rattle.std.specs.declared.option.Option.{Option}
use Rattle.std.specs.declared.option.Option.TheVariants.{None, Some}
use Rattle.cp_path.specs.Text.{text_eq}
use Rattle.cp_path.specs.declared.loc.Loc.{Loc}
use Rattle.cp_format.specs.Spelled.{IsSpelled}
use Rattle.cp_model.specs.Changes.{is_between}
use Rattle.cp_model.specs.Place.{Path, at_target, parent}
use Rattle.cp_model.specs.Records.{is_D, mark_by}
use Rattle.cp_model.specs.declared.kind.Kind.{Kind}
use Rattle.cp_model.specs.declared.record.Record.{Record}
use Rattle.cp_page.specs.Cuts.{all_rows}
use Rattle.cp_page.specs.Orders.{by_loser, by_place, by_step, IsLoss}
use Rattle.cp_page.specs.Spelled.{RiseAfter}
use Rattle.cp_page.specs.declared.row.PageRow.{PageRow}
use Rattle.cp_store.specs.Rows.{AreOrdered}
use Rattle.cp_paged.specs.Listing.{is_gone, IsTopmost}
use Rattle.cp_paged.specs.Newest.{mark_of_row}

-- the row of the place that lost a child in a step, where that place didn't go in the step itself
abbrev pub loser_at : List Record → ℕ → Option Path → Option PageRow
loser_at rs t None = None
loser_at rs t (Some p) = if is_gone (mark_of_row rs p t) then None else Some (by_loser (at_target p, t))

-- the row of the place above that of a record which says that its place is gone
abbrev pub loser_row : List Record → Record → Option PageRow
loser_row rs r = if is_D (mark_by r.op r.src) then loser_at rs r.tid (parent r.loc.path) else None

-- the rows of records by place, by step, and by the place that lost a child; of the last, one may stand there for several records
abbrev pub rows_in_order : ℕ → List Record → List PageRow
rows_in_order zero rs = map by_place rs
rows_in_order (suc zero) rs = map by_step rs
rows_in_order (suc (suc o)) rs = filter_map (loser_row rs) rs

-- these are the rows that are wanted, and no two of them have the same key
pub record HasEachOnce (stored wanted : List PageRow) : Type 0 where
  pub once : IsDistinct text_eq (map (λ r. r.key) stored)
  pub no_other : (r : PageRow) → Contains stored r → Contains wanted r
  pub each : (r : PageRow) → Contains wanted r → Contains stored r

-- records in order, of steps from the first to upto, each with a spelling; no place goes together with one above it where rows of
-- places below are inferred, and T never goes
pub record AreHeldRows (k : Kind) (upto : ℕ) (rs : List Record) : Type 0 where
  pub rise : AreOrdered rs
  pub between : list_all (is_between 0 upto) rs ≡ true
  pub spelled : AllByRecursion IsSpelled rs
  pub topmost : IsTopmost k rs
  pub fits : upto < 2 ^ 64

-- the rows that runs have in the three orders are those of these records, each once
pub record PagesHold (k : Kind) (upto : ℕ) (stored : ℕ → List PageRow) (rs : List Record) : Type 0 where
  pub held : AreHeldRows k upto rs
  pub each : (o : ℕ) → o ≤ 2 → HasEachOnce (stored o) (rows_in_order o rs)

-- ---- what a run is spelled as, whichever rows it holds

-- the row is that of a record, or of a loss, as the order has it
abbrev pub IsOfOrder : ℕ → PageRow → Type 0
IsOfOrder zero row = (r : Record) × IsSpelled r × (by_place r ≡ row)
IsOfOrder (suc zero) row = (r : Record) × IsSpelled r × (by_step r ≡ row)
IsOfOrder (suc (suc o)) row = (l : Loc × ℕ) × IsLoss l × (by_loser l ≡ row)

-- each page has a row at least, keys rise from the first row to the last, and each row is of the order
pub record IsSpelledRun (o : ℕ) (pages : List (List PageRow)) : Type 0 where
  pub some : AllByRecursion (λ rows. 0 < length rows) pages
  pub rise : RiseAfter None (all_rows pages)
  pub fit : AllByRecursion (IsOfOrder o) (all_rows pages)

-- each of the runs, given with its order and the rows of its pages, is spelled so
abbrev pub AreSpelled : List (ℕ × List (List PageRow)) → Type 0
AreSpelled runs = AllByRecursion (λ r. IsSpelledRun r.0 r.1) runs
