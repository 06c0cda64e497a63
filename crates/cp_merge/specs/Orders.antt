-- Rows of old records and of new ones, in each order.
use Rattle.std.specs.Prelude.{ℕ, ◌≡◌, ◌<◌, ◌^◌, true, List, [], ◌∷◌, ◌++◌}
use Rattle.std.specs.List.{list_all}
use Rattle.cp_model.specs.Changes.{is_between}
use Rattle.cp_model.specs.declared.record.Record.{Record}
use Rattle.cp_page.specs.Cuts.{all_rows}
use Rattle.cp_page.specs.declared.row.PageRow.{PageRow}
use Rattle.cp_paged.specs.Held.{rows_in_order, HasEachOnce}
use Rattle.cp_merge.specs.Merging.{IsMerge}

-- the old records are of steps up to this one, the new ones of steps after it, up to the last
pub record AreOldAndNew (upto last : ℕ) (old new : List Record) : Type 0 where
  pub early : list_all (is_between 0 upto) old ≡ true
  pub late : list_all (is_between upto last) new ≡ true
  pub rise : upto < last
  pub fits : last < 2 ^ 64

-- in each order new records have their rows after those of the old ones
abbrev pub OrdersSplit : Type 0
OrdersSplit = (o upto last : ℕ) (old new : List Record) → AreOldAndNew upto last old new
    → rows_in_order o (old ++ new) ≡ rows_in_order o old ++ rows_in_order o new

-- rows that hold old and new ones each once, in a run more and in any merge with the new ones
pub record HoldOldAndNew (runs : List (List PageRow)) (extra wanted : List PageRow) : Type 0 where
  pub more : HasEachOnce (all_rows (runs ++ extra ∷ [])) wanted
  pub merged : (rows : List PageRow) → IsMerge (runs ++ extra ∷ []) rows → HasEachOnce rows wanted

-- in each order: where runs hold the rows of the old records each once, and others those of the new ones, a run more of these
-- holds the rows of all each once, and so does a merge
abbrev pub EachOrderHolds : Type 0
EachOrderHolds = (o upto last : ℕ) (old new : List Record) (runs : List (List PageRow)) (extra : List PageRow)
    → AreOldAndNew upto last old new → HasEachOnce (all_rows runs) (rows_in_order o old) → HasEachOnce extra (rows_in_order o new)
    → HoldOldAndNew runs extra (rows_in_order o (old ++ new))
