-- The newest row of a place, and of the places above it.
use Rattle.std.specs.Prelude.{ℕ, ◌≡◌, ◌<◌, ◌≤◌, List, take, length}
use Rattle.std.specs.declared.option.Option.{Option}
use Rattle.std.specs.declared.option.Option.TheVariants.{None, Some}
use Rattle.cp_model.specs.Place.{Path}
use Rattle.cp_model.specs.Keyed.{look}
use Rattle.cp_model.specs.Records.{rows_at}
use Rattle.cp_model.specs.declared.kind.Kind.{Kind}
use Rattle.cp_model.specs.declared.kind.Kind.TheVariants as kind
use Rattle.cp_model.specs.declared.record.Record.{Record}
use Rattle.cp_model.specs.declared.record.RowMark.{RowMark as Mark}
use Rattle.cp_page.specs.declared.row.PageRow.{PageRow}
use Rattle.cp_paged.specs.Marks.{Says}
use Rattle.cp_paged.specs.declared.places.PlaceRow.{PlaceRow}
use Rattle.cp_paged.specs.declared.newest.Above.{Above}

-- what the row of step u at the place says, if there is one
unfoldable pub mark_of_row : List Record → Path → ℕ → Option Mark
mark_of_row rs p u = look p (rows_at rs u)

-- the row says what that of step u at the place says
pub record IsRowAt (rs : List Record) (p : Path) (u : ℕ) (row : PageRow) : Type 0 where
  pub mark : Mark
  pub says : Says row mark
  pub there : mark_of_row rs p u ≡ Some mark

-- the row of the greatest Tid up to t at the place
unfoldable pub IsNewestRow : List Record → Path → ℕ → Option PlaceRow → Type 0
IsNewestRow rs p t None = (u : ℕ) → u ≤ t → mark_of_row rs p u ≡ None
IsNewestRow rs p t (Some d) = (d.tid ≤ t) × IsRowAt rs p d.tid d.row × ((u : ℕ) → d.tid < u → u ≤ t → mark_of_row rs p u ≡ None)

-- of how many labels the shortest prefix is whose rows count: in the kinds that infer, none; in the others, all
abbrev pub first_depth : Kind → Path → ℕ
first_depth kind.N p = length p
first_depth kind.T p = length p
first_depth kind.H p = 0
first_depth kind.HT p = 0

-- of the prefixes of p of at least `first` and fewer than n labels, the longest that has a row of the newest step up to t with a
-- row at any of them
unfoldable pub IsNewestAbove : List Record → Path → ℕ → ℕ → ℕ → Option Above → Type 0
IsNewestAbove rs p first n t None = (u k : ℕ) → u ≤ t → first ≤ k → k < n → mark_of_row rs (take k p) u ≡ None
IsNewestAbove rs p first n t (Some a) =
    (a.told.tid ≤ t) × (first ≤ a.depth) × (a.depth < n) × IsRowAt rs (take a.depth p) a.told.tid a.told.row
    × ((k : ℕ) → a.depth < k → k < n → mark_of_row rs (take k p) a.told.tid ≡ None)
    × ((u k : ℕ) → a.told.tid < u → u ≤ t → first ≤ k → k < n → mark_of_row rs (take k p) u ≡ None)
