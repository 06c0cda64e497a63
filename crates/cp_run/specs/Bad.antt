-- Pages of a run that aren't pages of rows.
use Rattle.std.specs.Prelude.{ℕ, ◌+◌, ◌*◌, ◌≡◌, ◌<◌, ◌⊎◌, List, length, Contains}
use Rattle.std.specs.declared.option.Option.TheVariants.{None}
use Rattle.cp_page.specs.Rows.{rows_of}
use Rattle.cp_page.specs.declared.page.TheConstants.{PAGE_SIZE}
use Rattle.cp_run.specs.Holding.{page_at, IsRunOfRows}
use Rattle.cp_run.specs.declared.run.Run.{Run}

-- the page at this offset doesn't lie whole in the file, or isn't one of rows
abbrev pub IsNoPage : List ℕ → ℕ → Type 0
IsNoPage content at = (length content < at + PAGE_SIZE) ⊎ (rows_of (page_at content at) ≡ None)

-- the page at this offset is one of the run's, and is such
pub record IsBadPage (content : List ℕ) (run : Run) (at : ℕ) : Type 0 where
  pub number : ℕ
  pub within : number < run.pages
  pub place : at ≡ run.at + number * PAGE_SIZE
  pub bad : IsNoPage content at

-- it is one of these runs'
pub record IsBadAmong (content : List ℕ) (runs : List Run) (at : ℕ) : Type 0 where
  pub run : Run
  pub among : Contains runs run
  pub page : IsBadPage content run at

-- a run of rows has no such page
abbrev pub NoneIsBad : Type 0
NoneIsBad = (content : List ℕ) (run : Run) (at : ℕ) → IsRunOfRows content run → IsBadPage content run at → ⊥
