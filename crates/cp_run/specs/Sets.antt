-- A set of runs, with the pages of them that were looked at last.
use Rattle.std.specs.Prelude.{ℕ, ◌≡◌, ◌≤◌, ◌<◌, ◌+◌, ◌*◌, ◌^◌, ◌==◌, List, length}
use Rattle.std.specs.List.{AllByRecursion, filter, flat_map}
use Rattle.lru.specs.LruCache.{LruCache}
use Rattle.cp_page.specs.Ranges.{rows_between}
use Rattle.cp_page.specs.declared.page.Page.{Page}
use Rattle.cp_page.specs.declared.page.TheConstants.{PAGE_SIZE}
use Rattle.cp_page.specs.declared.row.PageRow.{PageRow}
use Rattle.cp_run.specs.Holding.{run_rows, IsRunOfRows}
use Rattle.cp_run.specs.Searching.{IsWithinLog}
use Rattle.cp_run.specs.declared.look.TheConstants.{PAGES_KEPT}
use Rattle.cp_run.specs.declared.run.Run.{Run}

-- the runs, and pages by their offsets in the file, the last looked at first
pub record RunSet : Type 0 where
  pub runs : List Run
  pub pages : List (ℕ × Page)

-- the cache has room for as many pages as are kept
pub record IsCache (c : LruCache ℕ Page) : Type 0 where
  pub cap : c.cap ≡ PAGES_KEPT
  pub few : length c.entries ≤ PAGES_KEPT

-- the run's end is a number of 64 bits
abbrev pub Fits : Run → Type 0
Fits r = r.at + r.pages * PAGE_SIZE < 2 ^ 64

-- each run's is
abbrev pub Fit : List Run → Type 0
Fit runs = AllByRecursion Fits runs

-- the runs of this order
abbrev pub of_order : ℕ → List Run → List Run
of_order order runs = filter (λ r. r.order == order) runs

-- each of the runs is one of rows
abbrev pub AreRunsOfRows : List ℕ → List Run → Type 0
AreRunsOfRows content runs = AllByRecursion (IsRunOfRows content) runs

-- the rows of the runs, run after run
abbrev pub runs_rows : List ℕ → List Run → List PageRow
runs_rows content runs = flat_map (run_rows content) runs

-- a number of looks is at most 2 and the logarithm of the most pages of a run, rounded up, for each run
abbrev pub IsWithinLogs : List Run → ℕ → Type 0
IsWithinLogs runs looks = (n : ℕ) → AllByRecursion (λ r. r.pages ≤ 2 ^ n) runs → looks ≤ length runs * (2 + n)

-- where the run is one of rows, a number of looks is at most 3 and the logarithm of its pages, rounded up, and one for each of its
-- rows from the one key to the other
abbrev pub IsWithinRun : List ℕ → List ℕ → List ℕ → Run → ℕ → Type 0
IsWithinRun content low high run looks = IsRunOfRows content run → IsWithinLog (3 + length (rows_between low high (run_rows content run))) run.pages looks

-- where the runs are ones of rows, a number of looks is at most 3 and the logarithm of the most pages of a run, rounded up, for
-- each run, and one for each of their rows from the one key to the other
abbrev pub IsWithinRange : List ℕ → List ℕ → List ℕ → List Run → ℕ → Type 0
IsWithinRange content low high runs looks = AreRunsOfRows content runs → (n : ℕ) → AllByRecursion (λ r. r.pages ≤ 2 ^ n) runs
    → looks ≤ length runs * (3 + n) + length (rows_between low high (runs_rows content runs))
