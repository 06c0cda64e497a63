-- The rows that the runs of a file hold.
use Rattle.std.specs.Prelude.{ℕ, List}
use Rattle.cp_model.specs.History.{State}
use Rattle.cp_page.specs.declared.row.PageRow.{PageRow}
use Rattle.cp_paged.specs.Held.{PagesHold}
use Rattle.cp_run.specs.Sets.{of_order, runs_rows, AreRunsOfRows}
use Rattle.cp_run.specs.declared.run.Run.{Run}

-- the rows of the runs of each order, run after run
abbrev pub rows_of_order : List ℕ → List Run → ℕ → List PageRow
rows_of_order c runs order = runs_rows c (of_order order runs)

-- each run is one of rows, and in the three orders they are those of the state's records, each once
pub record HoldRows (c : List ℕ) (runs : List Run) (state : State) : Type 0 where
  pub spelled : AreRunsOfRows c runs
  pub hold : PagesHold state.kind state.now (rows_of_order c runs) state.rows
