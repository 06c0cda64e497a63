-- What a look-up by key leaves.
use Rattle.std.specs.Prelude.{ℕ, ◌≡◌, List, Result}
use Rattle.cp_outside.specs.Causes.{Accounts}
use Rattle.cp_page.specs.declared.row.PageRow.{PageRow}
use Rattle.cp_store.specs.Costs.{Cost}
use Rattle.cp_store.specs.Questions.{NeedsNoDisk}

-- The rows, the references that are held and the cost are as they were; where there is no run the disk isn't needed; and the
-- count of the disk's failures rose only where the call blames the disk.
pub record StaysKeyed {S T E : Type 0} (has_rows : S → (ℕ → List PageRow) → Type 0) (holds_in : S → List ℕ) (cost_in : S → Cost) (reads_in faults_in : S → ℕ) (Blames : E → Type 0) (old new : S) (result : Result T E) : Type 0 where
  pub rows : (stored : ℕ → List PageRow) → has_rows old stored → has_rows new stored
  pub holds : holds_in new ≡ holds_in old
  pub cost : cost_in new ≡ cost_in old
  pub idle : (cost_in old).all_runs ≡ 0 → NeedsNoDisk Blames (reads_in old) (reads_in new) result
  pub account : Accounts Blames (faults_in old) (faults_in new) result
