-- Rows that runs on a disk have, and what it costs to look them up.
use Rattle.std.specs.Prelude.{ℕ, zero, suc, ◌+◌, ◌*◌, ◌^◌, ◌≡◌, IsTrue, List, [], ◌∷◌, length, max, nat_le, if◌then◌else◌, Result, Ok, Err}
use Rattle.cp_disk.specs.Views.{KnownDisk}
use Rattle.cp_disk.specs.declared.disk.Disk as disk
use Rattle.cp_page.specs.declared.row.PageRow.{PageRow}
use Rattle.cp_run.specs.Pages.{ArePagesOf}
use Rattle.cp_run.specs.Sets.{RunSet, AreRunsOfRows, of_order, runs_rows}
use Rattle.cp_run.specs.declared.fault.RunFault.{RunFault}
use Rattle.cp_run.specs.declared.fault.RunFault.TheVariants as fault
use Rattle.cp_run.specs.declared.run.Run.{Run}
use Rattle.cp_store.specs.Costs.{Cost}
use Rattle.cp_store.specs.declared.fault.StoreFault.{StoreFault}
use Rattle.cp_store.specs.declared.fault.StoreFault.TheVariants as store
use Rattle.cp_paged.specs.declared.keyed.KeyedRows.{Ghosts}

-- it is known what the disk holds; pages that are kept are those of its file; each run is one of rows, and these are, by the number
-- of their order, the rows of the runs of that order
pub record HasRowsOf (d : KnownDisk) (s : RunSet) (stored : ℕ → List PageRow) : Type 0 where
  pub known : IsTrue d.known
  pub pages : ArePagesOf d.view.content s.pages
  pub runs : AreRunsOfRows d.view.content s.runs
  pub rows : (o : ℕ) → stored o ≡ runs_rows d.view.content (of_order o s.runs)

-- what a look-up answers: where it met a page that isn't one of rows, nothing
abbrev pub answer_of : {T : Type 0} → T → Result T RunFault → Result T StoreFault
answer_of none (Ok v) = Ok v
answer_of none (Err (fault.BadRun n)) = Ok none
answer_of none (Err fault.Disk) = Err store.Disk
answer_of none (Err fault.Memory) = Err store.Memory

-- ---- what it costs

-- from n on, the first number of which 2 has a power of k or more; the last of so many more where none of them is it
abbrev pub log_from : ℕ → ℕ → ℕ → ℕ
log_from k n zero = n
log_from k n (suc more) = if nat_le k (2 ^ n) then n else log_from k (suc n) more

-- the logarithm of k, rounded up
abbrev pub log_up : ℕ → ℕ
log_up k = log_from k 0 k

-- the most pages of a run
abbrev pub most_pages : List Run → ℕ
most_pages [] = 0
most_pages (r ∷ rs) = max r.pages (most_pages rs)

-- in how many runs a key is looked for at most: by place, or by the place that lost a child
abbrev pub runs_asked : List Run → ℕ
runs_asked runs = max (length (of_order 0 runs)) (length (of_order 2 runs))

-- a look reads, for each of these runs, 2 pages and the logarithm of the most pages of a run, rounded up
abbrev pub cost_of : List Run → Cost
cost_of runs = record {
  look = runs_asked runs * (2 + log_up (most_pages runs));
  runs = runs_asked runs;
  all_runs = length runs;
}

-- a set of runs and its disk, in the words of rows by key
abbrev pub rows_on : {D : Type 0} → disk.Ghosts D → Ghosts (RunSet × D)
rows_on g = record {
  has_rows = λ s. HasRowsOf (g.known s.1) s.0;
  holds = λ s. [];
  cost = λ s. cost_of s.0.runs;
  reads = λ s. (g.known s.1).counts.reads;
  faults = λ s. (g.known s.1).counts.faults;
}
