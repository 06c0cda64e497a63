-- The directory of a checkpoint: its numbers, and where its trees and its runs stand.
use Rattle.std.specs.Prelude.{ℕ, ◌^◌, ◌≡◌, ◌≤◌, ◌<◌, List, ◌∷◌, ◌++◌, length}
use Rattle.std.specs.List.{AllByRecursion, flat_map}
use Rattle.std.specs.Int.{to_be_bytes, w16, w32, w64}
use Rattle.cp_path.specs.Encoding.{counted_bytes}
use Rattle.cp_record.specs.Kept.{IsName}
use Rattle.cp_frame.specs.Entries.{kind_number}
use Rattle.cp_run.specs.declared.run.Run.{Run}
use Rattle.cp_check.specs.declared.directory.Head.{Head}
use Rattle.cp_check.specs.declared.directory.TreeAt.{TreeAt}

-- a directory: its numbers; where T's tree stands, and then those of the sources in the order in which they were loaded; its runs
pub record Directory : Type 0 where
  pub head : Head
  pub trees : List TreeAt
  pub runs : List Run

-- ---- spellings

-- the kind in one byte, and each of the three numbers in eight
abbrev pub head_bytes : Head → List ℕ
head_bytes h =
    kind_number h.kind ∷ (to_be_bytes w64 h.tid ++ (to_be_bytes w64 h.transactions ++ to_be_bytes w64 h.records))

-- the name after its length, and then where the tree begins and how long it is
abbrev pub tree_at_bytes : TreeAt → List ℕ
tree_at_bytes t = counted_bytes t.name ++ (to_be_bytes w64 t.at ++ to_be_bytes w64 t.len)

-- the order in one byte, and then where the run begins and how many pages it has
abbrev pub run_bytes : Run → List ℕ
run_bytes r = r.order ∷ (to_be_bytes w64 r.at ++ to_be_bytes w64 r.pages)

-- the number of trees in two bytes, and these
abbrev pub trees_bytes : List TreeAt → List ℕ
trees_bytes trees = to_be_bytes w16 (length trees) ++ flat_map tree_at_bytes trees

-- the number of runs in two bytes, and these
abbrev pub runs_bytes : List Run → List ℕ
runs_bytes runs = to_be_bytes w16 (length runs) ++ flat_map run_bytes runs

-- the numbers, the trees and the runs
abbrev pub directory_bytes : Directory → List ℕ
directory_bytes d = head_bytes d.head ++ (trees_bytes d.trees ++ runs_bytes d.runs)

-- ---- what has a spelling

-- each of the three numbers has room in eight bytes
abbrev pub IsHead : Head → Type 0
IsHead h = (h.tid < 2 ^ 64) × (h.transactions < 2 ^ 64) × (h.records < 2 ^ 64)

-- the name is one, and each number has room in eight bytes
abbrev pub IsTreeAt : TreeAt → Type 0
IsTreeAt t = IsName t.name × (t.at < 2 ^ 64) × (t.len < 2 ^ 64)

-- the order is one of the three, and each number has room in eight bytes
abbrev pub IsRun : Run → Type 0
IsRun r = (r.order ≤ 2) × (r.at < 2 ^ 64) × (r.pages < 2 ^ 64)

-- the second run is of a later order, or of the same and stands after the first
abbrev pub IsBefore : Run → Run → Type 0
IsBefore q r = (q.order ≤ r.order) × (q.order ≡ r.order → q.at < r.at)

-- each run comes before the next one
abbrev pub RunsRise : List Run → Type 0
RunsRise runs = (before : List Run) (q r : Run) (after : List Run) → runs ≡ before ++ q ∷ r ∷ after → IsBefore q r

-- the directory has a spelling
pub record IsDirectory (d : Directory) : Type 0 where
  pub head : IsHead d.head
  pub trees : AllByRecursion IsTreeAt d.trees
  pub few_trees : length d.trees < 2 ^ 16
  pub runs : AllByRecursion IsRun d.runs
  pub few_runs : length d.runs < 2 ^ 16
  pub rise : RunsRise d.runs

-- the body of a checkpoint's frame ends with this directory and its length in four bytes
pub record EndsWith (body : List ℕ) (d : Directory) : Type 0 where
  pub front : List ℕ
  pub is : body ≡ front ++ (directory_bytes d ++ to_be_bytes w32 (length (directory_bytes d)))
  pub short : length (directory_bytes d) < 2 ^ 32
  pub directory : IsDirectory d
