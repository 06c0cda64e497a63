-- Drawn scripts: operations, and the commits among them.
use Rattle.std.specs.Prelude.{ℕ, zero, suc, ◌+◌, ◌%◌, ◌==◌, ◌≡◌, List, [], ◌∷◌, ◌++◌, if◌then◌else◌, ⊤}
use Rattle.std.specs.declared.option.Option.{Option}
use Rattle.std.specs.declared.option.Option.TheVariants.{None, Some}
use Rattle.cp_model.specs.declared.op.Op.{Op}
use Rattle.cp_lang.specs.declared.syntax_tree.Stmt.{Stmt}
use Rattle.cp_lang.specs.declared.syntax_tree.Stmt.TheVariants as stmt
use Rattle.cp_gen.specs.declared.limits.TheConstants.{COMMIT_EVERY}
use Rattle.cp_gen.specs.Operations.{first_state, operations}

-- a commit, where as many operations are pending as are committed together
abbrev pub commit_due : ℕ → List Stmt
commit_due k = if k == COMMIT_EVERY then stmt.Commit ∷ [] else []

-- the operations, a commit after every tenth, and one after the last where any are pending; k are pending before
abbrev pub with_commits : List Op → ℕ → List Stmt
with_commits [] zero = []
with_commits [] (suc k) = stmt.Commit ∷ []
with_commits (op ∷ ops) k = stmt.Op op ∷ (commit_due (k + 1) ++ with_commits ops ((k + 1) % COMMIT_EVERY))

-- the statements that are left, where these operations are still to come and k are pending
abbrev pub statements_left : List Op → ℕ → List Stmt
statements_left ops k = commit_due k ++ with_commits ops (k % COMMIT_EVERY)

-- the script of so many operations that a seed gives
abbrev pub script : ℕ → ℕ → List Stmt
script seed count = with_commits (operations count (first_state seed)) 0

-- ---- what a generator gives

-- the first of the statements that were left, and those after it are left; or none, where none was
abbrev pub GivesNext : Option Stmt → List Stmt → List Stmt → Type 0
GivesNext None old new = (old ≡ []) × (new ≡ [])
GivesNext (Some s) old new = old ≡ s ∷ new

-- an operation or a commit
abbrev pub IsOpOrCommit : Stmt → Type 0
IsOpOrCommit (stmt.Op op) = ⊤
IsOpOrCommit stmt.Commit = ⊤
IsOpOrCommit stmt.Abort = ⊥
IsOpOrCommit (stmt.Load l) = ⊥
IsOpOrCommit (stmt.Ask q) = ⊥
IsOpOrCommit (stmt.Show p) = ⊥
