-- A transaction: what it holds, and what each call does to it.
use Rattle.cp_model.specs.declared.limits.TheConstants.{OPS_MAX}
use Rattle.std.specs.Prelude.{ℕ, ◌+◌, ◌-◌, ◌≡◌, ◌≤◌, ◌<◌, ◌^◌, List, [], ◌∷◌, ◌++◌, length, Result, Ok, Err, ⊤}
use Rattle.std.specs.declared.option.Option.TheVariants.{None, Some}
use Rattle.cp_model.specs.Tree.{Tree, Source, IsTree}
use Rattle.cp_model.specs.Laws.{AreSources}
use Rattle.cp_model.specs.Step.{Working, contents, step, done}
use Rattle.cp_model.specs.History.{AreWritten, rows_of, steps_of, with_tid}
use Rattle.cp_model.specs.declared.kind.Kind.{Kind}
use Rattle.cp_model.specs.declared.kind.Kind.TheVariants as kind
use Rattle.cp_model.specs.declared.op.Op.{Op}
use Rattle.cp_model.specs.declared.record.Record.{Record}
use Rattle.cp_model.specs.declared.refusal.Cause.{Cause}
use Rattle.cp_model.specs.declared.refusal.Cause.TheVariants.{Refused, Unread}
use Rattle.cp_record.specs.Bytes.{commit_length}
use Rattle.cp_overlay.specs.Kept.{Kept}
use Rattle.cp_overlay.specs.Kept as overlay
use Rattle.cp_overlay.specs.Seen.{seen}
use Rattle.cp_engine.specs.Held.{AreKept, AreKeptBehind}
use Rattle.cp_operation.specs.RowsAlone.{op_rows, top_rows}
use Rattle.cp_operation.specs.Passed.{stage_after, records_of, refusal_behind, AllAccepted}
use Rattle.cp_engine.specs.declared.kept.StepRecords.{StepRecords}
use Rattle.cp_engine.specs.declared.kept.StepRecords.TheVariants.{Held, GivenUp}
use Rattle.cp_engine.specs.declared.txn.Txn.{Txn}
use Rattle.cp_engine.specs.declared.txn.Step.{Step}
use Rattle.cp_engine.specs.declared.state.TxnState.{TxnState}
use Rattle.cp_engine.specs.declared.state.TxnState.TheVariants as state
use Rattle.cp_engine.specs.declared.fault.ApplyFault.{ApplyFault}
use Rattle.cp_engine.specs.declared.fault.ApplyFault.TheVariants as denied
use Rattle.cp_engine.specs.declared.fault.FinishFault.{FinishFault}
use Rattle.cp_engine.specs.declared.fault.FinishFault.TheVariants as unfinished

-- operations that were accepted, or the number of the one at which the transaction failed, and why
pub data Progress : Type 0 where
  going : List Op → Progress
  failed : ℕ → Cause → Progress

-- the number of accepted operations, or the number of the refused one with its cause
abbrev pub state_of : Progress → TxnState
state_of (going ops) = state.Going (length ops)
state_of (failed n c) = state.Failed n c

-- a text that can't be read counts as the next operation
abbrev pub after_unread : Progress → Progress
after_unread (going ops) = failed (length ops + 1) Unread
after_unread (failed n c) = failed n c

-- the number of operations that are given up
abbrev pub held_count : Progress → ℕ
held_count (going ops) = length ops
held_count (failed n c) = n - 1

-- what is kept of the operations that are held: the records of their steps, where each is a step of its own and an entry can hold
-- them; else the effects of the one step that they are
abbrev pub Keeps : Kind → StepRecords → Kept → List Source → Tree → ℕ → List Op → Type 0
Keeps kind.N rows o ss t n ops = AreKept rows (stage_after kind.N ss t n ops).records
Keeps kind.T rows o ss t n ops = (w : Working) → step t ss ops ≡ done (length ops) w → overlay.Stands o t w
Keeps kind.H rows o ss t n ops = AreKept rows (stage_after kind.H ss t n ops).records
Keeps kind.HT rows o ss t n ops = (w : Working) → step t ss ops ≡ done (length ops) w → overlay.Stands o t w

-- what is kept after one operation more, on the tree t of a step that began on the tree a: its records are kept behind the others,
-- or the overlay has followed it
abbrev pub Adds : Kind → StepRecords → Kept → StepRecords → Kept → List Source → Tree → Tree → ℕ → Op → Type 0
Adds kind.N rows o more later ss a t n op = AreKeptBehind rows more (with_tid n (op_rows ss t op))
Adds kind.T rows o more later ss a t n op = overlay.Follows ss a o later op
Adds kind.H rows o more later ss a t n op = AreKeptBehind rows more (with_tid n (top_rows op))
Adds kind.HT rows o more later ss a t n op = overlay.Follows ss a o later op

-- the records of a commit, from what is kept: those of the steps, all of them, or those of the one step from the tree a to the tree t
abbrev pub Packs : Kind → StepRecords → Kept → Tree → Tree → ℕ → List Record → Type 0
Packs kind.N rows o a t n rs = rows ≡ Held rs
Packs kind.T rows o a t n rs = (w : Working) → overlay.IsWorking w → overlay.Stands o a w → contents w ≡ t → rs ≡ with_tid n (rows_of kind.T a w)
Packs kind.H rows o a t n rs = rows ≡ Held rs
Packs kind.HT rows o a t n rs = (w : Working) → overlay.IsWorking w → overlay.Stands o a w → contents w ≡ t → rs ≡ with_tid n (rows_of kind.HT a w)

-- the records of the steps were given up
abbrev pub AreGivenUp : Kind → StepRecords → Type 0
AreGivenUp kind.N rows = rows ≡ GivenUp
AreGivenUp kind.T rows = ⊥
AreGivenUp kind.H rows = rows ≡ GivenUp
AreGivenUp kind.HT rows = ⊥

-- why there are no records of a commit: they were given up, or there was no memory for them
abbrev pub PacksNothing : Kind → StepRecords → FinishFault → Type 0
PacksNothing k rows unfinished.Empty = ⊥
PacksNothing k rows (unfinished.Failed j c) = ⊥
PacksNothing k rows unfinished.TooLarge = AreGivenUp k rows
PacksNothing k rows unfinished.Memory = ⊤

-- the transaction holds these operations of a kind, which lead from the tree t with these sources, the first with the Tid n
pub record IsGoing {R : Type 0} (view : R → Tree) (x : Txn R) (k : Kind) (ss : List Source) (t : Tree) (n : ℕ) (ops : List Op) : Type 0 where
  pub start : IsTree t
  pub sources : AreSources ss
  pub first : n ≤ 2 ^ 63
  pub few : length ops ≤ OPS_MAX
  pub written : AreWritten ops
  pub accepted : AllAccepted ss t ops
  pub held : x.ops ≡ ops
  pub tid : x.first ≡ n
  pub tree : view x.tree ≡ (stage_after k ss t n ops).tree
  pub kind : x.kind ≡ k
  pub begun : view x.start ≡ t
  pub kept : Keeps k x.rows (seen x.overlay) ss t n ops
  pub failure : x.failure ≡ None

-- the transaction failed at this number, for this cause, and holds the operations before it
pub record IsFailed {R : Type 0} (view : R → Tree) (x : Txn R) (k : Kind) (ss : List Source) (t : Tree) (n j : ℕ) (c : Cause) : Type 0 where
  pub ops : List Op
  pub number : length ops + 1 ≡ j
  pub tree : view x.tree ≡ (stage_after k ss t n ops).tree
  pub failure : x.failure ≡ Some (record { number = j; cause = c })

-- the transaction stands where this progress was made from the tree t
abbrev pub Stands : {R : Type 0} → (R → Tree) → Txn R → Kind → List Source → Tree → ℕ → Progress → Type 0
Stands view x k ss t n (going ops) = IsGoing view x k ss t n ops
Stands view x k ss t n (failed j c) = IsFailed view x k ss t n j c

-- an operation is held behind the others, or refused by the first case that applies, or there was no memory for it
abbrev pub Applies : {R : Type 0} → (R → Tree) → Kind → List Source → Tree → ℕ → Progress → Op → Txn R → Result ⊤ ApplyFault → Type 0
Applies view k ss t n (going ops) op new (Ok x) = (refusal_behind k ss t n ops op ≡ None) × Stands view new k ss t n (going (ops ++ op ∷ []))
Applies view k ss t n (going ops) op new (Err (denied.Failed j)) = ⊥
Applies view k ss t n (going ops) op new (Err (denied.Refused r)) = (refusal_behind k ss t n ops op ≡ Some r) × Stands view new k ss t n (failed (length ops + 1) (Refused r))
Applies view k ss t n (going ops) op new (Err denied.Memory) = Stands view new k ss t n (going ops)
Applies view k ss t n (failed i c) op new (Ok x) = ⊥
Applies view k ss t n (failed i c) op new (Err (denied.Failed j)) = (j ≡ i) × Stands view new k ss t n (failed i c)
Applies view k ss t n (failed i c) op new (Err (denied.Refused r)) = ⊥
Applies view k ss t n (failed i c) op new (Err denied.Memory) = ⊥

-- the operations, the tree to which they lead, the records and the number of their steps, within the limit of a commit's bytes
pub record IsStep {R : Type 0} (view : R → Tree) (k : Kind) (ss : List Source) (t : Tree) (n : ℕ) (ops : List Op) (limit : ℕ) (x : Step R) : Type 0 where
  pub some : 1 ≤ length ops
  pub held : x.ops ≡ ops
  pub tree : view x.tree ≡ (stage_after k ss t n ops).tree
  pub rows : x.rows ≡ records_of k ss t n ops
  pub tids : x.tids ≡ length (steps_of k ops)
  pub small : commit_length ops (records_of k ss t n ops) ≤ limit

-- the step that a transaction makes, or why it makes none
abbrev pub Finishes : {R : Type 0} → (R → Tree) → Kind → List Source → Tree → ℕ → Progress → ℕ → Result (Step R) FinishFault → Type 0
Finishes view k ss t n (going ops) limit (Ok x) = IsStep view k ss t n ops limit x
Finishes view k ss t n (going ops) limit (Err unfinished.Empty) = ops ≡ []
Finishes view k ss t n (going ops) limit (Err (unfinished.Failed j c)) = ⊥
Finishes view k ss t n (going ops) limit (Err unfinished.TooLarge) = (1 ≤ length ops) × (limit < commit_length ops (records_of k ss t n ops))
Finishes view k ss t n (going ops) limit (Err unfinished.Memory) = 1 ≤ length ops
Finishes view k ss t n (failed i c) limit (Ok x) = ⊥
Finishes view k ss t n (failed i c) limit (Err unfinished.Empty) = ⊥
Finishes view k ss t n (failed i c) limit (Err (unfinished.Failed j d)) = (j ≡ i) × (d ≡ c)
Finishes view k ss t n (failed i c) limit (Err unfinished.TooLarge) = ⊥
Finishes view k ss t n (failed i c) limit (Err unfinished.Memory) = ⊥
