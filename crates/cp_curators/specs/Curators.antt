-- What the curators' open transactions stand for, and what each call does to them.
use Rattle.std.specs.Prelude.{ℕ, ◌+◌, ◌≡◌, ◌≤◌, ◌<◌, List, [], ◌∷◌, ◌++◌, length, Result, Ok, Err, ⊤}
use Rattle.std.specs.declared.option.Option.{Option}
use Rattle.std.specs.declared.option.Option.TheVariants.{None, Some}
use Rattle.indexmap.specs.IndexMap.{get}
use Rattle.cp_path.specs.Text.{text_eq}
use Rattle.cp_model.specs.Tree.{Tree, Source}
use Rattle.cp_model.specs.Laws.{AreSources}
use Rattle.cp_model.specs.declared.kind.Kind.{Kind}
use Rattle.cp_model.specs.declared.op.Op.{Op}
use Rattle.cp_model.specs.declared.refusal.Cause.TheVariants.{Refused}
use Rattle.cp_operation.specs.Passed.{refusal_behind}
use Rattle.cp_engine.specs.Transactions as txn
use Rattle.cp_engine.specs.Transactions.{Progress, going, failed}
use Rattle.cp_engine.specs.declared.txn.Txn.{Txn}
use Rattle.cp_engine.specs.declared.fault.ApplyFault.{ApplyFault}
use Rattle.cp_engine.specs.declared.fault.ApplyFault.TheVariants as denied
use Rattle.cp_curators.specs.Desks.{Desk, Desks, HaveBegunBy, with_desk, come_to}
use Rattle.cp_curators.specs.declared.curators.Curators.{Curators}
use Rattle.cp_curators.specs.declared.desk.OpenDesk.{OpenDesk}
use Rattle.cp_curators.specs.declared.fault.ShareFault.{ShareFault}
use Rattle.cp_curators.specs.declared.fault.ShareFault.TheVariants as share

-- ---- what they stand for

-- a transaction that is going holds an operation
abbrev pub HoldsSome : Progress → Type 0
HoldsSome (going ops) = 1 ≤ length ops
HoldsSome (failed j c) = ⊤

-- the open transaction is the desk's: it stands on the desk's own tree, and holds an operation where it is going
pub record IsDeskOf {R : Type 0} (view : R → Tree) (ss : List Source) (x : OpenDesk R) (d : Desk) : Type 0 where
  pub since : x.since ≡ d.since
  pub stands : txn.Stands view x.transaction d.kind ss d.start (d.since + 1) d.progress
  pub some : HoldsSome d.progress

-- what is kept at a name is its desk, or neither is there
abbrev pub Keeps : {R : Type 0} → (R → Tree) → List Source → Option (OpenDesk R) → Option Desk → Type 0
Keeps view ss None None = ⊤
Keeps view ss None (Some d) = ⊥
Keeps view ss (Some x) None = ⊥
Keeps view ss (Some x) (Some d) = IsDeskOf view ss x d

-- with these sources the open transactions are those of the desks, name by name
pub record Stands {R : Type 0} (view : R → Tree) (ss : List Source) (c : Curators R) (desks : Desks) : Type 0 where
  pub sources : AreSources ss
  pub each : (n : List ℕ) → Keeps view ss (get text_eq c.desks n) (desks n)

-- They stand for some transactions, with the sources, the tree t, the kind and the last Tid n of a database. Whatever that holds, each
-- of them stands on its own tree, and one that began when n was the last Tid stands on t.
abbrev pub StandsOver : {R : Type 0} → (R → Tree) → List Source → Tree → Kind → ℕ → Curators R → Type 0
StandsOver view ss t k n c = (desks : Desks) × Stands view ss c desks × HaveBegunBy t k n desks

-- ---- operations

-- An operation of the name n on its desk d, which has come so far: it is held behind the others, or refused by the first case that
-- applies, or there was no memory for it. The other names keep their desks.
abbrev pub OperatesFrom : {R : Type 0} → (R → Tree) → List Source → Desks → List ℕ → Desk → Progress → Op → Curators R → Result ⊤ ApplyFault → Type 0
OperatesFrom view ss desks n d (going ops) op new (Ok x) =
    (refusal_behind d.kind ss d.start (d.since + 1) ops op ≡ None)
    × Stands view ss new (with_desk n (Some (come_to d (going (ops ++ op ∷ [])))) desks)
OperatesFrom view ss desks n d (going ops) op new (Err (denied.Failed j)) = ⊥
OperatesFrom view ss desks n d (going ops) op new (Err (denied.Refused r)) =
    (refusal_behind d.kind ss d.start (d.since + 1) ops op ≡ Some r)
    × Stands view ss new (with_desk n (Some (come_to d (failed (length ops + 1) (Refused r)))) desks)
OperatesFrom view ss desks n d (going ops) op new (Err denied.Memory) = Stands view ss new desks
OperatesFrom view ss desks n d (failed i c) op new (Ok x) = ⊥
OperatesFrom view ss desks n d (failed i c) op new (Err (denied.Failed j)) = (j ≡ i) × Stands view ss new desks
OperatesFrom view ss desks n d (failed i c) op new (Err (denied.Refused r)) = ⊥
OperatesFrom view ss desks n d (failed i c) op new (Err denied.Memory) = ⊥

-- an operation of the name n on its desk d
abbrev pub Operates : {R : Type 0} → (R → Tree) → List Source → Desks → List ℕ → Desk → Op → Curators R → Result ⊤ ApplyFault → Type 0
Operates view ss desks n d op new result = OperatesFrom view ss desks n d d.progress op new result

-- ---- ends

-- What is handed out of the desk d, which has come so far, once n is the last Tid: the transaction on its own tree where it is going
-- and began no earlier; else that it has failed, or that it is stale.
abbrev pub TakesFrom : {R : Type 0} → (R → Tree) → List Source → Desk → ℕ → Progress → Result (Txn R) ShareFault → Type 0
TakesFrom view ss d n (going ops) (Ok x) = (n ≤ d.since) × txn.Stands view x d.kind ss d.start (d.since + 1) (going ops)
TakesFrom view ss d n (going ops) (Err share.Empty) = ⊥
TakesFrom view ss d n (going ops) (Err (share.Failed j c)) = ⊥
TakesFrom view ss d n (going ops) (Err (share.Stale m)) = (d.since < n) × (m ≡ n)
TakesFrom view ss d n (failed i c) (Ok x) = ⊥
TakesFrom view ss d n (failed i c) (Err share.Empty) = ⊥
TakesFrom view ss d n (failed i c) (Err (share.Failed j e)) = (j ≡ i) × (e ≡ c)
TakesFrom view ss d n (failed i c) (Err (share.Stale m)) = ⊥

-- what is handed out where there is a desk, or that there is none
abbrev pub Takes : {R : Type 0} → (R → Tree) → List Source → Option Desk → ℕ → Result (Txn R) ShareFault → Type 0
Takes view ss None n (Ok x) = ⊥
Takes view ss None n (Err share.Empty) = ⊤
Takes view ss None n (Err (share.Failed j c)) = ⊥
Takes view ss None n (Err (share.Stale m)) = ⊥
Takes view ss (Some d) n result = TakesFrom view ss d n d.progress result

-- the transaction stands on the tree t of the last Tid n, and holds some operations
abbrev pub IsCurrent : {R : Type 0} → (R → Tree) → List Source → Tree → Kind → ℕ → Txn R → Type 0
IsCurrent view ss t k n x = (ops : List Op) × (1 ≤ length ops) × txn.Stands view x k ss t (n + 1) (going ops)
