-- A transaction is finished on a database: what it makes, or why it makes nothing.
use Rattle.std.proofs.Common.{◌≡◌, ℕ, ◌+◌, ◌≤◌, ◌<◌, Bool, true, false, List, length, Ok, Err, refl, sym, subst, arith}
use Rattle.std.proofs.Math.Nat.{min-eq_left}
use Rattle.std.specs.Prelude.{min, Result}
use Rattle.std.proofs.lemmas.Bool.Decides.{nat_tests}
use Rattle.cp_model.specs.declared.kind.Kind.{Kind}
use Rattle.cp_model.specs.declared.limits.TheConstants.{ENTRY_MAX}
use Rattle.cp_model.specs.declared.op.Op.{Op}
use Rattle.cp_model.specs.declared.refusal.Cause.{Cause}
use Rattle.cp_model.specs.declared.stamp.Stamp.{Stamp}
use Rattle.cp_model.specs.Past.{tree_of}
use Rattle.cp_model.specs.Tree.{Tree, Source}
use Rattle.cp_model.specs.History.{Entry, State}
use Rattle.cp_disk.specs.Views.{View, ViewKeeps}
use Rattle.cp_journal.specs.declared.limits.TheConstants.{BODY_MAX}
use Rattle.cp_engine.specs.Transactions as txn
use Rattle.cp_engine.specs.declared.fault.FinishFault.{FinishFault}
use Rattle.cp_engine.specs.declared.fault.FinishFault.TheVariants as finish
use Rattle.cp_engine.specs.declared.txn.Step.{Step}
use Rattle.cp_engine.specs.declared.txn.Txn.{Txn}
use Rattle.cp_engine.proofs.Committed.{can-commit}
use Rattle.cp_frame.specs.Sizes.{has_room}
use Rattle.cp_db.specs.Databases.{HoldsState, IsDatabase, IsKept, HasCome, end_in}
use Rattle.cp_db.specs.Writing.{HasCommitted, HasMade, HasStepped, IsBeforeOrCommitted, commit_size}
use Rattle.cp_db.specs.declared.database.Db.{Db}
use Rattle.cp_db.specs.declared.fault.CommitFault.{CommitFault}
use Rattle.cp_db.specs.declared.fault.CommitFault.TheVariants as fault
use Rattle.cp_db.specs.declared.fault.WriteFault.{WriteFault}
use Rattle.cp_db.specs.declared.fault.WriteFault.TheVariants as write
use Rattle.cp_db.proofs.WritingFrames.{crash-none, crash-failed}

-- what is over the limit of an entry has no room
no_room : (at size : ℕ) → BODY_MAX < size → has_room at size ≡ false
no_room at size over = grind (arith, nat_tests)

-- the faults of a transaction, as a commit tells them
abbrev pub TellsFinish : FinishFault → CommitFault → Type 0
TellsFinish f e = (f ≡ finish.Empty → e ≡ fault.Empty) × (f ≡ finish.TooLarge → e ≡ fault.TooLarge) × (f ≡ finish.Memory → e ≡ fault.Memory) × ((n : ℕ) (c : Cause) → f ≡ finish.Failed n c → e ≡ fault.Failed n c)

-- and those of a call that writes
abbrev pub TellsWrite : WriteFault → CommitFault → Type 0
TellsWrite f e = (f ≡ write.Disk → e ≡ fault.Disk) × (f ≡ write.Memory → e ≡ fault.Memory) × (f ≡ write.TooLarge → e ≡ fault.TooLarge)

-- what a stamp leaves is within the limit of an entry, so that a transaction is finished within it
pub within-left : {R : Type 0} (view : R → Tree) (x : Txn R) (limit : ℕ) (r : Stamp) (result : Result (Step R) FinishFault) → limit + 9 + length r.curator ≡ BODY_MAX
    → ((k : Kind) (ss : List Source) (t : Tree) (n : ℕ) (p : txn.Progress) → txn.Stands view x k ss t n p → txn.Finishes view k ss t n p (min limit ENTRY_MAX) result)
    → (k : Kind) (ss : List Source) (t : Tree) (n : ℕ) (p : txn.Progress) → txn.Stands view x k ss t n p → txn.Finishes view k ss t n p limit result
within-left view x limit r result is f k ss t n p h =
    let few : limit ≤ ENTRY_MAX = omega (arith, is) in
    subst (λ (most : ℕ). txn.Finishes view k ss t n p most result) (min-eq_left few) (f k ss t n p h)

module _ {R S : Type 0} (view : R → Tree) (source_view : S → Tree) (d : Db R S) (x : Txn R) (limit : ℕ) where
  -- the transaction gives this step, however far it has come
  abbrev pub Gives : Step R → Type 0
  Gives step = (k : Kind) (ss : List Source) (t : Tree) (n : ℕ) (p : txn.Progress) → txn.Stands view x k ss t n p → txn.Finishes view k ss t n p limit (Ok step)

  module _ (step : Step R) (small : limit ≤ BODY_MAX) (gives : Gives step) where
    -- it is a step on the database
    made-step : (ops : List Op) → HasCome view source_view d x (txn.going ops) → HasMade view source_view d ops step
    made-step ops come s z =
        let is = come s z in
        let made = gives s.kind s.sources (tree_of s.tree) (s.now + 1) (txn.going ops) is in (
          can-commit s ops made.some is.few is.written is.accepted,
          record { some = made.some; held = made.held; tree = made.tree; rows = made.rows; tids = made.tids; small = omega (arith, small, made.small) },
        )

    -- the transaction has not failed
    pub made-cases : (Q : txn.Progress → Type 0) → ((ops : List Op) → HasMade view source_view d ops step → Q (txn.going ops)) → (p : txn.Progress) → HasCome view source_view d x p → (s : State) → HoldsState view source_view d s → Q p
    made-cases Q f (txn.going ops) come s z = f ops (made-step ops come)
    made-cases Q f (txn.failed j b) come s z = absurd (gives s.kind s.sources (tree_of s.tree) (s.now + 1) (txn.failed j b) (come s z))

    pub made-some : (p : txn.Progress) → HasCome view source_view d x p → IsDatabase view source_view d → (ops : List Op) × HasMade view source_view d ops step
    made-some p come (s, z) = made-cases (λ _. (ops : List Op) × HasMade view source_view d ops step) (λ ops made. (ops, made)) p come s z

    pub made-going : (ops : List Op) → HasCome view source_view d x (txn.going ops) → HasMade view source_view d ops step
    made-going ops come = made-step ops come

module _ {R S : Type 0} (view : R → Tree) (source_view : S → Tree) (d : Db R S) (s : State) (r : Stamp) where
  abbrev Committed : txn.Progress → Db R S → CommitFault → Type 0
  Committed p m e = HasCommitted view source_view d s r p m (Err e)

  -- why a transaction makes nothing
  pub told-unfinished : (limit : ℕ) (p : txn.Progress) (f : FinishFault) (e : CommitFault) → limit + 9 + length r.curator ≡ BODY_MAX → TellsFinish f e
      → txn.Finishes view s.kind s.sources (tree_of s.tree) (s.now + 1) p limit (Err f) → HasCommitted view source_view d s r p d (Err e)
  told-unfinished limit (txn.going ops) finish.Empty e is tells k = subst (Committed (txn.going ops) d) (sym (tells.0 refl)) (k, refl)
  told-unfinished limit (txn.going ops) (finish.Failed n c) e is tells k = absurd k
  told-unfinished limit (txn.going ops) finish.TooLarge e is tells k =
      subst (Committed (txn.going ops) d) (sym (tells.1 refl)) (k.0, no_room (end_in d) (commit_size s r ops) (omega (arith, is, k.1)), refl)
  told-unfinished limit (txn.going ops) finish.Memory e is tells k = subst (Committed (txn.going ops) d) (sym (tells.2 refl)) tt
  told-unfinished limit (txn.failed j b) finish.Empty e is tells k = absurd k
  told-unfinished limit (txn.failed j b) (finish.Failed n c) e is tells k = subst (Committed (txn.failed j b) d) (sym (tells.3 n c refl)) (k.0, k.1, refl)
  told-unfinished limit (txn.failed j b) finish.TooLarge e is tells k = absurd k
  told-unfinished limit (txn.failed j b) finish.Memory e is tells k = absurd k

  -- why a step isn't committed
  pub told-unwritten : (m : Db R S) (ops : List Op) (f : WriteFault) (e : CommitFault) → 1 ≤ length ops → TellsWrite f e → HasStepped view source_view d s r ops m (Err f) → HasCommitted view source_view d s r (txn.going ops) m (Err e)
  told-unwritten m ops write.TooLarge e some tells k = subst (Committed (txn.going ops) m) (sym (tells.2 refl)) (some, k.0, k.1)
  told-unwritten m ops write.Disk e some tells k = subst (Committed (txn.going ops) m) (sym (tells.0 refl)) tt
  told-unwritten m ops write.Memory e some tells k = subst (Committed (txn.going ops) m) (sym (tells.1 refl)) tt

-- where nothing was written, a crash leaves the history before
pub crash-unwritten : {R S : Type 0} (d : Db R S) (h : List Entry) (v : View) (r : Stamp) (p : txn.Progress) → IsKept true d h v → ViewKeeps (IsBeforeOrCommitted h r p) v v
crash-unwritten d h v r (txn.going ops) k = crash-none d h v k _
crash-unwritten d h v r (txn.failed j b) k = crash-failed d h v k
