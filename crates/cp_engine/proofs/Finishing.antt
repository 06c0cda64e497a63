-- The end of a transaction.
use Rattle.cp_model.specs.declared.limits.TheConstants.{ENTRY_MAX}
use Rattle.std.specs.Prelude.{ℕ, ◌+◌, ◌≤◌, ◌<◌, ◌≡◌, ◌⊎◌, List, length, Result, Ok, Err, IfErr, IsErr}
use Rattle.std.specs.Result.{IsErrAnd}
use Rattle.std.proofs.Common.{sym, ap, subst, ◌∙◌, arith, inl, inr}
use Rattle.std.specs.declared.option.Option.TheVariants.{Some}
use Rattle.cp_model.specs.Tree.{Tree, Source}
use Rattle.cp_model.specs.declared.kind.Kind.{Kind}
use Rattle.cp_model.specs.declared.op.Op.{Op}
use Rattle.cp_model.specs.declared.record.Record.{Record}
use Rattle.cp_record.specs.Bytes.{records_bytes, commit_length}
use Rattle.cp_overlay.specs.Seen.{seen}
use Rattle.cp_operation.specs.Passed.{records_of}
use Rattle.cp_engine.specs.Transactions.{Progress, going, failed, IsGoing, Stands, Packs, PacksNothing, AreGivenUp, Finishes}
use Rattle.cp_model.specs.Step.{Working, contents}
use Rattle.cp_model.specs.History.{steps_of, with_tid, rows_of}
use Rattle.cp_model.specs.declared.kind.Kind.TheVariants as kind
use Rattle.cp_overlay.specs.Kept.{Kept}
use Rattle.cp_overlay.specs.Kept as overlay
use Rattle.cp_engine.specs.declared.kept.StepRecords.{StepRecords}
use Rattle.cp_engine.specs.declared.kept.StepRecords.TheVariants.{Held}
use Rattle.cp_engine.specs.declared.state.Failure.{Failure}
use Rattle.cp_engine.specs.declared.txn.Step.{Step}
use Rattle.cp_engine.specs.declared.txn.Txn.{Txn}
use Rattle.cp_engine.specs.declared.fault.FinishFault.{FinishFault}
use Rattle.cp_engine.specs.declared.fault.FinishFault.TheVariants.{Empty, Failed, TooLarge, Memory}
use Rattle.cp_engine.proofs.Going.{packed-going, large-going}

module _ (k : Kind) (rows : StepRecords) (o : Kept) (a t : Tree) (n : ℕ) where
  -- the records of the steps are packed in the kinds n and h
  pub packs-held : (rs : List Record) → ((k ≡ kind.N) ⊎ (k ≡ kind.H)) → rows ≡ Held rs → Packs k rows o a t n rs
  packs-held rs (inl e) h = subst (λ k. Packs k rows o a t n rs) (sym e) h
  packs-held rs (inr e) h = subst (λ k. Packs k rows o a t n rs) (sym e) h

  -- and those of the net effect in the others
  pub packs-net : (rs : List Record) → ((k ≡ kind.T) ⊎ (k ≡ kind.HT)) → ((w : Working) → overlay.IsWorking w → overlay.Stands o a w → contents w ≡ t → rs ≡ with_tid n (rows_of k a w)) → Packs k rows o a t n rs
  packs-net rs (inl e) h = subst (λ k. Packs k rows o a t n rs) (sym e) (λ w i s c. h w i s c ∙ ap (λ k. with_tid n (rows_of k a w)) e)
  packs-net rs (inr e) h = subst (λ k. Packs k rows o a t n rs) (sym e) (λ w i s c. h w i s c ∙ ap (λ k. with_tid n (rows_of k a w)) e)

-- what is packed of a transaction that hasn't failed and holds some operations, with the bytes of the commit
pub record IsPacked {R : Type 0} (view : R → Tree) (x : Txn R) (tid size : ℕ) (rs : List Record) : Type 0 where
  pub sound : (f : Failure) → x.failure ≡ Some f → ⊥
  pub some : 1 ≤ length x.ops
  pub first : tid ≡ x.first + 0
  pub packs : Packs x.kind x.rows (seen x.overlay) (view x.start) (view x.tree) tid rs
  pub bytes : size ≡ commit_length x.ops rs

-- a commit takes the bytes of its records and more
commit-over : (ops : List Op) (rs : List Record) → length (records_bytes rs) ≤ commit_length ops rs
unfolding commit_length
commit-over ops rs = omega arith

-- a transaction that hasn't failed and holds some operations, but of which nothing can be packed
pub record IsUnpacked {R : Type 0} (x : Txn R) (f : FinishFault) : Type 0 where
  pub sound : (f : Failure) → x.failure ≡ Some f → ⊥
  pub some : 1 ≤ length x.ops
  pub nothing : PacksNothing x.kind x.rows f

module _ {R : Type 0} (view : R → Tree) (x : Txn R) (k : Kind) (ss : List Source) (t : Tree) (n : ℕ) where
  -- with records that were given up it is over each limit of a commit
  large : (ops : List Op) (limit : ℕ) → limit ≤ ENTRY_MAX → IsGoing view x k ss t n ops → AreGivenUp x.kind x.rows → limit < commit_length ops (records_of k ss t n ops)
  large ops limit l g u = omega (arith, l, large-going view ss x k t n ops g u, commit-over ops (records_of k ss t n ops))

  -- it makes nothing, for that cause
  pub finishes-unpacked : (f : FinishFault) → IsUnpacked x f → (p : Progress) (limit : ℕ) → limit ≤ ENTRY_MAX → Stands view x k ss t n p → Finishes view k ss t n p limit (Err f)
  finishes-unpacked f h (failed j c) limit l g = absurd (h.sound _ g.failure)
  finishes-unpacked Empty h (going ops) limit l g = absurd h.nothing
  finishes-unpacked (Failed j c) h (going ops) limit l g = absurd h.nothing
  finishes-unpacked TooLarge h (going ops) limit l g = let some = h.some in (omega (arith, some, ap length g.held), large ops limit l g h.nothing)
  finishes-unpacked Memory h (going ops) limit l g = let some = h.some in omega (arith, some, ap length g.held)

module _ {R : Type 0} (view : R → Tree) (x : Txn R) (tid size : ℕ) (rs : List Record) (h : IsPacked view x tid size rs) (k : Kind) (ss : List Source) (t : Tree) (n : ℕ) where
  size_is : (ops : List Op) → IsGoing view x k ss t n ops → size ≡ commit_length ops (records_of k ss t n ops)
  size_is ops g = h.bytes ∙ ap (λ os. commit_length os rs) g.held ∙ ap (commit_length ops) (packed-going view ss x k t n tid ops rs h.first g h.packs)

  -- one over the limit makes nothing
  pub finishes-large : (p : Progress) (limit : ℕ) → limit < size → Stands view x k ss t n p → Finishes view k ss t n p limit (Err TooLarge)
  finishes-large (going ops) limit l g =
      let bytes = size_is ops g in
      let some = h.some in
      (omega (arith, some, ap length g.held), omega (arith, l, bytes))
  finishes-large (failed j c) limit l g = h.sound _ g.failure

  -- one within it makes its step
  pub finishes-step : (p : Progress) (limit : ℕ) → size ≤ limit → Stands view x k ss t n p →
      Finishes view k ss t n p limit (Ok (record { ops = x.ops; tree = x.tree; rows = rs; tids = length (steps_of x.kind x.ops) }))
  finishes-step (going ops) limit l g =
      let bytes = size_is ops g in
      let some = h.some in
      record {
        some = omega (arith, some, ap length g.held);
        held = g.held;
        tree = g.tree;
        rows = packed-going view ss x k t n tid ops rs h.first g h.packs;
        tids = ap (λ os. length (steps_of x.kind os)) g.held ∙ ap (λ d. length (steps_of d ops)) g.kind;
        small = omega (arith, l, bytes);
      }
  finishes-step (failed j c) limit l g = h.sound _ g.failure

-- the step of a transaction whose records were taken out is that of the transaction
pub step-taken : {R : Type 0} (x y : Txn R) (rs : List Record) → y ≡ record x { rows = y.rows } →
    ◌≡◌ {A = Step R} (record { ops = y.ops; tree = y.tree; rows = rs; tids = length (steps_of y.kind y.ops) }) (record { ops = x.ops; tree = x.tree; rows = rs; tids = length (steps_of x.kind x.ops) })
step-taken {R} x y rs e = ap (λ (z : Txn R). record { ops = z.ops; tree = z.tree; rows = rs; tids = length (steps_of z.kind z.ops) }) e

-- an error that is passed on is that error
pub passed-on : {T E : Type 0} (Q : E → Type 0) (result : Result T E) (e : E) → IsErr result × IsErrAnd result (λ f. f ≡ e) → Q e → IfErr result Q
passed-on Q (Ok x) e h q = tt
passed-on Q (Err f) e h q = subst Q (sym h.1) q
