-- An operation on a desk.
use Rattle.std.specs.Prelude.{ℕ, ◌≡◌, ◌+◌, List, [], ◌∷◌, ◌++◌, length, Result, Ok, Err, IsErr, ⊤}
use Rattle.std.proofs.Common.{sym, subst, arith, length-append}
use Rattle.std.specs.Result.{IsErrAnd}
use Rattle.std.specs.declared.option.Option.TheVariants.{Some}
use Rattle.cp_model.specs.Tree.{Tree, Source}
use Rattle.cp_model.specs.declared.op.Op.{Op}
use Rattle.cp_model.specs.declared.refusal.Cause.TheVariants.{Refused}
use Rattle.cp_engine.specs.Transactions as txn
use Rattle.cp_engine.specs.Transactions.{Progress, going, failed, after_unread}
use Rattle.cp_engine.specs.declared.fault.ApplyFault.{ApplyFault}
use Rattle.cp_engine.specs.declared.fault.ApplyFault.TheVariants as denied
use Rattle.cp_curators.specs.Desks.{Desk, Desks, come_to}
use Rattle.cp_curators.specs.Curators.{HoldsSome, Keeps, Stands, OperatesFrom}
use Rattle.cp_curators.specs.declared.curators.Curators.{Curators}
use Rattle.cp_curators.specs.declared.desk.OpenDesk.{OpenDesk}
use Rattle.cp_curators.proofs.DeskLemmas.{Changes, stands-with, stands-again}

-- one operation more is some
pub holds-more : (ops : List Op) (op : Op) → HoldsSome (going (ops ++ op ∷ []))
holds-more ops op = let len = length-append ops (op ∷ []) in omega (arith, len)

-- nor is anything asked of one that has failed at a text that couldn't be read
pub holds-unread : (p : Progress) → HoldsSome (after_unread p)
holds-unread (going ops) = tt
holds-unread (failed i c) = tt

module _ {R : Type 0} (view : R → Tree) (ss : List Source) (old new : Curators R) (desks : Desks) (n : List ℕ) (d : Desk) (op : Op) (x : OpenDesk R) where
  -- the transaction is still that of the name's desk
  same : (p : Progress) → d.progress ≡ p → desks n ≡ Some d → HoldsSome p → x.since ≡ d.since → txn.Stands view x.transaction d.kind ss d.start (d.since + 1) p → Keeps view ss (Some x) (desks n)
  same p e h some since a = subst (Keeps view ss (Some x)) (sym h)
      (record { since = since; stands = subst (txn.Stands view x.transaction d.kind ss d.start (d.since + 1)) (sym e) a; some = subst HoldsSome (sym e) some })

  -- on the desk of a name, whose transaction is changed in its place
  pub operates-there : (p : Progress) (result : Result ⊤ ApplyFault) → d.progress ≡ p → desks n ≡ Some d → HoldsSome p → x.since ≡ d.since → Changes n (Some x) old new → Stands view ss old desks
      → txn.Applies view d.kind ss d.start (d.since + 1) p op x.transaction result → OperatesFrom view ss desks n d p op new result
  operates-there (going ops) (Ok u) e h some since ch s a =
      (a.0, stands-with view ss old new desks n (Some x) (Some (come_to d (going (ops ++ op ∷ [])))) ch (record { since = since; stands = a.1; some = holds-more ops op }) s)
  operates-there (going ops) (Err (denied.Failed j)) e h some since ch s a = absurd a
  operates-there (going ops) (Err (denied.Refused r)) e h some since ch s a =
      (a.0, stands-with view ss old new desks n (Some x) (Some (come_to d (failed (length ops + 1) (Refused r)))) ch (record { since = since; stands = a.1; some = tt }) s)
  operates-there (going ops) (Err denied.Memory) e h some since ch s a =
      stands-again view ss old new desks n (Some x) ch (same (going ops) e h some since a) s
  operates-there (failed i c) (Ok u) e h some since ch s a = absurd a
  operates-there (failed i c) (Err (denied.Failed j)) e h some since ch s a =
      (a.0, stands-again view ss old new desks n (Some x) ch (same (failed i c) e h some since a.1) s)
  operates-there (failed i c) (Err (denied.Refused r)) e h some since ch s a = absurd a
  operates-there (failed i c) (Err denied.Memory) e h some since ch s a = absurd a

-- an operation for which there was no memory: the desks are as they were
pub operates-no_memory : {R : Type 0} (view : R → Tree) (ss : List Source) (new : Curators R) (desks : Desks) (n : List ℕ) (d : Desk) (op : Op) (result : Result ⊤ ApplyFault) → IsErr result × IsErrAnd result (λ e. e ≡ denied.Memory) → Stands view ss new desks
    → OperatesFrom view ss desks n d (going []) op new result
operates-no_memory view ss new desks n d op (Ok u) e s = absurd e.1
operates-no_memory view ss new desks n d op (Err e) h s = subst (λ e. OperatesFrom view ss desks n d (going []) op new (Err e)) (sym h.1) s
