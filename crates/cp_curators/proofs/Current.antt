-- That a transaction which is handed out is current.
use Rattle.std.specs.Prelude.{ℕ, ◌≡◌, ◌+◌, ◌≤◌, List, Result, Ok, Err, IfOk, refl}
use Rattle.std.proofs.Common.{subst, arith}
use Rattle.std.specs.declared.option.Option.{Option}
use Rattle.std.specs.declared.option.Option.TheVariants.{None, Some}
use Rattle.indexmap.specs.IndexMap.{get}
use Rattle.cp_path.specs.Text.{text_eq}
use Rattle.cp_model.specs.Tree.{Tree, Source}
use Rattle.cp_model.specs.declared.kind.Kind.{Kind}
use Rattle.cp_engine.specs.Transactions as txn
use Rattle.cp_engine.specs.Transactions.{Progress, going, failed}
use Rattle.cp_engine.specs.declared.txn.Txn.{Txn}
use Rattle.cp_curators.specs.Desks.{Desk, Desks, HaveBegunBy}
use Rattle.cp_curators.specs.Curators.{HoldsSome, Keeps, Stands, TakesFrom, Takes, IsCurrent}
use Rattle.cp_curators.specs.declared.curators.Curators.{Curators}
use Rattle.cp_curators.specs.declared.desk.OpenDesk.{OpenDesk}
use Rattle.cp_curators.specs.declared.fault.ShareFault.{ShareFault}

module _ {R : Type 0} (view : R → Tree) (ss : List Source) where
  -- a desk whose transaction is going holds an operation
  some-held : (o : Option (OpenDesk R)) (d : Desk) → Keeps view ss o (Some d) → HoldsSome d.progress
  some-held None d k = absurd k
  some-held (Some x) d k = k.some

  module _ (t : Tree) (k : Kind) (n : ℕ) (x : Txn R) where
    from-going : (d : Desk) (p : Progress) → d.kind ≡ k → d.since ≤ n → (d.since ≡ n → d.start ≡ t) → HoldsSome p → TakesFrom view ss d n p (Ok x) → IsCurrent view ss t k n x
    from-going d (failed i c) kind since start some h = absurd h
    from-going d (going ops) kind since start some h =
        let late = h.0 in
        let now : d.since ≡ n = omega (arith, since, late) in (
          ops,
          some,
          subst (λ k. txn.Stands view x k ss t (n + 1) (going ops)) kind
              (subst (λ m. txn.Stands view x d.kind ss t (m + 1) (going ops)) now
              (subst (λ u. txn.Stands view x d.kind ss u (d.since + 1) (going ops)) (start now) h.1)),
        )

    from-desk : (desks : Desks) (m : List ℕ) (o : Option Desk) → desks m ≡ o → HaveBegunBy t k n desks → ((d : Desk) → o ≡ Some d → HoldsSome d.progress) → Takes view ss o n (Ok x) → IsCurrent view ss t k n x
    from-desk desks m None e b some h = absurd h
    from-desk desks m (Some d) e b some h = from-going d d.progress (b.kinds m d e) (b.since m d e) (b.starts m d e) (some d refl) h

  -- what is handed out stands on the tree of the last commit
  pub takes-current : (c : Curators R) (desks : Desks) (m : List ℕ) (n : ℕ) (r : Result (Txn R) ShareFault) (t : Tree) (k : Kind) → Stands view ss c desks → HaveBegunBy t k n desks → Takes view ss (desks m) n r
      → IfOk r (IsCurrent view ss t k n)
  takes-current c desks m n (Ok x) t k s b h =
      from-desk t k n x desks m (desks m) refl b (λ d e. some-held (get text_eq c.desks m) d (subst (Keeps view ss (get text_eq c.desks m)) e (s.each m))) h
  takes-current c desks m n (Err e) t k s b h = tt
