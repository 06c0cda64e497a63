-- The laws of open transactions, as statements.
use Rattle.std.specs.Prelude.{ℕ, ◌<◌, List}
use Rattle.std.specs.declared.option.Option.TheVariants.{None, Some}
use Rattle.cp_model.specs.Tree.{Tree}
use Rattle.cp_model.specs.declared.kind.Kind.{Kind}
use Rattle.cp_engine.specs.Transactions.{Progress}
use Rattle.cp_curators.specs.Desks.{Desks, no_desks, with_desk, new_desk, desk_or, come_to, HaveBegunBy}

-- transactions have begun by the last Tid, whichever of them begins, goes on or ends, and after each later commit
pub record TransactionsHaveBegun : Type 0 where
  pub none : (t : Tree) (k : Kind) (n : ℕ) → HaveBegunBy t k n no_desks
  pub goes_on : (t : Tree) (k : Kind) (n : ℕ) (desks : Desks) (m : List ℕ) (p : Progress) → HaveBegunBy t k n desks
      → HaveBegunBy t k n (with_desk m (Some (come_to (desk_or (desks m) (new_desk t k n)) p)) desks)
  pub ends : (t : Tree) (k : Kind) (n : ℕ) (desks : Desks) (m : List ℕ) → HaveBegunBy t k n desks
      → HaveBegunBy t k n (with_desk m None desks)
  pub committed : (t u : Tree) (k : Kind) (n o : ℕ) (desks : Desks) → HaveBegunBy t k n desks → n < o
      → HaveBegunBy u k o desks
