-- The open transactions of several curators, and the desks of a session for which they stand.
use Rattle.std.specs.Prelude.{ℕ, ◌≡◌, false, List, [], ⊤}
use Rattle.std.specs.List.{AllByRecursion}
use Rattle.std.specs.declared.option.Option.{Option}
use Rattle.std.specs.declared.option.Option.TheVariants.{None, Some}
use Rattle.cp_model.specs.Tree.{Tree}
use Rattle.cp_model.specs.Past.{tree_of}
use Rattle.cp_model.specs.History.{Entry, State}
use Rattle.cp_model.specs.Versions.{version}
use Rattle.cp_reply.specs.Session.{OpenTransaction, closed, going, failed, is_closed, Desk, desk_of}
use Rattle.cp_engine.specs.Transactions as txn
use Rattle.cp_curators.specs.Curators as curators
use Rattle.cp_curators.specs.Desks.{Desk as OpenDesk, Desks, HaveBegunBy}
use Rattle.cp_curators.specs.declared.curators.Curators.{Curators}

-- how far the transaction has come once one is open: where none was, it holds no operation
abbrev pub progress_of : OpenTransaction → txn.Progress
progress_of closed = txn.going []
progress_of (going ops) = txn.going ops
progress_of (failed n c) = txn.failed n c

-- the tree u is that of the history's version v, which has the kind and the sources that the state t has
pub record IsVersionTree (h : List Entry) (t : State) (u : Tree) (v : ℕ) : Type 0 where
  pub at : State
  pub is : version h v ≡ Some at
  pub tree : tree_of at.tree ≡ u
  pub sources : at.sources ≡ t.sources
  pub kind : at.kind ≡ t.kind

-- a curator's open transaction is that of his desk in the session: it began on the version that the desk tells, and has come
-- as far
pub record IsSeatOf (h : List Entry) (t : State) (e : OpenDesk) (d : Desk) : Type 0 where
  pub there : is_closed d.opened ≡ false
  pub since : e.since ≡ d.since
  pub start : IsVersionTree h t e.start d.since
  pub progress : e.progress ≡ progress_of d.opened

-- what a name has open is what its desk in the session has, or neither has anything
abbrev pub IsSeat : List Entry → State → Option OpenDesk → Desk → Type 0
IsSeat h t None d = d.opened ≡ closed
IsSeat h t (Some e) d = IsSeatOf h t e d

-- after a history that leads to the state t the curators' open transactions are those of the session's desks, name by name
pub record AreSeated {R : Type 0} (view : R → Tree) (h : List Entry) (t : State) (c : Curators R) (ds : List Desk) : Type 0 where
  pub desks : Desks
  pub stands : curators.Stands view t.sources c desks
  pub begun : HaveBegunBy (tree_of t.tree) t.kind t.now desks
  pub listed : AllByRecursion (λ d. is_closed d.opened ≡ false) ds
  pub each : (n : List ℕ) → IsSeat h t (desks n) (desk_of t.now n ds)

-- where the input is that of several curators, their transactions are the session's
abbrev pub Seats : {R : Type 0} → (R → Tree) → List Entry → State → Option (Curators R) → List Desk → Type 0
Seats view h t None ds = ⊤
Seats view h t (Some c) ds = AreSeated view h t c ds
