-- A database goes on holding its state.
use Rattle.std.proofs.Common.{◌≡◌, ℕ, ◌+◌, Bool, IsTrue, true, false, List, [], refl, sym, ◌∙◌, ap, subst}
use Rattle.std.specs.declared.option.Option.TheVariants.{None}
use Rattle.cp_store.specs.Stores.{KindRows}
use Rattle.cp_engine.specs.Transactions as txn
use Rattle.cp_engine.specs.declared.txn.Txn.{Txn}
use Rattle.cp_model.specs.declared.kind.Kind.{Kind}
use Rattle.cp_model.specs.Past.{tree_of}
use Rattle.cp_model.specs.Tree.{Tree, Source}
use Rattle.cp_model.specs.History.{Entry, State}
use Rattle.cp_model.specs.Laws.{AreSources}
use Rattle.cp_query.specs.Asked.{IsCommitted}
use Rattle.cp_db.specs.Committed.{HasRows, KeepsState, LeadsTo}
use Rattle.cp_db.specs.declared.committed.Committed.{Committed}
use Rattle.cp_db.specs.Databases.{HasCome, HoldsSame, HoldsState}
use Rattle.cp_db.specs.declared.database.Db.{Db}

-- what isn't so isn't true
pub unspent : (b : Bool) → (IsTrue b → ⊥) → b ≡ false
unspent true h = absurd (h refl)
unspent false h = refl

module _ {R S : Type 0} (view : R → Tree) (source_view : S → Tree) where
  -- a database holds what it keeps in memory, where its journal may be written
  pub holds-appended : (m : Db R S) (c : Committed R S) (s : State) → m.committed ≡ c → m.journal.broken ≡ None → m.journal.spent ≡ false → m.journal.begun ≡ None → KeepsState view source_view c s → HoldsState view source_view m s
  holds-appended m c s same whole usable idle z = record {
    committed = subst (λ (x : Committed R S). KeepsState view source_view x s) (sym same) z;
    whole = whole;
    usable = usable;
    idle = idle;
  }

  -- and has its rows
  pub rows-appended : (m : Db R S) (c : Committed R S) (s : State) → m.committed ≡ c → HasRows c s → HasRows m.committed s
  rows-appended m c s same has = ap (λ (x : Committed R S). x.store.rows.list) same ∙ has

  -- a database whose journal alone has changed holds the same states, where it may be written still
  pub holds-rejournaled : (d m : Db R S) (s : State) → m.committed ≡ d.committed → m.journal.broken ≡ None → m.journal.spent ≡ false → m.journal.begun ≡ None → HoldsState view source_view d s → HoldsSame view source_view d m
  holds-rejournaled d m s same whole usable idle z = record {
    states = λ t. (
      λ y. holds-appended m d.committed t same whole usable idle y.committed,
      λ y. record { committed = subst (λ (x : Committed R S). KeepsState view source_view x t) same y.committed; whole = z.whole; usable = z.usable; idle = z.idle },
    );
    rows = λ t has. rows-appended m d.committed t same has;
  }

  -- a store of the same kind, up to the same Tid, keeps the same states
  keeps_read : (c : Committed R S) (r : KindRows) (s : State) → r.kind ≡ c.store.kind → r.rows.upto ≡ c.store.rows.upto → KeepsState view source_view c s → KeepsState view source_view (record c { store = r }) s
  keeps_read c r s kind upto z = record {
    kind = kind ∙ z.kind;
    sources = z.sources;
    tree = z.tree;
    upto = upto ∙ z.upto;
    commits = z.commits;
    tids = z.tids;
    few = z.few;
    sound = z.sound;
  }

  -- a database whose rows were read holds the same states
  pub holds-read : (d : Db R S) (r : KindRows) → r.kind ≡ d.committed.store.kind → r.rows.upto ≡ d.committed.store.rows.upto → r.rows.list ≡ d.committed.store.rows.list → HoldsSame view source_view d (record d { committed = record d.committed { store = r } })
  holds-read d r kind upto list = record {
    states = λ s. (
      λ z. record { committed = keeps_read d.committed r s kind upto z.committed; whole = z.whole; usable = z.usable; idle = z.idle },
      λ z. record { committed = keeps_read (record d.committed { store = r }) d.committed.store s (sym kind) (sym upto) z.committed; whole = z.whole; usable = z.usable; idle = z.idle },
    );
    rows = λ s has. list ∙ has;
  }

-- its kind, its last Tid and its tree are those of the state that is asked
pub state-asked : {R S : Type 0} (view : R → Tree) (source_view : S → Tree) (c : Committed R S) (h : List Entry) (s : State) → LeadsTo h s → KeepsState view source_view c s → IsCommitted c.store.kind c.store.rows.upto s.rows (view c.tree) s
state-asked view source_view c h s led z = record {
  history = h;
  legal = led.legal;
  replayed = led.replayed;
  kind = sym z.kind;
  now = sym z.upto;
  rows = refl;
  tree = sym z.tree;
}

-- a transaction that was begun on a database has come nowhere yet
pub come-begun : {R S : Type 0} (view : R → Tree) (source_view : S → Tree) (d : Db R S) (x : Txn R) (k : Kind) (n : ℕ) → k ≡ d.committed.store.kind → n ≡ d.committed.store.rows.upto
    → ((ss : List Source) → AreSources ss → txn.Stands view x k ss (view d.committed.tree) (n + 1) (txn.going [])) → HasCome view source_view d x (txn.going [])
come-begun view source_view d x k n kind upto stands s z =
    let c = z.committed in
    let ss : List Source = s.sources in
    let begun : txn.Stands view x k ss (view d.committed.tree) (n + 1) (txn.going []) = stands ss c.sound.sources in
    let of_kind : txn.Stands view x s.kind ss (view d.committed.tree) (n + 1) (txn.going []) = subst (λ (j : Kind). txn.Stands view x j ss (view d.committed.tree) (n + 1) (txn.going [])) (kind ∙ c.kind) begun in
    let on_tree : txn.Stands view x s.kind ss (tree_of s.tree) (n + 1) (txn.going []) = subst (λ (t : Tree). txn.Stands view x s.kind ss t (n + 1) (txn.going [])) c.tree of_kind in
    subst (λ (i : ℕ). txn.Stands view x s.kind ss (tree_of s.tree) (i + 1) (txn.going [])) (upto ∙ c.upto) on_tree
