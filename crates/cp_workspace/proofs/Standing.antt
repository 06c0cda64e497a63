-- A workspace goes on standing for its session, and turns that add no entry.
use Rattle.std.specs.Prelude.{ℕ, ◌≡◌, ◌⊎◌, Bool, true, false, IsTrue, List, [], ◌∷◌, ◌++◌, refl, is_some, IfOk, OnOk, Result, Ok, Err}
use Rattle.std.proofs.Common.{inl, sym, ap, subst, ◌∙◌, append_assoc, append-nil}
use Rattle.std.specs.declared.option.Option.{Option}
use Rattle.std.specs.declared.option.Option.TheVariants.{None, Some}
use Rattle.cp_model.specs.Tree.{Tree}
use Rattle.cp_model.specs.History.{Entry, State, replay}
use Rattle.cp_lang.specs.declared.syntax_tree.Stmt.{Stmt}
use Rattle.cp_disk.specs.Views.{KnownDisk, ViewKeeps}
use Rattle.cp_reply.specs.declared.said.Said.{Said}
use Rattle.cp_reply.specs.Session.{Supply, Session, Desk, OpenTransaction, closed, going, failed, with_opened, Setting, Turn, says, turn_of, turn_by, turn_on}
use Rattle.cp_curators.specs.declared.curators.Curators.{Curators}
use Rattle.cp_disk.specs.declared.disk.Disk as disk
use Rattle.cp_disk.proofs.Composing.{keeps_none}
use Rattle.cp_engine.specs.declared.txn.Txn.{Txn}
use Rattle.cp_frame.specs.Stands.{StandsFor, StandsForEither}
use Rattle.cp_frame.specs.Sizes.{FrameEnd, end_after, end_of, entry_size}
use Rattle.cp_frame.proofs.Ends.{end_of-snoc, end_of-none}
use Rattle.cp_db.specs.Databases.{HoldsState, IsDatabase, IsReady, IsKept, end_in, is_spent}
use Rattle.cp_db.specs.Committed.{HasRows}
use Rattle.cp_db.specs.Writing.{HasAdded}
use Rattle.cp_db.specs.declared.database.Db.{Db}
use Rattle.cp_db.proofs.Keeping.{kept-images, stands-then}
use Rattle.cp_workspace.specs.Seats.{Seats}
use Rattle.cp_workspace.specs.Texts.{Terms}
use Rattle.cp_workspace.specs.Workspaces.{expected, workspace_at, Stands, Opens, EndsAt, IsWorkspace, IsUsable, IsBegun, AreBegun, HoldsFile, Turned, TurnsAs, end_now}
use Rattle.cp_workspace.specs.declared.fault.WorkspaceFault.{WorkspaceFault}
use Rattle.cp_workspace.specs.declared.workspace.Workspace.{Workspace}

-- what holds in any case holds at a value
pub on-ok : {T E P : Type 0} (r : Result T E) → P → OnOk r P
on-ok (Ok x) p = p
on-ok (Err e) p = tt

-- ---- where there is one curator

-- nobody else's transactions are the session's
pub alone-seats : {R : Type 0} (view : R → Tree) (h : List Entry) (t : State) (c : Option (Curators R)) (ds : List Desk) → c ≡ None → Seats view h t c ds
alone-seats view h t c ds e = subst (λ o. Seats view h t o ds) (sym e) tt

-- nor were any begun
pub alone-begun : {R S : Type 0} (view : R → Tree) (source_view : S → Tree) (b : Db R S) (c : Option (Curators R)) (x : Option (Txn R)) → c ≡ None → AreBegun view source_view b c x
alone-begun view source_view b c x e = subst (λ o. AreBegun view source_view b o x) (sym e) tt

-- ---- what it stands for

module _ {R S : Type 0} (view : R → Tree) (source_view : S → Tree) where
  -- no transaction is open, whatever the database has become
  pub none-opens : (b m : Db R S) (o : OpenTransaction) → Opens view source_view b None o → Opens view source_view m None o
  none-opens b m closed h = tt
  none-opens b m (going ops) h = absurd h
  none-opens b m (failed i c) h = absurd h

  module _ (terms : Terms) (d m : Workspace R S) (s : Session) (z : Stands view source_view terms d s) where
    -- a turn is the one on the state to which the history leads
    pub turn-is : (c : Setting) (x : Stmt) → turn_of c s (says x) ≡ turn_on c s z.db.state x
    turn-is c x = ap (λ o. turn_by c s o x) z.db.led.replayed

    -- it stands for the session whatever is told next
    pub stands-told : (x : Supply) → Stands view source_view terms d (record { history = s.history; opened = s.opened; desks = s.desks; supply = x })
    stands-told x = record { db = z.db; ends = z.ends; curator = z.curator; opened = z.opened; shared = z.shared; desks = z.desks }

    -- it stands for a session whose transaction alone has changed
    pub stands-with : (o : OpenTransaction) → m.db ≡ d.db → m.curator ≡ d.curator → m.curators ≡ d.curators → Opens view source_view d.db m.transaction o → Stands view source_view terms m (with_opened s o)
    stands-with o same signed desks h = record {
      db = record { state = z.db.state; led = z.db.led; holds = subst (λ (b : Db R S). HoldsState view source_view b z.db.state) (sym same) z.db.holds; rows = λ asked. subst (λ (b : Db R S). HasRows b.committed z.db.state) (sym same) (z.db.rows asked) };
      ends = subst (λ (b : Db R S). EndsAt terms.ends s.history (end_in b)) (sym same) z.ends;
      curator = signed ∙ z.curator;
      opened = subst (λ (b : Db R S). Opens view source_view b m.transaction o) (sym same) h;
      shared = ap is_some desks ∙ z.shared;
      desks = subst (λ c. Seats view s.history z.db.state c s.desks) (sym desks) z.desks;
    }

    -- it stands for the session with no open transaction
    pub stands-closed : m.db ≡ d.db → m.curator ≡ d.curator → m.curators ≡ d.curators → m.transaction ≡ None → Stands view source_view terms m (with_opened s closed)
    stands-closed same signed desks none = stands-with closed same signed desks (subst (λ y. Opens view source_view d.db y closed) (sym none) tt)

-- the frames of a file that was just made or opened end where they do
pub ends-now : {R S : Type 0} (d : Db R S) (h : List Entry) → EndsAt (end_now h d) h (end_in d)
ends-now d h = record { later = []; begun = sym (append-nil h); is_end = sym (end_of-none (end_now h d)) }

-- after one entry more the frames end by its frame later
pub ends-added : (f : FrameEnd) (h : List Entry) (at now : ℕ) (e : Entry) → EndsAt f h at → now ≡ end_after at (replay h) (e ∷ []) → EndsAt f (h ++ e ∷ []) now
ends-added f h at now e x is =
    let more : end_of f (h ++ e ∷ []) ≡ end_after (end_of f h) (replay h) (e ∷ []) =
    subst (λ (l : List Entry). end_of f (l ++ e ∷ []) ≡ end_after (end_of f l) (replay l) (e ∷ [])) (sym x.begun) (end_of-snoc f x.later e) in
    record {
      later = x.later ++ e ∷ [];
      begun = ap (λ (l : List Entry). l ++ e ∷ []) x.begun ∙ append_assoc f.entries x.later (e ∷ []);
      is_end = is ∙ ap (λ (n : ℕ). end_after n (replay h) (e ∷ [])) x.is_end ∙ sym more;
    }

-- it stands for the history with an entry more, which was added to its database
pub stands-added : {R S : Type 0} (view : R → Tree) (source_view : S → Tree) (terms : Terms) (d m : Workspace R S) (s : Session) (z : Stands view source_view terms d s) (e : Entry) (t : State) (size : ℕ) (o : OpenTransaction) (supply : Supply)
    → HasAdded view source_view d.db z.db.state e t size m.db → entry_size (Some z.db.state) e ≡ size → m.curator ≡ d.curator → d.curators ≡ None → m.curators ≡ None → Opens view source_view m.db m.transaction o
    → Stands view source_view terms m (record { history = s.history ++ e ∷ []; opened = o; desks = s.desks; supply = supply })
stands-added view source_view terms d m s z e t size o supply added counted signed before alone h =
    let sized : HasAdded view source_view d.db z.db.state e t (entry_size (replay s.history) e) m.db =
    subst (λ (n : ℕ). HasAdded view source_view d.db z.db.state e t n m.db) (sym (ap (λ (x : Option State). entry_size x e) z.db.led.replayed ∙ counted)) added in
    record {
      db = stands-then view source_view true d.db m.db s.history z.db e t (entry_size (replay s.history) e) sized;
      ends = ends-added terms.ends s.history (end_in d.db) (end_in m.db) e z.ends sized.end;
      curator = signed ∙ z.curator;
      opened = h;
      shared = ap is_some alone ∙ sym (ap is_some before) ∙ z.shared;
      desks = alone-seats view (s.history ++ e ∷ []) _ m.curators s.desks alone;
    }

-- ---- what may be run on it

not_spent : (b : Bool) → (IsTrue b → ⊥) → b ≡ false
not_spent true h = absurd (h refl)
not_spent false h = refl

module _ {R S : Type 0} (view : R → Tree) (source_view : S → Tree) (d m : Workspace R S) (none : m.transaction ≡ None) where
  none_begun : IsBegun view source_view m.db m.transaction
  none_begun = subst (IsBegun view source_view m.db) (sym none) tt

  -- after an entry more it may still be written
  pub workspace-added : IsWorkspace view source_view d → m.curators ≡ None → IsDatabase view source_view m.db → (IsTrue (is_spent m.db) → ⊥) → IsWorkspace view source_view m
  workspace-added u alone stands spent = record { stands = stands; usable = not_spent (is_spent m.db) spent; begun = none_begun; desks = alone-begun view source_view m.db m.curators m.transaction alone }

  -- and so it may where its database is the same
  pub workspace-shut : IsWorkspace view source_view d → m.db ≡ d.db → m.curators ≡ None → IsWorkspace view source_view m
  workspace-shut u same alone = record {
    stands = subst (IsDatabase view source_view) (sym same) u.stands;
    usable = ap is_spent same ∙ u.usable;
    begun = none_begun;
    desks = alone-begun view source_view m.db m.curators m.transaction alone;
  }

  pub usable-shut : {D : Type 0} (g : disk.Ghosts D) (k l : D) → l ≡ k → IsUsable view source_view (g.known k) d → m.db ≡ d.db → m.curators ≡ None → IsUsable view source_view (g.known l) m
  usable-shut g k l still u same alone =
      subst (λ i. IsUsable view source_view (g.known i) m) (sym still)
      (record { workspace = workspace-shut u.workspace same alone; ready = λ known. subst (λ (b : Db R S). IsReady b (g.known k).view) (sym same) (u.ready known) })

-- ---- turns

module _ {R S A : Type 0} (view : R → Tree) (source_view : S → Tree) (given : A → Option Said) (terms : Terms) (t : Turn) (s : Session) (rest : Supply) (old new : Workspace R S) where
  -- where the disk is as it was, each file that a crash leaves stands for the history before
  pub leaves-still : (v : KnownDisk) (i : List Entry) → HoldsFile old s.history v → ViewKeeps (StandsForEither s.history i) v.view v.view
  leaves-still v i k = keeps_none (λ c. StandsFor s.history c ⊎ StandsFor i c) v.view (λ c x. inl (kept-images old.db s.history v.view k c x))

  -- a call left the database and the disk as they were, in a turn that adds no entry
  pub turns-still : (v : KnownDisk) (result : Result A WorkspaceFault) → new.db ≡ old.db → t.next.history ≡ s.history → t.next.supply ≡ rest → IfOk result (λ r. Turned view source_view terms t new (given r))
      → TurnsAs view source_view given (expected terms t s rest) (workspace_at old v) (workspace_at new v) result
  turns-still v result same unchanged taken turned = record {
    turned = turned;
    taken = on-ok result taken;
    kept = λ known k. on-ok result (subst (λ (h : List Entry). HoldsFile new h v) (sym unchanged) (subst (λ (b : Db R S). IsKept true b s.history v.view) (sym same) k));
    leaves = λ known k. leaves-still v t.next.history k;
  }

  -- a call gave an error
  pub turns-failed : (v w : KnownDisk) (result : Result A WorkspaceFault) → (y : WorkspaceFault) × (result ≡ Err y) → (IsTrue v.known → HoldsFile old s.history v → ViewKeeps (StandsForEither s.history t.next.history) v.view w.view)
      → TurnsAs view source_view given (expected terms t s rest) (workspace_at old v) (workspace_at new w) result
  turns-failed v w result p leaves = subst (TurnsAs view source_view given (expected terms t s rest) (workspace_at old v) (workspace_at new w)) (sym p.1) (record { turned = tt; taken = tt; kept = λ known k. tt; leaves = leaves })

  -- an error, where the disk is as it was
  pub turns-failed-still : (v : KnownDisk) (result : Result A WorkspaceFault) → (y : WorkspaceFault) × (result ≡ Err y) → TurnsAs view source_view given (expected terms t s rest) (workspace_at old v) (workspace_at new v) result
  turns-failed-still v result p = turns-failed v v result p (λ known k. leaves-still v t.next.history k)
