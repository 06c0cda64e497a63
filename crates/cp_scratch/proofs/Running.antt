-- The statements of a script, run one after another with a clock that has no moment left.
use Rattle.std.proofs.Common.{◌≡◌, ◌∙◌, ℕ, List, [], ◌∷◌, ◌++◌, Bool, true, false, Ok, Err, refl, sym, ap, subst}
use Rattle.std.specs.Prelude.{if◌then◌else◌, drop, IfOk, OnOk, Result}
use Rattle.std.specs.declared.option.Option.{Option}
use Rattle.std.specs.declared.option.Option.TheVariants.{None, Some}
use Rattle.cp_outside.specs.Moments.{HasTold}
use Rattle.cp_model.specs.Tree.{Tree}
use Rattle.cp_model.specs.History.{Entry, State, commit, replay, after_commit}
use Rattle.cp_model.specs.declared.kind.Kind.{Kind}
use Rattle.cp_model.specs.declared.op.Op.{Op}
use Rattle.cp_model.specs.declared.refusal.Refusal.{Refusal}
use Rattle.cp_model.specs.declared.stamp.Stamp.{Stamp}
use Rattle.cp_lang.specs.declared.syntax_tree.Stmt.{Stmt}
use Rattle.cp_lang.specs.declared.syntax_tree.Stmt.TheVariants as stmt
use Rattle.cp_reply.specs.declared.reply.Reply.{Reply}
use Rattle.cp_reply.specs.Session.{Supply, no_supply, Session, Setting, Turn, OpenTransaction, Desk, closed, going, failed, says, turn_of, turn_by, on_operation, on_commit, decide_op, refusal_after, next_moment, new_records, session_after_statements}
use Rattle.cp_gen.specs.Script.{IsOpOrCommit, script}
use Rattle.cp_gen.specs.Summaries.{IsAt, summary_of}
use Rattle.cp_db.specs.declared.database.Db.{Db}
use Rattle.cp_reply.proofs.Supplies.{followed-none}
use Rattle.cp_workspace.specs.Supplies.{IsSupplied}
use Rattle.cp_workspace.specs.Files.{KnownFiles}
use Rattle.cp_workspace.specs.Clocks.{KnownClock}
use Rattle.cp_workspace.specs.Texts.{Terms, setting}
use Rattle.cp_disk.specs.Views.{KnownDisk}
use Rattle.cp_workspace.specs.Workspaces.{workspace_at, of_nobody, Stands, HasTurned, db_in}
use Rattle.cp_workspace.specs.declared.workspace.Workspace.{Workspace}
use Rattle.cp_scratch.specs.Workloads.{ComesTo, workload_session, workload_terms}

-- what follows from what holds where all went well
pub on-then : {T E P Q : Type 0} (r : Result T E) → (P → Q) → OnOk r P → OnOk r Q
on-then (Ok x) f h = f h
on-then (Err e) f h = tt

-- ---- moments

abbrev some_value : Option (List ℕ) → List ℕ
some_value None = []
some_value (Some ms) = ms

-- a clock with no moment left tells the moment 0, and has none left
silent-told : (now : Option (List ℕ)) (ms : List ℕ) → HasTold (Some []) now ms → (now ≡ Some []) × (next_moment ms ≡ 0)
silent-told now [] h = (h, refl)
silent-told now (m ∷ ms) h =
    let next : HasTold (Some []) now ms = subst (λ o. HasTold o now ms) h.1.1 h.2 in
    ((silent-told now ms next).0, h.1.0)

-- ---- turns and moments

module _ {A : Type 0} (f : Turn → A) where
  -- what holds of either turn
  either-turn : (b : Bool) (x y : Turn) (u : A) → f x ≡ u → f y ≡ u → f (if b then x else y) ≡ u
  either-turn true x y u h k = h
  either-turn false x y u h k = k

  -- the same case of other turns
  same-case : (b : Bool) (x y x' y' : Turn) → f x ≡ f x' → f y ≡ f y' → f (if b then x else y) ≡ f (if b then x' else y')
  same-case true x y x' y' h k = h
  same-case false x y x' y' h k = k

-- an operation asks for no moment
op-moments : (s : Session) (ops : List Op) (op : Op) (o : Option Refusal) → (decide_op s ops op o).next.supply.moments ≡ s.supply.moments
op-moments s ops op None = refl
op-moments s ops op (Some r) = refl

operation-moments : (s : Session) (t : State) (op : Op) (x : OpenTransaction) → (on_operation s t op x).next.supply.moments ≡ s.supply.moments
operation-moments s t op closed = op-moments s [] op (refusal_after t [] op)
operation-moments s t op (going ops) = op-moments s ops op (refusal_after t ops op)
operation-moments s t op (failed n c) = refl

-- with none left a commit leaves none
commit-moments : (c : Setting) (s : Session) (t : State) (x : OpenTransaction) → s.supply.moments ≡ [] → (on_commit c s t x).next.supply.moments ≡ []
commit-moments c s t closed e = e
commit-moments c s t (going ops) e =
    let z : Stamp = record { curator = c.curator; moment = next_moment s.supply.moments } in
    either-turn (λ y. y.next.supply.moments) (c.fits s.history z ops (new_records t (after_commit t ops))) _ _ [] (ap (λ m. drop 1 m) e) (ap (λ m. drop 1 m) e)
commit-moments c s t (failed n k) e = e

-- so it is with each statement of a script
by-state-moments : (c : Setting) (s : Session) (x : Stmt) (o : Option State) → IsOpOrCommit x → s.supply.moments ≡ [] → (turn_by c s o x).next.supply.moments ≡ []
by-state-moments c s x None only e = e
by-state-moments c s (stmt.Op op) (Some t) only e = operation-moments s t op s.opened ∙ e
by-state-moments c s stmt.Commit (Some t) only e = commit-moments c s t s.opened e
by-state-moments c s stmt.Abort (Some t) only e = absurd only
by-state-moments c s (stmt.Load l) (Some t) only e = absurd only
by-state-moments c s (stmt.Ask q) (Some t) only e = absurd only
by-state-moments c s (stmt.Show p) (Some t) only e = absurd only

turn-moments : (c : Setting) (s : Session) (x : Stmt) → IsOpOrCommit x → s.supply.moments ≡ [] → (turn_of c s (says x)).next.supply.moments ≡ []
turn-moments c s x only e = by-state-moments c s x (replay s.history) only e

-- a commit asks for the next moment alone
module _ (c : Setting) (s : Session) (x : Supply) (same : next_moment x.moments ≡ next_moment s.supply.moments) where
  abbrev other : Session
  other = record { history = s.history; opened = s.opened; desks = s.desks; supply = x }

  abbrev stamp : ℕ → Stamp
  stamp m = record { curator = c.curator; moment = m }

  commit-opened : (q : Session) (t : State) (x : OpenTransaction) → (on_commit c q t x).next.opened ≡ closed
  commit-opened q t closed = refl
  commit-opened q t (going ops) = either-turn (λ y. y.next.opened) (c.fits q.history (stamp (next_moment q.supply.moments)) ops (new_records t (after_commit t ops))) _ _ closed refl refl
  commit-opened q t (failed n k) = refl

  -- the history after operations are committed at this moment
  abbrev committed : State → List Op → ℕ → List Entry
  committed t ops m = if c.fits s.history (stamp m) ops (new_records t (after_commit t ops)) then s.history ++ commit (stamp m) ops ∷ [] else s.history

  -- is that after the commit
  history-is : (b : Bool) (x y : Turn) (h k : List Entry) → x.next.history ≡ h → y.next.history ≡ k → (if b then x else y).next.history ≡ (if b then h else k)
  history-is true x y h k e f = e
  history-is false x y h k e f = f

  commit-history : (t : State) (x : OpenTransaction) → (on_commit c s t x).next.history ≡ (on_commit c other t x).next.history
  commit-history t closed = refl
  commit-history t (going ops) =
      let fits : ℕ → Bool = λ m. c.fits s.history (stamp m) ops (new_records t (after_commit t ops)) in
      history-is (fits (next_moment s.supply.moments)) _ _ _ _ refl refl ∙ ap (committed t ops) (sym same) ∙ sym (history-is (fits (next_moment x.moments)) _ _ _ _ refl refl)
  commit-history t (failed n k) = refl

  by-state-history : (o : Option State) → (turn_by c s o stmt.Commit).next.history ≡ (turn_by c other o stmt.Commit).next.history
  by-state-history None = refl
  by-state-history (Some t) = commit-history t s.opened

  by-state-opened : (o : Option State) → (turn_by c s o stmt.Commit).next.opened ≡ (turn_by c other o stmt.Commit).next.opened
  by-state-opened None = refl
  by-state-opened (Some t) = commit-opened s t s.opened ∙ sym (commit-opened other t s.opened)

  commit-desks : (q : Session) (t : State) (x : OpenTransaction) → (on_commit c q t x).next.desks ≡ q.desks
  commit-desks q t closed = refl
  commit-desks q t (going ops) = either-turn (λ y. y.next.desks) (c.fits q.history (stamp (next_moment q.supply.moments)) ops (new_records t (after_commit t ops))) _ _ q.desks refl refl
  commit-desks q t (failed n k) = refl

  by-state-desks : (o : Option State) → (turn_by c s o stmt.Commit).next.desks ≡ (turn_by c other o stmt.Commit).next.desks
  by-state-desks None = refl
  by-state-desks (Some t) = commit-desks s t s.opened ∙ sym (commit-desks other t s.opened)

-- ---- what a workspace stands for

module _ {R S : Type 0} (view : R → Tree) (source_view : S → Tree) where
  -- what it stands for has nothing to do with what is told
  restand : (terms : Terms) (d : Workspace R S) (s t : Session) → t.history ≡ s.history → t.opened ≡ s.opened → t.desks ≡ s.desks → Stands view source_view terms d s → Stands view source_view terms d t
  restand terms d s t h o k z =
      let at : List Entry → OpenTransaction → List Desk → Session = λ history opened desks. record { history = history; opened = opened; desks = desks; supply = t.supply } in
      let moved : Stands view source_view terms d (at s.history s.opened s.desks) = record { db = z.db; ends = z.ends; curator = z.curator; opened = z.opened; shared = z.shared; desks = z.desks } in
      subst (λ y. Stands view source_view terms d (at t.history t.opened y)) (sym k)
      (subst (λ y. Stands view source_view terms d (at t.history y s.desks)) (sym o) (subst (λ y. Stands view source_view terms d (at y s.opened s.desks)) (sym h) moved))

  -- a commit was run
  pub commit-stands : (files : KnownFiles) (kb ka : KnownClock) (old new : Workspace R S) (v w : KnownDisk) (before left : List ℕ) (r : Reply) → before ≡ [] → kb.left ≡ Some before → ka.left ≡ Some left
      → HasTurned view source_view of_nobody (λ terms s. turn_of (setting terms) s (says stmt.Commit)) (IsSupplied files kb ka) (workspace_at old v) (workspace_at new w) (Ok r)
      → (left ≡ []) × ((terms : Terms) (s : Session) → Stands view source_view terms old s → s.supply.moments ≡ [] → Stands view source_view terms new (turn_of (setting terms) s (says stmt.Commit)).next)
  commit-stands files kb ka old new v w before left r silent was is h =
      let x = h.supply in
      let told = silent-told (Some left) x.moments (subst (λ b. HasTold (Some b) (Some left) x.moments) silent (subst (λ b. HasTold b (Some left) x.moments) was (subst (λ a. HasTold kb.left a x.moments) is h.supplied.told))) in (
        ap some_value told.0,
        λ terms s z none.
            let c = setting terms in
            let o : Session = record { history = s.history; opened = s.opened; desks = s.desks; supply = x } in
            let same : next_moment x.moments ≡ next_moment s.supply.moments = told.1 ∙ sym (ap next_moment none) in
            let turned = (h.turns terms o no_supply (restand terms old s o refl refl refl z) (sym (followed-none x))).turned in
            restand terms new (turn_of c o (says stmt.Commit)).next (turn_of c s (says stmt.Commit)).next
            (by-state-history c s x same (replay s.history)) (by-state-opened c s x same (replay s.history)) (by-state-desks c s x same (replay s.history)) turned.1,
      )

  -- ---- a whole script

  -- the session to which the statements lead that were run leads, by those that are left, to where all lead
  pub record IsOnTheWay (terms : Terms) (s : Session) (all left : List Stmt) (d : Workspace R S) : Type 0 where
    pub session : Session
    pub stands : Stands view source_view terms d session
    pub silent : session.supply.moments ≡ []
    pub leads : session_after_statements (setting terms) session left ≡ session_after_statements (setting terms) s all

  -- before the first statement
  pub way-begins : (terms : Terms) (s : Session) (all : List Stmt) (d : Workspace R S) → Stands view source_view terms d s → s.supply.moments ≡ [] → IsOnTheWay terms s all all d
  way-begins terms s all d z e = record { session = s; stands = z; silent = e; leads = refl }

  -- after one more
  pub way-next : (terms : Terms) (s : Session) (all left rest : List Stmt) (x : Stmt) (old new : Workspace R S) → left ≡ x ∷ rest → IsOpOrCommit x → IsOnTheWay terms s all left old
      → ((t : Terms) (q : Session) → Stands view source_view t old q → q.supply.moments ≡ [] → Stands view source_view t new (turn_of (setting t) q (says x)).next)
      → IsOnTheWay terms s all rest new
  unfolding session_after_statements
  way-next terms s all left rest x old new is only y f =
      let c = setting terms in
      record {
        session = (turn_of c y.session (says x)).next;
        stands = f terms y.session y.stands y.silent;
        silent = turn-moments c y.session x only y.silent;
        leads = sym (ap (session_after_statements c y.session) is) ∙ y.leads;
      }

  -- after the last
  pub way-ends : (terms : Terms) (s : Session) (all left : List Stmt) (d : Workspace R S) → left ≡ [] → IsOnTheWay terms s all left d → Stands view source_view terms d (session_after_statements (setting terms) s all)
  unfolding session_after_statements
  way-ends terms s all left d is y =
      let c = setting terms in
      subst (Stands view source_view terms d) (sym (ap (session_after_statements c y.session) is) ∙ y.leads) y.stands

  -- ---- what it comes to

  -- the database of a workspace that stands for the session after a script tells what the workload comes to
  pub comes-to : {E : Type 0} (k : Kind) (seed count : ℕ) (d : Workspace R S) (x : Db R S) (r : Result Reply E) → x ≡ db_in d
      → Stands view source_view (workload_terms k) d (session_after_statements (setting (workload_terms k)) (workload_session k) (script seed count))
      → IfOk r (λ y. (t : State) → IsAt view source_view x t → y ≡ summary_of t)
      → IfOk r (λ y. ComesTo k seed count y)
  comes-to k seed count d x (Ok y) same z f =
      let t = z.db.state in
      let s = session_after_statements (setting (workload_terms k)) (workload_session k) (script seed count) in
      let at : IsAt view source_view (db_in d) t = record { history = s.history; led = z.db.led; holds = z.db.holds; rows = z.db.rows refl } in
      record { state = t; led = z.db.led.replayed; is = f t (subst (λ b. IsAt view source_view b t) (sym same) at) }
  comes-to k seed count d x (Err e) same z f = tt
