-- How turns are made: with a database that stays, on a disk that stays, or by a call whose turn is passed on.
use Rattle.std.specs.Prelude.{◌≡◌, ◌⊎◌, Bool, true, false, List, [], map, if◌then◌else◌, Result, Ok, Err, IfOk, OnOk}
use Rattle.std.proofs.Common.{inl, refl, sym, ap, subst, ◌∙◌}
use Rattle.std.proofs.lemmas.Result.{IfOk-weaker}
use Rattle.std.specs.declared.option.Option.{Option}
use Rattle.std.specs.declared.option.Option.TheVariants.{None, Some}
use Rattle.cp_path.specs.declared.loc.Loc.{Loc}
use Rattle.cp_model.specs.Place.{in_target}
use Rattle.cp_model.specs.Subtrees.{below, is_there}
use Rattle.cp_model.specs.Tree.{Tree, source}
use Rattle.cp_model.specs.History.{Entry, State}
use Rattle.cp_model.specs.Answers.{answer_to}
use Rattle.cp_model.specs.declared.answer.Answer.{Answer}
use Rattle.cp_model.specs.declared.op.Op.{Op}
use Rattle.cp_model.specs.declared.query.Query.{Query}
use Rattle.cp_model.specs.declared.refusal.Refusal.{Refusal}
use Rattle.cp_lang.specs.declared.syntax_tree.Stmt.{Stmt}
use Rattle.cp_lang.specs.declared.syntax_tree.Stmt.TheVariants as stmt
use Rattle.cp_disk.specs.Views.{KnownDisk, ViewKeeps}
use Rattle.cp_reply.specs.declared.reply.Reply.{Reply}
use Rattle.cp_reply.specs.declared.reply.Reply.TheVariants as reply
use Rattle.cp_reply.specs.declared.reply.Why.{Why}
use Rattle.cp_reply.specs.declared.said.Said.{Said}
use Rattle.cp_reply.specs.declared.reply.Why.TheVariants as why
use Rattle.cp_reply.specs.Session.{Supply, no_supply, Session, Setting, OpenTransaction, closed, going, failed, Turn, turn, turn_alone, shared_turn, says, turn_of, turn_by, turn_on, not_read, decide_op, on_operation, refusal_after, answer_or_refuse, show_at, current_tree, row_of, replies, refuses}
use Rattle.cp_disk.proofs.Composing.{keeps_none}
use Rattle.cp_frame.specs.Stands.{StandsFor, StandsForEither}
use Rattle.cp_db.specs.Databases.{IsDatabase, IsReady, IsSameFile, is_spent}
use Rattle.cp_db.specs.declared.database.Db.{Db}
use Rattle.cp_db.proofs.Keeping.{kept-images, kept-same}
use Rattle.cp_lang.specs.declared.cut.Cut.{Cut}
use Rattle.cp_workspace.specs.Commits.{cut_asks, cut_asks_alone, shared_asks}
use Rattle.cp_workspace.specs.Loads.{cut_reads, cut_reads_alone, shared_reads}
use Rattle.cp_workspace.specs.Spending.{Spends}
use Rattle.cp_workspace.specs.Supplies.{IsSupplied}
use Rattle.cp_workspace.specs.Texts.{Terms, setting}
use Rattle.cp_workspace.specs.Files.{KnownFiles}
use Rattle.cp_workspace.specs.Clocks.{KnownClock}
use Rattle.cp_workspace.specs.Workspaces.{expected, workspace_at, Stands, IsBegun, IsWorkspace, IsUsable, HoldsFile, Turned, TurnsAs, HasTurned, any_of_nobody}
use Rattle.cp_workspace.specs.declared.fault.WorkspaceFault.{WorkspaceFault}
use Rattle.cp_workspace.specs.declared.workspace.Workspace.{Workspace}
use Rattle.cp_workspace.proofs.Standing.{alone-begun}
use Rattle.cp_workspace.proofs.Supplied.{supplied-none}

-- what holds in any case holds at a value
pub whenever-ok : {T E P : Type 0} (r : Result T E) → P → OnOk r P
whenever-ok (Ok x) p = p
whenever-ok (Err e) p = tt

-- ---- a database that stays

-- a database that is the same keeps the same of its file
pub file-same : {R S : Type 0} (d new : Db R S) → new ≡ d → IsSameFile d new
file-same d new e = (ap (λ b. b.journal) e, ap (λ b. b.version) e, ap (λ b. b.spent) e)

module _ {R S : Type 0} (view : R → Tree) (source_view : S → Tree) (terms : Terms) (d m : Workspace R S) (s : Session) (z : Stands view source_view terms d s) where
  -- a turn is the one on the state to which the history leads
  pub turned-stands : (x : Stmt) (r : Option Said) → Turned view source_view terms (turn_on (setting terms) s z.db.state x) m r → Turned view source_view terms (turn_of (setting terms) s (says x)) m r
  turned-stands x r h = subst (λ o. Turned view source_view terms (turn_by (setting terms) s o x) m r) (sym z.db.led.replayed) h

module _ {R S : Type 0} (view : R → Tree) (source_view : S → Tree) (d m : Workspace R S) where
  -- it may be run on with another transaction
  pub workspace-opened : m.db ≡ d.db → m.curators ≡ None → IsBegun view source_view d.db m.transaction → IsWorkspace view source_view d → IsWorkspace view source_view m
  workspace-opened same alone begun w = record {
    stands = subst (IsDatabase view source_view) (sym same) w.stands;
    usable = ap is_spent same ∙ w.usable;
    begun = subst (λ b. IsBegun view source_view b m.transaction) (sym same) begun;
    desks = alone-begun view source_view m.db m.curators m.transaction alone;
  }

  -- and with what is the same of its file, on the same disk
  pub usable-kept : (v : KnownDisk) → IsSameFile d.db m.db → IsUsable view source_view v d → IsWorkspace view source_view m → IsUsable view source_view v m
  usable-kept v same u w = record {
    workspace = w;
    ready = λ known. subst (λ j. IsReady (record d.db { journal = j }) v.view) (sym same.0) (u.ready known);
  }

-- ---- turns that make no entry, read no file and ask for no moment

-- the history is the same, and so is what is still told
pub record IsQuiet (s : Session) (t : Turn) : Type 0 where
  pub history : t.next.history ≡ s.history
  pub supply : t.next.supply ≡ s.supply

quiet_decision : (s : Session) (ops : List Op) (op : Op) (r : Option Refusal) → IsQuiet s (decide_op s ops op r)
quiet_decision s ops op (Some r) = record { history = refl; supply = refl }
quiet_decision s ops op None = record { history = refl; supply = refl }

pub quiet-operation : (s : Session) (t : State) (op : Op) (o : OpenTransaction) → IsQuiet s (on_operation s t op o)
quiet-operation s t op (failed n c) = record { history = refl; supply = refl }
quiet-operation s t op closed = quiet_decision s [] op (refusal_after t [] op)
quiet-operation s t op (going ops) = quiet_decision s ops op (refusal_after t ops op)

pub quiet-answer : (s : Session) (q : Query) (a : Option Answer) → IsQuiet s (answer_or_refuse s q a)
quiet-answer s q None = record { history = refl; supply = refl }
quiet-answer s q (Some a) = record { history = refl; supply = refl }

-- a text that can't be read
pub quiet-unread : (s : Session) (w : Why) → IsQuiet s (not_read s w)
quiet-unread s w = record { history = refl; supply = refl }

module _ (s : Session) where
  quiet_shown : (q : Loc) (u : Tree) (b : Bool) → IsQuiet s (if b then replies (reply.Show q (map row_of (below q.path u))) s else refuses (why.NoPlace q) s)
  quiet_shown q u true = record { history = refl; supply = refl }
  quiet_shown q u false = record { history = refl; supply = refl }

  pub quiet-place : (q : Loc) (u : Option Tree) → IsQuiet s (show_at s q u)
  quiet-place q None = record { history = refl; supply = refl }
  quiet-place q (Some u) = quiet_shown q u (is_there u q.path)

  module _ (c : Setting) where
    -- an operation
    pub quiet-op : (o : Option State) (op : Op) → IsQuiet s (turn_by c s o (stmt.Op op))
    quiet-op None op = record { history = refl; supply = refl }
    quiet-op (Some t) op = quiet-operation s t op s.opened

    -- an abort
    pub quiet-abort : (o : Option State) → IsQuiet s (turn_by c s o stmt.Abort)
    quiet-abort None = record { history = refl; supply = refl }
    quiet-abort (Some t) = record { history = refl; supply = refl }

    -- a query
    pub quiet-ask : (o : Option State) (q : Query) → IsQuiet s (turn_by c s o (stmt.Ask q))
    quiet-ask None q = record { history = refl; supply = refl }
    quiet-ask (Some t) q = quiet-answer s q (answer_to t q)

    -- what is shown
    pub quiet-show : (o : Option State) (q : Loc) → IsQuiet s (turn_by c s o (stmt.Show q))
    quiet-show None q = record { history = refl; supply = refl }
    quiet-show (Some t) q = quiet-place q (if in_target q then Some (current_tree t s.opened) else source t.sources q.db)

-- ---- calls

module _ {R S : Type 0} (view : R → Tree) (source_view : S → Tree) (turning : Terms → Session → Turn) (old new : Workspace R S) (v : KnownDisk) where
  -- where nothing was written, a crash leaves the history as it was
  leaves_same : (h i : List Entry) → HoldsFile old h v → ViewKeeps (StandsForEither h i) v.view v.view
  leaves_same h i k = keeps_none (λ c. StandsFor h c ⊎ StandsFor i c) v.view (λ c image. inl (kept-images old.db h v.view k c image))

  module _ {A : Type 0} (given : A → Option Said) (files : KnownFiles) (clock : KnownClock) (result : Result A WorkspaceFault) where
    -- a quiet turn was made, and nothing was written
    pub turned-quiet : IsSameFile old.db new.db → ((terms : Terms) (s : Session) → IsQuiet s (turning terms s))
        → IfOk result (λ r. (terms : Terms) (s : Session) → Stands view source_view terms old s → Turned view source_view terms (turning terms s) new (given r))
        → HasTurned view source_view given turning (IsSupplied files clock clock) (workspace_at old v) (workspace_at new v) result
    turned-quiet same quiet h = record {
      supply = no_supply;
      supplied = supplied-none files clock;
      turns = λ terms s rest z supply. record {
        turned = IfOk-weaker result _ (λ r. Turned view source_view terms (turning terms s) new (given r)) (λ r turned. turned terms s z) h;
        taken = whenever-ok result ((quiet terms s).supply ∙ supply);
        kept = λ known holds. whenever-ok result (subst (λ i. HoldsFile new i v) (sym (quiet terms s).history) (kept-same true old.db new.db s.history v.view same holds));
        leaves = λ known holds. leaves_same s.history _ holds;
      };
    }

    -- a call failed, and nothing was written
    pub turned-failed : (e : WorkspaceFault) → result ≡ Err e → HasTurned view source_view given turning (IsSupplied files clock clock) (workspace_at old v) (workspace_at new v) result
    turned-failed e is = subst (HasTurned view source_view given turning (IsSupplied files clock clock) (workspace_at old v) (workspace_at new v)) (sym is) (record {
      supply = no_supply;
      supplied = supplied-none files clock;
      turns = λ terms s rest z supply. record { turned = tt; taken = tt; kept = λ known holds. tt; leaves = λ known holds. leaves_same s.history _ holds };
    })

-- the turns that were made are those, where each session has the same
pub turned-as : {R S A : Type 0} (view : R → Tree) (source_view : S → Tree) (given : A → Option Said) (turning others : Terms → Session → Turn) (WasTold : Supply → Type 0) (old new : Workspace R S) (v w : KnownDisk) (result : Result A WorkspaceFault)
    → ((terms : Terms) (s : Session) → Stands view source_view terms old s → turning terms s ≡ others terms s)
    → HasTurned view source_view given turning WasTold (workspace_at old v) (workspace_at new w) result → HasTurned view source_view given others WasTold (workspace_at old v) (workspace_at new w) result
turned-as view source_view given turning others WasTold old new v w result same h = record {
  supply = h.supply;
  supplied = h.supplied;
  turns = λ terms s rest z e. subst (λ t. TurnsAs view source_view given (expected terms t s rest) (workspace_at old v) (workspace_at new w) result) (same terms s z) (h.turns terms s rest z e);
}

module _ {R S A B : Type 0} (view : R → Tree) (source_view : S → Tree) (given : A → Option Said) (turning : Terms → Session → Turn) (files : KnownFiles) (before after : KnownClock) (old new : Workspace R S) (v w : KnownDisk) (result : Result A WorkspaceFault)
    (given_then : B → Option Said) (turned : HasTurned view source_view given turning (IsSupplied files before after) (workspace_at old v) (workspace_at new w) result) where
  -- what a call gave is given on
  pub turned-given : (a : A) (b : B) → result ≡ Ok a → given a ≡ given_then b → HasTurned view source_view given_then turning (IsSupplied files before after) (workspace_at old v) (workspace_at new w) (Ok b)
  turned-given a b is same = record {
    supply = turned.supply;
    supplied = turned.supplied;
    turns = λ terms s rest z supply.
        let y = subst (TurnsAs view source_view given (expected terms (turning terms s) s rest) (workspace_at old v) (workspace_at new w)) is (turned.turns terms s rest z supply) in
        record { turned = subst (Turned view source_view terms (turning terms s) new) same y.turned; taken = y.taken; kept = y.kept; leaves = y.leaves };
  }

  -- an error is passed on
  pub turned-passed : (r : Result B WorkspaceFault) (e : WorkspaceFault) → r ≡ Err e → HasTurned view source_view given_then turning (IsSupplied files before after) (workspace_at old v) (workspace_at new w) r
  turned-passed r e is = subst (HasTurned view source_view given_then turning (IsSupplied files before after) (workspace_at old v) (workspace_at new w)) (sym is) (record {
    supply = turned.supply;
    supplied = turned.supplied;
    turns = λ terms s rest z supply.
        let y = turned.turns terms s rest z supply in
        record { turned = tt; taken = tt; kept = λ known holds. tt; leaves = y.leaves };
  })

-- ---- statements

module _ {R S : Type 0} (view : R → Tree) (source_view : S → Tree) (old new : Workspace R S) (v : KnownDisk) (files : KnownFiles) (clock : KnownClock) (result : Result (Option Reply) WorkspaceFault) where
  -- a statement was run that makes no entry, reads no file and asks for no moment
  pub ran-quiet : (x y : Stmt) → x ≡ y → IsSameFile old.db new.db → ((c : Setting) (s : Session) → IsQuiet s (turn_of c s (says y)))
      → IfOk result (λ r. (terms : Terms) (s : Session) → Stands view source_view terms old s → Turned view source_view terms (turn_of (setting terms) s (says y)) new (any_of_nobody r))
      → HasTurned view source_view any_of_nobody (λ terms s. turn_of (setting terms) s (says x)) (IsSupplied files clock clock) (workspace_at old v) (workspace_at new v) result
  ran-quiet x y is same quiet h =
      subst (λ i. HasTurned view source_view any_of_nobody (λ terms s. turn_of (setting terms) s (says i)) (IsSupplied files clock clock) (workspace_at old v) (workspace_at new v) result) (sym is)
      (turned-quiet view source_view (λ terms s. turn_of (setting terms) s (says y)) old new v any_of_nobody files clock result same (λ terms s. quiet (setting terms) s) h)

-- ---- whose input it is

module _ (terms : Terms) (s : Session) (cut : Cut) where
  -- one curator's
  pub turn-of_one : terms.shared ≡ false → turn_alone (setting terms) s cut ≡ turn (setting terms) s cut
  unfolding turn
  turn-of_one e = ap (λ b. if b then shared_turn (setting terms) s cut else turn_alone (setting terms) s cut) (sym e)

  pub spends-of_one : {T : Type 0} (fb fa : KnownFiles) (kb ka : KnownClock) (result : Result T WorkspaceFault) → terms.shared ≡ false → Spends (cut_reads_alone s cut) (cut_asks_alone s cut) fb fa kb ka result → Spends (cut_reads (setting terms) s cut) (cut_asks (setting terms) s cut) fb fa kb ka result
  spends-of_one fb fa kb ka result e h = subst (λ b. Spends (if b then shared_reads s cut else cut_reads_alone s cut) (if b then shared_asks s cut else cut_asks_alone s cut) fb fa kb ka result) (sym e) h

  -- several curators'
  pub turn-of_several : terms.shared ≡ true → shared_turn (setting terms) s cut ≡ turn (setting terms) s cut
  unfolding turn
  turn-of_several e = ap (λ b. if b then shared_turn (setting terms) s cut else turn_alone (setting terms) s cut) (sym e)

  pub spends-of_several : {T : Type 0} (fb fa : KnownFiles) (kb ka : KnownClock) (result : Result T WorkspaceFault) → terms.shared ≡ true → Spends (shared_reads s cut) (shared_asks s cut) fb fa kb ka result → Spends (cut_reads (setting terms) s cut) (cut_asks (setting terms) s cut) fb fa kb ka result
  spends-of_several fb fa kb ka result e h = subst (λ b. Spends (if b then shared_reads s cut else cut_reads_alone s cut) (if b then shared_asks s cut else cut_asks_alone s cut) fb fa kb ka result) (sym e) h
