-- What is shown, and what is answered.
use Rattle.std.specs.Prelude.{ℕ, ◌≡◌, ◌+◌, Bool, true, false, List, map, refl, is_some, if◌then◌else◌}
use Rattle.std.proofs.Common.{sym, ap, subst, ◌∙◌}
use Rattle.std.specs.declared.option.Option.{Option}
use Rattle.std.specs.declared.option.Option.TheVariants.{None, Some}
use Rattle.cp_path.specs.declared.loc.Loc.{Loc}
use Rattle.cp_model.specs.Subtrees.{is_there, below}
use Rattle.cp_model.specs.Tree.{Tree, Source}
use Rattle.cp_model.specs.Step.{step}
use Rattle.cp_model.specs.Past.{tree_of}
use Rattle.cp_model.specs.History.{State}
use Rattle.cp_model.specs.declared.kind.Kind.{Kind}
use Rattle.cp_model.specs.Answers.{answer_to}
use Rattle.cp_model.specs.declared.answer.Answer.{Answer}
use Rattle.cp_model.specs.declared.op.Op.{Op}
use Rattle.cp_model.specs.declared.query.Query.{Query}
use Rattle.cp_lang.specs.declared.syntax_tree.Stmt.TheVariants as stmt
use Rattle.cp_reply.specs.declared.reply.Of.TheVariants as of
use Rattle.cp_reply.specs.declared.reply.Why.TheVariants as why
use Rattle.cp_reply.specs.declared.reply.Reply.{Reply}
use Rattle.cp_reply.specs.declared.reply.Reply.TheVariants as reply
use Rattle.cp_reply.specs.Session.{Session, OpenTransaction, closed, going, failed, says, turn_of, row_of, show_at, current_tree, outcome_tree, answer_or_refuse, no_place_of, replies, refuses}
use Rattle.cp_operation.specs.Passed.{stage_after, AllAccepted}
use Rattle.cp_operation.proofs.Linked.{accepted-step}
use Rattle.cp_engine.specs.Transactions as txn
use Rattle.cp_engine.specs.declared.txn.Txn.{Txn}
use Rattle.cp_engine.specs.declared.state.TxnState.{TxnState}
use Rattle.cp_engine.specs.declared.state.TxnState.TheVariants as state
use Rattle.cp_db.specs.Databases.{HasCome, HoldsSame, IsSameFile}
use Rattle.cp_curators.specs.declared.curators.Curators.{Curators}
use Rattle.cp_db.specs.declared.database.Db.{Db}
use Rattle.cp_workspace.specs.Texts.{Terms, setting}
use Rattle.cp_workspace.specs.Seats.{Seats}
use Rattle.cp_workspace.specs.Workspaces.{Stands, Opens, EndsAt, IsBegun, AreBegun, IsWorkspace, Turned, of_nobody, shown_tree, shown_or_refused}
use Rattle.cp_workspace.specs.declared.workspace.Workspace.{Workspace}
use Rattle.cp_workspace.proofs.Turning.{turned-stands}

-- ---- the tree that is shown

-- accepted operations lead to the tree after them
pub working_tree : (k : Kind) (t : State) (n : ℕ) (ops : List Op) → AllAccepted t.sources (tree_of t.tree) ops → (stage_after k t.sources (tree_of t.tree) n ops).tree ≡ outcome_tree t (step (tree_of t.tree) t.sources ops)
working_tree k t n ops a =
    let x = accepted-step k t.sources (tree_of t.tree) n ops a in
    sym (ap (outcome_tree t) x.1 ∙ x.2)

module _ {R S : Type 0} (view : R → Tree) (source_view : S → Tree) (terms : Terms) (d : Workspace R S) (s : Session) (z : Stands view source_view terms d s) where
  abbrev t : State
  t = z.db.state

  closed_tree : (o : OpenTransaction) → Opens view source_view d.db None o → tree_of t.tree ≡ current_tree t o
  closed_tree closed h = refl
  closed_tree (going ops) h = absurd h
  closed_tree (failed k c) h = absurd h

  -- where no transaction is open, the committed tree is shown
  pub tree-closed : d.transaction ≡ None → tree_of t.tree ≡ current_tree t s.opened
  tree-closed e = closed_tree s.opened (subst (λ y. Opens view source_view d.db y s.opened) e z.opened)

  module _ (x : Txn R) (there : d.transaction ≡ Some x) (k : TxnState) (is : (q : Kind) (ss : List Source) (t : Tree) (n : ℕ) (p : txn.Progress) → txn.Stands view x q ss t n p → k ≡ txn.state_of p) where
    stands_open : Opens view source_view d.db (Some x) s.opened
    stands_open = subst (λ y. Opens view source_view d.db y s.opened) there z.opened

    come_now : (p : txn.Progress) → HasCome view source_view d.db x p → txn.Stands view x t.kind t.sources (tree_of t.tree) (t.now + 1) p
    come_now p h = h z.db.state z.db.holds

    state_now : (p : txn.Progress) → HasCome view source_view d.db x p → k ≡ txn.state_of p
    state_now p h = is t.kind t.sources (tree_of t.tree) (t.now + 1) p (come_now p h)

    going_tree : (j : ℕ) (u : Tree) (o : OpenTransaction) → Opens view source_view d.db (Some x) o → k ≡ state.Going j
        → ((ops : List Op) → txn.Stands view x t.kind t.sources (tree_of t.tree) (t.now + 1) (txn.going ops) → u ≡ (stage_after t.kind t.sources (tree_of t.tree) (t.now + 1) ops).tree) → u ≡ current_tree t o
    going_tree j u closed h e f = absurd h
    going_tree j u (going ops) h e f = let i = come_now (txn.going ops) h.0 in f ops i ∙ working_tree t.kind t (t.now + 1) ops i.accepted
    going_tree j u (failed i c) h e f = let same : state.Going j ≡ state.Failed i c = sym e ∙ state_now (txn.failed i c) h in absurd (cc)

    -- where it is going, its working tree is shown
    pub tree-going : (j : ℕ) (u : Tree) → k ≡ state.Going j → ((q : Kind) (ss : List Source) (t : Tree) (n : ℕ) (ops : List Op) → txn.Stands view x q ss t n (txn.going ops) → u ≡ (stage_after q ss t n ops).tree) → u ≡ current_tree t s.opened
    tree-going j u e f = going_tree j u s.opened stands_open e (f t.kind t.sources (tree_of t.tree) (t.now + 1))

    failed_tree : (o : OpenTransaction) → Opens view source_view d.db (Some x) o → ((j : ℕ) → k ≡ state.Going j → ⊥) → tree_of t.tree ≡ current_tree t o
    failed_tree closed h e = absurd h
    failed_tree (going ops) h e = absurd (e _ (state_now (txn.going ops) h.0))
    failed_tree (failed i c) h e = refl

    -- where it has failed, the committed tree is shown
    pub tree-failed : ((j : ℕ) → k ≡ state.Going j → ⊥) → tree_of t.tree ≡ current_tree t s.opened
    tree-failed e = failed_tree s.opened stands_open e

-- ---- show

-- what the tree of a place's database has at and below the place is shown, or it is told that there is none
pub turned-shown : {R S : Type 0} (view : R → Tree) (source_view : S → Tree) (terms : Terms) (d : Workspace R S) (s : Session) (z : Stands view source_view terms d s) (q : Loc) (r : Reply)
    → r ≡ shown_or_refused q (shown_tree z.db.state (current_tree z.db.state s.opened) q) → Turned view source_view terms (turn_of (setting terms) s (says (stmt.Show q))) d (of_nobody r)
turned-shown view source_view terms d s z q r e =
    turned-stands view source_view terms d d s z (stmt.Show q) (of_nobody r)
    (subst (λ x. Turned view source_view terms (show_at s q (shown_tree z.db.state (current_tree z.db.state s.opened) q)) d (of_nobody x)) (sym e) (by (shown_tree z.db.state (current_tree z.db.state s.opened) q)))
  where
    shows : (u : Tree) (b : Bool) → Turned view source_view terms (if b then replies (reply.Show q (map row_of (below q.path u))) s else refuses (why.NoPlace q) s) d (of_nobody (if b then reply.Show q (map row_of (below q.path u)) else reply.Refused of.Statement (why.NoPlace q)))
    shows u true = (refl, z)
    shows u false = (refl, z)

    by : (o : Option Tree) → Turned view source_view terms (show_at s q o) d (of_nobody (shown_or_refused q o))
    by None = (refl, z)
    by (Some u) = shows u (is_there u q.path)

-- ---- queries

module _ {R S : Type 0} (view : R → Tree) (source_view : S → Tree) (d new : Db R S) (same : HoldsSame view source_view d new) where
  -- a transaction has come as far on a database that holds the same states
  pub come-kept : (x : Txn R) (p : txn.Progress) → HasCome view source_view d x p → HasCome view source_view new x p
  come-kept x p come t w = come t ((same.states t).1 w)

  -- so a session's is still the session's
  pub opens-kept : (x : Option (Txn R)) (o : OpenTransaction) → Opens view source_view d x o → Opens view source_view new x o
  opens-kept None closed h = tt
  opens-kept None (going ops) h = absurd h
  opens-kept None (failed i c) h = absurd h
  opens-kept (Some x) closed h = absurd h
  opens-kept (Some x) (going ops) h = (come-kept x (txn.going ops) h.0, h.1)
  opens-kept (Some x) (failed i c) h = come-kept x (txn.failed i c) h

  begun_kept : (x : Option (Txn R)) → IsBegun view source_view d x → IsBegun view source_view new x
  begun_kept None h = tt
  begun_kept (Some x) h = (h.0, come-kept x h.0 h.1)

  -- and curators stand over it
  desks_kept : (c : Option (Curators R)) (x : Option (Txn R)) → AreBegun view source_view d c x → AreBegun view source_view new c x
  desks_kept None x h = tt
  desks_kept (Some c) x h = (h.0, λ t w. h.1 t ((same.states t).1 w))

-- a workspace is one whose database holds the same after a query
pub workspace-asked : {R S : Type 0} (view : R → Tree) (source_view : S → Tree) (d m : Workspace R S) → IsSameFile d.db m.db → HoldsSame view source_view d.db m.db → m.transaction ≡ d.transaction → m.curators ≡ d.curators
    → IsWorkspace view source_view d → IsWorkspace view source_view m
workspace-asked view source_view d m file same there desks w = record {
  stands = (w.stands.0, (same.states w.stands.0).0 w.stands.1);
  usable = file.2 ∙ w.usable;
  begun = subst (IsBegun view source_view m.db) (sym there) (begun_kept view source_view d.db m.db same d.transaction w.begun);
  desks = subst (λ x. AreBegun view source_view m.db m.curators x) (sym there) (subst (λ c. AreBegun view source_view m.db c d.transaction) (sym desks) (desks_kept view source_view d.db m.db same d.curators d.transaction w.desks));
}

module _ {R S : Type 0} (view : R → Tree) (source_view : S → Tree) (terms : Terms) (d m : Workspace R S) (s : Session) (z : Stands view source_view terms d s) (file : IsSameFile d.db m.db) (same : HoldsSame view source_view d.db m.db) (curator : m.curator ≡ d.curator) (there : m.transaction ≡ d.transaction) (desks : m.curators ≡ d.curators) where
  -- it stands for the same session after a query
  pub stands-asked : Stands view source_view terms m s
  stands-asked = record {
    db = record { state = z.db.state; led = z.db.led; holds = (same.states z.db.state).0 z.db.holds; rows = λ asked. same.rows z.db.state (z.db.rows asked) };
    ends = subst (λ j. EndsAt terms.ends s.history j.next) (sym file.0) z.ends;
    curator = curator ∙ z.curator;
    opened = subst (λ x. Opens view source_view m.db x s.opened) (sym there) (opens-kept view source_view d.db m.db same d.transaction s.opened z.opened);
    shared = ap is_some desks ∙ z.shared;
    desks = subst (λ c. Seats view s.history z.db.state c s.desks) (sym desks) z.desks;
  }

module _ {R S : Type 0} (view : R → Tree) (source_view : S → Tree) (terms : Terms) (d m : Workspace R S) (s : Session) (z : Stands view source_view terms d s) (file : IsSameFile d.db m.db) (same : HoldsSame view source_view d.db m.db) (curator : m.curator ≡ d.curator) (there : m.transaction ≡ d.transaction) (desks : m.curators ≡ d.curators) where
  -- an answer is replied
  pub turned-answered : (q : Query) (a : Answer) → answer_to z.db.state q ≡ Some a → Turned view source_view terms (turn_of (setting terms) s (says (stmt.Ask q))) m (of_nobody (reply.Answered q a))
  turned-answered q a e =
      let r = of_nobody (reply.Answered q a) in
      turned-stands view source_view terms d m s z (stmt.Ask q) r (subst (λ o. Turned view source_view terms (answer_or_refuse s q o) m r) (sym e) (refl, stands-asked view source_view terms d m s z file same curator there desks))

  -- a query without one is refused
  pub turned-unanswered : (q : Query) → answer_to z.db.state q ≡ None → Turned view source_view terms (turn_of (setting terms) s (says (stmt.Ask q))) m (of_nobody (reply.Refused of.Statement (no_place_of q)))
  turned-unanswered q e =
      let r = of_nobody (reply.Refused of.Statement (no_place_of q)) in
      turned-stands view source_view terms d m s z (stmt.Ask q) r (subst (λ o. Turned view source_view terms (answer_or_refuse s q o) m r) (sym e) (refl, stands-asked view source_view terms d m s z file same curator there desks))
