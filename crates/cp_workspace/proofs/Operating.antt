-- Operations and texts that can't be read, in the open transaction or in one that they begin.
use Rattle.cp_model.specs.declared.limits.TheConstants.{OPS_MAX}
use Rattle.std.specs.Prelude.{ℕ, ◌≡◌, ◌==◌, ◌+◌, List, [], ◌∷◌, ◌++◌, length, refl, Result, Ok, Err, ⊤, if◌then◌else◌}
use Rattle.std.proofs.Common.{sym, ap, subst, ◌∙◌, arith, length-append}
use Rattle.std.specs.declared.option.Option.{Option}
use Rattle.std.specs.declared.option.Option.TheVariants.{None, Some}
use Rattle.cp_model.specs.Tree.{Tree, Source, refusal}
use Rattle.cp_model.specs.Step.{step}
use Rattle.cp_model.specs.Past.{tree_of}
use Rattle.cp_model.specs.History.{State}
use Rattle.cp_model.specs.declared.kind.Kind.{Kind}
use Rattle.cp_model.specs.declared.op.Op.{Op}
use Rattle.cp_model.specs.declared.refusal.Refusal.{Refusal}
use Rattle.cp_model.specs.declared.refusal.Refusal.TheVariants.{TooManyOps}
use Rattle.cp_model.specs.declared.refusal.Cause.TheVariants.{Refused, Unread}
use Rattle.cp_lang.specs.declared.syntax_tree.Stmt.TheVariants as stmt
use Rattle.cp_reply.specs.declared.reply.Of.TheVariants as of
use Rattle.cp_reply.specs.declared.reply.Why.{Why}
use Rattle.cp_reply.specs.declared.reply.Why.TheVariants as why
use Rattle.cp_reply.specs.declared.reply.Reply.{Reply}
use Rattle.cp_reply.specs.declared.reply.Reply.TheVariants as reply
use Rattle.cp_reply.specs.Session.{Session, OpenTransaction, closed, going, failed, with_opened, says, turn_of, refusal_on, refusal_after, decide_op, on_operation, why_refused, not_read, fail_unread}
use Rattle.cp_operation.specs.Passed.{stage_after, refusal_behind, AllAccepted}
use Rattle.cp_operation.proofs.Linked.{accepted-step}
use Rattle.cp_engine.specs.Transactions as txn
use Rattle.cp_engine.specs.declared.txn.Txn.{Txn}
use Rattle.cp_engine.specs.declared.fault.ApplyFault.{ApplyFault}
use Rattle.cp_engine.specs.declared.fault.ApplyFault.TheVariants as denied
use Rattle.cp_db.specs.Databases.{HasCome, HoldsState}
use Rattle.cp_db.specs.declared.database.Db.{Db}
use Rattle.cp_workspace.specs.Seats.{progress_of}
use Rattle.cp_workspace.specs.Texts.{Terms, setting}
use Rattle.cp_workspace.specs.Workspaces.{Stands, Opens, IsBegun, IsWorkspace, IsOpened, IsReplyTo, Turned, of_nobody, any_of_nobody}
use Rattle.cp_workspace.specs.declared.workspace.Workspace.{Workspace}
use Rattle.cp_workspace.proofs.Standing.{stands-with}
use Rattle.cp_workspace.proofs.Turning.{turned-stands}

-- behind accepted operations, the refusal on their step is the one by the tree to which they lead
refusal_on_step : (k : Kind) (t : State) (n : ℕ) (ops : List Op) (op : Op) → AllAccepted t.sources (tree_of t.tree) ops →
    refusal_on t (step (tree_of t.tree) t.sources ops) op ≡ refusal t.sources (stage_after k t.sources (tree_of t.tree) n ops).tree op
refusal_on_step k t n ops op a =
    let x = accepted-step k t.sources (tree_of t.tree) n ops a in
    ap (λ y. refusal_on t y op) x.1 ∙ ap (λ u. refusal t.sources u op) x.2

-- a session refuses what a transaction refuses
pub refusal-is : (k : Kind) (t : State) (n : ℕ) (ops : List Op) (op : Op) → AllAccepted t.sources (tree_of t.tree) ops → refusal_after t ops op ≡ refusal_behind k t.sources (tree_of t.tree) n ops op
refusal-is k t n ops op a = ap (λ r. if length ops == OPS_MAX then Some TooManyOps else r) (refusal_on_step k t n ops op a)

-- ---- the transaction that is opened

module _ {R S : Type 0} (view : R → Tree) (source_view : S → Tree) where
  open_come : (d : Db R S) (x : Txn R) (o : OpenTransaction) → Opens view source_view d (Some x) o → HasCome view source_view d x (progress_of o)
  open_come d x closed h = absurd h
  open_come d x (going ops) h = h.0
  open_come d x (failed i c) h = h

  -- where none is open no operation is held
  none_held : (d : Db R S) (o : OpenTransaction) → Opens view source_view d None o → txn.going [] ≡ progress_of o
  none_held d closed h = refl
  none_held d (going ops) h = absurd h
  none_held d (failed i c) h = absurd h

  module _ (d : Workspace R S) (x : Txn R) where
    -- the transaction that is open is the session's
    pub opened-there : d.transaction ≡ Some x → IsOpened view source_view d x
    opened-there e terms s z = open_come d.db x s.opened (subst (λ y. Opens view source_view d.db y s.opened) e z.opened)

    -- and so is one that has just begun where none was open
    pub opened-begun : d.transaction ≡ None → HasCome view source_view d.db x (txn.going []) → IsOpened view source_view d x
    opened-begun e h terms s z = subst (HasCome view source_view d.db x) (none_held d.db s.opened (subst (λ y. Opens view source_view d.db y s.opened) e z.opened)) h

    -- it was begun on the database
    pub begun-there : d.transaction ≡ Some x → IsWorkspace view source_view d → (p : txn.Progress) × HasCome view source_view d.db x p
    begun-there e w = subst (IsBegun view source_view d.db) e w.begun

-- ---- what is done to it

-- the operation was applied so, to whatever state the database holds
abbrev pub AppliesTo : {R S : Type 0} → (R → Tree) → (S → Tree) → Db R S → Txn R → txn.Progress → Op → Result ⊤ ApplyFault → Type 0
AppliesTo view source_view d x p op r =
    (t : State) → HoldsState view source_view d t → txn.Applies view t.kind t.sources (tree_of t.tree) (t.now + 1) p op x r

-- the sources of a database are those of one that is the same
pub sources-same : {R S : Type 0} (view : R → Tree) (source_view : S → Tree) (d e : Db R S) → e ≡ d → (ss : List Source) → ((t : State) → HoldsState view source_view e t → ss ≡ t.sources) → (t : State) → HoldsState view source_view d t → ss ≡ t.sources
sources-same view source_view d e same ss = subst (λ b. (t : State) → HoldsState view source_view b t → ss ≡ t.sources) same

module _ {R S : Type 0} (view : R → Tree) (source_view : S → Tree) (d : Db R S) (x : Txn R) where
  -- with its sources an operation is applied to a transaction that was begun on it
  pub applies-to : (y : Txn R) (op : Op) (r : Result ⊤ ApplyFault) (loaded : List Source) → ((t : State) → HoldsState view source_view d t → loaded ≡ t.sources)
      → ((k : Kind) (t : Tree) (n : ℕ) (p : txn.Progress) → txn.Stands view y k loaded t n p → txn.Applies view k loaded t n p op x r) → (p : txn.Progress) → HasCome view source_view d y p → AppliesTo view source_view d x p op r
  applies-to y op r loaded same applies p come t w =
      subst (λ ss. txn.Stands view y t.kind ss (tree_of t.tree) (t.now + 1) p → txn.Applies view t.kind ss (tree_of t.tree) (t.now + 1) p op x r) (same t w)
      (applies t.kind (tree_of t.tree) (t.now + 1) p) (come t w)

  -- it has come further, or has failed
  pub begun-applied : (op : Op) (r : Result ⊤ ApplyFault) (p : txn.Progress) → AppliesTo view source_view d x p op r → (q : txn.Progress) × HasCome view source_view d x q
  begun-applied op (Ok u) (txn.going ops) a = (txn.going (ops ++ op ∷ []), λ t w. (a t w).1)
  begun-applied op (Err (denied.Failed j)) (txn.going ops) a = (txn.going ops, λ t w. absurd (a t w))
  begun-applied op (Err (denied.Refused r)) (txn.going ops) a = (txn.failed (length ops + 1) (Refused r), λ t w. (a t w).1)
  begun-applied op (Err denied.Memory) (txn.going ops) a = (txn.going ops, a)
  begun-applied op (Ok u) (txn.failed i c) a = (txn.failed i c, λ t w. absurd (a t w))
  begun-applied op (Err (denied.Failed j)) (txn.failed i c) a = (txn.failed i c, λ t w. (a t w).1)
  begun-applied op (Err (denied.Refused r)) (txn.failed i c) a = (txn.failed i c, λ t w. absurd (a t w))
  begun-applied op (Err denied.Memory) (txn.failed i c) a = (txn.failed i c, λ t w. absurd (a t w))

module _ {R S : Type 0} (view : R → Tree) (source_view : S → Tree) (terms : Terms) (d m : Workspace R S) (s : Session) (z : Stands view source_view terms d s) (x : Txn R) (same : m.db ≡ d.db) (curator : m.curator ≡ d.curator) (desks : m.curators ≡ d.curators) (there : m.transaction ≡ Some x) where
  -- the transaction is put back
  puts_back : (o : OpenTransaction) → Opens view source_view d.db (Some x) o → Stands view source_view terms m (with_opened s o)
  puts_back o h = stands-with view source_view terms d m s z o same curator desks (subst (λ y. Opens view source_view d.db y o) (sym there) h)

  -- ---- texts that can't be read

  puts_spoiled : (o : OpenTransaction) → HasCome view source_view d.db x (txn.after_unread (progress_of o)) → Stands view source_view terms m (with_opened s (fail_unread o))
  puts_spoiled closed h = puts_back (failed 1 Unread) h
  puts_spoiled (going ops) h = puts_back (failed (length ops + 1) Unread) h
  puts_spoiled (failed k c) h = puts_back (failed k c) h

  -- a text that can't be read is counted
  pub stands-spoiled : (w : Why) → HasCome view source_view d.db x (txn.after_unread (progress_of s.opened)) → Stands view source_view terms m (not_read s w).next
  stands-spoiled w h = puts_spoiled s.opened h

  -- ---- operations

  module _ (y : Txn R) (op : Op) where
    abbrev t : State
    t = z.db.state

    accepts : (ops : List Op) → HasCome view source_view d.db y (txn.going ops) → AppliesTo view source_view d.db x (txn.going ops) op (Ok tt) → Turned view source_view terms (decide_op s ops op (refusal_after t ops op)) m None
    accepts ops i a =
        let len = length-append ops (op ∷ []) in
        let at = i z.db.state z.db.holds in
        subst (λ r. Turned view source_view terms (decide_op s ops op r) m None) (sym (refusal-is t.kind t (t.now + 1) ops op at.accepted ∙ (a z.db.state z.db.holds).0))
        (refl, puts_back (going (ops ++ op ∷ [])) ((λ t w. (a t w).1), omega (arith, len)))

    denies : (r : Refusal) (ops : List Op) → HasCome view source_view d.db y (txn.going ops) → AppliesTo view source_view d.db x (txn.going ops) op (Err (denied.Refused r)) →
        Turned view source_view terms (decide_op s ops op (refusal_after t ops op)) m (of_nobody (reply.Refused of.Statement (why_refused op r)))
    denies r ops i a =
        let at = i z.db.state z.db.holds in
        subst (λ q. Turned view source_view terms (decide_op s ops op q) m (of_nobody (reply.Refused of.Statement (why_refused op r)))) (sym (refusal-is t.kind t (t.now + 1) ops op at.accepted ∙ (a z.db.state z.db.holds).0))
        (refl, puts_back (failed (length ops + 1) (Refused r)) (λ t w. (a t w).1))

    accepted : (o : OpenTransaction) → HasCome view source_view d.db y (progress_of o) → AppliesTo view source_view d.db x (progress_of o) op (Ok tt) → Turned view source_view terms (on_operation s t op o) m None
    accepted closed i a = accepts [] i a
    accepted (going ops) i a = accepts ops i a
    accepted (failed k c) i a = absurd (a z.db.state z.db.holds)

    refused : (r : Refusal) (o : OpenTransaction) → HasCome view source_view d.db y (progress_of o) → AppliesTo view source_view d.db x (progress_of o) op (Err (denied.Refused r)) →
        Turned view source_view terms (on_operation s t op o) m (of_nobody (reply.Refused of.Statement (why_refused op r)))
    refused r closed i a = denies r [] i a
    refused r (going ops) i a = denies r ops i a
    refused r (failed k c) i a = absurd (a z.db.state z.db.holds)

    failed_before : (j : ℕ) (o : OpenTransaction) → s.opened ≡ o → AppliesTo view source_view d.db x (progress_of o) op (Err (denied.Failed j)) → Turned view source_view terms (on_operation s t op o) m (of_nobody (reply.Refused of.Statement (why.FailedAt j)))
    failed_before j closed e a = absurd (a z.db.state z.db.holds)
    failed_before j (going ops) e a = absurd (a z.db.state z.db.holds)
    failed_before j (failed k c) e a = (
      ap (λ i. of_nobody (reply.Refused of.Statement (why.FailedAt i))) (a z.db.state z.db.holds).0,
      subst (λ o. Stands view source_view terms m (with_opened s o)) (sym e) (puts_back (failed k c) (λ t w. (a t w).1)),
    )

    -- an operation that the transaction holds is silent
    turned-accepted : HasCome view source_view d.db y (progress_of s.opened) → AppliesTo view source_view d.db x (progress_of s.opened) op (Ok tt) → Turned view source_view terms (turn_of (setting terms) s (says (stmt.Op op))) m None
    turned-accepted i a = turned-stands view source_view terms d m s z (stmt.Op op) None (accepted s.opened i a)

    -- one that it refuses is refused
    turned-refused : (r : Refusal) → HasCome view source_view d.db y (progress_of s.opened) → AppliesTo view source_view d.db x (progress_of s.opened) op (Err (denied.Refused r)) →
        Turned view source_view terms (turn_of (setting terms) s (says (stmt.Op op))) m (of_nobody (reply.Refused of.Statement (why_refused op r)))
    turned-refused r i a = turned-stands view source_view terms d m s z (stmt.Op op) _ (refused r s.opened i a)

    -- and so is one behind another that was refused
    turned-failed_before : (j : ℕ) → AppliesTo view source_view d.db x (progress_of s.opened) op (Err (denied.Failed j)) → Turned view source_view terms (turn_of (setting terms) s (says (stmt.Op op))) m (of_nobody (reply.Refused of.Statement (why.FailedAt j)))
    turned-failed_before j a = turned-stands view source_view terms d m s z (stmt.Op op) _ (failed_before j s.opened refl a)

    -- the reply is that to what became of it
    pub turned-outcome : (r : Result ⊤ ApplyFault) (p : Option Reply) → HasCome view source_view d.db y (progress_of s.opened) → AppliesTo view source_view d.db x (progress_of s.opened) op r → IsReplyTo op r p → Turned view source_view terms (turn_of (setting terms) s (says (stmt.Op op))) m (any_of_nobody p)
    turned-outcome (Ok u) p i a e = subst (λ q. Turned view source_view terms (turn_of (setting terms) s (says (stmt.Op op))) m (any_of_nobody q)) (sym e) (turned-accepted i a)
    turned-outcome (Err (denied.Failed j)) p i a e = subst (λ q. Turned view source_view terms (turn_of (setting terms) s (says (stmt.Op op))) m (any_of_nobody q)) (sym e) (turned-failed_before j a)
    turned-outcome (Err (denied.Refused w)) p i a e = subst (λ q. Turned view source_view terms (turn_of (setting terms) s (says (stmt.Op op))) m (any_of_nobody q)) (sym e) (turned-refused w i a)
    turned-outcome (Err denied.Memory) p i a e = absurd e
