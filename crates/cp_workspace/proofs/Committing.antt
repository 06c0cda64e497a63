-- The end of a transaction: it is committed, refused or given up.
use Rattle.std.specs.Prelude.{ℕ, ◌≡◌, ◌⊎◌, ◌+◌, ◌≤◌, Bool, true, false, IsTrue, List, [], ◌∷◌, ◌++◌, length, drop, refl, if◌then◌else◌, IsOk, Result, Ok, Err}
use Rattle.std.proofs.Common.{inl, inr, sym, ap, subst, ◌∙◌, arith}
use Rattle.std.proofs.Math.Seq.{drop-append_seam}
use Rattle.std.specs.declared.option.Option.TheVariants.{None, Some}
use Rattle.cp_model.specs.Tree.{Tree}
use Rattle.cp_model.specs.Past.{tree_of}
use Rattle.cp_model.specs.History.{State, commit, after_commit, steps_of}
use Rattle.cp_model.specs.declared.op.Op.{Op}
use Rattle.cp_model.specs.declared.kind.Kind.{Kind}
use Rattle.cp_model.specs.declared.record.Record.{Record}
use Rattle.cp_model.specs.declared.refusal.Cause.{Cause}
use Rattle.cp_model.specs.declared.stamp.Stamp.{Stamp}
use Rattle.cp_model.specs.Tree.{Source}
use Rattle.cp_lang.specs.declared.syntax_tree.Stmt.TheVariants as stmt
use Rattle.cp_reply.specs.declared.reply.Of.TheVariants as of
use Rattle.cp_reply.specs.declared.reply.Why.{Why}
use Rattle.cp_reply.specs.declared.reply.Why.TheVariants as why
use Rattle.cp_reply.specs.declared.reply.Reply.{Reply}
use Rattle.cp_reply.specs.declared.reply.Reply.TheVariants as reply
use Rattle.cp_reply.specs.Session.{Supply, followed_by, Session, OpenTransaction, closed, going, failed, with_opened, Setting, for_curator, Turn, replies, says, turn_of, on_commit, refused_commit, count_given_up, next_moment, new_records, stamp_of, after_moment, with_entry}
use Rattle.cp_operation.specs.Passed.{records_of, AllAccepted}
use Rattle.cp_engine.specs.Transactions as txn
use Rattle.cp_engine.specs.declared.txn.Txn.{Txn}
use Rattle.cp_engine.specs.declared.state.TxnState.{TxnState}
use Rattle.cp_engine.specs.declared.state.TxnState.TheVariants as state
use Rattle.cp_engine.proofs.Committed.{committed}
use Rattle.cp_disk.specs.Views.{KnownDisk, ViewKeeps}
use Rattle.cp_disk.specs.declared.disk.Disk as disk
use Rattle.cp_disk.proofs.Composing.{keeps_wider}
use Rattle.cp_frame.specs.Stands.{StandsFor, StandsForEither}
use Rattle.cp_frame.specs.Sizes.{end_of, has_room, stamped_size}
use Rattle.cp_db.specs.Databases.{HoldsState, IsDatabase, IsKept, HasCome, end_in}
use Rattle.cp_db.proofs.Keeping.{alike-kept}
use Rattle.cp_db.specs.Writing.{commit_size, HasCommitted, IsBeforeOrCommitted}
use Rattle.cp_db.specs.declared.database.Db.{Db}
use Rattle.cp_db.specs.declared.database.Tids.{Tids}
use Rattle.cp_db.specs.declared.fault.CommitFault.{CommitFault}
use Rattle.cp_db.specs.declared.fault.CommitFault.TheVariants as fault
use Rattle.cp_workspace.specs.Texts.{Terms, setting}
use Rattle.cp_workspace.specs.Workspaces.{expected, workspace_at, Stands, Opens, HoldsFile, IsBegun, IsLater, Turned, TurnsAs, holding, of_nobody}
use Rattle.cp_workspace.specs.declared.fault.WorkspaceFault.{WorkspaceFault}
use Rattle.cp_workspace.specs.declared.workspace.Workspace.{Workspace}
use Rattle.cp_workspace.proofs.Supplied.{one_moment}
use Rattle.cp_workspace.proofs.Standing.{turn-is, stands-closed, stands-added, leaves-still, turns-still, turns-failed}

-- ---- how far the transaction has come

abbrev number_in : TxnState → ℕ
number_in (state.Going n) = n
number_in (state.Failed n c) = n

-- the state is told however far the transaction has come
abbrev pub TellsState : {R : Type 0} → (R → Tree) → Txn R → TxnState → Type 0
TellsState view x w = (k : Kind) (ss : List Source) (t : Tree) (n : ℕ) (p : txn.Progress) → txn.Stands view x k ss t n p → w ≡ txn.state_of p

module _ {R S : Type 0} (view : R → Tree) (source_view : S → Tree) (d : Db R S) (x : Txn R) where
  going_from : (j : ℕ) (p : txn.Progress) → HasCome view source_view d x p → state.Going j ≡ txn.state_of p → (ops : List Op) × HasCome view source_view d x (txn.going ops)
  going_from j (txn.going ops) come e = (ops, come)
  going_from j (txn.failed n c) come e = absurd (cc)

  -- a transaction that is going holds some operations
  pub going-come : (j : ℕ) → TellsState view x (state.Going j) → IsDatabase view source_view d → IsBegun view source_view d (Some x) → (ops : List Op) × HasCome view source_view d x (txn.going ops)
  going-come j tells (s, z) (p, come) = going_from j p come (tells s.kind s.sources (tree_of s.tree) (s.now + 1) p (come s z))

-- ---- refused, or given up

module _ {R S : Type 0} (view : R → Tree) (source_view : S → Tree) (terms : Terms) (d m : Workspace R S) (s : Session) (z : Stands view source_view terms d s) (same : m.db ≡ d.db) (signed : m.curator ≡ d.curator) (desks : m.curators ≡ d.curators) (none : m.transaction ≡ None) where
  -- a commit is refused, and no transaction is open any more
  turns_refused : (c : Setting) (w : Why) (v : KnownDisk) (rest : Supply) → on_commit c s z.db.state s.opened ≡ refused_commit w s → s.supply ≡ rest
      → TurnsAs view source_view of_nobody (expected terms (turn_of c s (says stmt.Commit)) s rest) (workspace_at d v) (workspace_at m v) (Ok (reply.Refused of.Commit w))
  turns_refused c w v rest is timed =
      subst (λ (t : Turn). TurnsAs view source_view of_nobody (expected terms t s rest) (workspace_at d v) (workspace_at m v) (Ok (reply.Refused of.Commit w))) (sym (turn-is view source_view terms d m s z c stmt.Commit ∙ is))
      (turns-still view source_view of_nobody terms (refused_commit w s) s rest d m v (Ok (reply.Refused of.Commit w)) same refl timed (refl, stands-closed view source_view terms d m s z same signed desks none))

  nothing_open : (c : Setting) (o : OpenTransaction) → Opens view source_view d.db None o → on_commit c s z.db.state o ≡ refused_commit why.NoOperation s
  nothing_open c closed h = refl
  nothing_open c (going ops) h = absurd h
  nothing_open c (failed j b) h = absurd h

  -- where no transaction is open there is nothing to commit
  pub turns-nothing : (c : Setting) (v : KnownDisk) (rest : Supply) → d.transaction ≡ None → s.supply ≡ rest
      → TurnsAs view source_view of_nobody (expected terms (turn_of c s (says stmt.Commit)) s rest) (workspace_at d v) (workspace_at m v) (Ok (reply.Refused of.Commit why.NoOperation))
  turns-nothing c v rest e timed = turns_refused c why.NoOperation v rest (nothing_open c s.opened (subst (λ y. Opens view source_view d.db y s.opened) e z.opened)) timed

  aborts_none : (o : OpenTransaction) → Opens view source_view d.db None o → count_given_up o ≡ 0
  aborts_none closed h = refl
  aborts_none (going ops) h = absurd h
  aborts_none (failed j b) h = absurd h

  turned_aborted : (c : Setting) (count : ℕ) → count ≡ count_given_up s.opened → Turned view source_view terms (turn_of c s (says stmt.Abort)) m (of_nobody (reply.Aborted count))
  turned_aborted c count is =
      subst (λ (t : Turn). Turned view source_view terms t m (of_nobody (reply.Aborted count))) (sym (turn-is view source_view terms d m s z c stmt.Abort))
      (ap (λ i. of_nobody (reply.Aborted i)) is, stands-closed view source_view terms d m s z same signed desks none)

  -- and nothing to give up
  pub turned-aborted-none : (c : Setting) (count : ℕ) → count ≡ 0 → d.transaction ≡ None → Turned view source_view terms (turn_of c s (says stmt.Abort)) m (of_nobody (reply.Aborted count))
  turned-aborted-none c count zero e = turned_aborted c count (zero ∙ sym (aborts_none s.opened (subst (λ y. Opens view source_view d.db y s.opened) e z.opened)))

  module _ (x : Txn R) (there : d.transaction ≡ Some x) where
    opens : Opens view source_view d.db (Some x) s.opened
    opens = subst (λ y. Opens view source_view d.db y s.opened) there z.opened

    abbrev t : State
    t = z.db.state

    abbrev Is : txn.Progress → Type 0
    Is p = txn.Stands view x t.kind t.sources (tree_of t.tree) (t.now + 1) p

    aborts : (count : ℕ) (o : OpenTransaction) → Opens view source_view d.db (Some x) o → ((p : txn.Progress) → Is p → count ≡ txn.held_count p) → count ≡ count_given_up o
    aborts count closed h e = absurd h
    aborts count (going ops) h e = e (txn.going ops) (h.0 z.db.state z.db.holds)
    aborts count (failed j b) h e = e (txn.failed j b) (h z.db.state z.db.holds)

    -- the accepted operations are given up
    pub turned-aborted : (c : Setting) (count : ℕ) → ((k : Kind) (ss : List Source) (u : Tree) (n : ℕ) (p : txn.Progress) → txn.Stands view x k ss u n p → count ≡ txn.held_count p) → Turned view source_view terms (turn_of c s (says stmt.Abort)) m (of_nobody (reply.Aborted count))
    turned-aborted c count e = turned_aborted c count (aborts count s.opened opens (e t.kind t.sources (tree_of t.tree) (t.now + 1)))

    fails : (c : Setting) (j : ℕ) (b : Cause) (o : OpenTransaction) → Opens view source_view d.db (Some x) o → ((p : txn.Progress) → Is p → state.Failed j b ≡ txn.state_of p) → on_commit c s t o ≡ refused_commit (why.FailedAt j) s
    fails c j b closed h e = absurd h
    fails c j b (going ops) h e = let other = e (txn.going ops) (h.0 z.db.state z.db.holds) in absurd (cc)
    fails c j b (failed i a) h e = ap (λ (w : TxnState). refused_commit (why.FailedAt (number_in w)) s) (sym (e (txn.failed i a) (h z.db.state z.db.holds)))

    -- a failed transaction commits nothing
    pub turns-unfinished : (c : Setting) (j : ℕ) (b : Cause) (v : KnownDisk) (rest : Supply) → TellsState view x (state.Failed j b) → s.supply ≡ rest
        → TurnsAs view source_view of_nobody (expected terms (turn_of c s (says stmt.Commit)) s rest) (workspace_at d v) (workspace_at m v) (Ok (reply.Refused of.Commit (why.FailedAt j)))
    turns-unfinished c j b v rest e timed = turns_refused c (why.FailedAt j) v rest (fails c j b s.opened opens (e t.kind t.sources (tree_of t.tree) (t.now + 1))) timed

-- the transaction that was taken out was open
pub held-again : {R S : Type 0} (d m : Workspace R S) (x : Txn R) → m ≡ record d { transaction = None } → d.transaction ≡ Some x → holding m x ≡ d
held-again {R = R} {S = S} d m x taken there = ap (λ (b : Workspace R S). record b { transaction = Some x }) taken ∙ ap (λ y. record d { transaction = y }) (sym there)

-- ---- what a commit spends

-- one that was made spends nothing
pub made-unspent : (b : Bool) (tids : Tids) → (IsTrue b → (Ok tids ≡ Err fault.Disk) ⊎ (Ok tids ≡ Err fault.Memory)) → IsTrue b → ⊥
made-unspent b tids f h = elim (f h) [ inl e ↦ absurd (cc) | inr e ↦ absurd (cc) ]

abbrev error_in : CommitFault → Result Tids CommitFault → CommitFault
error_in d (Ok x) = d
error_in d (Err e) = e

-- an error that neither the disk nor memory gave
abbrev pub IsPlain : CommitFault → Type 0
IsPlain e = (e ≡ fault.Disk → ⊥) × (e ≡ fault.Memory → ⊥)

abbrev pub err_of : CommitFault → Result Tids CommitFault
err_of e = Err e

-- what follows where the error is such a one
pub at-plain : {A : Type 0} (e : CommitFault) → IsPlain e → ((IsOk (err_of e) → ⊥) → (err_of e ≡ Err fault.Disk → ⊥) → (err_of e ≡ Err fault.Memory → ⊥) → A) → A
at-plain e p f = f (λ h. absurd (cc)) (λ h. p.0 (ap (error_in e) h)) (λ h. p.1 (ap (error_in e) h))

pub too_large-plain : (e : CommitFault) → e ≡ fault.TooLarge → IsPlain e
too_large-plain e is = (λ h. let x : fault.TooLarge ≡ fault.Disk = sym is ∙ h in absurd (cc), λ h. let x : fault.TooLarge ≡ fault.Memory = sym is ∙ h in absurd (cc))

pub empty-plain : (e : CommitFault) → e ≡ fault.Empty → IsPlain e
empty-plain e is = (λ h. let x : fault.Empty ≡ fault.Disk = sym is ∙ h in absurd (cc), λ h. let x : fault.Empty ≡ fault.Memory = sym is ∙ h in absurd (cc))

-- ---- committed

module _ {R S D : Type 0} (view : R → Tree) (source_view : S → Tree) (g : disk.Ghosts D) (terms : Terms) (d m : Workspace R S) (x : Txn R) (s : Session) (z : Stands view source_view terms (holding d x) s)
    (k l : D) (stamp : Stamp) (rest : Supply) (before : d.curators ≡ None) (alone : m.curators ≡ None) (timed : s.supply ≡ followed_by (one_moment stamp.moment) rest) where
  abbrev c : Setting
  c = for_curator stamp.curator (setting terms)

  abbrev at : State
  at = z.db.state

  abbrev v : KnownDisk
  v = g.known k

  abbrev w : KnownDisk
  w = g.known l

  abbrev the_turn : Turn
  the_turn = turn_of c s (says stmt.Commit)

  -- after its moment the rest is told
  taken : (after_moment s).supply ≡ rest
  taken = ap (λ (y : Supply). record { moments = drop 1 y.moments; tables = y.tables }) timed

  stamp_is : stamp_of c s ≡ stamp
  stamp_is = ap (λ (y : Supply). record { curator = stamp.curator; moment = next_moment y.moments }) timed

  -- the open transaction holds operations, or has failed
  by_opened : (Q : Type 0) → ((ops : List Op) → s.opened ≡ going ops → HasCome view source_view d.db x (txn.going ops) → 1 ≤ length ops → Q)
      → ((j : ℕ) (b : Cause) → s.opened ≡ failed j b → HasCome view source_view d.db x (txn.failed j b) → Q) → (o : OpenTransaction) → s.opened ≡ o → Opens view source_view d.db (Some x) o → Q
  by_opened Q f f' closed e h = absurd h
  by_opened Q f f' (going ops) e h = f ops e h.0 h.1
  by_opened Q f f' (failed j b) e h = f' j b e h

  module _ (ops : List Op) (held : s.opened ≡ going ops) (come : HasCome view source_view d.db x (txn.going ops)) (some : 1 ≤ length ops) where
    -- the records of the commit are those that are counted for it
    records_are : new_records at (after_commit at ops) ≡ records_of at.kind at.sources (tree_of at.tree) (at.now + 1) ops
    records_are = ap (drop (length at.rows)) (committed at ops some (come z.db.state z.db.holds).accepted).rows ∙ drop-append_seam at.rows (records_of at.kind at.sources (tree_of at.tree) (at.now + 1) ops)

    fits_is : c.fits s.history (stamp_of c s) ops (new_records at (after_commit at ops)) ≡ has_room (end_in d.db) (commit_size at stamp ops)
    fits_is =
        ap (λ (r : Stamp). has_room (end_of terms.ends s.history) (stamped_size r ops (new_records at (after_commit at ops)))) stamp_is
        ∙ ap (λ (rs : List Record). has_room (end_of terms.ends s.history) (stamped_size stamp ops rs)) records_are
        ∙ ap (λ (n : ℕ). has_room n (commit_size at stamp ops)) (sym z.ends.is_end)

    abbrev done : Stamp → Turn
    done r = replies (reply.Committed (at.now + 1) (at.now + length (steps_of at.kind ops))) (with_entry (after_moment s) (commit r ops))

    abbrev full : Turn
    full = replies (reply.Refused of.Commit why.TransactionTooLarge) (after_moment s)

    turn_if : (b : Bool) → has_room (end_in d.db) (commit_size at stamp ops) ≡ b → the_turn ≡ (if b then done stamp else full)
    turn_if b e =
        turn-is view source_view terms (holding d x) (holding d x) s z c stmt.Commit
        ∙ ap (on_commit c s at) held
        ∙ ap (λ (y : Bool). if y then done (stamp_of c s) else full) (fits_is ∙ e)
        ∙ ap (λ (r : Stamp). if b then done r else full) stamp_is

    turns_done : (tids : Tids) → m.curator ≡ d.curator → m.transaction ≡ None → HasCommitted view source_view d.db at stamp (txn.going ops) m.db (Ok tids)
        → (IsTrue v.known → IsKept true d.db s.history v.view → IsKept true m.db (s.history ++ commit stamp ops ∷ []) w.view)
        → (IsTrue v.known → IsKept true d.db s.history v.view → ViewKeeps (IsBeforeOrCommitted s.history stamp (txn.going ops)) v.view w.view)
        → TurnsAs view source_view of_nobody (expected terms the_turn s rest) (workspace_at (holding d x) v) (workspace_at m w) (Ok (reply.Committed tids.low tids.high))
    turns_done tids signs none is kept crash =
        subst (λ (t : Turn). TurnsAs view source_view of_nobody (expected terms t s rest) (workspace_at (holding d x) v) (workspace_at m w) (Ok (reply.Committed tids.low tids.high))) (sym (turn_if true is.1)) (record {
          turned = (
            ap (λ i. of_nobody (reply.Committed i tids.high)) is.2.0 ∙ ap (λ j. of_nobody (reply.Committed (at.now + 1) j)) is.2.1,
            stands-added view source_view terms (holding d x) m s z (commit stamp ops) (after_commit at ops) (commit_size at stamp ops) closed (after_moment s).supply is.3 (ap (stamped_size stamp ops) records_are) signs
                before alone (subst (λ y. Opens view source_view m.db y closed) (sym none) tt),
          );
          taken = taken;
          kept = kept;
          leaves = crash;
        })

    turns_full : (y : l ≡ k) → m.db ≡ d.db → m.curator ≡ d.curator → m.transaction ≡ None → has_room (end_in d.db) (commit_size at stamp ops) ≡ false
        → TurnsAs view source_view of_nobody (expected terms the_turn s rest) (workspace_at (holding d x) v) (workspace_at m w) (Ok (reply.Refused of.Commit why.TransactionTooLarge))
    turns_full y same signs none no_room =
        subst (λ (t : Turn). TurnsAs view source_view of_nobody (expected terms t s rest) (workspace_at (holding d x) v) (workspace_at m w) (Ok (reply.Refused of.Commit why.TransactionTooLarge))) (sym (turn_if false no_room))
        (subst (λ (i : D). TurnsAs view source_view of_nobody (expected terms full s rest) (workspace_at (holding d x) v) (workspace_at m (g.known i)) (Ok (reply.Refused of.Commit why.TransactionTooLarge))) (sym y)
        (turns-still view source_view of_nobody terms full s rest (holding d x) m v (Ok (reply.Refused of.Commit why.TransactionTooLarge)) same refl taken
        (refl, stands_after (stands-closed view source_view terms (holding d x) m s z same signs (alone ∙ sym before) none))))
      where
        stands_after : Stands view source_view terms m (with_opened s closed) → Stands view source_view terms m (after_moment s)
        stands_after h = record { db = h.db; ends = h.ends; curator = h.curator; opened = h.opened; shared = h.shared; desks = h.desks }

    leaves_by : (b : Bool) → has_room (end_in d.db) (commit_size at stamp ops) ≡ b → (b ≡ false → l ≡ k) → HoldsFile (holding d x) s.history v → ViewKeeps (IsBeforeOrCommitted s.history stamp (txn.going ops)) v.view w.view → ViewKeeps (StandsForEither s.history the_turn.next.history) v.view w.view
    leaves_by true e still file crash = subst (λ (t : Turn). ViewKeeps (StandsForEither s.history t.next.history) v.view w.view) (sym (turn_if true e)) crash
    leaves_by false e still file crash =
        subst (λ (t : Turn). ViewKeeps (StandsForEither s.history t.next.history) v.view w.view) (sym (turn_if false e))
        (subst (λ (i : D). ViewKeeps (StandsForEither s.history s.history) v.view (g.known i).view) (sym (still refl)) (leaves-still view source_view of_nobody terms full s rest (holding d x) m v s.history file))

  -- the operations are committed
  pub turns-committed : (tids : Tids) → m.curator ≡ d.curator → m.transaction ≡ None
      → ((p : txn.Progress) → HasCome view source_view d.db x p → HasCommitted view source_view d.db at stamp p m.db (Ok tids))
      → (IsTrue v.known → (ops : List Op) → HasCome view source_view d.db x (txn.going ops) → IsKept true d.db s.history v.view → IsKept true m.db (s.history ++ commit stamp ops ∷ []) w.view)
      → (IsTrue v.known → (p : txn.Progress) → HasCome view source_view d.db x p → IsKept true d.db s.history v.view → ViewKeeps (IsBeforeOrCommitted s.history stamp p) v.view w.view)
      → TurnsAs view source_view of_nobody (expected terms the_turn s rest) (workspace_at (holding d x) v) (workspace_at m w) (Ok (reply.Committed tids.low tids.high))
  turns-committed tids signs none is kept crash =
      by_opened (TurnsAs view source_view of_nobody (expected terms the_turn s rest) (workspace_at (holding d x) v) (workspace_at m w) (Ok (reply.Committed tids.low tids.high)))
      (λ ops o come some. turns_done ops o come some tids signs none (is (txn.going ops) come) (λ known held. kept known ops come held) (λ known held. crash known (txn.going ops) come held))
      (λ j b o come. absurd (is (txn.failed j b) come)) s.opened refl z.opened

  -- there is no room for them
  pub turns-too_large : l ≡ k → m.db ≡ d.db → m.curator ≡ d.curator → m.transaction ≡ None
      → ((p : txn.Progress) → HasCome view source_view d.db x p → HasCommitted view source_view d.db at stamp p m.db (Err fault.TooLarge))
      → TurnsAs view source_view of_nobody (expected terms the_turn s rest) (workspace_at (holding d x) v) (workspace_at m w) (Ok (reply.Refused of.Commit why.TransactionTooLarge))
  turns-too_large y same signs none is =
      by_opened (TurnsAs view source_view of_nobody (expected terms the_turn s rest) (workspace_at (holding d x) v) (workspace_at m w) (Ok (reply.Refused of.Commit why.TransactionTooLarge)))
      (λ ops o come some. turns_full ops o come some y same signs none (is (txn.going ops) come).1)
      (λ j b o come. absurd (is (txn.failed j b) come)) s.opened refl z.opened

  -- an open transaction that is going holds some, so that it is never found empty
  pub turns-empty : (result : Result Reply WorkspaceFault) → ((p : txn.Progress) → HasCome view source_view d.db x p → HasCommitted view source_view d.db at stamp p m.db (Err fault.Empty))
      → TurnsAs view source_view of_nobody (expected terms the_turn s rest) (workspace_at (holding d x) v) (workspace_at m w) result
  turns-empty result is =
      by_opened (TurnsAs view source_view of_nobody (expected terms the_turn s rest) (workspace_at (holding d x) v) (workspace_at m w) result)
      (λ ops o come some. absurd (omega (arith, some, ap length (is (txn.going ops) come).0))) (λ j b o come. absurd (is (txn.failed j b) come)) s.opened refl z.opened

  -- the disk failed, or memory ran out
  pub turns-uncommitted : (result : Result Reply WorkspaceFault) → (y : WorkspaceFault) × (result ≡ Err y)
      → (IsTrue v.known → (p : txn.Progress) → HasCome view source_view d.db x p → IsKept true d.db s.history v.view → ViewKeeps (IsBeforeOrCommitted s.history stamp p) v.view w.view)
      → ((ops : List Op) → HasCome view source_view d.db x (txn.going ops) → has_room (end_in d.db) (commit_size at stamp ops) ≡ false → l ≡ k)
      → TurnsAs view source_view of_nobody (expected terms the_turn s rest) (workspace_at (holding d x) v) (workspace_at m w) result
  turns-uncommitted result p crash room =
      turns-failed view source_view of_nobody terms the_turn s rest (holding d x) m v w result p (λ known held.
      by_opened (ViewKeeps (StandsForEither s.history the_turn.next.history) v.view w.view)
      (λ ops o come some. leaves_by ops o come some (has_room (end_in d.db) (commit_size at stamp ops)) refl (room ops come) held (crash known (txn.going ops) come held))
      (λ j b o come. keeps_wider (StandsFor s.history) (λ f. StandsFor s.history f ⊎ StandsFor the_turn.next.history f) v.view w.view (crash known (txn.failed j b) come held) (λ f h. inl h)) s.opened refl z.opened)

-- ---- the state after it

-- after a commit
pub later-committed : {R S : Type 0} (view : R → Tree) (source_view : S → Tree) (b : Db R S) (s z : State) (ops : List Op) → 1 ≤ length ops → AllAccepted s.sources (tree_of s.tree) ops → HoldsState view source_view b (after_commit s ops) → HoldsState view source_view b z → IsLater s z
later-committed view source_view b s z ops some accepted after holds =
    let i = committed s ops some accepted in
    let same = alike-kept view source_view b.committed (after_commit s ops) z after.committed holds.committed in
    let steps = i.some in
    let now = i.now in
    let last = same.now in
    record { sources = sym same.sources ∙ i.sources; kind = sym same.kind ∙ i.kind; either = inl (omega (arith, steps, now, last)) }

-- where nothing was committed
pub later-same : {R S : Type 0} (view : R → Tree) (source_view : S → Tree) (b m : Db R S) (s z : State) → m ≡ b → HoldsState view source_view b s → HoldsState view source_view m z → IsLater s z
later-same view source_view b m s z e before after =
    let same = alike-kept view source_view b.committed s z before.committed (subst (λ x. HoldsState view source_view x z) e after).committed in
    record { sources = sym same.sources; kind = sym same.kind; either = inr (sym same.tree, sym same.now) }
