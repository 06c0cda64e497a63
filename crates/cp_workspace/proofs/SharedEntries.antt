-- The turns of one of several curators that may make an entry, or that a call of one curator answers.
use Rattle.std.specs.Prelude.{ℕ, ◌≡◌, ◌≤◌, ◌<◌, ◌+◌, ◌&&◌, ◌==◌, Bool, true, false, not, List, [], ◌∷◌, ◌++◌, length, is_some, nat_lt, if◌then◌else◌, refl, OnOk, Result, Ok, Err}
use Rattle.std.proofs.Common.{sym, ap, subst, ◌∙◌, arith}
use Rattle.std.proofs.lemmas.Bool.Decides.{nat_tests}
use Rattle.std.proofs.lemmas.Option.{same_Some}
use Rattle.std.proofs.lemmas.Result.{IfOk-weaker}
use Rattle.std.specs.Option.{option_map}
use Rattle.std.specs.declared.option.Option.{Option}
use Rattle.std.specs.declared.option.Option.TheVariants.{None, Some}
use Rattle.cp_model.specs.declared.limits.TheConstants.{SOURCES_MAX}
use Rattle.cp_model.specs.Keyed.{len}
use Rattle.cp_model.specs.Tree.{Tree, Source, source}
use Rattle.cp_model.specs.Past.{tree_of}
use Rattle.cp_model.specs.History.{State, load, commit, replay, then_entry, after_commit, steps_of}
use Rattle.cp_model.specs.declared.op.Op.{Op}
use Rattle.cp_model.specs.declared.query.Query.{Query}
use Rattle.cp_model.specs.declared.answer.Answer.{Answer}
use Rattle.cp_model.specs.declared.refusal.Cause.{Cause}
use Rattle.cp_model.specs.Answers.{answer_to}
use Rattle.cp_model.specs.Laws.{AreSources}
use Rattle.cp_model.specs.declared.stamp.Stamp.{Stamp}
use Rattle.cp_model.proofs.Histories.{replay-snoc}
use Rattle.cp_disk.specs.Views.{KnownDisk, ViewKeeps}
use Rattle.cp_engine.specs.Transactions as txn
use Rattle.cp_engine.specs.declared.txn.Txn.{Txn}
use Rattle.cp_engine.proofs.Committed.{committed}
use Rattle.cp_frame.specs.Stands.{StandsForEither}
use Rattle.cp_db.specs.Databases.{HoldsState, HasCome, IsKept}
use Rattle.cp_db.specs.declared.database.Db.{Db}
use Rattle.cp_db.proofs.Keeping.{alike-kept}
use Rattle.cp_reply.proofs.VersionsKept.{version-kept}
use Rattle.cp_curators.specs.Curators as curators
use Rattle.cp_curators.specs.Curators.{IsCurrent, Takes, TakesFrom}
use Rattle.cp_curators.specs.Desks as desks
use Rattle.cp_curators.specs.Desks.{Desks}
use Rattle.cp_curators.specs.declared.curators.Curators.{Curators}
use Rattle.cp_curators.specs.declared.fault.ShareFault.TheVariants as share
use Rattle.cp_lang.specs.declared.syntax_tree.Load.{Load}
use Rattle.cp_lang.specs.declared.syntax_tree.Stmt.{Stmt}
use Rattle.cp_lang.specs.declared.syntax_tree.Stmt.TheVariants as stmt
use Rattle.cp_reply.specs.declared.reply.Of.TheVariants as of
use Rattle.cp_reply.specs.declared.reply.Why.{Why}
use Rattle.cp_reply.specs.declared.reply.Why.TheVariants as why
use Rattle.cp_reply.specs.declared.reply.Reply.{Reply}
use Rattle.cp_reply.specs.declared.reply.Reply.TheVariants as reply
use Rattle.cp_reply.specs.declared.said.Said.{Said}
use Rattle.cp_reply.specs.Session.{Supply, Session, Setting, FetchedFile, gives, withholds, Turn, OpenTransaction, closed, going, failed, is_closed, is_going, Desk, desk_of, desk_in, with_desk, any_open, seated, turn_for, turn_at_of, says, turn_of, turn_by, last_tid, with_opened, with_entry, after_moment, stamp_of, new_records, replies, on_commit, refused_commit, commit_ops, on_load, load_fetched, refused_load, after_read, next_table, answer_or_refuse, for_curator, said_to}
use Rattle.cp_workspace.specs.Loads.{load_reads, statement_reads_at}
use Rattle.cp_workspace.specs.Commits.{commit_asks, commit_asks_at, statement_asks_at}
use Rattle.cp_workspace.specs.Seats.{progress_of, IsSeat, AreSeated}
use Rattle.cp_workspace.specs.Texts.{Terms, setting}
use Rattle.cp_workspace.specs.Workspaces.{Stands, Opens, HoldsFile, Turned, TurnsAs, expected, workspace_at, holding, of_nobody, to_name, shared_by}
use Rattle.cp_workspace.specs.declared.fault.WorkspaceFault.{WorkspaceFault}
use Rattle.cp_workspace.specs.declared.workspace.Workspace.{Workspace}
use Rattle.cp_workspace.proofs.Standing.{alone-seats, turns-still}
use Rattle.cp_workspace.proofs.Seating.{nobody-seated, somebody-seated, nobody-stands, seated-later}
use Rattle.cp_workspace.proofs.Sharing.{turn-at-is, named, seated-same, seated-off, turned-unchanged, turned-off}

-- ---- one curator's session

-- the same for one curator
abbrev pub of_one : Terms → Terms
of_one terms = record terms { shared = false }

-- what was said to nobody by name is the reply
unsaid : (whose : Option (List ℕ)) (r : Reply) (o : Option Reply) → of_nobody r ≡ option_map (said_to whose) o → Some r ≡ o
unsaid whose r None e = absurd (cc)
unsaid whose r (Some x) e = ap (λ (y : Said). Some y.reply) (same_Some (said_to None r) (said_to whose x) e)

module _ {R S : Type 0} (view : R → Tree) (source_view : S → Tree) (terms : Terms) where
  -- where the curators' transactions are taken out, it stands for the session of one curator who has none open
  pub stands-taken : (d : Workspace R S) (c : Curators R) (s : Session) → Stands view source_view terms (shared_by d c) s → d.transaction ≡ None → d.curators ≡ None → Stands view source_view (of_one terms) d (with_opened s closed)
  stands-taken d c s z none alone = record {
    db = z.db;
    ends = z.ends;
    curator = z.curator;
    opened = subst (λ x. Opens view source_view d.db x closed) (sym none) tt;
    shared = ap is_some alone;
    desks = alone-seats view s.history z.db.state d.curators s.desks alone;
  }

  -- and where they are put back, for that of several
  stands_joined : (d : Workspace R S) (u : Session) (w : Stands view source_view (of_one terms) d u) (c : Curators R) (ds : List Desk) → u.opened ≡ closed → true ≡ terms.shared → AreSeated view u.history w.db.state c ds
      → Stands view source_view terms (shared_by d c) (record u { opened = closed; desks = ds })
  stands_joined d u w c ds shut shared seats = record { db = w.db; ends = w.ends; curator = w.curator; opened = subst (Opens view source_view d.db d.transaction) shut w.opened; shared = shared; desks = seats }

  module _ (b : Desk) (n : List ℕ) (named : b.name ≡ n) (shared : true ≡ terms.shared) (new : Workspace R S) (later : Curators R) (m x : Turn) (reply : x.reply ≡ m.reply) (history : x.next.history ≡ m.next.history) (supply : x.next.supply ≡ m.next.supply) (shut : m.next.opened ≡ closed)
      (seats : (w : Stands view source_view (of_one terms) new m.next) → AreSeated view m.next.history w.db.state later (with_desk (record b { opened = x.next.opened }) x.next.desks)) where
    -- the turn of one curator's session is that of several curators'
    turned_joined : (r : Reply) → Turned view source_view (of_one terms) m new (of_nobody r) → Turned view source_view terms (turn_for b x) (shared_by new later) (to_name n r)
    turned_joined r (said, w) = (
      ap (option_map (said_to (Some n))) (unsaid m.whose r m.reply said ∙ sym reply) ∙ ap (λ k. option_map (said_to (Some k)) x.reply) (sym named),
      subst (λ h. Stands view source_view terms (shared_by new later) (record { history = h; opened = closed; desks = with_desk (record b { opened = x.next.opened }) x.next.desks; supply = x.next.supply })) (sym history)
          (subst (λ y. Stands view source_view terms (shared_by new later) (record { history = m.next.history; opened = closed; desks = with_desk (record b { opened = x.next.opened }) x.next.desks; supply = y })) (sym supply)
          (stands_joined new m.next w later (with_desk (record b { opened = x.next.opened }) x.next.desks) shut shared (seats w))),
    )

    -- and so is a call that made it
    turns_joined : (s u : Session) (rest : Supply) (first old : Workspace R S) (v w : KnownDisk) (result : Result Reply WorkspaceFault) → u.history ≡ s.history → first.db ≡ old.db
        → TurnsAs view source_view of_nobody (expected (of_one terms) m u rest) (workspace_at old v) (workspace_at new w) result
        → TurnsAs view source_view (to_name n) (expected terms (turn_for b x) s rest) (workspace_at first v) (workspace_at (shared_by new later) w) result
    turns_joined s u rest first old v w result same file y = record {
      turned = IfOk-weaker result _ (λ r. Turned view source_view terms (turn_for b x) (shared_by new later) (to_name n r)) (λ r turned. turned_joined r turned) y.turned;
      taken = subst (λ z. OnOk result (z ≡ rest)) (sym supply) y.taken;
      kept = λ known k. subst (λ h. OnOk result (HoldsFile new h w)) (sym history) (y.kept known (held k));
      leaves = λ known k. subst (λ h. ViewKeeps (StandsForEither h x.next.history) v.view w.view) same
          (subst (λ h. ViewKeeps (StandsForEither u.history h) v.view w.view) (sym history) (y.leaves known (held k)));
    }
      where
        held : HoldsFile first s.history v → HoldsFile old u.history v
        held k = subst (λ h. HoldsFile old h v) (sym same) (subst (λ (e : Db R S). IsKept true e s.history v.view) file k)

-- ---- loads

-- a load is the same for one curator and for several
load_alike : (terms : Terms) (s : Session) (t : State) (l : Load) → on_load (setting (of_one terms)) s t l ≡ on_load (setting terms) s t l
load_alike terms s t l =
    ap (λ (x : Turn). if not (is_closed s.opened) then refused_load why.TransactionOpen s
    else if is_some (source t.sources l.name) then refused_load (why.SourceThere l.name) s
    else if length t.sources == SOURCES_MAX then refused_load why.TooManySources s
    else x) (by ((setting terms).fetch (next_table s.supply.tables) l))
  where
    by : (f : FetchedFile) → load_fetched (setting (of_one terms)) (after_read s) l.name f ≡ load_fetched (setting terms) (after_read s) l.name f
    by (gives u) = refl
    by (withholds w) = refl

-- the turn leaves no transaction of the one curator open, and the desks as they were
pub record LeavesDesks (s : Session) (m : Turn) : Type 0 where
  pub shut : m.next.opened ≡ closed
  pub desks : m.next.desks ≡ s.desks

fetched_leaves : (c : Setting) (s : Session) (n : List ℕ) (f : FetchedFile) → s.opened ≡ closed → LeavesDesks s (load_fetched c (after_read s) n f)
fetched_leaves c s n (withholds w) e = record { shut = e; desks = refl }
fetched_leaves c s n (gives u) e = by (c.has_room s.history n u)
  where
    by : (y : Bool) → LeavesDesks s (if y then replies (reply.Loaded n (len u)) (with_entry (after_read s) (load n u)) else refused_load why.StoreTooLarge (after_read s))
    by true = record { shut = e; desks = refl }
    by false = record { shut = e; desks = refl }

load_leaves : (c : Setting) (s : Session) (t : State) (l : Load) → s.opened ≡ closed → LeavesDesks s (on_load c s t l)
load_leaves c s t l e = by (not (is_closed s.opened)) (is_some (source t.sources l.name)) (length t.sources == SOURCES_MAX)
  where
    by : (x y z : Bool) → LeavesDesks s (if x then refused_load why.TransactionOpen s
        else if y then refused_load (why.SourceThere l.name) s
        else if z then refused_load why.TooManySources s
        else load_fetched c (after_read s) l.name (c.fetch (next_table s.supply.tables) l))
    by true y z = record { shut = e; desks = refl }
    by false true z = record { shut = e; desks = refl }
    by false false true = record { shut = e; desks = refl }
    by false false false = fetched_leaves c s l.name (c.fetch (next_table s.supply.tables) l) e

-- ---- transactions

-- one that stands on a state that the database holds has come as far on whatever state it holds
pub come-from : {R S : Type 0} (view : R → Tree) (source_view : S → Tree) (d : Db R S) (x : Txn R) (p : txn.Progress) (t : State) → HoldsState view source_view d t → txn.Stands view x t.kind t.sources (tree_of t.tree) (t.now + 1) p → HasCome view source_view d x p
come-from view source_view d x p t holds stands y other =
    let same = alike-kept view source_view d.committed t y holds.committed other.committed in
    subst (λ k. txn.Stands view x k y.sources (tree_of y.tree) (y.now + 1) p) same.kind
    (subst (λ ss. txn.Stands view x t.kind ss (tree_of y.tree) (y.now + 1) p) same.sources
    (subst (λ u. txn.Stands view x t.kind t.sources u (y.now + 1) p) same.tree
    (subst (λ m. txn.Stands view x t.kind t.sources (tree_of t.tree) (m + 1) p) same.now stands)))

-- ---- his turns

before_now : (n m : ℕ) → n < m → nat_lt n m ≡ true
before_now n m h = grind (arith, nat_tests)

not_before : (n m : ℕ) → m ≤ n → nat_lt n m ≡ false
not_before n m h = grind (arith, nat_tests)

module _ {R S : Type 0} (view : R → Tree) (source_view : S → Tree) (terms : Terms) (d : Workspace R S) (c : Curators R) (s : Session) (z : Stands view source_view terms (shared_by d c) s) (n : List ℕ) (none : d.transaction ≡ None) where
  abbrev t : State
  t = z.db.state

  abbrev q : AreSeated view s.history t c s.desks
  q = z.desks

  abbrev b : Desk
  b = desk_of t.now n s.desks

  abbrev alone : Session
  alone = with_opened s closed

  -- the turn of one curator's session, on the state to which the history leads
  one_is : (g : Setting) (x : Stmt) → turn_of g alone (says x) ≡ turn_by g alone (Some t) x
  one_is g x = ap (λ o. turn_by g alone o x) z.db.led.replayed

  -- a state to which the history leads is this one
  same_state : (y : State) → replay s.history ≡ Some y → t ≡ y
  same_state y e = same_Some t y (sym z.db.led.replayed ∙ e)

  -- ---- queries

  -- the answer is his
  pub turned-asked : (new : Workspace R S) (a : Query) (r : Reply) → Turned view source_view (of_one terms) (turn_of (setting (of_one terms)) alone (says (stmt.Ask a))) new (of_nobody r)
      → Turned view source_view terms (turn_at_of (setting terms) s (desk_in s n) (says (stmt.Ask a))) (shared_by new c) (to_name n r)
  turned-asked new a r h =
      subst (λ (x : Turn). Turned view source_view terms x (shared_by new c) (to_name n r)) (sym (turn-at-is view source_view terms d c s z n (setting terms) (stmt.Ask a)))
      (by (answer_to t a) (subst (λ (x : Turn). Turned view source_view (of_one terms) x new (of_nobody r)) (one_is (setting (of_one terms)) (stmt.Ask a)) h))
    where
      seats : (w : Stands view source_view (of_one terms) new alone) → AreSeated view s.history w.db.state c (with_desk (record b { opened = b.opened }) s.desks)
      seats w = subst (λ y. AreSeated view s.history y c (with_desk (record b { opened = b.opened }) s.desks)) (same_state w.db.state w.db.led.replayed) (seated-same view source_view terms d c s z n none c q.stands)

      by : (o : Option Answer) → Turned view source_view (of_one terms) (answer_or_refuse alone a o) new (of_nobody r) → Turned view source_view terms (turn_for b (answer_or_refuse (seated b s) a o)) (shared_by new c) (to_name n r)
      by None = turned_joined view source_view terms b n (named view source_view terms d c s z n) z.shared new c (answer_or_refuse alone a None) (answer_or_refuse (seated b s) a None) refl refl refl refl seats r
      by (Some x) = turned_joined view source_view terms b n (named view source_view terms d c s z n) z.shared new c (answer_or_refuse alone a (Some x)) (answer_or_refuse (seated b s) a (Some x)) refl refl refl refl seats r

  -- ---- loads

  module _ (l : Load) where
    loading : (y : Bool) → any_open s.desks ≡ y → turn_at_of (setting terms) s (desk_in s n) (says (stmt.Load l)) ≡ turn_for b (if y then refused_load why.TransactionOpen (seated b s) else on_load (setting terms) (seated b s) t l)
    loading y e = turn-at-is view source_view terms d c s z n (setting terms) (stmt.Load l) ∙ ap (λ y. turn_for b (if y then refused_load why.TransactionOpen (seated b s) else on_load (setting terms) (seated b s) t l)) e

    -- while somebody has a transaction open it is refused
    pub turns-open : (m : List ℕ) (y : desks.Desk) → q.desks m ≡ Some y → (v : KnownDisk) (rest : Supply) → s.supply ≡ rest
        → TurnsAs view source_view (to_name n) (expected terms (turn_at_of (setting terms) s (desk_in s n) (says (stmt.Load l))) s rest) (workspace_at (shared_by d c) v) (workspace_at (shared_by d c) v) (Ok (reply.Refused of.Load why.TransactionOpen))
    turns-open m y e v rest supply =
        subst (λ (x : Turn). TurnsAs view source_view (to_name n) (expected terms x s rest) (workspace_at (shared_by d c) v) (workspace_at (shared_by d c) v) (Ok (reply.Refused of.Load why.TransactionOpen))) (sym (loading true (somebody-seated s.history t q.desks s.desks q.each m y e)))
        (turns-still view source_view (to_name n) terms (turn_for b (refused_load why.TransactionOpen (seated b s))) s rest (shared_by d c) (shared_by d c) v (Ok (reply.Refused of.Load why.TransactionOpen)) refl refl supply
        (turned-unchanged view source_view terms d c s z n none c q.stands (Some (reply.Refused of.Load why.TransactionOpen))))

    -- and reads no file
    pub reads-open : (m : List ℕ) (y : desks.Desk) → q.desks m ≡ Some y → statement_reads_at s (desk_in s n) (stmt.Load l) ≡ 0
    reads-open m y e = ap (λ y. if y then 0 else load_reads (seated (desk_in s n) s) (replay s.history) l.name) (somebody-seated s.history t q.desks s.desks q.each m y e)

    module _ (idle : (m : List ℕ) → q.desks m ≡ None) (loads : (us : List Source) → AreSources us → curators.Stands view us c q.desks) where
      empty : s.desks ≡ []
      empty = nobody-seated s.history t q.desks s.desks q.each q.listed idle

      abbrev plain : Turn
      plain = on_load (setting terms) alone t l

      his : turn_at_of (setting terms) s (desk_in s n) (says (stmt.Load l)) ≡ turn_for b plain
      his = loading false (ap any_open empty) ∙ ap (λ o. turn_for b (on_load (setting terms) (with_opened s o) t l)) (ap (λ ds. (desk_of t.now n ds).opened) empty)

      -- it reads what that reads
      pub reads-idle : statement_reads_at s (desk_in s n) (stmt.Load l) ≡ load_reads alone (replay s.history) l.name
      reads-idle =
          ap (λ y. if y then 0 else load_reads (seated (desk_in s n) s) (replay s.history) l.name) (ap any_open empty)
          ∙ ap (λ o. load_reads (with_opened s o) (replay s.history) l.name) (ap (λ ds. (desk_of (last_tid (replay s.history)) n ds).opened) empty)

      leaves : LeavesDesks alone plain
      leaves = load_leaves (setting terms) alone t l refl

      seats : (new : Workspace R S) (w : Stands view source_view (of_one terms) new plain.next) → AreSeated view plain.next.history w.db.state c (with_desk (record b { opened = plain.next.opened }) plain.next.desks)
      seats new w =
          subst (λ o. AreSeated view plain.next.history w.db.state c (with_desk (record b { opened = o }) plain.next.desks)) (sym leaves.shut)
          (subst (λ ds. AreSeated view plain.next.history w.db.state c (with_desk (record b { opened = closed }) ds)) (sym (leaves.desks ∙ empty))
          (nobody-stands view plain.next.history w.db.state c q.desks idle (loads w.db.state.sources w.db.holds.committed.sound.sources)))

      -- while nobody has, it is that of one curator
      pub turns-loaded_for : (rest : Supply) (new : Workspace R S) (v w : KnownDisk) (result : Result Reply WorkspaceFault)
          → TurnsAs view source_view of_nobody (expected (of_one terms) (turn_of (setting (of_one terms)) alone (says (stmt.Load l))) alone rest) (workspace_at d v) (workspace_at new w) result
          → TurnsAs view source_view (to_name n) (expected terms (turn_at_of (setting terms) s (desk_in s n) (says (stmt.Load l))) s rest) (workspace_at (shared_by d c) v) (workspace_at (shared_by new c) w) result
      turns-loaded_for rest new v w result y =
          subst (λ (x : Turn). TurnsAs view source_view (to_name n) (expected terms x s rest) (workspace_at (shared_by d c) v) (workspace_at (shared_by new c) w) result) (sym his)
          (turns_joined view source_view terms b n (named view source_view terms d c s z n) z.shared new c plain plain refl refl refl leaves.shut (seats new) s alone rest (shared_by d c) d v w result refl refl
          (subst (λ (x : Turn). TurnsAs view source_view of_nobody (expected (of_one terms) x alone rest) (workspace_at d v) (workspace_at new w) result) (one_is (setting (of_one terms)) (stmt.Load l) ∙ load_alike terms alone t l) y))

  -- ---- commits

  abbrev ending : OpenTransaction → Turn
  ending o = if is_going o && nat_lt b.since t.now then refused_commit (why.Stale t.now) (seated b s) else on_commit (for_curator b.name (setting terms)) (seated b s) t o

  ending_is : (o : OpenTransaction) → b.opened ≡ o → turn_at_of (setting terms) s (desk_in s n) (says stmt.Commit) ≡ turn_for b (ending o)
  ending_is o e = turn-at-is view source_view terms d c s z n (setting terms) stmt.Commit ∙ ap (λ x. turn_for b (ending x)) e

  -- how often his commit asks the clock
  asks_is : (o : OpenTransaction) → b.opened ≡ o → statement_asks_at s (desk_in s n) stmt.Commit ≡ (if is_going o && nat_lt b.since t.now then 0 else commit_asks o)
  asks_is o e = ap (λ r. commit_asks_at r (desk_of (last_tid r) n s.desks)) z.db.led.replayed ∙ ap (λ x. if is_going x && nat_lt b.since t.now then 0 else commit_asks x) e

  module _ (new : Curators R) (stands : curators.Stands view t.sources new (desks.with_desk n None q.desks)) where
    -- a refusal closes his transaction
    refused : (w : Why) → turn_at_of (setting terms) s (desk_in s n) (says stmt.Commit) ≡ turn_for b (refused_commit w (seated b s)) → (v : KnownDisk) (rest : Supply) → s.supply ≡ rest
        → TurnsAs view source_view (to_name n) (expected terms (turn_at_of (setting terms) s (desk_in s n) (says stmt.Commit)) s rest) (workspace_at (shared_by d c) v) (workspace_at (shared_by d new) v) (Ok (reply.Refused of.Commit w))
    refused w is v rest supply =
        subst (λ (x : Turn). TurnsAs view source_view (to_name n) (expected terms x s rest) (workspace_at (shared_by d c) v) (workspace_at (shared_by d new) v) (Ok (reply.Refused of.Commit w))) (sym is)
        (turns-still view source_view (to_name n) terms (turn_for b (refused_commit w (seated b s))) s rest (shared_by d c) (shared_by d new) v (Ok (reply.Refused of.Commit w)) refl refl supply
        (turned-off view source_view terms d c s z n none new stands (Some (reply.Refused of.Commit w))))

    -- he has none
    empty_closed : (x : Option desks.Desk) → IsSeat s.history t x b → Takes view t.sources x t.now (Err share.Empty) → b.opened ≡ closed
    empty_closed None k h = k
    empty_closed (Some y) k h = absurd (never y.progress h)
      where
        never : (p : txn.Progress) → TakesFrom view t.sources y t.now p (Err share.Empty) → ⊥
        never (txn.going ops) h = h
        never (txn.failed i g) h = h

    pub turns-nothing_for : Takes view t.sources (q.desks n) t.now (Err share.Empty) → (v : KnownDisk) (rest : Supply) → s.supply ≡ rest
        → TurnsAs view source_view (to_name n) (expected terms (turn_at_of (setting terms) s (desk_in s n) (says stmt.Commit)) s rest) (workspace_at (shared_by d c) v) (workspace_at (shared_by d new) v) (Ok (reply.Refused of.Commit why.NoOperation))
    turns-nothing_for h v rest supply = refused why.NoOperation (ending_is closed (empty_closed (q.desks n) (q.each n) h)) v rest supply

    pub asks-nothing : Takes view t.sources (q.desks n) t.now (Err share.Empty) → statement_asks_at s (desk_in s n) stmt.Commit ≡ 0
    asks-nothing h = asks_is closed (empty_closed (q.desks n) (q.each n) h)

    -- his has failed
    failed_at : (j : ℕ) (g : Cause) (x : Option desks.Desk) → IsSeat s.history t x b → Takes view t.sources x t.now (Err (share.Failed j g)) → (h : Cause) × (b.opened ≡ failed j h)
    failed_at j g None k h = absurd h
    failed_at j g (Some y) k h = by b.opened refl (subst (λ p. TakesFrom view t.sources y t.now p (Err (share.Failed j g))) k.progress h)
      where
        by : (o : OpenTransaction) → b.opened ≡ o → TakesFrom view t.sources y t.now (progress_of o) (Err (share.Failed j g)) → (h : Cause) × (b.opened ≡ failed j h)
        by closed e h = absurd h
        by (going ops) e h = absurd h
        by (failed i f) e h = (f, e ∙ ap (λ m. failed m f) (sym h.0))

    pub turns-failed_for : (j : ℕ) (g : Cause) → Takes view t.sources (q.desks n) t.now (Err (share.Failed j g)) → (v : KnownDisk) (rest : Supply) → s.supply ≡ rest
        → TurnsAs view source_view (to_name n) (expected terms (turn_at_of (setting terms) s (desk_in s n) (says stmt.Commit)) s rest) (workspace_at (shared_by d c) v) (workspace_at (shared_by d new) v) (Ok (reply.Refused of.Commit (why.FailedAt j)))
    turns-failed_for j g h v rest supply = let f = failed_at j g (q.desks n) (q.each n) h in refused (why.FailedAt j) (ending_is (failed j f.0) f.1) v rest supply

    pub asks-failed_at : (j : ℕ) (g : Cause) → Takes view t.sources (q.desks n) t.now (Err (share.Failed j g)) → statement_asks_at s (desk_in s n) stmt.Commit ≡ 0
    asks-failed_at j g h = let f = failed_at j g (q.desks n) (q.each n) h in asks_is (failed j f.0) f.1

    -- there was a commit after his began
    stale_at : (m : ℕ) (x : Option desks.Desk) → IsSeat s.history t x b → Takes view t.sources x t.now (Err (share.Stale m)) → (ops : List Op) × (b.opened ≡ going ops) × (b.since < t.now) × (m ≡ t.now)
    stale_at m None k h = absurd h
    stale_at m (Some y) k h = by b.opened refl (subst (λ p. TakesFrom view t.sources y t.now p (Err (share.Stale m))) k.progress h)
      where
        by : (o : OpenTransaction) → b.opened ≡ o → TakesFrom view t.sources y t.now (progress_of o) (Err (share.Stale m)) → (ops : List Op) × (b.opened ≡ going ops) × (b.since < t.now) × (m ≡ t.now)
        by closed e h = absurd (let both : true ≡ false = ap is_closed (sym e) ∙ k.there in cc)
        by (going ops) e h = (ops, e, subst (λ v. v < t.now) k.since h.0, h.1)
        by (failed i f) e h = absurd h

    pub turns-stale_for : (m : ℕ) → Takes view t.sources (q.desks n) t.now (Err (share.Stale m)) → (v : KnownDisk) (rest : Supply) → s.supply ≡ rest
        → TurnsAs view source_view (to_name n) (expected terms (turn_at_of (setting terms) s (desk_in s n) (says stmt.Commit)) s rest) (workspace_at (shared_by d c) v) (workspace_at (shared_by d new) v) (Ok (reply.Refused of.Commit (why.Stale m)))
    turns-stale_for m h v rest supply =
        let f = stale_at m (q.desks n) (q.each n) h in
        refused (why.Stale m)
        (ending_is (going f.0) f.1 ∙ ap (λ y. turn_for b (if y then refused_commit (why.Stale t.now) (seated b s) else on_commit (for_curator b.name (setting terms)) (seated b s) t (going f.0))) (before_now b.since t.now f.2)
        ∙ ap (λ k. turn_for b (refused_commit (why.Stale k) (seated b s))) (sym f.3)) v rest supply

    pub asks-stale : (m : ℕ) → Takes view t.sources (q.desks n) t.now (Err (share.Stale m)) → statement_asks_at s (desk_in s n) stmt.Commit ≡ 0
    asks-stale m h =
        let f = stale_at m (q.desks n) (q.each n) h in
        asks_is (going f.0) f.1 ∙ ap (λ y. if y then 0 else commit_asks (going f.0)) (before_now b.since t.now f.2)

    -- his is going, and is current
    pub record IsCurrentFor (x : Txn R) : Type 0 where
      pub ops : List Op
      pub opened : b.opened ≡ going ops
      pub fresh : nat_lt b.since t.now ≡ false
      pub some : 1 ≤ length ops
      pub stood : txn.Stands view x t.kind t.sources (tree_of t.tree) (t.now + 1) (txn.going ops)

    current_for : (x : Txn R) (o : Option desks.Desk) → q.desks n ≡ o → IsSeat s.history t o b → Takes view t.sources o t.now (Ok x) → IsCurrent view t.sources (tree_of t.tree) t.kind t.now x → IsCurrentFor x
    current_for x None at k h f = absurd h
    current_for x (Some y) at k h f = by b.opened refl (subst (λ p. TakesFrom view t.sources y t.now p (Ok x)) k.progress h)
      where
        by : (o : OpenTransaction) → b.opened ≡ o → TakesFrom view t.sources y t.now (progress_of o) (Ok x) → IsCurrentFor x
        by closed e h = absurd (let both : true ≡ false = ap is_closed (sym e) ∙ k.there in cc)
        by (going ops) e h = record {
          ops = f.0;
          opened = e ∙ ap going (sym h.1.held ∙ f.2.held);
          fresh = not_before b.since t.now (subst (λ v. t.now ≤ v) k.since h.0);
          some = f.1;
          stood = f.2;
        }
        by (failed i g) e h = absurd h

    pub handed-out : (x : Txn R) → Takes view t.sources (q.desks n) t.now (Ok x) → IsCurrent view t.sources (tree_of t.tree) t.kind t.now x → IsCurrentFor x
    handed-out x h f = current_for x (q.desks n) refl (q.each n) h f

    module _ (x : Txn R) (g : IsCurrentFor x) where
      pub asks-current : statement_asks_at s (desk_in s n) stmt.Commit ≡ 1
      asks-current = asks_is (going g.ops) g.opened ∙ ap (λ y. if y then 0 else commit_asks (going g.ops)) g.fresh

      -- what is handed out is the transaction of one curator's session
      pub stands-handed : d.curators ≡ None → Stands view source_view (of_one terms) (holding d x) (seated b s)
      stands-handed alone = record {
        db = z.db;
        ends = z.ends;
        curator = z.curator;
        opened = subst (Opens view source_view d.db (Some x)) (sym g.opened) (come-from view source_view d.db x (txn.going g.ops) t z.db.holds g.stood, g.some);
        shared = ap is_some alone;
        desks = alone-seats view s.history z.db.state d.curators s.desks alone;
      }

      abbrev stamp : Stamp
      stamp = stamp_of (for_curator n (setting terms)) (seated b s)

      abbrev done : Turn
      done = replies (reply.Committed (t.now + 1) (t.now + length (steps_of t.kind g.ops))) (with_entry (after_moment (seated b s)) (commit stamp g.ops))

      abbrev full : Turn
      full = replies (reply.Refused of.Commit why.TransactionTooLarge) (after_moment (seated b s))

      abbrev fits : Bool
      fits = (setting terms).fits s.history stamp g.ops (new_records t (after_commit t g.ops))

      abbrev made : Turn
      made = if fits then done else full

      his_commit : turn_at_of (setting terms) s (desk_in s n) (says stmt.Commit) ≡ turn_for b made
      his_commit =
          ending_is (going g.ops) g.opened
          ∙ ap (λ y. turn_for b (if y then refused_commit (why.Stale t.now) (seated b s) else on_commit (for_curator b.name (setting terms)) (seated b s) t (going g.ops))) g.fresh
          ∙ ap (λ k. turn_for b (commit_ops (for_curator k (setting terms)) (seated b s) t g.ops)) (named view source_view terms d c s z n)

      ones : turn_of (for_curator n (setting (of_one terms))) (seated b s) (says stmt.Commit) ≡ made
      ones =
          ap (λ o. turn_by (for_curator n (setting (of_one terms))) (seated b s) o stmt.Commit) z.db.led.replayed
          ∙ ap (on_commit (for_curator n (setting (of_one terms))) (seated b s) t) g.opened

      module _ (later : Workspace R S) where
        -- the others' transactions are still those of their desks
        seated_done : (y : State) → replay (s.history ++ commit stamp g.ops ∷ []) ≡ Some y → AreSeated view (s.history ++ commit stamp g.ops ∷ []) y new (with_desk (record b { opened = closed }) s.desks)
        seated_done y e =
            let i = committed t g.ops g.some g.stood.accepted in
            let steps = i.some in
            let now = i.now in
            let same = same_Some (after_commit t g.ops) y (sym (replay-snoc s.history (commit stamp g.ops) ∙ ap (λ o. then_entry o (commit stamp g.ops)) z.db.led.replayed) ∙ e) in
            subst (λ y. AreSeated view (s.history ++ commit stamp g.ops ∷ []) y new (with_desk (record b { opened = closed }) s.desks)) same
            (seated-later view s.history (s.history ++ commit stamp g.ops ∷ []) t (after_commit t g.ops) (with_desk (record b { opened = closed }) s.desks) i.sources i.kind (omega (arith, steps, now))
            (λ v le. version-kept s.history (commit stamp g.ops ∷ []) t v z.db.led.legal z.db.led.replayed le tt) new (seated-off view source_view terms d c s z n none new stands))

        seats_after : (y : Bool) (w : Stands view source_view (of_one terms) later (if y then done else full).next)
            → AreSeated view (if y then done else full).next.history w.db.state new (with_desk (record b { opened = (if y then done else full).next.opened }) (if y then done else full).next.desks)
        seats_after true w = seated_done w.db.state w.db.led.replayed
        seats_after false w = subst (λ y. AreSeated view s.history y new (with_desk (record b { opened = closed }) s.desks)) (same_state w.db.state w.db.led.replayed) (seated-off view source_view terms d c s z n none new stands)

        shut_after : (y : Bool) → (if y then done else full).next.opened ≡ closed
        shut_after true = refl
        shut_after false = refl

        -- his commit is that of one curator
        pub turns-committed_for : (rest : Supply) (v w : KnownDisk) (result : Result Reply WorkspaceFault)
            → TurnsAs view source_view of_nobody (expected (of_one terms) (turn_of (for_curator n (setting (of_one terms))) (seated b s) (says stmt.Commit)) (seated b s) rest) (workspace_at (holding d x) v) (workspace_at later w) result
            → TurnsAs view source_view (to_name n) (expected terms (turn_at_of (setting terms) s (desk_in s n) (says stmt.Commit)) s rest) (workspace_at (shared_by d c) v) (workspace_at (shared_by later new) w) result
        turns-committed_for rest v w result y =
            subst (λ (m : Turn). TurnsAs view source_view (to_name n) (expected terms m s rest) (workspace_at (shared_by d c) v) (workspace_at (shared_by later new) w) result) (sym his_commit)
            (turns_joined view source_view terms b n (named view source_view terms d c s z n) z.shared later new made made refl refl refl (shut_after fits) (seats_after fits) s (seated b s) rest (shared_by d c) (holding d x) v w result refl refl
            (subst (λ (m : Turn). TurnsAs view source_view of_nobody (expected (of_one terms) m (seated b s) rest) (workspace_at (holding d x) v) (workspace_at later w) result) ones y))
