-- The turns of one of several curators that make no entry.
use Rattle.std.specs.Prelude.{ℕ, ◌≡◌, ◌+◌, Bool, true, false, List, [], ◌∷◌, ◌++◌, length, map, if◌then◌else◌, refl, Result, Ok, Err, IfOk, OnOk, ⊤}
use Rattle.std.proofs.Common.{inl, inr, sym, ap, subst, ◌∙◌, arith}
use Rattle.std.specs.Option.{option_map}
use Rattle.std.specs.declared.option.Option.{Option}
use Rattle.std.specs.declared.option.Option.TheVariants.{None, Some}
use Rattle.cp_path.specs.Text.{text_eq}
use Rattle.cp_path.specs.declared.loc.Loc.{Loc}
use Rattle.cp_model.specs.Place.{in_target}
use Rattle.cp_model.specs.Subtrees.{below, is_there}
use Rattle.cp_model.specs.Tree.{Tree, Source, source}
use Rattle.cp_model.specs.Past.{tree_of}
use Rattle.cp_model.specs.History.{State}
use Rattle.cp_model.specs.Laws.{AreSources}
use Rattle.cp_model.specs.declared.kind.Kind.{Kind}
use Rattle.cp_model.specs.Answers.{answer_to}
use Rattle.cp_model.specs.declared.query.Query.{Query}
use Rattle.cp_model.specs.declared.op.Op.{Op}
use Rattle.cp_model.specs.declared.refusal.Cause.TheVariants.{Refused}
use Rattle.cp_model.proofs.VersionLemmas.{last-version-is-all}
use Rattle.cp_operation.specs.Passed.{stage_after, refusal_behind, AllAccepted}
use Rattle.cp_disk.specs.Views.{KnownDisk}
use Rattle.cp_engine.specs.Transactions as txn
use Rattle.cp_engine.specs.declared.fault.ApplyFault.{ApplyFault}
use Rattle.cp_engine.specs.declared.fault.ApplyFault.TheVariants as denied
use Rattle.cp_curators.specs.Curators as curators
use Rattle.cp_curators.specs.Curators.{StandsOver, Operates, OperatesFrom}
use Rattle.cp_curators.specs.Desks as desks
use Rattle.cp_curators.specs.Desks.{Desks, HaveBegunBy, new_desk, desk_or, come_to, after_unread_text}
use Rattle.cp_curators.specs.declared.curators.Curators.{Curators}
use Rattle.cp_curators.proofs.DeskLaws.{goes_on, ends}
use Rattle.cp_curators.proofs.OverLemmas.{over-committed}
use Rattle.cp_db.specs.Databases.{HoldsState, HoldsSame, IsSameFile}
use Rattle.cp_lang.specs.declared.syntax_tree.Stmt.{Stmt}
use Rattle.cp_lang.specs.declared.syntax_tree.Stmt.TheVariants as stmt
use Rattle.cp_reply.specs.declared.reply.Of.TheVariants as of
use Rattle.cp_reply.specs.declared.reply.Why.{Why}
use Rattle.cp_reply.specs.declared.reply.Why.TheVariants as why
use Rattle.cp_reply.specs.declared.reply.Reply.{Reply}
use Rattle.cp_reply.specs.declared.reply.Reply.TheVariants as reply
use Rattle.cp_reply.specs.Session.{Session, Setting, Turn, OpenTransaction, closed, going, failed, is_closed, Desk, desk_of, desk_in, with_desk, seated, turn_for, turn_at, turn_at_of, turn_at_by, turn_by_owner, last_tid, base, says, unread, not_read, fail_unread, silent, refuses, replies, with_opened, decide_op, on_operation, refusal_after, why_refused, count_given_up, answer_or_refuse, show_at, current_tree, row_of, said_to}
use Rattle.cp_workspace.specs.Seats.{progress_of, IsVersionTree, IsSeat, AreSeated}
use Rattle.cp_workspace.specs.Texts.{Terms, setting}
use Rattle.cp_workspace.specs.Clocks.{KnownClock}
use Rattle.cp_workspace.specs.Files.{KnownFiles}
use Rattle.cp_workspace.specs.Supplies.{IsSupplied}
use Rattle.cp_workspace.specs.declared.fault.WorkspaceFault.{WorkspaceFault}
use Rattle.cp_workspace.specs.Workspaces.{Stands, Opens, IsWorkspace, IsUsable, IsLater, IsReplyTo, Turned, HasTurned, workspace_at, any_to_name, to_name, shared_by, shown_tree, shown_or_refused}
use Rattle.cp_workspace.specs.declared.workspace.Workspace.{Workspace}
use Rattle.cp_workspace.proofs.Answering.{working_tree, workspace-asked}
use Rattle.cp_workspace.proofs.Desking.{desk-name, closed-empty}
use Rattle.cp_workspace.proofs.Turning.{IsQuiet, turned-quiet, quiet-unread, quiet-operation, quiet-answer, quiet-place}
use Rattle.cp_workspace.proofs.Operating.{refusal-is}
use Rattle.cp_workspace.proofs.Standing.{alone-begun}
use Rattle.cp_workspace.proofs.Seating.{none-begun, IsSeatFor, seat-for, seat-on, start-closed, seated-with, other-name, own-name, base-going, base-not, accepted-on}

-- ---- what may be run on it

module _ {R : Type 0} (view : R → Tree) where
  -- a call with what a database tells of a state leaves the curators over that state
  pub over-at : (old new : Curators R) (s : State) (ss : List Source) (u : Tree) (k : Kind) (m : ℕ) → ss ≡ s.sources → u ≡ tree_of s.tree → k ≡ s.kind → m ≡ s.now → (StandsOver view ss u k m old → StandsOver view ss u k m new)
      → StandsOver view s.sources (tree_of s.tree) s.kind s.now old → StandsOver view s.sources (tree_of s.tree) s.kind s.now new
  over-at old new s ss u k m es eu ek em call =
      let Call : List Source → Tree → Kind → ℕ → Type 0 = λ ss u k m. StandsOver view ss u k m old → StandsOver view ss u k m new in
      subst (Call s.sources (tree_of s.tree) s.kind) em (subst (λ x. Call s.sources (tree_of s.tree) x m) ek (subst (λ x. Call s.sources x k m) eu (subst (λ x. Call x u k m) es call)))

  -- they stand over each state that comes of it by a commit
  pub over-later : (c : Curators R) (s z : State) → IsLater s z → StandsOver view s.sources (tree_of s.tree) s.kind s.now c → StandsOver view z.sources (tree_of z.tree) z.kind z.now c
  over-later c s z l h =
      subst (λ ss. StandsOver view ss (tree_of z.tree) z.kind z.now c) (sym l.sources)
      (subst (λ k. StandsOver view s.sources (tree_of z.tree) k z.now c) (sym l.kind) (elim l.either [
        | inl e ↦ over-committed view s.sources (tree_of s.tree) (tree_of z.tree) s.kind s.now z.now c e h
        | inr e ↦ subst (λ u. StandsOver view s.sources u s.kind z.now c) (sym e.0) (subst (λ m. StandsOver view s.sources (tree_of s.tree) s.kind m c) (sym e.1) h)
      ]))

  -- where nobody has a transaction open they stand over any state
  pub over-any : (c : Curators R) (s z : State) → AreSources z.sources → ((all : Desks) → curators.Stands view s.sources c all → (n : List ℕ) → all n ≡ None) → ((all : Desks) → curators.Stands view s.sources c all → curators.Stands view z.sources c all)
      → StandsOver view s.sources (tree_of s.tree) s.kind s.now c → StandsOver view z.sources (tree_of z.tree) z.kind z.now c
  over-any c s z are idle loads (all, stands, begun) = (all, loads all stands, none-begun (tree_of z.tree) z.kind z.now all (idle all stands))

module _ {R S : Type 0} (view : R → Tree) (source_view : S → Tree) (d : Workspace R S) (c : Curators R) where
  -- their transactions have changed
  pub workspace-shared : (new : Curators R) → ((s : State) → HoldsState view source_view d.db s → StandsOver view s.sources (tree_of s.tree) s.kind s.now c → StandsOver view s.sources (tree_of s.tree) s.kind s.now new)
      → IsWorkspace view source_view (shared_by d c) → IsWorkspace view source_view (shared_by d new)
  workspace-shared new call w = record { stands = w.stands; usable = w.usable; begun = w.begun; desks = (w.desks.0, λ s z. call s z (w.desks.1 s z)) }

  -- and so have those of a workspace that may be run on a disk
  pub usable-shared : (new : Curators R) (v : KnownDisk) → ((s : State) → HoldsState view source_view d.db s → StandsOver view s.sources (tree_of s.tree) s.kind s.now c → StandsOver view s.sources (tree_of s.tree) s.kind s.now new)
      → IsUsable view source_view v (shared_by d c) → IsUsable view source_view v (shared_by d new)
  usable-shared new v call u = record { workspace = workspace-shared new call u.workspace; ready = u.ready }

  -- they are taken out
  pub workspace-taken : d.curators ≡ None → IsWorkspace view source_view (shared_by d c) → IsWorkspace view source_view d
  workspace-taken alone w = record { stands = w.stands; usable = w.usable; begun = w.begun; desks = alone-begun view source_view d.db d.curators d.transaction alone }

  pub usable-taken : (v : KnownDisk) → d.curators ≡ None → IsUsable view source_view v (shared_by d c) → IsUsable view source_view v d
  usable-taken v alone u = record { workspace = workspace-taken alone u.workspace; ready = u.ready }

  -- they are put back
  pub usable-joined : (v : KnownDisk) → d.transaction ≡ None → ((s : State) → HoldsState view source_view d.db s → StandsOver view s.sources (tree_of s.tree) s.kind s.now c) → IsUsable view source_view v d → IsUsable view source_view v (shared_by d c)
  usable-joined v none over u = record { workspace = record { stands = u.workspace.stands; usable = u.workspace.usable; begun = u.workspace.begun; desks = (none, over) }; ready = u.ready }

-- the curators that were taken out are put back
pub taken-again : {R S : Type 0} (d : Workspace R S) (x : Option (Curators R)) (c : Curators R) → d.curators ≡ Some c → shared_by (record d { curators = x }) c ≡ d
taken-again {R = R} {S = S} d x c e = ap (λ (y : Option (Curators R)). record d { curators = y }) (sym e)

-- where there were none, none are missed
pub taken-none : {R S : Type 0} (d : Workspace R S) (x : Option (Curators R)) → d.curators ≡ None → x ≡ None → record d { curators = x } ≡ d
taken-none {R = R} {S = S} d x e f = ap (λ (y : Option (Curators R)). record d { curators = y }) (f ∙ sym e)

-- after a query they stand over the same states
pub workspace-asked_for : {R S : Type 0} (view : R → Tree) (source_view : S → Tree) (d m : Workspace R S) (c : Curators R) → IsSameFile d.db m.db → HoldsSame view source_view d.db m.db → m.transaction ≡ d.transaction
    → IsWorkspace view source_view (shared_by d c) → IsWorkspace view source_view (shared_by m c)
workspace-asked_for view source_view d m c file same there w = workspace-asked view source_view (shared_by d c) (shared_by m c) file same there refl w

-- what follows from two things that hold of a value follows
pub both-ok : {A E P Q : Type 0} (r : Result A E) (C : Type 0) → (P → Q → C) → OnOk r P → OnOk r Q → OnOk r C
both-ok (Ok x) C f p q = f p q
both-ok (Err e) C f p q = tt

-- what follows from a value follows
pub joined-ok : {A E P : Type 0} (r : Result A E) (Q : Type 0) → (P → Q) → OnOk r P → OnOk r Q
joined-ok (Ok x) Q f p = f p
joined-ok (Err e) Q f p = tt

-- ---- turns that are quiet

-- his turn is quiet where what it brings is
pub quiet-risen : (d : Desk) (s : Session) (x : Turn) → IsQuiet (seated d s) x → IsQuiet s (turn_for d x)
quiet-risen d s x q = record { history = q.history; supply = q.supply }

-- so is that of a text that the input's end cut off, whosever it is
pub quiet-unfinished : (g : Setting) (s : Session) (at : ℕ) (o : Option (List ℕ)) (w : Why) → IsQuiet s (turn_by_owner g s at o (unread w))
quiet-unfinished g s at None w = record { history = refl; supply = refl }
quiet-unfinished g s at (Some n) w = quiet-risen (desk_in s n) s (not_read (seated (desk_in s n) s) w) (quiet-unread (seated (desk_in s n) s) w)

module _ (g : Setting) (s : Session) (d : Desk) where
  pub quiet-op_at : (o : Option State) (op : Op) → IsQuiet s (turn_at_by g s o d (stmt.Op op))
  quiet-op_at None op = record { history = refl; supply = refl }
  quiet-op_at (Some t) op = quiet-risen d s (on_operation (seated d s) (base s.history t d) op d.opened) (quiet-operation (seated d s) (base s.history t d) op d.opened)

  pub quiet-abort_at : (o : Option State) → IsQuiet s (turn_at_by g s o d stmt.Abort)
  quiet-abort_at None = record { history = refl; supply = refl }
  quiet-abort_at (Some t) = record { history = refl; supply = refl }

  pub quiet-ask_at : (o : Option State) (a : Query) → IsQuiet s (turn_at_by g s o d (stmt.Ask a))
  quiet-ask_at None a = record { history = refl; supply = refl }
  quiet-ask_at (Some t) a = quiet-risen d s (answer_or_refuse (seated d s) a (answer_to t a)) (quiet-answer (seated d s) a (answer_to t a))

  pub quiet-show_at : (o : Option State) (p : Loc) → IsQuiet s (turn_at_by g s o d (stmt.Show p))
  quiet-show_at None p = record { history = refl; supply = refl }
  quiet-show_at (Some t) p =
      let shown = if in_target p then Some (current_tree (base s.history t d) d.opened) else source (base s.history t d).sources p.db in
      quiet-risen d s (show_at (seated d s) p shown) (quiet-place (seated d s) p shown)

-- a statement of his was run that makes no entry, reads no file and asks for no moment
pub ran-quiet_at : {R S : Type 0} (view : R → Tree) (source_view : S → Tree) (n : List ℕ) (old new : Workspace R S) (v : KnownDisk) (files : KnownFiles) (clock : KnownClock) (result : Result (Option Reply) WorkspaceFault) (x y : Stmt) → x ≡ y → IsSameFile old.db new.db
    → ((g : Setting) (s : Session) → IsQuiet s (turn_at_of g s (desk_in s n) (says y)))
    → IfOk result (λ r. (terms : Terms) (s : Session) → Stands view source_view terms old s → Turned view source_view terms (turn_at_of (setting terms) s (desk_in s n) (says y)) new (any_to_name n r))
    → HasTurned view source_view (any_to_name n) (λ terms s. turn_at_of (setting terms) s (desk_in s n) (says x)) (IsSupplied files clock clock) (workspace_at old v) (workspace_at new v) result
ran-quiet_at view source_view n old new v files clock result x y is same quiet h =
    subst (λ i. HasTurned view source_view (any_to_name n) (λ terms s. turn_at_of (setting terms) s (desk_in s n) (says i)) (IsSupplied files clock clock) (workspace_at old v) (workspace_at new v) result) (sym is)
    (turned-quiet view source_view (λ terms s. turn_at_of (setting terms) s (desk_in s n) (says y)) old new v (any_to_name n) files clock result same (λ terms s. quiet (setting terms) s) h)

-- ---- turns

-- the same refusal, by what the operations were accepted on
refusal_on : (at : State) (ss : List Source) (u : Tree) (k : Kind) (m : ℕ) (ops : List Op) (op : Op) → at.sources ≡ ss → tree_of at.tree ≡ u → AllAccepted ss u ops → refusal_after at ops op ≡ refusal_behind k ss u m ops op
refusal_on at ss u k m ops op sources tree a =
    refusal-is k at m ops op (subst (λ xs. AllAccepted xs (tree_of at.tree) ops) (sym sources) (subst (λ v. AllAccepted ss v ops) (sym tree) a))
    ∙ ap (λ xs. refusal_behind k xs (tree_of at.tree) m ops op) sources ∙ ap (λ v. refusal_behind k ss v m ops op) tree

-- the same tree
tree_on : (at : State) (ss : List Source) (u : Tree) (k : Kind) (m : ℕ) (ops : List Op) → at.sources ≡ ss → tree_of at.tree ≡ u → AllAccepted ss u ops → (stage_after k ss u m ops).tree ≡ current_tree at (going ops)
tree_on at ss u k m ops sources tree a =
    ap (λ xs. (stage_after k xs u m ops).tree) (sym sources) ∙ ap (λ v. (stage_after k at.sources v m ops).tree) (sym tree)
    ∙ working_tree k at m ops (subst (λ xs. AllAccepted xs (tree_of at.tree) ops) (sym sources) (subst (λ v. AllAccepted ss v ops) (sym tree) a))

-- a working tree, if there is one, or else u
abbrev pub or_tree : Option Tree → Tree → Tree
or_tree None u = u
or_tree (Some v) u = v

-- a text that couldn't be read fails it
unread_is : (o : OpenTransaction) → txn.after_unread (progress_of o) ≡ progress_of (fail_unread o)
unread_is closed = refl
unread_is (going ops) = refl
unread_is (failed n c) = refl

unread_open : (o : OpenTransaction) → is_closed (fail_unread o) ≡ false
unread_open closed = refl
unread_open (going ops) = refl
unread_open (failed n c) = refl

held_is : (o : OpenTransaction) → txn.held_count (progress_of o) ≡ count_given_up o
held_is closed = refl
held_is (going ops) = refl
held_is (failed n c) = refl

module _ {R S : Type 0} (view : R → Tree) (source_view : S → Tree) (terms : Terms) (d : Workspace R S) (c : Curators R) (s : Session) (z : Stands view source_view terms (shared_by d c) s) (n : List ℕ) where
  abbrev t : State
  t = z.db.state

  abbrev q : AreSeated view s.history t c s.desks
  q = z.desks

  abbrev b : Desk
  b = desk_of t.now n s.desks

  -- a statement of his, on his desk
  pub turn-at-is : (g : Setting) (x : Stmt) → turn_at_of g s (desk_in s n) (says x) ≡ turn_for b (turn_at g s t b x)
  turn-at-is g x = ap (λ o. turn_at_by g s o (desk_of (last_tid o) n s.desks) x) z.db.led.replayed

  -- a text of his that can't be read
  turn_unread : (g : Setting) (w : Why) → turn_at_of g s (desk_in s n) (unread w) ≡ turn_for b (not_read (seated b s) w)
  turn_unread g w = ap (λ o. turn_for (desk_of (last_tid o) n s.desks) (not_read (seated (desk_of (last_tid o) n s.desks) s) w)) z.db.led.replayed

  pub named : b.name ≡ n
  named = desk-name t.now n s.desks

  -- the last version is the state
  current : IsVersionTree s.history t (tree_of t.tree) t.now
  current = record { at = t; is = last-version-is-all s.history t t.now z.db.led.legal z.db.led.replayed (omega arith); tree = refl; sources = refl; kind = refl }

  at_now : b.opened ≡ closed → b.since ≡ t.now
  at_now e = ap (λ (k : Desk). k.since) (closed-empty t.now n s.desks q.listed (ap is_closed e))

  -- his transaction, or one that begins now
  abbrev e : desks.Desk
  e = desk_or (q.desks n) (new_desk (tree_of t.tree) t.kind t.now)

  for_desk : IsSeatFor s.history t e b
  for_desk = seat-for s.history t current (q.desks n) b at_now (q.each n)

  abbrev on : State
  on = base s.history t b

  -- ---- what stands after his turn

  module _ (none : d.transaction ≡ None) (new : Curators R) where
    -- for the session in which his desk has changed
    stands_risen : (all : Desks) (o : OpenTransaction) → ((m : List ℕ) → text_eq n m ≡ false → all m ≡ q.desks m) → IsSeat s.history t (all n) (record b { opened = o })
        → curators.Stands view t.sources new all → HaveBegunBy (tree_of t.tree) t.kind t.now all
        → Stands view source_view terms (shared_by d new) (record s { opened = closed; desks = with_desk (record b { opened = o }) s.desks })
    stands_risen all o kept own stands begun = record {
      db = z.db;
      ends = z.ends;
      curator = z.curator;
      opened = subst (λ x. Opens view source_view d.db x closed) (sym none) tt;
      shared = z.shared;
      desks = seated-with view s.history t s.desks n o q.desks all q.each kept own new q.listed stands begun;
    }

    -- his desk is as it was
    pub seated-same : curators.Stands view t.sources new q.desks → AreSeated view s.history t new (with_desk (record b { opened = b.opened }) s.desks)
    seated-same stands = seated-with view s.history t s.desks n b.opened q.desks q.desks q.each (λ m f. refl) (q.each n) new q.listed stands q.begun

    -- it is closed
    pub seated-off : curators.Stands view t.sources new (desks.with_desk n None q.desks) → AreSeated view s.history t new (with_desk (record b { opened = closed }) s.desks)
    seated-off stands =
        seated-with view s.history t s.desks n closed q.desks (desks.with_desk n None q.desks) q.each (λ m f. other-name n m None q.desks f) (subst (λ x. IsSeat s.history t x (record b { opened = closed })) (sym (own-name n None q.desks)) refl) new q.listed stands
        (ends (tree_of t.tree) t.kind t.now q.desks n q.begun)

    -- for the reply to him
    told : (r : Option Reply) → any_to_name n r ≡ option_map (said_to (Some b.name)) r
    told r = ap (λ k. option_map (said_to (Some k)) r) (sym named)

    -- his transaction is as it was
    pub turned-unchanged : curators.Stands view t.sources new q.desks → (r : Option Reply)
        → Turned view source_view terms (turn_for b (record { reply = r; whose = None; next = seated b s })) (shared_by d new) (any_to_name n r)
    turned-unchanged stands r = (told r, stands_risen q.desks b.opened (λ m f. refl) (q.each n) stands q.begun)

    -- it has gone on, or has begun
    turned_on : (o : OpenTransaction) → is_closed o ≡ false → curators.Stands view t.sources new (desks.with_desk n (Some (come_to e (progress_of o))) q.desks) → (r : Option Reply)
        → Turned view source_view terms (turn_for b (record { reply = r; whose = None; next = with_opened (seated b s) o })) (shared_by d new) (any_to_name n r)
    turned_on o there stands r = (
      told r,
      stands_risen (desks.with_desk n (Some (come_to e (progress_of o))) q.desks) o (λ m f. other-name n m (Some (come_to e (progress_of o))) q.desks f)
          (subst (λ x. IsSeat s.history t x (record b { opened = o })) (sym (own-name n (Some (come_to e (progress_of o))) q.desks)) (seat-on s.history t e b o for_desk there)) stands
          (goes_on (tree_of t.tree) t.kind t.now q.desks n (progress_of o) q.begun),
    )

    -- it has ended
    pub turned-off : curators.Stands view t.sources new (desks.with_desk n None q.desks) → (r : Option Reply)
        → Turned view source_view terms (turn_for b (record { reply = r; whose = None; next = with_opened (seated b s) closed })) (shared_by d new) (any_to_name n r)
    turned-off stands r = (
      told r,
      stands_risen (desks.with_desk n None q.desks) closed (λ m f. other-name n m None q.desks f)
          (subst (λ x. IsSeat s.history t x (record b { opened = closed })) (sym (own-name n None q.desks)) refl) stands
          (ends (tree_of t.tree) t.kind t.now q.desks n q.begun),
    )

    -- ---- operations

    module _ (op : Op) (rep : Option Reply) where
      module _ (ops : List Op) (p : e.progress ≡ txn.going ops) (sources : on.sources ≡ t.sources) (tree : tree_of on.tree ≡ e.start) where
        decided : (result : Result ⊤ ApplyFault) → OperatesFrom view t.sources q.desks n e (txn.going ops) op new result → IsReplyTo op result rep
            → Turned view source_view terms (turn_for b (decide_op (seated b s) ops op (refusal_after on ops op))) (shared_by d new) (any_to_name n rep)
        decided (Ok u) h r =
            subst (λ x. Turned view source_view terms (turn_for b (decide_op (seated b s) ops op x)) (shared_by d new) (any_to_name n rep)) (sym (refusal_on on t.sources e.start e.kind (e.since + 1) ops op sources tree (accepted-on view t.sources c q.desks n q.stands (new_desk (tree_of t.tree) t.kind t.now) refl ops p) ∙ h.0))
            (subst (λ y. Turned view source_view terms (turn_for b (silent (with_opened (seated b s) (going (ops ++ op ∷ []))))) (shared_by d new) (any_to_name n y)) (sym r) (turned_on (going (ops ++ op ∷ [])) refl h.1 None))
        decided (Err (denied.Failed j)) h r = absurd h
        decided (Err (denied.Refused w)) h r =
            subst (λ x. Turned view source_view terms (turn_for b (decide_op (seated b s) ops op x)) (shared_by d new) (any_to_name n rep)) (sym (refusal_on on t.sources e.start e.kind (e.since + 1) ops op sources tree (accepted-on view t.sources c q.desks n q.stands (new_desk (tree_of t.tree) t.kind t.now) refl ops p) ∙ h.0))
            (subst (λ y. Turned view source_view terms (turn_for b (refuses (why_refused op w) (with_opened (seated b s) (failed (length ops + 1) (Refused w))))) (shared_by d new) (any_to_name n y)) (sym r) (turned_on (failed (length ops + 1) (Refused w)) refl h.1 (Some (reply.Refused of.Statement (why_refused op w)))))
        decided (Err denied.Memory) h r = absurd r

      operated : (o : OpenTransaction) → b.opened ≡ o → (result : Result ⊤ ApplyFault) → OperatesFrom view t.sources q.desks n e (progress_of o) op new result → IsReplyTo op result rep
          → Turned view source_view terms (turn_for b (on_operation (seated b s) on op o)) (shared_by d new) (any_to_name n rep)
      operated closed is result h r =
          let last = base-not s.history t b closed is refl in
          decided [] (for_desk.progress ∙ ap progress_of is) (ap (λ (x : State). x.sources) last) (ap (λ (x : State). tree_of x.tree) last ∙ sym (start-closed s.history t current (q.desks n) b (q.each n) is)) result h r
      operated (going ops) is result h r =
          let from = base-going s.history t b for_desk.start.at ops is for_desk.start.is in
          decided ops (for_desk.progress ∙ ap progress_of is) (ap (λ (x : State). x.sources) from ∙ for_desk.start.sources) (ap (λ (x : State). tree_of x.tree) from ∙ for_desk.start.tree) result h r
      operated (failed j k) is (Ok u) h r = absurd h
      operated (failed j k) is (Err (denied.Failed i)) h r =
          subst (λ y. Turned view source_view terms (turn_for b (refuses (why.FailedAt j) (seated b s))) (shared_by d new) (any_to_name n y)) (sym (r ∙ ap (λ m. Some (reply.Refused of.Statement (why.FailedAt m))) h.0)) (turned-unchanged h.1 (Some (reply.Refused of.Statement (why.FailedAt j))))
      operated (failed j k) is (Err (denied.Refused w)) h r = absurd h
      operated (failed j k) is (Err denied.Memory) h r = absurd h

      -- an operation of his is held, or refused
      pub turned-operated : (result : Result ⊤ ApplyFault) (ss : List Source) (u : Tree) (k : Kind) (m : ℕ) → ss ≡ t.sources → u ≡ tree_of t.tree → k ≡ t.kind → m ≡ t.now
          → ((all : Desks) → curators.Stands view ss c all → Operates view ss all n (desk_or (all n) (new_desk u k m)) op new result) → IsReplyTo op result rep
          → Turned view source_view terms (turn_at_of (setting terms) s (desk_in s n) (says (stmt.Op op))) (shared_by d new) (any_to_name n rep)
      turned-operated result ss u k m es eu ek em call r =
          let Call : List Source → Tree → Kind → ℕ → Type 0 = λ ss u k m. (all : Desks) → curators.Stands view ss c all → Operates view ss all n (desk_or (all n) (new_desk u k m)) op new result in
          let now = subst (Call t.sources (tree_of t.tree) t.kind) em (subst (λ x. Call t.sources (tree_of t.tree) x m) ek (subst (λ x. Call t.sources x k m) eu (subst (λ x. Call x u k m) es call))) in
          subst (λ (x : Turn). Turned view source_view terms x (shared_by d new) (any_to_name n rep)) (sym (turn-at-is (setting terms) (stmt.Op op)))
          (operated b.opened refl result (subst (λ p. OperatesFrom view t.sources q.desks n e p op new result) for_desk.progress (now q.desks q.stands)) r)

    -- ---- texts that can't be read

    -- one counts as an operation that is refused
    pub turned-spoiled : (w : Why) (ss : List Source) (u : Tree) (k : Kind) (m : ℕ) → ss ≡ t.sources → u ≡ tree_of t.tree → k ≡ t.kind → m ≡ t.now
        → ((all : Desks) → curators.Stands view ss c all → curators.Stands view ss new (desks.with_desk n (Some (after_unread_text (desk_or (all n) (new_desk u k m)))) all))
        → Turned view source_view terms (turn_at_of (setting terms) s (desk_in s n) (unread w)) (shared_by d new) (to_name n (reply.Refused of.Statement w))
    turned-spoiled w ss u k m es eu ek em call =
        let Call : List Source → Tree → Kind → ℕ → Type 0 = λ ss u k m. (all : Desks) → curators.Stands view ss c all → curators.Stands view ss new (desks.with_desk n (Some (after_unread_text (desk_or (all n) (new_desk u k m)))) all) in
        let now = subst (Call t.sources (tree_of t.tree) t.kind) em (subst (λ x. Call t.sources (tree_of t.tree) x m) ek (subst (λ x. Call t.sources x k m) eu (subst (λ x. Call x u k m) es call))) in
        subst (λ (x : Turn). Turned view source_view terms x (shared_by d new) (to_name n (reply.Refused of.Statement w))) (sym (turn_unread (setting terms) w))
        (turned_on (fail_unread b.opened) (unread_open b.opened) (subst (λ p. curators.Stands view t.sources new (desks.with_desk n (Some (come_to e p)) q.desks)) (ap txn.after_unread for_desk.progress ∙ unread_is b.opened) (now q.desks q.stands))
        (Some (reply.Refused of.Statement w)))

    -- ---- aborts

    given_up : (x : Option desks.Desk) → IsSeat s.history t x b → desks.count_given_up x ≡ count_given_up b.opened
    given_up None k = ap count_given_up (sym k)
    given_up (Some y) k = ap txn.held_count k.progress ∙ held_is b.opened

    -- his transaction is given up
    pub turned-given_up : (count : ℕ) → count ≡ desks.count_given_up (q.desks n) → curators.Stands view t.sources new (desks.with_desk n None q.desks)
        → Turned view source_view terms (turn_at_of (setting terms) s (desk_in s n) (says stmt.Abort)) (shared_by d new) (to_name n (reply.Aborted count))
    turned-given_up count is stands =
        subst (λ (x : Turn). Turned view source_view terms x (shared_by d new) (to_name n (reply.Aborted count))) (sym (turn-at-is (setting terms) stmt.Abort))
        (subst (λ i. Turned view source_view terms (turn_for b (replies (reply.Aborted (count_given_up b.opened)) (with_opened (seated b s) closed))) (shared_by d new) (to_name n (reply.Aborted i))) (sym (is ∙ given_up (q.desks n) (q.each n)))
        (turned-off stands (Some (reply.Aborted (count_given_up b.opened)))))

  -- ---- show

  -- his operations see the sources as they are
  on_sources : (o : OpenTransaction) → b.opened ≡ o → on.sources ≡ t.sources
  on_sources closed is = ap (λ (x : State). x.sources) (base-not s.history t b closed is refl)
  on_sources (going ops) is = ap (λ (x : State). x.sources) (base-going s.history t b for_desk.start.at ops is for_desk.start.is) ∙ for_desk.start.sources
  on_sources (failed j k) is = ap (λ (x : State). x.sources) (base-not s.history t b (failed j k) is refl)

  -- the tree to which his operations lead is shown, unless he has none or they have failed
  tree_is : (o : OpenTransaction) → b.opened ≡ o → (x : Option desks.Desk) → q.desks n ≡ x → IsSeat s.history t x b → or_tree (desks.working_tree t.sources x) (tree_of t.tree) ≡ current_tree on o
  tree_is closed is None at k = ap (λ (x : State). tree_of x.tree) (sym (base-not s.history t b closed is refl))
  tree_is closed is (Some y) at k = absurd (let both : true ≡ false = ap is_closed (sym is) ∙ k.there in cc)
  tree_is (going ops) is None at k = absurd (let both : closed ≡ going ops = sym k ∙ is in cc)
  tree_is (going ops) is (Some y) at k =
      let held : y.progress ≡ txn.going ops = k.progress ∙ ap progress_of is in
      let from = base-going s.history t b k.start.at ops is k.start.is in
      let accepted = subst (λ x. AllAccepted t.sources (desk_or x (new_desk (tree_of t.tree) t.kind t.now)).start ops) at
      (accepted-on view t.sources c q.desks n q.stands (new_desk (tree_of t.tree) t.kind t.now) refl ops (ap (λ x. (desk_or x (new_desk (tree_of t.tree) t.kind t.now)).progress) at ∙ held)) in
      ap (λ p. or_tree (desks.tree_after_progress t.sources y p) (tree_of t.tree)) held
      ∙ tree_on on t.sources y.start y.kind (y.since + 1) ops (ap (λ (x : State). x.sources) from ∙ k.start.sources) (ap (λ (x : State). tree_of x.tree) from ∙ k.start.tree) accepted
  tree_is (failed j g) is None at k = absurd (let both : closed ≡ failed j g = sym k ∙ is in cc)
  tree_is (failed j g) is (Some y) at k =
      ap (λ p. or_tree (desks.tree_after_progress t.sources y p) (tree_of t.tree)) (k.progress ∙ ap progress_of is)
      ∙ ap (λ (x : State). tree_of x.tree) (sym (base-not s.history t b (failed j g) is refl))

  -- what his tree has at and below a place is shown
  pub turned-shown_for : d.transaction ≡ None → (p : Loc) (r : Reply) (u : Tree) → u ≡ or_tree (desks.working_tree t.sources (q.desks n)) (tree_of t.tree) → r ≡ shown_or_refused p (shown_tree t u p)
      → Turned view source_view terms (turn_at_of (setting terms) s (desk_in s n) (says (stmt.Show p))) (shared_by d c) (to_name n r)
  turned-shown_for none p r u is told =
      let shown = shown_tree on (current_tree on b.opened) p in
      let same : r ≡ shown_or_refused p shown =
      told ∙ ap (λ v. shown_or_refused p (shown_tree t v p)) (is ∙ tree_is b.opened refl (q.desks n) refl (q.each n)) ∙ ap (λ ss. shown_or_refused p (if in_target p then Some (current_tree on b.opened) else source ss p.db)) (sym (on_sources b.opened refl)) in
      subst (λ (x : Turn). Turned view source_view terms x (shared_by d c) (to_name n r)) (sym (turn-at-is (setting terms) (stmt.Show p)))
      (subst (λ y. Turned view source_view terms (turn_for b (show_at (seated b s) p shown)) (shared_by d c) (to_name n y)) (sym same) (by shown))
    where
      shows : (v : Tree) (yes : Bool) → Turned view source_view terms (turn_for b (if yes then replies (reply.Show p (map row_of (below p.path v))) (seated b s) else refuses (why.NoPlace p) (seated b s))) (shared_by d c)
          (to_name n (if yes then reply.Show p (map row_of (below p.path v)) else reply.Refused of.Statement (why.NoPlace p)))
      shows v true = turned-unchanged none c q.stands (Some (reply.Show p (map row_of (below p.path v))))
      shows v false = turned-unchanged none c q.stands (Some (reply.Refused of.Statement (why.NoPlace p)))

      by : (o : Option Tree) → Turned view source_view terms (turn_for b (show_at (seated b s) p o)) (shared_by d c) (to_name n (shown_or_refused p o))
      by None = turned-unchanged none c q.stands (Some (reply.Refused of.Statement (why.NoSource p.db)))
      by (Some v) = shows v (is_there v p.path)
