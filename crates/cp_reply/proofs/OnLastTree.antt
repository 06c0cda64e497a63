-- The operations that each desk holds were accepted on the version after which they began; so a commit that isn't stale is on the last tree.
use Rattle.cp_model.specs.declared.limits.TheConstants.{OPS_MAX}
use Rattle.std.specs.Prelude.{ℕ, ◌+◌, ◌≡◌, ◌≤◌, ◌==◌, ◌&&◌, Bool, true, false, List, [], ◌∷◌, ◌++◌, length, nat_lt, refl, ⊤, if◌then◌else◌}
use Rattle.std.specs.List.{AllByRecursion}
use Rattle.std.proofs.Common.{◌⊎◌, inl, inr, sym, ap, subst, ◌∙◌, arith, length-append, append_assoc, append-nil}
use Rattle.std.proofs.lemmas.Bool.Decides.{nat_tests}
use Rattle.std.proofs.lemmas.List.Sums.{fold-append}
use Rattle.std.proofs.lemmas.Option.{same_Some}
use Rattle.std.specs.declared.option.Option.{Option}
use Rattle.std.specs.declared.option.Option.TheVariants.{None, Some}
use Rattle.cp_model.specs.Step.{done, open_tree, then_op, step, is_done}
use Rattle.cp_model.specs.Past.{tree_of}
use Rattle.cp_model.specs.History.{Entry, load, commit, State, after_commit, after_load, then_entry, replay, IsWritten, AreWritten, CanCommit, CanFollow, IsLegal, IsLegalFrom}
use Rattle.cp_model.specs.Versions.{version}
use Rattle.cp_model.specs.declared.op.Op.{Op}
use Rattle.cp_model.specs.declared.stamp.Stamp.{Stamp}
use Rattle.cp_model.specs.declared.refusal.Refusal.{Refusal}
use Rattle.cp_model.specs.declared.refusal.Refusal.TheVariants as refusal
use Rattle.cp_model.proofs.Folds.{done_is, then-accepted}
use Rattle.cp_model.proofs.Histories.{replay-snoc}
use Rattle.cp_model.proofs.VersionLemmas.{committed-as, last-version-is-all}
use Rattle.cp_lang.specs.declared.cut.Cut.{Cut}
use Rattle.cp_lang.specs.declared.cut.Cut.TheVariants as cut
use Rattle.cp_lang.specs.declared.syntax_tree.Stmt.{Stmt}
use Rattle.cp_lang.specs.declared.syntax_tree.Stmt.TheVariants as stmt
use Rattle.cp_reply.specs.declared.reply.Why.{Why}
use Rattle.cp_reply.specs.Sharing.{statement_in}
use Rattle.cp_reply.specs.Session.{Setting, Session, Turn, TextReading, says, unread, OpenTransaction, closed, going, failed, is_closed, is_going, is_stale, fail_unread, refusal_on, refusal_after, decide_op, on_operation, Desk, with_desk, desk_of, desk_in, last_tid, seated, state_or, base, turn_at, turn_for, turn_at_by, not_read, session_after, turn}
use Rattle.cp_reply.specs.SharingLaws.{ReadsWritten, AddsOneEntry, owner_of, reading_of}
use Rattle.cp_reply.proofs.VersionsKept.{version-kept, base-version}
use Rattle.cp_reply.proofs.Desks.{with-all, desk-all, desks-all}
use Rattle.cp_reply.proofs.SharedTurns.{Moves, stays, loads, commits, moved, owned_turn, shared-turn}

-- ---- what is held

-- operations that were all accepted on the state z, which is the version v of the history h that leads to t
record AreAccepted (h : List Entry) (t : State) (v : ℕ) (z : State) (ops : List Op) : Type 0 where
  upto : v ≤ t.now
  begun : version h v ≡ Some z
  few : length ops ≤ OPS_MAX
  written : AreWritten ops
  accepted : is_done (step (tree_of z.tree) z.sources ops) ≡ true

-- so are those of a transaction that was opened after v
abbrev IsHeld : List Entry → State → ℕ → OpenTransaction → Type 0
IsHeld h t v closed = ⊤
IsHeld h t v (going ops) = (1 ≤ length ops) × (z : State) × AreAccepted h t v z ops
IsHeld h t v (failed n k) = ⊤

-- an open desk
abbrev IsSeated : List Entry → State → Desk → Type 0
IsSeated h t d = (is_closed d.opened ≡ false) × IsHeld h t d.since d.opened

-- the desk of whoever has a turn, which may be a new one
abbrev IsReady : List Entry → State → Desk → Type 0
IsReady h t d = (d.opened ≡ closed → d.since ≡ t.now) × IsHeld h t d.since d.opened

-- ---- one operation more

one-more : (b : Bool) (o : Option Refusal) → (if b then Some refusal.TooManyOps else o) ≡ None → (b ≡ false) × (o ≡ None)
one-more true o e = absurd (cc)
one-more false o e = (refl, e)

room : (n : ℕ) → n ≤ OPS_MAX → (n == OPS_MAX) ≡ false → n + 1 ≤ OPS_MAX
room n h e = grind (arith, nat_tests)

written-snoc : (ops : List Op) (op : Op) → AreWritten ops → IsWritten op → AreWritten (ops ++ op ∷ [])
written-snoc [] op a w = (w, tt)
written-snoc (x ∷ ops) op a w = (a.0, written-snoc ops op a.1 w)

accepted-snoc : (z : State) (ops : List Op) (op : Op) → is_done (step (tree_of z.tree) z.sources ops) ≡ true → refusal_on z (step (tree_of z.tree) z.sources ops) op ≡ None → is_done (step (tree_of z.tree) z.sources (ops ++ op ∷ [])) ≡ true
unfolding step
accepted-snoc z ops op a n =
    let x = done_is (step (tree_of z.tree) z.sources ops) a in
    ap is_done (fold-append (then_op z.sources) (done 0 (open_tree (tree_of z.tree))) ops (op ∷ [])
    ∙ ap (λ o. then_op z.sources o op) x.2
    ∙ then-accepted z.sources op x.0 x.1 (sym (ap (λ o. refusal_on z o op) x.2) ∙ n))

accepts : (h : List Entry) (t : State) (v : ℕ) (z : State) (ops : List Op) (op : Op) → AreAccepted h t v z ops → IsWritten op → refusal_after z ops op ≡ None → AreAccepted h t v z (ops ++ op ∷ [])
accepts h t v z ops op a w n =
    let x = one-more (length ops == OPS_MAX) (refusal_on z (step (tree_of z.tree) z.sources ops) op) n in
    record {
      upto = a.upto;
      begun = a.begun;
      few = let r = room (length ops) a.few x.0 in let e = length-append ops (op ∷ []) in omega (arith, r, e);
      written = written-snoc ops op a.written w;
      accepted = accepted-snoc z ops op a.accepted x.1;
    }

held-decided : (s : Session) (h : List Entry) (t : State) (v : ℕ) (z : State) (ops : List Op) (op : Op) → AreAccepted h t v z ops → IsWritten op → IsHeld h t v (decide_op s ops op (refusal_after z ops op)).next.opened
held-decided s h t v z ops op a w =
    elim (refusal_after z ops op) as (λ r. refusal_after z ops op ≡ r → IsHeld h t v (decide_op s ops op r).next.opened) [
      | None ↦ λ n. (let e = length-append ops (op ∷ []) in omega (arith, e), z, accepts h t v z ops op a w n)
      | Some r ↦ λ n. tt
    ] refl

-- none on the last version
none-accepted : (h : List Entry) (t : State) (v : ℕ) → IsLegal h → replay h ≡ Some t → v ≡ t.now → AreAccepted h t v t []
unfolding step
none-accepted h t v l e is = record { upto = omega (arith, is); begun = last-version-is-all h t v l e (omega (arith, is)); few = omega arith; written = tt; accepted = refl }

held-operated : (s : Session) (t : State) (d : Desk) (op : Op) → IsLegal s.history → replay s.history ≡ Some t → IsReady s.history t d → IsWritten op
    → IsHeld s.history t d.since (on_operation (seated d s) (base s.history t d) op d.opened).next.opened
held-operated s t d op l e r w =
    elim d.opened as (λ o. d.opened ≡ o → IsHeld s.history t d.since (on_operation (seated d s) (base s.history t d) op o).next.opened) [
      | closed ↦ λ is.
          let on : base s.history t d ≡ t = ap (λ o. if is_going o then state_or t (version s.history d.since) else t) is in
          subst (λ z. IsHeld s.history t d.since (decide_op (seated d s) [] op (refusal_after z [] op)).next.opened) (sym on)
          (held-decided (seated d s) s.history t d.since t [] op (none-accepted s.history t d.since l e (r.0 is)) w)
      | going ops ↦ λ is.
          let a = subst (IsHeld s.history t d.since) is r.1 in
          subst (λ z. IsHeld s.history t d.since (decide_op (seated d s) ops op (refusal_after z ops op)).next.opened) (sym (base-version s.history t a.1 d (ap is_going is) (a.2).begun))
          (held-decided (seated d s) s.history t d.since a.1 ops op a.2 w)
      | failed n k ↦ λ is. subst (IsHeld s.history t d.since) (sym is) tt
    ] refl

-- ---- commits

-- what is held on a desk that isn't stale was accepted on the last tree
can-commit : (h : List Entry) (t : State) (d : Desk) (ops : List Op) → IsLegal h → replay h ≡ Some t → IsHeld h t d.since d.opened → d.opened ≡ going ops → is_stale t d ≡ false → CanCommit t ops
can-commit h t d ops l e held g f =
    let a = subst (IsHeld h t d.since) g held in
    let late : nat_lt d.since t.now ≡ false = sym (ap (λ o. is_going o && nat_lt d.since t.now) g) ∙ f in
    let same : a.1 ≡ t = same_Some a.1 t (sym (a.2).begun ∙ last-version-is-all h t d.since l e (grind (arith, nat_tests))) in
    record {
      some = a.0;
      few = (a.2).few;
      written = (a.2).written;
      accepted = subst (λ (z : State). is_done (step (tree_of z.tree) z.sources ops) ≡ true) same (a.2).accepted;
    }

-- a commit leaves what is held
held-kept : (h : List Entry) (t : State) (stamp : Stamp) (ops : List Op) → IsLegal h → replay h ≡ Some t → CanCommit t ops → (v : ℕ) (o : OpenTransaction) → IsHeld h t v o → IsHeld (h ++ commit stamp ops ∷ []) (after_commit t ops) v o
held-kept h t stamp ops l e c v closed a = tt
held-kept h t stamp ops l e c v (failed n k) a = tt
held-kept h t stamp ops l e c v (going os) a =
    let x = a.2 in (
      a.0,
      a.1,
      record {
        upto = let m = (committed-as t ops c).2 in let u = x.upto in omega (arith, m, u);
        begun = version-kept h (commit stamp ops ∷ []) t v l e x.upto tt ∙ x.begun;
        few = x.few;
        written = x.written;
        accepted = x.accepted;
      },
    )

held-unread : (h : List Entry) (t : State) (v : ℕ) (o : OpenTransaction) → IsHeld h t v (fail_unread o)
held-unread h t v closed = tt
held-unread h t v (going ops) = tt
held-unread h t v (failed n k) = tt

-- ---- one turn

-- the history leads to a state, and each desk is as it should be
record IsShared (s : Session) : Type 0 where
  state : State
  replayed : replay s.history ≡ Some state
  desks : AllByRecursion (IsSeated s.history state) s.desks

-- the turn adds at most one entry, and leaves such a session
abbrev Turns : Session → Turn → Type 0
Turns s x = AddsOneEntry s.history x × IsShared x.next

module _ (s : Session) (h : IsShared s) (l : IsLegal s.history) where
  -- the desk of a name
  ready : (n : List ℕ) → IsReady s.history h.state (desk_in s n)
  ready n =
      subst (λ o. IsReady s.history h.state (desk_of (last_tid o) n s.desks)) (sym h.replayed)
      (desk-all (IsSeated s.history h.state) (h.state).now n s.desks (IsReady s.history h.state) (λ _. refl, tt) (λ d p. (λ c. let e = ap is_closed c in let f = p.0 in absurd (cc), p.1)) h.desks)

  module _ (c : Setting) (d : Desk) (r : IsReady s.history h.state d) where
    -- the session after a turn, in which the desk is put back
    risen-shared : (z : Session) (t : State) → replay z.history ≡ Some t → z.desks ≡ s.desks → AllByRecursion (IsSeated z.history t) s.desks → IsHeld z.history t d.since z.opened → (y : Turn) → y.next ≡ z → IsShared (turn_for d y).next
    risen-shared z t e ds a held y is = record {
      state = t;
      replayed = ap (λ (x : Session). replay x.history) is ∙ e;
      desks = subst (λ (x : Session). AllByRecursion (IsSeated x.history t) (with_desk (record d { opened = x.opened }) x.desks)) (sym is)
          (subst (λ xs. AllByRecursion (IsSeated z.history t) (with_desk (record d { opened = z.opened }) xs)) (sym ds)
          (with-all (IsSeated z.history t) (record d { opened = z.opened }) s.desks (λ o. (o, held)) a));
    }

    -- whatever is held stays held, and the transaction is closed or stays as it was
    seated-shared : (y : Turn) (t : State) → replay y.next.history ≡ Some t → y.next.desks ≡ s.desks → ((v : ℕ) (o : OpenTransaction) → IsHeld s.history h.state v o → IsHeld y.next.history t v o)
        → (y.next.opened ≡ closed) ⊎ (y.next.opened ≡ d.opened) → IsShared (turn_for d y).next
    seated-shared y t e ds k o =
        risen-shared y.next t e ds (desks-all (IsSeated s.history h.state) (IsSeated y.next.history t) (λ b p. (p.0, k b.since b.opened p.1)) s.desks h.desks) (by o) y refl
      where
        by : (y.next.opened ≡ closed) ⊎ (y.next.opened ≡ d.opened) → IsHeld y.next.history t d.since y.next.opened
        by (inl is) = subst (IsHeld y.next.history t d.since) (sym is) tt
        by (inr is) = subst (IsHeld y.next.history t d.since) (sym is) (k d.since d.opened r.1)

    -- a statement other than an operation
    other-turns : (y : Turn) → y.next.desks ≡ s.desks → Moves s h.state d y.next → (y.next.opened ≡ closed) ⊎ (y.next.opened ≡ d.opened) → Turns s (turn_for d y)
    other-turns y ds (stays e) o =
        (inl e, seated-shared y h.state (ap replay e ∙ h.replayed) ds (λ v x a. subst (λ g. IsHeld g h.state v x) (sym e) a) o)
    other-turns y ds (loads n u e none f) o =
        let end : y.next.opened ≡ closed = by o in (
          inr (load n u, e, tt),
          risen-shared y.next (after_load h.state n u) (ap replay e ∙ replay-snoc s.history (load n u) ∙ ap (λ z. then_entry z (load n u)) h.replayed) ds
              (subst (AllByRecursion (IsSeated y.next.history (after_load h.state n u))) (sym none) tt) (subst (IsHeld y.next.history (after_load h.state n u) d.since) (sym end) tt) y refl,
        )
      where
        by : (y.next.opened ≡ closed) ⊎ (y.next.opened ≡ d.opened) → y.next.opened ≡ closed
        by (inl is) = is
        by (inr is) = is ∙ f
    other-turns y ds (commits stamp ops e name g f) o =
        let can = can-commit s.history h.state d ops l h.replayed r.1 g f in (
          inr (commit stamp ops, e, (ap (λ z. Some z) (sym name), subst (λ z. CanFollow z (commit stamp ops)) (sym h.replayed) can)),
          seated-shared y (after_commit h.state ops) (ap replay e ∙ replay-snoc s.history (commit stamp ops) ∙ ap (λ z. then_entry z (commit stamp ops)) h.replayed) ds
              (λ v x a. subst (λ g. IsHeld g (after_commit h.state ops) v x) (sym e) (held-kept s.history h.state stamp ops l h.replayed can v x a)) o,
        )

    -- each statement
    statement-turns : (x : Stmt) → ((op : Op) → x ≡ stmt.Op op → IsWritten op) → Turns s (turn_for d (turn_at c s h.state d x))
    statement-turns (stmt.Op op) w =
        let m = moved c s h.state d (stmt.Op op) in
        let y = turn_at c s h.state d (stmt.Op op) in
        let e : y.next.history ≡ s.history = m.opened in (
          inl e,
          risen-shared y.next h.state (ap replay e ∙ h.replayed) m.desks (subst (λ g. AllByRecursion (IsSeated g h.state) s.desks) (sym e) h.desks)
              (subst (λ g. IsHeld g h.state d.since y.next.opened) (sym e) (held-operated s h.state d op l h.replayed r (w op refl))) y refl,
        )
    statement-turns stmt.Commit w = let m = moved c s h.state d stmt.Commit in other-turns (turn_at c s h.state d stmt.Commit) m.desks m.history (inl m.opened)
    statement-turns stmt.Abort w = let m = moved c s h.state d stmt.Abort in other-turns (turn_at c s h.state d stmt.Abort) m.desks m.history (inl m.opened)
    statement-turns (stmt.Load q) w = let m = moved c s h.state d (stmt.Load q) in other-turns (turn_at c s h.state d (stmt.Load q)) m.desks m.history (inr m.opened)
    statement-turns (stmt.Ask q) w = let m = moved c s h.state d (stmt.Ask q) in other-turns (turn_at c s h.state d (stmt.Ask q)) m.desks m.history (inr m.opened)
    statement-turns (stmt.Show q) w = let m = moved c s h.state d (stmt.Show q) in other-turns (turn_at c s h.state d (stmt.Show q)) m.desks m.history (inr m.opened)

    unread-turns : (w : Why) → Turns s (turn_for d (not_read (seated d s) w))
    unread-turns w = (inl refl, risen-shared (not_read (seated d s) w).next h.state h.replayed refl h.desks (held-unread s.history h.state d.since d.opened) (not_read (seated d s) w) refl)

  owned-turns : (c : Setting) (w : Why) (o : Option (List ℕ)) (x : TextReading) → ((op : Op) → x ≡ says (stmt.Op op) → IsWritten op) → Turns s (owned_turn c s w o x)
  owned-turns c w None x written = (inl refl, h)
  owned-turns c w (Some n) (says x) written =
      subst (λ o. Turns s (turn_at_by c s o (desk_in s n) x)) (sym h.replayed) (statement-turns c (desk_in s n) (ready n) x (λ op e. written op (ap (λ y. says y) e)))
  owned-turns c w (Some n) (unread y) written = unread-turns c (desk_in s n) (ready n) y

-- what is read is written
reads-written : (c : Setting) → ReadsWritten c → (x : Cut) (op : Op) → reading_of c x ≡ says (stmt.Op op) → IsWritten op
reads-written c r (cut.Text text) op e = r (statement_in text) op e
reads-written c r cut.TooLong op e = absurd (cc)
reads-written c r (cut.Unfinished text) op e = absurd (cc)

turns : (c : Setting) → c.shared ≡ true → ReadsWritten c → (s : Session) → IsShared s → IsLegal s.history → (x : Cut) → Turns s (turn c s x)
turns c e r s h l x =
    let i = shared-turn c e s x in
    subst (Turns s) (sym i.1) (owned-turns s h l c i.0 (owner_of x) (reading_of c x) (reads-written c r x))

-- ---- many turns

-- the history only grows
abbrev Grows : Session → Session → Type 0
Grows s z = (es : List Entry) × (z.history ≡ s.history ++ es)

stays-grown : (s z : Session) → z.history ≡ s.history → Grows s z
stays-grown s z e = ([], e ∙ sym (append-nil s.history))

moves-grown : (s : Session) (t : State) (d : Desk) (z : Session) → Moves s t d z → Grows s z
moves-grown s t d z (stays e) = stays-grown s z e
moves-grown s t d z (loads n u e ds o) = (load n u ∷ [], e)
moves-grown s t d z (commits stamp ops e n g f) = (commit stamp ops ∷ [], e)

state-grown : (c : Setting) (s : Session) (o : Option State) (d : Desk) (x : Stmt) → Grows s (turn_at_by c s o d x).next
state-grown c s None d x = stays-grown s s refl
state-grown c s (Some t) d x = let g = moves-grown s t d (turn_at c s t d x).next (moved c s t d x).history in (g.0, g.1)

owned-grown : (c : Setting) (s : Session) (w : Why) (o : Option (List ℕ)) (x : TextReading) → Grows s (owned_turn c s w o x).next
owned-grown c s w None x = stays-grown s s refl
owned-grown c s w (Some n) (says x) = state-grown c s (replay s.history) (desk_in s n) x
owned-grown c s w (Some n) (unread y) = ([], sym (append-nil s.history))

turn-grown : (c : Setting) → c.shared ≡ true → (s : Session) (x : Cut) → Grows s (turn c s x).next
turn-grown c e s x =
    let i = shared-turn c e s x in
    subst (λ (y : Turn). Grows s y.next) (sym i.1) (owned-grown c s i.0 (owner_of x) (reading_of c x))

session-grown : (c : Setting) → c.shared ≡ true → (s : Session) (xs : List Cut) → Grows s (session_after c s xs)
unfolding session_after
session-grown c e s [] = stays-grown s s refl
session-grown c e s (x ∷ xs) =
    let f = turn-grown c e s x in
    let g = session-grown c e (turn c s x).next xs in
    (f.0 ++ g.0, g.1 ∙ ap (λ h. h ++ g.0) f.1 ∙ append_assoc s.history f.0 g.0)

-- what a legal history begins with is legal
legal-front : (o : Option State) (h es : List Entry) → IsLegalFrom o (h ++ es) → IsLegalFrom o h
legal-front o [] es l = tt
legal-front o (e ∷ h) es l = (l.0, legal-front (then_entry o e) h es l.1)

grown-legal : (s z : Session) → Grows s z → IsLegal z.history → IsLegal s.history
grown-legal s z g l = legal-front None s.history g.0 (subst IsLegal g.1 l)

shared-after : (c : Setting) → c.shared ≡ true → ReadsWritten c → (s : Session) → IsShared s → (xs : List Cut) → IsLegal (session_after c s xs).history → IsShared (session_after c s xs)
unfolding session_after
shared-after c e r s h [] l = h
shared-after c e r s h (x ∷ xs) l =
    let y = (turn c s x).next in
    let next : IsLegal y.history = grown-legal y (session_after c y xs) (session-grown c e y xs) l in
    shared-after c e r y (turns c e r s h (grown-legal s y (turn-grown c e s x) next) x).1 xs l

pub commits-are-on-the-last-tree : (c : Setting) → c.shared ≡ true → ReadsWritten c → (s : Session) (t : State) → replay s.history ≡ Some t → s.desks ≡ []
    → (xs : List Cut) (x : Cut) → IsLegal (session_after c s xs).history → AddsOneEntry (session_after c s xs).history (turn c (session_after c s xs) x)
commits-are-on-the-last-tree c e r s t is ds xs x l =
    let begun : IsShared s = record { state = t; replayed = is; desks = subst (AllByRecursion (IsSeated s.history t)) (sym ds) tt } in
    (turns c e r (session_after c s xs) (shared-after c e r s begun xs l) l x).0
