-- While a curator's transaction is open his operations are answered as in a session that is his alone.
use Rattle.std.specs.Prelude.{ℕ, ◌≡◌, ◌&&◌, ◌||◌, Bool, true, false, List, [], ◌∷◌, ◌++◌, map, refl, if◌then◌else◌}
use Rattle.std.specs.List.{list_any, filter}
use Rattle.std.specs.Option.{option_map}
use Rattle.std.specs.Cmp.Lexicographic.{nat_list_eq_equiv}
use Rattle.std.proofs.Common.{sym, ap, subst, ◌∙◌, arith, append_assoc, append-nil}
use Rattle.std.specs.declared.option.Option.{Option}
use Rattle.std.specs.declared.option.Option.TheVariants.{None, Some}
use Rattle.cp_path.specs.Text.{text_eq}
use Rattle.cp_path.proofs.Same.{text_eq-same}
use Rattle.cp_model.specs.History.{Entry, start, load, commit, State, after_commit, then_entry, replay, IsLegal}
use Rattle.cp_model.specs.Versions.{version}
use Rattle.cp_model.specs.declared.op.Op.{Op}
use Rattle.cp_model.specs.declared.stamp.Stamp.{Stamp}
use Rattle.cp_model.specs.declared.refusal.Refusal.{Refusal}
use Rattle.cp_model.proofs.Histories.{replay-snoc}
use Rattle.cp_model.proofs.VersionLemmas.{last-version-is-all}
use Rattle.cp_lang.specs.declared.cut.Cut.{Cut}
use Rattle.cp_lang.specs.declared.cut.Cut.TheVariants as cut
use Rattle.cp_lang.specs.declared.syntax_tree.Stmt.{Stmt}
use Rattle.cp_lang.specs.declared.syntax_tree.Stmt.TheVariants as stmt
use Rattle.cp_reply.specs.declared.reply.Why.{Why}
use Rattle.cp_reply.specs.declared.reply.Reply.{Reply}
use Rattle.cp_reply.specs.declared.said.Said.{Said}
use Rattle.cp_reply.specs.Session.{Setting, Session, Turn, TextReading, says, unread, OpenTransaction, closed, going, failed, is_closed, is_going, fail_unread, refusal_after, decide_op, on_operation, turn_by, turn_of, Desk, with_desk, desk_of, desk_in, last_tid, seated, risen, state_or, base, turn_at, turn_for, turn_at_by, turn_at_of, not_read, turn, with_reply, said_to, with_said, replies_to}
use Rattle.cp_reply.specs.SharingLaws.{owner_of, unsigned, reading_of, is_operation, is_ending, is_named, operates, finishes, replies_where, has_open, of_one, begun_alone}
use Rattle.cp_reply.proofs.VersionsKept.{AreCommits, version-kept}
use Rattle.cp_reply.proofs.Desks.{desk-name, with-other, with-own}
use Rattle.cp_reply.proofs.SharedTurns.{Moves, stays, loads, commits, moved, owned_turn, shared-turn}

and_both : (a b : Bool) → (a && b) ≡ true → (a ≡ true) × (b ≡ true)
and_both true b e = (refl, e)
and_both false b e = absurd (cc)

or_none : (a b : Bool) → (a || b) ≡ false → (a ≡ false) × (b ≡ false)
or_none true b e = absurd (cc)
or_none false b e = (refl, e)

commits-snoc : (es : List Entry) (stamp : Stamp) (ops : List Op) → AreCommits es → AreCommits (es ++ commit stamp ops ∷ [])
commits-snoc [] stamp ops a = tt
commits-snoc (start k t ∷ es) stamp ops a = absurd a
commits-snoc (load n t ∷ es) stamp ops a = absurd a
commits-snoc (commit st os ∷ es) stamp ops a = commits-snoc es stamp ops a

-- a name without a desk gets a new one
no-desk : (now : ℕ) (n : List ℕ) (ds : List Desk) → has_open n ds ≡ false → desk_of now n ds ≡ record { name = n; opened = closed; since = now }
no-desk now n [] e = refl
no-desk now n (d ∷ ds) e =
    let x = or_none (text_eq n d.name) (has_open n ds) e in
    ap (λ b. if b then d else desk_of now n ds) x.0 ∙ no-desk now n ds x.1

unread-open : (o : OpenTransaction) → is_closed (fail_unread o) ≡ false
unread-open closed = refl
unread-open (going ops) = refl
unread-open (failed n k) = refl

-- the reply of a turn before others
said-reply : (w : Option (List ℕ)) (o : Option Reply) (xs : List Said) → map (λ (r : Said). r.reply) (with_said (option_map (said_to w) o) xs) ≡ with_reply o (map (λ (r : Said). r.reply) xs)
said-reply w None xs = refl
said-reply w (Some r) xs = refl

-- alone the cut says the same
alone-turn : (c : Setting) (a : Session) (x : Cut) → turn (of_one c) a (unsigned x) ≡ turn_of (of_one c) a (reading_of c x)
unfolding turn
alone-turn c a (cut.Text text) = refl
alone-turn c a cut.TooLong = refl
alone-turn c a (cut.Unfinished text) = refl

module _ (c : Setting) (h : List Entry) (t : State) (l : IsLegal h) (e : replay h ≡ Some t) (n : List ℕ) where
  -- his desk, with this transaction
  abbrev his : OpenTransaction → Desk
  his o = record { name = n; opened = o; since = t.now }

  -- the session has come from his beginning by commits alone
  record IsAlong (s : Session) : Type 0 where
    more : List Entry
    only : AreCommits more
    grown : s.history ≡ h ++ more
    state : State
    replayed : replay s.history ≡ Some state

  -- and his transaction is open, on his desk and in the session a of his own
  record IsAlike (s a : Session) : Type 0 where
    along : IsAlong s
    open_there : is_closed a.opened ≡ false
    alone : a.history ≡ h
    desk : (now : ℕ) → desk_of now n s.desks ≡ his a.opened

  along-version : (s : Session) → IsAlong s → version s.history t.now ≡ Some t
  along-version s x = ap (λ g. version g t.now) x.grown ∙ version-kept h x.more t t.now l e (omega arith) x.only ∙ last-version-is-all h t t.now l e (omega arith)

  -- ---- his operations

  -- his turn y in the session s of several and the turn z in his own
  record IsSame (s a : Session) (y z : Turn) : Type 0 where
    reply : y.reply ≡ z.reply
    open_there : is_closed z.next.opened ≡ false
    alone : z.next.history ≡ a.history
    history : y.next.history ≡ s.history
    desks : y.next.desks ≡ with_desk (his z.next.opened) s.desks

  module _ (s a : Session) (x : IsAlong s) where
    same-decided : (ops : List Op) (op : Op) (r : Option Refusal) → IsSame s a (turn_for (his a.opened) (decide_op (seated (his a.opened) s) ops op r)) (decide_op a ops op r)
    same-decided ops op None = record { reply = refl; open_there = refl; alone = refl; history = refl; desks = refl }
    same-decided ops op (Some r) = record { reply = refl; open_there = refl; alone = refl; history = refl; desks = refl }

    -- on his tree
    same-on : (ops : List Op) (op : Op) → base s.history x.state (his a.opened) ≡ t
        → IsSame s a (turn_for (his a.opened) (decide_op (seated (his a.opened) s) ops op (refusal_after (base s.history x.state (his a.opened)) ops op))) (decide_op a ops op (refusal_after t ops op))
    same-on ops op is =
        subst (λ z. IsSame s a (turn_for (his a.opened) (decide_op (seated (his a.opened) s) ops op (refusal_after z ops op))) (decide_op a ops op (refusal_after t ops op))) (sym is)
        (same-decided ops op (refusal_after t ops op))

    same-operated : (op : Op) → (a.opened ≡ closed → x.state ≡ t) → (o : OpenTransaction) → a.opened ≡ o
        → IsSame s a (turn_for (his a.opened) (on_operation (seated (his a.opened) s) (base s.history x.state (his a.opened)) op o)) (on_operation a t op o)
    same-operated op first closed is =
        same-on [] op (ap (λ o. if is_going o then state_or x.state (version s.history t.now) else x.state) is ∙ first is)
    same-operated op first (going ops) is =
        same-on ops op (ap (λ o. if is_going o then state_or x.state (version s.history t.now) else x.state) is ∙ ap (state_or x.state) (along-version s x))
    same-operated op first (failed i k) is = record { reply = refl; open_there = ap is_closed is; alone = refl; history = refl; desks = refl }

    same-said : (y : TextReading) → is_operation y ≡ true → a.history ≡ h → (a.opened ≡ closed → x.state ≡ t) → IsSame s a (turn_at_of c s (his a.opened) y) (turn_of (of_one c) a y)
    same-said (says (stmt.Op op)) b alone first =
        subst (λ o. IsSame s a (turn_at_by c s o (his a.opened) (stmt.Op op)) (turn_by (of_one c) a (replay a.history) (stmt.Op op))) (sym x.replayed)
        (subst (λ o. IsSame s a (turn_for (his a.opened) (turn_at c s x.state (his a.opened) (stmt.Op op))) (turn_by (of_one c) a o (stmt.Op op))) (sym (ap replay alone ∙ e))
        (same-operated op first a.opened refl))
    same-said (says stmt.Commit) b alone first = absurd (cc)
    same-said (says stmt.Abort) b alone first = absurd (cc)
    same-said (says (stmt.Load q)) b alone first = absurd (cc)
    same-said (says (stmt.Ask q)) b alone first = absurd (cc)
    same-said (says (stmt.Show q)) b alone first = absurd (cc)
    same-said (unread w) b alone first = record { reply = refl; open_there = unread-open a.opened; alone = refl; history = refl; desks = refl }

    same-owned : (w : Why) (o : Option (List ℕ)) (y : TextReading) → (is_named n o && is_operation y) ≡ true → desk_in s n ≡ his a.opened → a.history ≡ h → (a.opened ≡ closed → x.state ≡ t)
        → IsSame s a (owned_turn c s w o y) (turn_of (of_one c) a y)
    same-owned w None y b d alone first = absurd (cc)
    same-owned w (Some m) y b d alone first =
        let p = and_both (text_eq n m) (is_operation y) b in
        subst (λ m. IsSame s a (turn_at_of c s (desk_in s m) y) (turn_of (of_one c) a y)) (text_eq-same n m p.0)
        (subst (λ d. IsSame s a (turn_at_of c s d y) (turn_of (of_one c) a y)) (sym d) (same-said y p.1 alone first))

    same-turn : c.shared ≡ true → (y : Cut) → operates c n y ≡ true → desk_in s n ≡ his a.opened → a.history ≡ h → (a.opened ≡ closed → x.state ≡ t) → IsSame s a (turn c s y) (turn (of_one c) a (unsigned y))
    same-turn sh y b d alone first =
        let i = shared-turn c sh s y in
        subst (λ z. IsSame s a z (turn (of_one c) a (unsigned y))) (sym i.1)
        (subst (λ z. IsSame s a (owned_turn c s i.0 (owner_of y) (reading_of c y)) z) (sym (alone-turn c a y))
        (same-owned i.0 (owner_of y) (reading_of c y) b d alone first))

    -- after it both are alike
    alike-after : (y z : Turn) → IsSame s a y z → a.history ≡ h → IsAlike y.next z.next
    alike-after y z q alone = record {
      along = record { more = x.more; only = x.only; grown = q.history ∙ x.grown; state = x.state; replayed = ap replay q.history ∙ x.replayed };
      open_there = q.open_there;
      alone = q.alone ∙ alone;
      desk = λ now. ap (desk_of now n) q.desks ∙ with-own now n (his z.next.opened) s.desks (nat_list_eq_equiv.refl n) q.open_there;
    }

  -- ---- other turns

  module _ (s a : Session) (x : IsAlike s a) where
    alike-moved : (d : Desk) (z : Session) → Moves s (x.along).state d z → z.desks ≡ s.desks → ((now : ℕ) → desk_of now n (with_desk (record d { opened = z.opened }) s.desks) ≡ his a.opened) → IsAlike (risen d z) a
    alike-moved d z (stays g) ds it = record {
      along = record { more = (x.along).more; only = (x.along).only; grown = g ∙ (x.along).grown; state = (x.along).state; replayed = ap replay g ∙ (x.along).replayed };
      open_there = x.open_there;
      alone = x.alone;
      desk = λ now. ap (λ xs. desk_of now n (with_desk (record d { opened = z.opened }) xs)) ds ∙ it now;
    }
    alike-moved d z (loads m u g none f) ds it =
        let is : closed ≡ a.opened = sym (ap (λ xs. (desk_of 0 n xs).opened) none) ∙ ap (λ (y : Desk). y.opened) (x.desk 0) in
        let k : true ≡ is_closed a.opened = ap is_closed is in
        let o = x.open_there in
        absurd (cc)
    alike-moved d z (commits stamp ops g name f late) ds it = record {
      along = record {
        more = (x.along).more ++ commit stamp ops ∷ [];
        only = commits-snoc (x.along).more stamp ops (x.along).only;
        grown = g ∙ ap (λ hs. hs ++ commit stamp ops ∷ []) (x.along).grown ∙ append_assoc h (x.along).more (commit stamp ops ∷ []);
        state = after_commit (x.along).state ops;
        replayed = ap replay g ∙ replay-snoc s.history (commit stamp ops) ∙ ap (λ o. then_entry o (commit stamp ops)) (x.along).replayed;
      };
      open_there = x.open_there;
      alone = x.alone;
      desk = λ now. ap (λ xs. desk_of now n (with_desk (record d { opened = z.opened }) xs)) ds ∙ it now;
    }

    -- another's turn
    alike-other : (d : Desk) → text_eq n d.name ≡ false → (y : TextReading) → IsAlike (turn_at_of c s d y).next a
    alike-other d u (says q) =
        subst (λ o. IsAlike (turn_at_by c s o d q).next a) (sym (x.along).replayed)
        (let z = (turn_at c s (x.along).state d q).next in
        let m = moved c s (x.along).state d q in
        alike-moved d z m.history m.desks (λ now. with-other now n (record d { opened = z.opened }) s.desks u ∙ x.desk now))
    alike-other d u (unread w) =
        alike-moved d (not_read (seated d s) w).next (stays refl) refl (λ now. with-other now n (record d { opened = fail_unread d.opened }) s.desks u ∙ x.desk now)

    -- a turn of his that leaves his transaction
    alike-left : (q : Stmt) → (turn_at c s (x.along).state (his a.opened) q).next.opened ≡ a.opened → IsAlike (turn_at_by c s (replay s.history) (his a.opened) q).next a
    alike-left q is =
        subst (λ o. IsAlike (turn_at_by c s o (his a.opened) q).next a) (sym (x.along).replayed)
        (let z = (turn_at c s (x.along).state (his a.opened) q).next in
        let m = moved c s (x.along).state (his a.opened) q in
        alike-moved (his a.opened) z m.history m.desks (λ now. with-own now n (his z.opened) s.desks (nat_list_eq_equiv.refl n) (ap is_closed is ∙ x.open_there) ∙ ap his is))

    alike-own : (y : TextReading) → is_operation y ≡ false → is_ending y ≡ false → IsAlike (turn_at_of c s (his a.opened) y).next a
    alike-own (says (stmt.Op op)) b f = absurd (cc)
    alike-own (says stmt.Commit) b f = absurd (cc)
    alike-own (says stmt.Abort) b f = absurd (cc)
    alike-own (says (stmt.Load q)) b f = alike-left (stmt.Load q) (moved c s (x.along).state (his a.opened) (stmt.Load q)).opened
    alike-own (says (stmt.Ask q)) b f = alike-left (stmt.Ask q) (moved c s (x.along).state (his a.opened) (stmt.Ask q)).opened
    alike-own (says (stmt.Show q)) b f = alike-left (stmt.Show q) (moved c s (x.along).state (his a.opened) (stmt.Show q)).opened
    alike-own (unread w) b f = absurd (cc)

    alike-owned : (w : Why) (o : Option (List ℕ)) (y : TextReading) → (is_named n o && is_operation y) ≡ false → (is_named n o && is_ending y) ≡ false → IsAlike (owned_turn c s w o y).next a
    alike-owned w None y b f = x
    alike-owned w (Some m) y b f =
        elim (text_eq n m) as (λ u. text_eq n m ≡ u → (u && is_operation y) ≡ false → (u && is_ending y) ≡ false → IsAlike (turn_at_of c s (desk_in s m) y).next a) [
          | true ↦ λ u b f.
              subst (λ m. IsAlike (turn_at_of c s (desk_in s m) y).next a) (text_eq-same n m u)
              (subst (λ d. IsAlike (turn_at_of c s d y).next a) (sym (x.desk (last_tid (replay s.history)))) (alike-own y b f))
          | false ↦ λ u b f. alike-other (desk_in s m) (ap (text_eq n) (desk-name (last_tid (replay s.history)) m s.desks) ∙ u) y
        ] refl b f

    alike-turn : c.shared ≡ true → (y : Cut) → operates c n y ≡ false → finishes c n y ≡ false → IsAlike (turn c s y).next a
    alike-turn sh y b f =
        let i = shared-turn c sh s y in
        subst (λ (z : Turn). IsAlike z.next a) (sym i.1) (alike-owned i.0 (owner_of y) (reading_of c y) b f)

  -- ---- all turns

  -- a turn of his, and then all others
  then-alike : (s a : Session) (y : Cut) (ys : List Cut) → IsSame s a (turn c s y) (turn (of_one c) a (unsigned y))
      → replies_where (operates c n) c (turn c s y).next ys ≡ map (λ (r : Said). r.reply) (replies_to (of_one c) (turn (of_one c) a (unsigned y)).next (map unsigned (filter (operates c n) ys)))
      → with_reply (turn c s y).reply (replies_where (operates c n) c (turn c s y).next ys) ≡ map (λ (r : Said). r.reply) (replies_to (of_one c) a (unsigned y ∷ map unsigned (filter (operates c n) ys)))
  unfolding replies_to
  then-alike s a y ys q later =
      let z = turn (of_one c) a (unsigned y) in
      let rs = replies_where (operates c n) c (turn c s y).next ys in
      ap (λ (o : Option Reply). with_reply o rs) q.reply
      ∙ ap (λ (xs : List Reply). with_reply z.reply xs) later
      ∙ sym (said-reply z.whose z.reply (replies_to (of_one c) z.next (map unsigned (filter (operates c n) ys))))

  all-alike : c.shared ≡ true → (ys : List Cut) (s a : Session) → IsAlike s a → list_any (finishes c n) ys ≡ false
      → replies_where (operates c n) c s ys ≡ map (λ (r : Said). r.reply) (replies_to (of_one c) a (map unsigned (filter (operates c n) ys)))
  unfolding replies_where replies_to
  all-alike sh [] s a x f = refl
  all-alike sh (y ∷ ys) s a x f =
      let g = or_none (finishes c n y) (list_any (finishes c n) ys) f in
      elim (operates c n y) as (λ b. operates c n y ≡ b →
      (if b then with_reply (turn c s y).reply (replies_where (operates c n) c (turn c s y).next ys) else replies_where (operates c n) c (turn c s y).next ys)
      ≡ map (λ (r : Said). r.reply) (replies_to (of_one c) a (map unsigned (if b then y ∷ filter (operates c n) ys else filter (operates c n) ys)))) [
        | true ↦ λ b.
            let q = same-turn s a x.along sh y b (x.desk (last_tid (replay s.history))) x.alone (λ is. let k = ap is_closed is in let o = x.open_there in absurd (cc)) in
            then-alike s a y ys q (all-alike sh ys (turn c s y).next (turn (of_one c) a (unsigned y)).next (alike-after s a x.along (turn c s y) (turn (of_one c) a (unsigned y)) q x.alone) g.1)
        | false ↦ λ b. all-alike sh ys (turn c s y).next a (alike-turn s a x sh y b g.0) g.1
      ] refl

pub curators-are-answered-alone : (c : Setting) → c.shared ≡ true → (s : Session) (t : State) → IsLegal s.history → replay s.history ≡ Some t
    → (n : List ℕ) → has_open n s.desks ≡ false → (x : Cut) (xs : List Cut) → operates c n x ≡ true → list_any (finishes c n) xs ≡ false
    → replies_where (operates c n) c s (x ∷ xs) ≡ map (λ (r : Said). r.reply) (replies_to (of_one c) (begun_alone s) (map unsigned (filter (operates c n) (x ∷ xs))))
unfolding replies_where
curators-are-answered-alone c sh s t l e n none x xs b f =
    let a = begun_alone s in
    let along : IsAlong c s.history t l e n s = record { more = []; only = tt; grown = sym (append-nil s.history); state = t; replayed = e } in
    let desk : desk_in s n ≡ his c s.history t l e n closed = no-desk (last_tid (replay s.history)) n s.desks none ∙ ap (λ (o : Option State). record { name = n; opened = closed; since = last_tid o }) e in
    let q = same-turn c s.history t l e n s a along sh x b desk refl (λ _. refl) in
    let later = all-alike c s.history t l e n sh xs (turn c s x).next (turn (of_one c) a (unsigned x)).next (alike-after c s.history t l e n s a along (turn c s x) (turn (of_one c) a (unsigned x)) q refl) f in
    ap (λ z. if z then with_reply (turn c s x).reply (replies_where (operates c n) c (turn c s x).next xs) else replies_where (operates c n) c (turn c s x).next xs) b
    ∙ then-alike c s.history t l e n s a x xs q later
    ∙ sym (ap (λ z. map (λ (r : Said). r.reply) (replies_to (of_one c) a (map unsigned (if z then x ∷ filter (operates c n) xs else filter (operates c n) xs)))) b)
