-- Curators' transactions go on standing for the desks of a session.
use Rattle.std.specs.Prelude.{ℕ, ◌≡◌, ◌+◌, ◌<◌, ◌≤◌, Bool, true, false, List, [], ◌∷◌, if◌then◌else◌, refl}
use Rattle.std.proofs.Common.{sym, ap, subst, ◌∙◌}
use Rattle.std.specs.declared.option.Option.{Option}
use Rattle.std.specs.declared.option.Option.TheVariants.{None, Some}
use Rattle.cp_path.specs.Text.{text_eq}
use Rattle.cp_path.proofs.Same.{text_eq-same}
use Rattle.cp_model.specs.Tree.{Tree, Source}
use Rattle.cp_model.specs.Past.{tree_of}
use Rattle.cp_model.specs.History.{Entry, State}
use Rattle.cp_model.specs.Versions.{version}
use Rattle.cp_model.specs.declared.kind.Kind.{Kind}
use Rattle.cp_model.specs.declared.op.Op.{Op}
use Rattle.cp_operation.specs.Passed.{AllAccepted}
use Rattle.cp_engine.specs.Transactions as txn
use Rattle.cp_reply.specs.Session.{OpenTransaction, closed, going, is_closed, is_going, Desk, desk_of, with_desk, any_open, state_or, base}
use Rattle.cp_curators.specs.Curators as curators
use Rattle.cp_curators.specs.Curators.{Keeps}
use Rattle.cp_curators.specs.Desks as desks
use Rattle.cp_curators.specs.Desks.{Desks, HaveBegunBy, new_desk, desk_or, come_to}
use Rattle.cp_curators.specs.declared.curators.Curators.{Curators}
use Rattle.cp_curators.specs.declared.desk.OpenDesk.{OpenDesk}
use Rattle.cp_curators.proofs.DeskLaws.{committed}
use Rattle.cp_workspace.specs.Seats.{progress_of, IsVersionTree, IsSeatOf, IsSeat, AreSeated}
use Rattle.cp_workspace.proofs.Desking.{AreOpen, empty_desk, name-same, desk-name, with-kept, with-there, with-gone, open-with, none-listed, some-listed, later-there, later-closed}

-- what stands for a desk that is closed stands for any other that is
seat-closed : (h : List Entry) (t : State) (x : Option desks.Desk) (d k : Desk) → is_closed d.opened ≡ true → IsSeat h t x d → k.opened ≡ closed → IsSeat h t x k
seat-closed h t None d k e s f = f
seat-closed h t (Some y) d k e s f = absurd (let both : true ≡ false = sym e ∙ s.there in cc)

-- ---- one name's transaction has changed

module _ {R : Type 0} (view : R → Tree) (h : List Entry) (t : State) (ds : List Desk) (n : List ℕ) (o : OpenTransaction) where
  abbrev changed : Desk
  changed = record (desk_of t.now n ds) { opened = o }

  module _ (old new : Desks) (each : (m : List ℕ) → IsSeat h t (old m) (desk_of t.now m ds)) (kept : (m : List ℕ) → text_eq n m ≡ false → new m ≡ old m) (own : IsSeat h t (new n) changed) where
    named : changed.name ≡ n
    named = desk-name t.now n ds

    own_seat : IsSeat h t (new n) (desk_of t.now n (with_desk changed ds))
    own_seat = by (is_closed o) refl
      where
        by : (b : Bool) → is_closed o ≡ b → IsSeat h t (new n) (desk_of t.now n (with_desk changed ds))
        by false e = subst (IsSeat h t (new n)) (sym (ap (λ k. desk_of t.now k (with_desk changed ds)) (sym named) ∙ with-there t.now changed ds e)) own
        by true e = seat-closed h t (new n) changed (desk_of t.now n (with_desk changed ds)) e own (ap (λ (d : Desk). d.opened) (ap (λ k. desk_of t.now k (with_desk changed ds)) (sym named) ∙ with-gone t.now changed ds e))

    seat_with : (m : List ℕ) → IsSeat h t (new m) (desk_of t.now m (with_desk changed ds))
    seat_with m = by (text_eq n m) refl
      where
        by : (b : Bool) → text_eq n m ≡ b → IsSeat h t (new m) (desk_of t.now m (with_desk changed ds))
        by true e = subst (λ k. IsSeat h t (new k) (desk_of t.now k (with_desk changed ds))) (text_eq-same n m e) own_seat
        by false e = subst (λ x. IsSeat h t x (desk_of t.now m (with_desk changed ds))) (sym (kept m e)) (subst (IsSeat h t (old m)) (sym (with-kept t.now m changed ds (ap (λ k. text_eq k m) named ∙ e))) (each m))

    -- the transactions are those of the desks, of which one has changed
    pub seated-with : (c : Curators R) → AreOpen ds → curators.Stands view t.sources c new → HaveBegunBy (tree_of t.tree) t.kind t.now new → AreSeated view h t c (with_desk changed ds)
    seated-with c listed stands begun = record { desks = new; stands = stands; begun = begun; listed = open-with changed ds listed; each = seat_with }

-- at another name a changed map has what it had
pub other-name : (n m : List ℕ) (e : Option desks.Desk) (old : Desks) → text_eq n m ≡ false → desks.with_desk n e old m ≡ old m
other-name n m e old f = ap (λ b. if b then e else old m) f

pub own-name : (n : List ℕ) (e : Option desks.Desk) (old : Desks) → desks.with_desk n e old n ≡ e
own-name n e old = ap (λ b. if b then e else old n) (name-same n)

-- ---- the transaction that a name has, or that begins

-- the transaction is that of the desk, or begins there
pub record IsSeatFor (h : List Entry) (t : State) (e : desks.Desk) (d : Desk) : Type 0 where
  pub since : e.since ≡ d.since
  pub start : IsVersionTree h t e.start d.since
  pub progress : e.progress ≡ progress_of d.opened

-- as it goes on it is that of the desk
pub seat-on : (h : List Entry) (t : State) (e : desks.Desk) (d : Desk) (o : OpenTransaction) → IsSeatFor h t e d → is_closed o ≡ false → IsSeat h t (Some (come_to e (progress_of o))) (record d { opened = o })
seat-on h t e d o f there = record { there = there; since = f.since; start = f.start; progress = refl }

module _ (h : List Entry) (t : State) (current : IsVersionTree h t (tree_of t.tree) t.now) where
  abbrev begins : desks.Desk
  begins = new_desk (tree_of t.tree) t.kind t.now

  -- the one that is there, or one that begins now
  pub seat-for : (x : Option desks.Desk) (d : Desk) → (d.opened ≡ closed → d.since ≡ t.now) → IsSeat h t x d → IsSeatFor h t (desk_or x begins) d
  seat-for None d at e = record { since = sym (at e); start = subst (IsVersionTree h t (tree_of t.tree)) (sym (at e)) current; progress = ap progress_of (sym e) }
  seat-for (Some y) d at s = record { since = s.since; start = s.start; progress = s.progress }

  -- where none is open it begins on the last state
  pub start-closed : (x : Option desks.Desk) (d : Desk) → IsSeat h t x d → d.opened ≡ closed → (desk_or x begins).start ≡ tree_of t.tree
  start-closed None d s e = refl
  start-closed (Some y) d s e = absurd (let both : true ≡ false = ap is_closed (sym e) ∙ s.there in cc)

-- ---- what it stands on

-- where it is going, its operations work on the version on which it began
pub base-going : (h : List Entry) (t : State) (d : Desk) (at : State) (ops : List Op) → d.opened ≡ going ops → version h d.since ≡ Some at → base h t d ≡ at
base-going h t d at ops e is = ap (λ o. if is_going o then state_or t (version h d.since) else t) e ∙ ap (state_or t) is

-- else on the last state
pub base-not : (h : List Entry) (t : State) (d : Desk) (o : OpenTransaction) → d.opened ≡ o → is_going o ≡ false → base h t d ≡ t
base-not h t d o e f = ap (λ x. if is_going x then state_or t (version h d.since) else t) e ∙ ap (λ b. if b then state_or t (version h d.since) else t) f

module _ {R : Type 0} (view : R → Tree) (ss : List Source) where
  kept_accepted : (x : Option (OpenDesk R)) (e : desks.Desk) → Keeps view ss x (Some e) → (ops : List Op) → e.progress ≡ txn.going ops → AllAccepted ss e.start ops
  kept_accepted None e k ops p = absurd k
  kept_accepted (Some y) e k ops p = (subst (txn.Stands view y.transaction e.kind ss e.start (e.since + 1)) p k.stands).accepted

  going_none : (ops : List Op) → txn.going [] ≡ txn.going ops → [] ≡ ops
  going_none [] e = refl
  going_none (op ∷ ops) e = absurd (cc)

  -- the operations that it holds were accepted on its tree
  pub accepted-on : (c : Curators R) (all : Desks) (n : List ℕ) → curators.Stands view ss c all → (new : desks.Desk) → new.progress ≡ txn.going [] → (ops : List Op) → (desk_or (all n) new).progress ≡ txn.going ops → AllAccepted ss (desk_or (all n) new).start ops
  accepted-on c all n s new fresh = by _ (all n) (s.each n)
    where
      by : (k : Option (OpenDesk R)) (x : Option desks.Desk) → Keeps view ss k x → (ops : List Op) → (desk_or x new).progress ≡ txn.going ops → AllAccepted ss (desk_or x new).start ops
      by y None k ops p = subst (AllAccepted ss new.start) (going_none ops (sym fresh ∙ p)) tt
      by y (Some e) k ops p = kept_accepted y e k ops p

-- ---- where nobody has one open

module _ (h : List Entry) (t : State) (all : Desks) (ds : List Desk) (each : (n : List ℕ) → IsSeat h t (all n) (desk_of t.now n ds)) where
  seat_none : (n : List ℕ) (x : Option desks.Desk) → x ≡ None → IsSeat h t x (desk_of t.now n ds) → (desk_of t.now n ds).opened ≡ closed
  seat_none n None e s = s
  seat_none n (Some y) e s = absurd (cc)

  -- no desk is listed
  pub nobody-seated : AreOpen ds → ((n : List ℕ) → all n ≡ None) → ds ≡ []
  nobody-seated listed none = none-listed t.now ds listed (λ n. seat_none n (all n) (none n) (each n))

  seat_some : (n : List ℕ) (x : Option desks.Desk) (e : desks.Desk) → x ≡ Some e → IsSeat h t x (desk_of t.now n ds) → is_closed (desk_of t.now n ds).opened ≡ false
  seat_some n None e f s = absurd (cc)
  seat_some n (Some y) e f s = s.there

  -- somebody has one
  pub somebody-seated : (n : List ℕ) (e : desks.Desk) → all n ≡ Some e → any_open ds ≡ true
  somebody-seated n e f = some-listed t.now n ds (seat_some n (all n) e f (each n))

-- none have begun by whatever Tid
pub none-begun : (t : Tree) (k : Kind) (n : ℕ) (all : Desks) → ((m : List ℕ) → all m ≡ None) → HaveBegunBy t k n all
none-begun t k n all none = record { kinds = λ m d e. absurd (never m d e); since = λ m d e. absurd (never m d e); starts = λ m d e. absurd (never m d e) }
  where
    never : (m : List ℕ) (d : desks.Desk) → all m ≡ Some d → ⊥
    never m d e = let both : None ≡ Some d = sym (none m) ∙ e in cc

-- nobody is seated after whatever history
pub nobody-stands : {R : Type 0} (view : R → Tree) (h : List Entry) (t : State) (c : Curators R) (all : Desks) → ((m : List ℕ) → all m ≡ None) → curators.Stands view t.sources c all → AreSeated view h t c []
nobody-stands view h t c all none stands = record {
  desks = all;
  stands = stands;
  begun = none-begun (tree_of t.tree) t.kind t.now all none;
  listed = tt;
  each = λ n. subst (λ x. IsSeat h t x (empty_desk t.now n)) (sym (none n)) refl;
}

-- ---- after a commit

-- the versions stay when an entry is added
abbrev pub KeepVersions : List Entry → List Entry → State → Type 0
KeepVersions h more t = (v : ℕ) → v ≤ t.now → version more v ≡ version h v

module _ {R : Type 0} (view : R → Tree) (h more : List Entry) (t z : State) (ds : List Desk) (sources : z.sources ≡ t.sources) (kind : z.kind ≡ t.kind) (later : t.now < z.now) (versions : KeepVersions h more t) where
  seat_later : (n : List ℕ) (x : Option desks.Desk) → ((e : desks.Desk) → x ≡ Some e → e.since ≤ t.now) → IsSeat h t x (desk_of t.now n ds) → IsSeat more z x (desk_of z.now n ds)
  seat_later n None by s = later-closed t.now z.now n ds s
  seat_later n (Some e) by s =
      let since = by e refl in
      subst (IsSeatOf more z e) (sym (later-there t.now z.now n ds s.there)) (record {
        there = s.there;
        since = s.since;
        start = record {
          at = s.start.at;
          is = versions (desk_of t.now n ds).since (subst (λ v. v ≤ t.now) s.since since) ∙ s.start.is;
          tree = s.start.tree;
          sources = s.start.sources ∙ sym sources;
          kind = s.start.kind ∙ sym kind;
        };
        progress = s.progress;
      })

  -- the transactions of the others are still those of their desks
  pub seated-later : (c : Curators R) → AreSeated view h t c ds → AreSeated view more z c ds
  seated-later c q = record {
    desks = q.desks;
    stands = subst (λ ss. curators.Stands view ss c q.desks) (sym sources) q.stands;
    begun = subst (λ k. HaveBegunBy (tree_of z.tree) k z.now q.desks) (sym kind) (committed (tree_of t.tree) (tree_of z.tree) t.kind t.now z.now q.desks q.begun later);
    listed = q.listed;
    each = λ n. seat_later n (q.desks n) (q.begun.since n) (q.each n);
  }
