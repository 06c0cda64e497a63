-- Stores that are opened, and sessions that begin on them.
use Rattle.std.proofs.Common.{Bool, ◌≡◌, ℕ, ◌+◌, List, [], drop, take, length, true, false, Ok, Err, inl, inr, refl, sym, ap, subst, ◌∙◌, arith}
use Rattle.std.specs.Prelude.{IsTrue, IfErr, Result, ◌⊎◌, ◌≤◌, OnOk}
use Rattle.std.specs.Io.KnownBytes.{IsAtEnd}
use Rattle.std.proofs.KnownBytes.{Consumes-nil}
use Rattle.cp_outside.specs.Causes.{Accounts}
use Rattle.cp_model.specs.Tree.{Tree}
use Rattle.cp_model.specs.History.{Entry}
use Rattle.cp_disk.specs.Counts.{UsesDisk}
use Rattle.cp_disk.specs.Views.{View, ViewRests, ViewKeeps, KnownDisk, ViewLeaves}
use Rattle.cp_lang.specs.Cuts.{scan_start, scan_bytes}
use Rattle.cp_lang.specs.CutterState.{held_of}
use Rattle.cp_journal.specs.Frames.{frames_of, spelled_all}
use Rattle.cp_journal.specs.declared.limits.TheConstants.{HEADER_SIZE}
use Rattle.cp_journal.proofs.Standing.{holds_images}
use Rattle.cp_frame.specs.Stands.{IsStore, Opens, StandsFor}
use Rattle.cp_frame.specs.Stops.{IsNot}
use Rattle.cp_db.specs.Databases as database
use Rattle.cp_db.specs.Databases.{IsKept, end_in}
use Rattle.cp_db.specs.Opening.{HasOpened, OpensAs}
use Rattle.cp_db.specs.declared.database.Db.{Db}
use Rattle.cp_db.specs.declared.fault.OpenFault.{OpenFault}
use Rattle.cp_db.specs.declared.fault.OpenFault.TheVariants as opens
use Rattle.cp_db.proofs.Keeping.{kept-images}
use Rattle.cp_reply.specs.Session.{Supply, no_supply, followed_by, Session, session_after}
use Rattle.cp_workspace.specs.Texts.{Terms}
use Rattle.cp_workspace.specs.Workspaces.{Stands, IsUsable, HasStamps, HoldsFile, end_now, opened_session}
use Rattle.cp_workspace.specs.declared.workspace.Workspace.{Workspace}
use Rattle.cp_interpreter.specs.Job.{job_so_far, job}
use Rattle.cp_interpreter.specs.Play.{begun, plays, plays_all}
use Rattle.cp_workspace.specs.Files.{KnownFiles}
use Rattle.cp_workspace.specs.Spending.{HasSpent}
use Rattle.cp_workspace.proofs.Spent.{spent-as}
use Rattle.cp_workspace.proofs.Supplied.{supplied-none}
use Rattle.cp_interpreter.specs.Outside.{call_at, KnownInput, KnownClock, KnownOutput, Outside}
use Rattle.cp_interpreter.specs.Story.{LeavesHistory, WritesLast, frames_end, Committers, terms_from, store_terms, left_on, DidOn, session_on, work_on, Leaving, Did, IsEarly, early_line, HasNotBegun, RanOn, HasCauses, DiskCauses, result_of, StandsForFront}
use Rattle.cp_interpreter.specs.Turns.{Follows, MayGoOn, LeavesAlong, RanFrom, TellsStop, end_of_stop, work_from}
use Rattle.cp_interpreter.specs.Begins.{LeavesStore, Migrated, OpenedAs, BegunOn, IsOpeningStop}
use Rattle.cp_interpreter.specs.declared.interpreter.Interpreter.{Interpreter}
use Rattle.cp_interpreter.specs.declared.end.End.{End}
use Rattle.cp_interpreter.specs.declared.end.End.TheVariants as how
use Rattle.cp_interpreter.specs.declared.stop.Stop.{Stop}
use Rattle.cp_interpreter.specs.declared.stop.Stop.TheVariants.{Output, Full, File, Disk, NoStore, Clock, Memory}

-- where the frames end of a file that a database keeps
pub kept-end : {R S : Type 0} (d : Db R S) (h : List Entry) (v : View) → IsKept true d h v → v.images v.content → end_in d ≡ frames_end v.content
kept-end d h v k i =
    let stands = holds_images k.head k.frames (end_in d) v k.described.holds v.content i in
    let size = k.is_head.size in
    k.described.holds.size
    ∙ ap (λ n. n + length (spelled_all k.frames)) size
    ∙ sym (ap (λ fs. HEADER_SIZE + length (spelled_all fs)) (subst (λ n. (frames_of (drop n v.content)).frames ≡ k.frames) size stands.frames.frames))

-- ---- what a crash leaves of a store that is opened

-- where it leaves what it could leave before
pub rests-leave : (h : List Entry) (v w : KnownDisk) → IsStore h v.view.content → ViewRests v.view w.view → LeavesHistory h v w
rests-leave h v w store r = record { content = subst (StandsFor h) (sym r.content) (inr store); later = r.later; since = λ t c le i. inl (r.since t c le i); now = λ c i. inl (r.images c i) }

-- and then the history
pub leave-then : (h : List Entry) (v m w : KnownDisk) → w.view.images w.view.content → ViewRests v.view m.view → ViewKeeps (StandsFor h) m.view w.view → LeavesHistory h v w
leave-then h v m w i r k = record {
  content = k.now w.view.content i;
  later = omega (arith, r.later, k.later);
  since = λ t c le i. elim (k.since t c (omega (arith, le, r.later)) i) [ inl old ↦ inl (r.since t c le old) | inr s ↦ inr s ];
  now = λ c i. inr (k.now c i);
}

-- a file of version 2 stays as it is
pub none-migrated : {R S : Type 0} (view : R → Tree) (source_view : S → Tree) (d : Db R S) (v : KnownDisk) → Migrated view source_view d v v (Ok d)
none-migrated view source_view d v h z known k = (record { later = omega arith; since = λ t c le i. inl i; now = λ c i. kept-images d h v.view k c i }, (z, k, refl))

-- ---- what opening gives

module _ {R S : Type 0} (view : R → Tree) (source_view : S → Tree) (v m w : KnownDisk) where
  -- an opened database, whose file may have been made one of version 2
  pub opened-then : (d e : Db R S) → IsTrue m.known → HasOpened view source_view d v.view.content m.view → ViewRests v.view m.view → m.view.images m.view.content → Migrated view source_view d m w (Ok e) → OpenedAs view source_view v w (Ok e)
  opened-then d e known o r i g = (
    o.opens,
    λ h store. (
        let x = o.stands true h store.told in
        let y = (g h x.0 known x.1).1 in
        record { stands = y.0; kept = y.1; is_end = y.2 ∙ kept-end d h m.view x.1 i ∙ ap frames_end r.content }
        ),
  )

  -- what isn't opened after all
  pub opened-not : (d : Db R S) (stop : Stop) → HasOpened view source_view d v.view.content m.view → (stop ≡ Disk) ⊎ (stop ≡ Memory) → OpenedAs view source_view v w (Err stop)
  opened-not d stop o k = elim k [
    | inl e ↦ subst (λ s. OpenedAs view source_view v w (Err s)) (sym e) (λ never. absurd (never o.opens))
    | inr e ↦ subst (λ s. OpenedAs view source_view v w (Err s)) (sym e) (λ never. absurd (never o.opens))
  ]

  -- what comes of an opened database
  pub opened-result : (d : Db R S) (r : Result (Db R S) Stop) → IsTrue m.known → HasOpened view source_view d v.view.content m.view → ViewRests v.view m.view → m.view.images m.view.content → Migrated view source_view d m w r → IfErr r (λ e. (e ≡ Disk) ⊎ (e ≡ Memory)) → OpenedAs view source_view v w r
  opened-result d (Ok e) known o r i g k = opened-then d e known o r i g
  opened-result d (Err stop) known o r i g k = opened-not d stop o k

  -- a crash leaves what it could leave, and then the history
  pub opened-leaves : (d : Db R S) (r : Result (Db R S) Stop) → IsTrue m.known → HasOpened view source_view d v.view.content m.view → ViewRests v.view m.view → w.view.images w.view.content → Migrated view source_view d m w r → (h : List Entry) → IsStore h v.view.content → LeavesHistory h v w
  opened-leaves d r known o rests i g h store = let x = o.stands true h store.told in leave-then h v m w i rests (g h x.0 known x.1).0

-- a content that isn't opened
pub opened-fault : {R S : Type 0} (view : R → Tree) (source_view : S → Tree) (v w : KnownDisk) (fault : OpenFault) (stop : Stop)
    → (fault ≡ opens.Disk → stop ≡ Disk) × (fault ≡ opens.Memory → stop ≡ Memory) × ((at : ℕ) → fault ≡ opens.NoStore at → stop ≡ NoStore at)
    → OpensAs view source_view v.view.content w.view (Err fault) → ViewRests v.view w.view → OpenedAs {R = R} {S = S} view source_view v w (Err stop)
opened-fault view source_view v w opens.Disk stop becomes o r = subst (λ s. OpenedAs view source_view v w (Err s)) (sym (becomes.0 refl)) (λ never. r)
opened-fault view source_view v w opens.Memory stop becomes o r = subst (λ s. OpenedAs view source_view v w (Err s)) (sym (becomes.1 refl)) (λ never. r)
opened-fault view source_view v w (opens.NoStore at) stop becomes o r = subst (λ s. OpenedAs view source_view v w (Err s)) (sym (becomes.2 at refl)) (o, r)

-- ---- sessions on a store

-- the session on each history that the content tells
pub begun-on : {R S : Type 0} (view : R → Tree) (source_view : S → Tree) (who : Committers) (v w : KnownDisk) (d : Db R S) (x : Interpreter R S) → OpenedAs view source_view v w (Ok d)
    → ((h : List Entry) (supply : Supply) → database.Stands view source_view true d h → IsKept true d h w.view → Follows view source_view w x (begun (terms_from (end_now h d) who) (opened_session h supply)))
    → BegunOn view source_view who v w (Ok x)
begun-on view source_view who v w d x o f = (
  o.0,
  λ h supply store. (
      let y = o.1 h store in
      subst (λ n. Follows view source_view w x (begun (terms_from (record { entries = h; at = n }) who) (opened_session h supply))) y.is_end (f h supply y.stands y.kept)
      ),
)

-- or none
pub begun-not : {R S : Type 0} (view : R → Tree) (source_view : S → Tree) (who : Committers) (v w : KnownDisk) (stop : Stop) → IsOpeningStop stop → OpenedAs {R = R} {S = S} view source_view v w (Err stop) → BegunOn {R = R} {S = S} view source_view who v w (Err stop)
begun-not view source_view who v w stop k o = elim k [
  | inl e ↦ subst (λ s. BegunOn view source_view who v w (Err s)) (sym e) (subst (λ s. OpenedAs view source_view v w (Err s)) e o)
  | inr l ↦ elim l [
    | inl a ↦ subst (λ s. BegunOn view source_view who v w (Err s)) (sym a.1) (subst (λ s. OpenedAs view source_view v w (Err s)) a.1 o)
    | inr e ↦ subst (λ s. BegunOn view source_view who v w (Err s)) (sym e) (subst (λ s. OpenedAs view source_view v w (Err s)) e o)
  ]
]

-- no byte leads on
first-history : (h : List Entry) (c : List ℕ) (who : Committers) (supply : Supply) → ((session_on h c who supply).so_far []).history ≡ h
unfolding plays job_so_far scan_bytes session_after
first-history h c who supply = refl

-- no reads before others
no_more : (b a : Outside) {n k : ℕ} → HasSpent n k b.files a.files b.clock a.clock → HasSpent (0 + n) k b.files a.files b.clock a.clock
no_more b a {n} {k} spent = spent-as b.files a.files b.clock a.clock n k (0 + n) k (omega arith) refl spent

-- what a session does from its beginning on is what the session on the history does
module _ (terms : Terms) (s : Session) (Leaves : Leaving) (taken : List ℕ) (b a : Outside) where
  did-on : (e : End) → Did (work_from (begun terms s) false) Leaves 0 taken b a e → Did (work_on terms s 0) Leaves 0 taken b a e
  unfolding plays plays_all job_so_far job
  did-on how.Done w = record { refused_is = w.refused_is; wrote = w.wrote; spent = no_more b a w.spent; left = w.left }
  did-on how.Refused w = record { refused_is = w.refused_is; wrote = w.wrote; spent = no_more b a w.spent; left = w.left }
  did-on how.Usage w = absurd w
  did-on how.Input w = record { wrote = w.wrote; spent = no_more b a w.spent; left = w.left }
  did-on how.File w = record {
    at = w.at;
    inside = w.inside;
    load = omega (arith, w.load);
    wrote = w.wrote;
    spent = no_more b a w.spent;
    left = w.left;
  }
  did-on how.Output w = elim w [
    | inl x ↦ inl (record { at = x.at; inside = x.inside; wrote = x.wrote; spent = no_more b a x.spent; left = x.left })
    | inr x ↦ inr (record { ended = x.ended; wrote = x.wrote; spent = no_more b a x.spent; left = x.left })
  ]
  did-on how.Disk w = record { at = w.at; inside = w.inside; writing = omega (arith, w.writing); wrote = w.wrote; spent = no_more b a w.spent; left = w.left }
  did-on (how.NoStore at) w = absurd w
  did-on how.Memory w = elim w [
    | inl y ↦ inl (elim y [
      | inl x ↦ inl (record { at = x.at; inside = x.inside; wrote = x.wrote; spent = no_more b a x.spent; left = x.left })
      | inr x ↦ inr (record { ended = x.ended; wrote = x.wrote; spent = no_more b a x.spent; left = x.left })
    ])
    | inr x ↦ inr (record {
      at = x.at;
      within = x.within;
      wrote = x.wrote;
      spent = elim x.spent [ inl none ↦ inl (no_more b a none) | inr all ↦ inr (no_more b a all) ];
      left = x.left;
    })
  ]
  did-on how.TooLong w = record { at = w.at; within = w.within; last_piece = w.last_piece; wrote = w.wrote; spent = no_more b a w.spent; left = w.left }
  did-on how.Clock w = record { at = w.at; inside = w.inside; commit = w.commit; wrote = w.wrote; spent = no_more b a w.spent; left = w.left }

along-on : (terms : Terms) (s : Session) (taken : List ℕ) (k : ℕ) (c : List ℕ) → StandsFor (plays (begun terms s) (take k taken)).history c → StandsFor ((work_on terms s 0).so_far (take k taken)).history c
unfolding plays job_so_far
along-on terms s taken k c x = x

-- ---- calls that end early

-- a disk that isn't touched
pub same-rests : (v : View) → ViewRests v v
same-rests v = record { content = refl; images = λ c i. i; later = omega arith; since = λ t c le i. i; keeps = λ t c le i. i }

-- the end of a stop of the opening, and its last line
pub stop-early : (o p : KnownOutput) (stop : Stop) → IsOpeningStop stop → TellsStop o p stop → IsEarly (end_of_stop stop) × WritesLast o p [] (early_line (end_of_stop stop))
stop-early o p stop k t = elim k [
  | inl e ↦ subst (λ s. IsEarly (end_of_stop s) × WritesLast o p [] (early_line (end_of_stop s))) (sym e) (inl refl, subst (TellsStop o p) e t)
  | inr l ↦ elim l [
    | inl a ↦ subst (λ s. IsEarly (end_of_stop s) × WritesLast o p [] (early_line (end_of_stop s))) (sym a.1) (inr (inl (a.0, refl)), subst (TellsStop o p) a.1 t)
    | inr e ↦ subst (λ s. IsEarly (end_of_stop s) × WritesLast o p [] (early_line (end_of_stop s))) (sym e) (inr (inr refl), subst (TellsStop o p) e t)
  ]
]

-- what no early end is
early-is : (P : End → Type 0) (e : End) → IsEarly e → P how.Disk → ((at : ℕ) → P (how.NoStore at)) → P how.Memory → P e
early-is P e k d n m = elim k [
  | inl x ↦ subst P (sym x) d
  | inr l ↦ elim l [ inl a ↦ subst P (sym a.1) (n a.0) | inr x ↦ subst P (sym x) m ]
]

pub early-not-long : (e : End) → IsEarly e → e ≡ how.TooLong → ⊥
early-not-long e k = early-is (λ z. z ≡ how.TooLong → ⊥) e k (λ h. absurd (cc)) (λ at h. absurd (cc)) (λ h. absurd (cc))

pub early-not-usage : (e : End) → IsEarly e → e ≡ how.Usage → ⊥
early-not-usage e k = early-is (λ z. z ≡ how.Usage → ⊥) e k (λ h. absurd (cc)) (λ at h. absurd (cc)) (λ h. absurd (cc))

pub early-ended : (P : Type 0) (e : End) → IsEarly e → OnOk (result_of e) P
early-ended P e k = early-is (λ z. OnOk (result_of z) P) e k tt (λ at. tt) tt

-- such an end blames none of these
early-quiet : (d : End) (n m : ℕ) (e : End) → IsEarly e → n ≤ m → (d ≡ how.Disk → ⊥) → ((at : ℕ) → d ≡ how.NoStore at → ⊥) → (d ≡ how.Memory → ⊥) → Accounts (λ z. z ≡ d) n m (result_of e)
early-quiet d n m e k le nd nn nm = early-is (λ z. Accounts (λ y. y ≡ d) n m (result_of z)) e k
    (record { later = le; blamed = λ h. absurd (nd (sym h)); steady = tt })
    (λ at. record { later = le; blamed = λ h. absurd (nn at (sym h)); steady = tt })
    (record { later = le; blamed = λ h. absurd (nm (sym h)); steady = tt })

-- the causes of a call that ends early
pub causes-early-end : (i : KnownInput) (f : KnownFiles) (k : KnownClock) (o p : KnownOutput) (e : End) → IsEarly e → o.faults ≤ p.faults
    → HasCauses (record { input = i; files = f; clock = k; output = o }) (record { input = i; files = f; clock = k; output = p }) e
causes-early-end i f k o p e early later = record {
  input = early-quiet how.Input i.faults i.faults e early (omega arith) (λ h. absurd (cc)) (λ at h. absurd (cc)) (λ h. absurd (cc));
  world = record {
    same = refl;
    files = early-quiet how.File f.faults f.faults e early (omega arith) (λ h. absurd (cc)) (λ at h. absurd (cc)) (λ h. absurd (cc));
    clock = early-quiet how.Clock k.faults k.faults e early (omega arith) (λ h. absurd (cc)) (λ at h. absurd (cc)) (λ h. absurd (cc));
    output = early-quiet how.Output o.faults p.faults e early later (λ h. absurd (cc)) (λ at h. absurd (cc)) (λ h. absurd (cc));
  };
}

-- a call that ran no session on its store
pub ran-early-on : (who : Committers) (i : KnownInput) (f : KnownFiles) (k : KnownClock) (o p : KnownOutput) (v w : KnownDisk) (e : End) → IsEarly e → WritesLast o p [] (early_line e)
    → (IsTrue v.known → (at : ℕ) → e ≡ how.NoStore at → IsNot Opens v.view.content at × ViewRests v.view w.view) → (IsTrue v.known → (Opens v.view.content → ⊥) → ViewRests v.view w.view) → LeavesStore v w
    → RanOn who (record { input = i; files = f; clock = k; output = o }) (record { input = i; files = f; clock = k; output = p }) v w e
ran-early-on who i f k o p v w e early wrote none never leaves = record {
  taken = [];
  took = Consumes-nil i.left;
  counted = omega arith;
  too_much = (λ h. absurd (early-not-long e early h), λ l. absurd (omega (arith, l)));
  supply = no_supply;
  supplied = supplied-none f k;
  fitting = early-not-usage e early;
  ended = early-ended (IsAtEnd i.left) e early;
  no_store = λ known at h. (let x = none known at h in (not_begun, x.1, x.0));
  unopened = λ known h. (not_begun, never known h);
  did = λ known h store. (let l = leaves known h store in record {
    did = λ rest. inl (not_begun, l);
    later = l.later;
    crash = λ rest t c le x. elim (l.since t c le x) [
      | inl old ↦ inl old
      | inr s ↦ inr (0, omega arith, subst (λ g. StandsFor g c) (sym (first-history h v.view.content who (followed_by no_supply rest))) s)
    ];
  });
}
  where
    not_begun : HasNotBegun [] no_supply (record { input = i; files = f; clock = k; output = o }) (record { input = i; files = f; clock = k; output = p }) e
    not_begun = record { early = early; none_taken = refl; none_told = refl; files = refl; clock = refl; wrote = wrote }

-- a call that ran a session on its store
module _ {R S : Type 0} (view : R → Tree) (source_view : S → Tree) (who : Committers) (x : Interpreter R S) (b a : Outside) (v m w : KnownDisk) (e : End)
    (none : x.refused ≡ false) (same : IsTrue v.known → IsTrue m.known) (opened : IsTrue v.known → BegunOn view source_view who v m (Ok x)) (leaves : LeavesStore v m) (r : RanFrom view source_view x 0 (call_at m b) (call_at w a) e) where
  module _ (known : IsTrue v.known) (h : List Entry) (store : IsStore h v.view.content) where
    abbrev terms : Terms
    terms = store_terms h v.view.content who

    abbrev session : Supply → Session
    session rest = opened_session h (followed_by r.supply rest)

    went : (rest : Supply) → Did (work_from (begun terms (session rest)) x.refused) (left_on w) 0 r.taken b a e × LeavesAlong (begun terms (session rest)) r.taken m w
    went rest = r.did (begun terms (session rest)) rest ((opened known).1 h (followed_by r.supply rest) store) refl

    left : LeavesHistory h v m
    left = leaves known h store

    crashed : (rest : Supply) → ViewLeaves (StandsForFront (session_on h v.view.content who (followed_by r.supply rest)) r.taken) v.view w.view
    crashed rest t c le i =
        let y = (went rest).1 (same known) in
        elim (y.1 t c (omega (arith, le, left.later)) i) [
          | inl old ↦ elim (left.since t c le old) [
            | inl o ↦ inl o
            | inr s ↦ inr (0, omega arith, subst (λ g. StandsFor g c) (sym (first-history h v.view.content who (followed_by r.supply rest))) s)
          ]
          | inr f ↦ inr (f.0, f.1, along-on terms (session rest) r.taken f.0 c f.2)
        ]

    did_on : DidOn h who r.taken r.supply (call_at v b) (call_at w a) e
    did_on = record {
      did = λ rest. inr (did-on terms (session rest) (left_on w) r.taken b a e (subst (λ z. Did (work_from (begun terms (session rest)) z) (left_on w) 0 r.taken b a e) none (went rest).0));
      later = omega (arith, left.later, ((went no_supply).1 (same known)).0);
      crash = crashed;
    }

  pub ran-on : RanOn who b a v w e
  ran-on = record {
    taken = r.taken;
    took = r.took;
    counted = r.counted;
    too_much = (λ h. omega (arith, r.too_much.0 h), λ l. r.too_much.1 (omega (arith, l)));
    supply = r.supply;
    supplied = r.supplied;
    fitting = r.running.fitting;
    ended = r.ended;
    no_store = λ known at h. absurd (r.running.opened at h);
    unopened = λ known never. absurd (never (opened known).0);
    did = did_on;
  }

-- ---- the disk's account of calls that end early

-- a disk that isn't touched
pub out-disk : (v : KnownDisk) → DiskCauses v v how.Memory
out-disk v = record { same = refl; account = record { later = omega arith; blamed = λ h. absurd (cc); steady = tt } }

-- one at which the opening stopped
pub stop-disk : (v w : KnownDisk) (stop : Stop) → IsOpeningStop stop → {T : Type 0} → UsesDisk {T = T} (λ e. e ≡ Disk) v w (Err stop) → DiskCauses v w (end_of_stop stop)
stop-disk v w stop k uses = elim k [
  | inl e ↦ subst (λ s. DiskCauses v w (end_of_stop s)) (sym e) (record { same = uses.same; account = record { later = uses.account.later; blamed = λ h. uses.account.blamed e; steady = tt } })
  | inr l ↦ elim l [
    | inl a ↦ subst (λ s. DiskCauses v w (end_of_stop s)) (sym a.1) (record { same = uses.same; account = record { later = uses.account.later; blamed = λ h. absurd (cc); steady = tt } })
    | inr e ↦ subst (λ s. DiskCauses v w (end_of_stop s)) (sym e) (record { same = uses.same; account = record { later = uses.account.later; blamed = λ h. absurd (cc); steady = tt } })
  ]
]

-- what isn't opened is no store
pub none-stopped : {R S : Type 0} (view : R → Tree) (source_view : S → Tree) (who : Committers) (v w : KnownDisk) (stop : Stop) → IsOpeningStop stop → (at : ℕ) → end_of_stop stop ≡ how.NoStore at → BegunOn {R = R} {S = S} view source_view who v w (Err stop)
    → IsNot Opens v.view.content at × ViewRests v.view w.view
none-stopped view source_view who v w Output k at h b = absurd (cc)
none-stopped view source_view who v w Full k at h b = absurd (cc)
none-stopped view source_view who v w File k at h b = absurd (cc)
none-stopped view source_view who v w Disk k at h b = absurd (cc)
none-stopped view source_view who v w (NoStore n) k at h b = let same : n ≡ at = cc h in subst (λ m. IsNot Opens v.view.content m × ViewRests v.view w.view) same b
none-stopped view source_view who v w Clock k at h b = absurd (cc)
none-stopped view source_view who v w Memory k at h b = absurd (cc)

-- where none opens, a crash leaves what it could leave
pub never-stopped : {R S : Type 0} (view : R → Tree) (source_view : S → Tree) (who : Committers) (v w : KnownDisk) (stop : Stop) → IsOpeningStop stop → (Opens v.view.content → ⊥) → BegunOn {R = R} {S = S} view source_view who v w (Err stop) → ViewRests v.view w.view
never-stopped view source_view who v w Output k never b = b never
never-stopped view source_view who v w Full k never b = b never
never-stopped view source_view who v w File k never b = b never
never-stopped view source_view who v w Disk k never b = b never
never-stopped view source_view who v w (NoStore n) k never b = b.1
never-stopped view source_view who v w Clock k never b = b never
never-stopped view source_view who v w Memory k never b = b never

-- what isn't so is false
pub unspent : (b : Bool) → (IsTrue b → ⊥) → b ≡ false
unspent true h = absurd (h refl)
unspent false h = refl

-- ---- sessions that begin

module _ {R S : Type 0} (view : R → Tree) (source_view : S → Tree) (v : KnownDisk) (x : Interpreter R S) (d : Workspace R S) (cutter : x.cutter ≡ held_of scan_start) (same : x.workspace ≡ d) where
  -- a session follows the one for which its workspace stands
  pub begun-in : (terms : Terms) (s : Session) → Stands view source_view terms d s → (IsTrue v.known → HoldsFile d s.history v) → Follows view source_view v x (begun terms s)
  begun-in terms s z h = record {
    cutter = cutter;
    stands = subst (λ y. Stands view source_view terms y s) (sym same) z;
    holds = λ known. subst (λ y. HoldsFile y s.history v) (sym same) (h known);
  }

  -- and may go on where that may be used
  pub goes-in : IsUsable view source_view v d → HasStamps d → MayGoOn view source_view v x
  goes-in u t = record { scan = scan_start; cutter = cutter; usable = subst (IsUsable view source_view v) (sym same) u; stamps = subst HasStamps (sym same) t }
