-- Commit files: the session over a script, and calls that run one on a store.
use Rattle.cp_interpreter.specs.declared.limits.TheConstants.{INPUT_MAX}
use Rattle.cp_workspace.specs.declared.limits.TheConstants.{FILE_MAX}
use Rattle.std.proofs.Common.{◌≡◌, ℕ, ◌+◌, ◌≤◌, ◌<◌, List, [], ◌++◌, length, take, drop, Bool, true, false, Result, Ok, Err, inl, inr, refl, sym, ap, ◌∙◌, subst, arith}
use Rattle.std.specs.Prelude.{IsTrue, ◌⊎◌, nat_lt, if◌then◌else◌}
use Rattle.std.proofs.lemmas.Bool.Decides.{nat_tests}
use Rattle.std.proofs.lemmas.List.{length-append}
use Rattle.std.specs.Io.KnownBytes.{IsAtEnd}
use Rattle.std.specs.declared.option.Option.{Option}
use Rattle.std.specs.declared.option.Option.TheVariants.{None, Some}
use Rattle.cp_outside.specs.Causes.{Accounts}
use Rattle.cp_outside.specs.declared.files.FilesFault.{FilesFault}
use Rattle.cp_outside.specs.declared.files.FilesFault.TheVariants as fails
use Rattle.cp_disk.specs.Views.{ViewRests, KnownDisk, ViewLeaves}
use Rattle.cp_frame.specs.Stands.{IsStore, Opens, StandsFor}
use Rattle.cp_frame.specs.Stops.{IsNot}
use Rattle.cp_model.specs.Tree.{Tree}
use Rattle.cp_model.specs.History.{Entry}
use Rattle.cp_reply.specs.declared.reply.Why.{Why}
use Rattle.cp_reply.specs.declared.reply.Why.TheVariants as why
use Rattle.cp_lang.specs.Cuts.{scan_bytes}
use Rattle.cp_reply.specs.Session.{Supply, no_supply, followed_by, after_read, Session, session_after}
use Rattle.cp_workspace.specs.Files.{KnownFiles, HasRead}
use Rattle.cp_workspace.specs.Texts.{Terms}
use Rattle.cp_workspace.specs.Workspaces.{opened_session}
use Rattle.cp_workspace.proofs.Standing.{stands-told}
use Rattle.cp_workspace.proofs.Supplied.{supplied-none, one_table, supplied-table, supplied-then}
use Rattle.cp_workspace.specs.Spending.{HasSpent}
use Rattle.cp_workspace.proofs.Spent.{spent-sum}
use Rattle.cp_interpreter.specs.Texts.{file_line, memory_line}
use Rattle.cp_interpreter.specs.Job.{job_so_far, job}
use Rattle.cp_interpreter.specs.Outside.{call_at, KnownInput, KnownClock, KnownOutput, World}
use Rattle.cp_interpreter.specs.Play.{Seen, begun, plays, plays_all}
use Rattle.cp_interpreter.specs.Story.{LeavesHistory, WritesLast, SaidLine, Leaving, left_on, Work, AllDone, OutputStopped, OutOfMemory, Did, work_on, one_curator, store_terms, IsEarly, early_line, HasNotBegun, HasCauses, WorldCauses, DiskCauses, result_of, StandsForFront}
use Rattle.cp_interpreter.specs.Scripts.{task_of, script_of, next_script, commit_text, ScriptState, refused_script, ScriptFailed, DidScript, script_session, DidCommit, Committed}
use Rattle.cp_interpreter.specs.Turns.{session_at, Follows, script_read, LeavesAlong, RanFrom, RanScript, IsClosing, TellsStop, end_of_stop, work_from, script_from}
use Rattle.cp_interpreter.specs.Begins.{LeavesStore, BegunOn, GivesScript, GivesScriptOf}
use Rattle.cp_interpreter.specs.declared.interpreter.Interpreter.{Interpreter}
use Rattle.cp_interpreter.specs.declared.end.End.{End}
use Rattle.cp_interpreter.specs.declared.end.End.TheVariants as how
use Rattle.cp_interpreter.specs.declared.stop.Stop.{Stop}
use Rattle.cp_interpreter.specs.declared.stop.Stop.TheVariants.{File, Memory}
use Rattle.cp_interpreter.proofs.Runs.{parts, world, left-here, along-still}
use Rattle.cp_interpreter.proofs.Whole.{said-running, said-short, disk-still}
use Rattle.cp_interpreter.proofs.Opened.{early-not-long, early-not-usage}

-- ---- the script

not_longer : (n : ℕ) → n ≤ FILE_MAX → nat_lt FILE_MAX n ≡ false
not_longer n h = grind (arith, nat_tests)

longer : (n : ℕ) → FILE_MAX < n → nat_lt FILE_MAX n ≡ true
longer n h = grind (arith, nat_tests)

module _ (file : Option (List ℕ)) where
  -- a file that was read whole gives it
  pub script-whole : (bytes : List ℕ) (s : ScriptState) → file ≡ Some bytes → length bytes ≤ FILE_MAX → s ≡ record { left = bytes ++ commit_text; given = 0 } → GivesScript (script_of file) (Ok s)
  script-whole bytes s is fits h =
      subst (λ g. GivesScript g (Ok s)) (sym (ap script_of is ∙ ap (λ (b : Bool). if b then Err why.FileTooLong else Ok (bytes ++ commit_text)) (not_longer (length bytes) fits))) h

  -- one that is too long gives none
  pub script-long : (all : List ℕ) → file ≡ Some all → FILE_MAX < length all → GivesScript (script_of file) (Err why.FileTooLong)
  script-long all is past =
      subst (λ g. GivesScript g (Err why.FileTooLong)) (sym (ap script_of is ∙ ap (λ (b : Bool). if b then Err why.FileTooLong else Ok (all ++ commit_text)) (longer (length all) past))) refl

  -- nor does one that isn't there
  pub script-none : file ≡ None → GivesScript (script_of file) (Err why.NoFile)
  script-none is = subst (λ g. GivesScript g (Err why.NoFile)) (sym (ap script_of is)) refl

-- ---- the session over a script

-- what a session does for a script is what it does for an input, after the read of the script
module _ (s : Seen) (q : Bool) (taken : List ℕ) (i j ia ja : KnownInput) (f fb fa : KnownFiles) (c ca : KnownClock) (o oa : KnownOutput) (L : Leaving) (r : HasRead f fb 1) (ends : IsAtEnd ia.left → IsAtEnd ja.left) where
  spent_all : {n k : ℕ} → HasSpent n k fb fa c ca → HasSpent (1 + n) k f fa c ca
  spent_all {n} {k} w = spent-sum f fb fa c c ca 1 0 n k (1 + n) k refl (omega arith) (record { read = r; asked = refl }) w

  script_done : (t : Bool) → AllDone (work_from s q) L taken (parts i fb c o) (parts ia fa ca oa) t → AllDone (script_from s q) L taken (parts j f c o) (parts ja fa ca oa) t
  script_done t w = record { refused_is = w.refused_is; wrote = w.wrote; spent = spent_all w.spent; left = w.left }

  script_stopped : OutputStopped (work_from s q) L taken (parts i fb c o) (parts ia fa ca oa) → OutputStopped (script_from s q) L taken (parts j f c o) (parts ja fa ca oa)
  script_stopped (inl w) = inl (record { at = w.at; inside = w.inside; wrote = w.wrote; spent = spent_all w.spent; left = w.left })
  script_stopped (inr w) = inr (record { ended = ends w.ended; wrote = w.wrote; spent = spent_all w.spent; left = w.left })

  script_inside : OutOfMemory (work_from s q) L taken (parts i fb c o) (parts ia fa ca oa) → OutOfMemory (script_from s q) L taken (parts j f c o) (parts ja fa ca oa)
  script_inside w = record {
    at = w.at;
    within = w.within;
    wrote = w.wrote;
    spent = elim w.spent [ inl none ↦ inl (spent_all none) | inr all ↦ inr (spent_all all) ];
    left = w.left;
  }

  did-script : (e : End) → Did (work_from s q) L 0 taken (parts i fb c o) (parts ia fa ca oa) e → Did (script_from s q) L 0 taken (parts j f c o) (parts ja fa ca oa) e
  did-script how.Done w = script_done _ w
  did-script how.Refused w = script_done _ w
  did-script how.Usage w = absurd w
  did-script how.Input w = record { wrote = w.wrote; spent = spent_all w.spent; left = w.left }
  did-script how.File w = record {
    at = w.at;
    inside = w.inside;
    load = omega (arith, w.load);
    wrote = w.wrote;
    spent = spent_all w.spent;
    left = w.left;
  }
  did-script how.Output w = script_stopped w
  did-script how.Disk w = record { at = w.at; inside = w.inside; writing = omega (arith, w.writing); wrote = w.wrote; spent = spent_all w.spent; left = w.left }
  did-script (how.NoStore at) w = absurd w
  did-script how.Memory w = elim w [ inl full ↦ inl (script_stopped full) | inr ran ↦ inr (script_inside ran) ]
  did-script how.TooLong w = record { at = w.at; within = w.within; last_piece = w.last_piece; wrote = w.wrote; spent = spent_all w.spent; left = w.left }
  did-script how.Clock w = record { at = w.at; inside = w.inside; commit = w.commit; wrote = w.wrote; spent = spent_all w.spent; left = w.left }

-- the code follows the session once its script has been read
pub follows-read : {R S : Type 0} (view : R → Tree) (source_view : S → Tree) (v : KnownDisk) (x : Interpreter R S) (s : Seen) → Follows view source_view v x s → Follows view source_view v x (script_read s)
follows-read view source_view v x s f = record { cutter = f.cutter; stands = stands-told view source_view s.terms x.workspace x.workspace s.session f.stands (after_read s.session).supply; holds = f.holds }

-- a script as an input, which never fails
abbrev pub script_input : ScriptState → KnownInput
script_input s = record { left = Some s.left; given = s.given; faults = 0 }

-- a count that stays at 0 blames nothing
calm-input : (e : End) → Accounts (λ z. z ≡ how.Input) 0 0 (result_of e) → e ≡ how.Input → ⊥
calm-input e a h = let b = subst (λ z. Accounts (λ y. y ≡ how.Input) 0 0 (result_of z)) h a in absurd (omega (arith, b.blamed refl))

-- no front part of a script is more than a call takes
script-short : (all taken left : List ℕ) → all ≡ taken ++ left → length all ≤ FILE_MAX + length commit_text → INPUT_MAX < 0 + length taken → ⊥
script-short all taken left is short much =
    let n : length all ≡ length taken + length left = ap length is ∙ length-append taken left in
    let eight : length commit_text ≡ 8 = refl in
    absurd (omega (arith, n, eight, short, much))

module _ {R S : Type 0} (view : R → Tree) (source_view : S → Tree) (x y : Interpreter R S) (file : List ℕ) (f fb : KnownFiles) (c : KnownClock) (o : KnownOutput) (v : KnownDisk) (e : End) where
  -- the script was played
  module _ (script now : ScriptState) (fa : KnownFiles) (ca : KnownClock) (oa : KnownOutput) (w : KnownDisk) (read : HasRead f fb 1) (ran : RanFrom view source_view x 0 (call_at v (parts (script_input script) fb c o)) (call_at w (parts (script_input now) fa ca oa)) e) where
    did_script : (s : Seen) (h : List Entry) (g : Result (List ℕ) Why) → GivesScript g (Ok script) → Did (work_from s x.refused) (left_on w) 0 ran.taken (parts (script_input script) fb c o) (parts (script_input now) fa ca oa) e
        → DidScript (task_of g (script_from s x.refused)) h (left_on w) ran.taken ran.supply.moments (world f c o) (world fa ca oa) e
    did_script s h (Ok bytes) is d =
        let P : ScriptState → Type 0 = λ z. z.left ≡ ran.taken ++ now.left in
        record {
          left = now.left;
          parts = subst P is ran.took;
          whole = ran.ended;
          did = did-script s x.refused ran.taken (script_input script) (record { left = Some bytes; given = 0; faults = 0 }) (script_input now) (record { left = Some now.left; given = 0; faults = 0 }) f fb fa c ca o oa (left_on w) read (λ h. h) e d;
        }
    did_script s h (Err z) is d = absurd is

    pub script-ran : fb.found ≡ f.found → length script.left ≤ FILE_MAX + length commit_text → GivesScriptOf f file (Ok script) → Accounts (λ z. z ≡ how.Input) 0 0 (result_of e)
        → RanScript view source_view file (session_at x v (world f c o)) (session_at y w (world fa ca oa)) e
    script-ran same short gives calm = record {
      taken = ran.taken;
      supply = followed_by (one_table gives.0) ran.supply;
      supplied = supplied-then f fb c c ca (one_table gives.0) ran.supply same (supplied-table f c gives.0 gives.1) ran.supplied;
      closing = record {
        running = ran.running;
        input = calm-input e calm;
        too_much = λ h. script-short script.left ran.taken now.left ran.took short (ran.too_much.0 h);
      };
      did = λ s rest z m. (
          let d = ran.did (script_read s) rest (follows-read view source_view v x s z) (ap (λ (u : Supply). record { moments = u.moments; tables = drop 1 u.tables }) m) in
          (inr (did_script (script_read s) s.session.history (next_script file s.session.supply) (subst (λ g. GivesScript g (Ok script)) (sym (ap (next_script file) m)) gives.2) d.0), d.1)
          );
    }

  -- there is no script
  pub script-refused : (p : KnownOutput) (reason : Why) → HasRead f fb 1 → GivesScriptOf f file (Err reason) → SaidLine (refused_script reason) true o p e → RanScript view source_view file (session_at x v (world f c o)) (session_at y v (world fb c p)) e
  script-refused p reason read gives w = record {
    taken = [];
    supply = one_table gives.0;
    supplied = supplied-table f c gives.0 gives.1;
    closing = record { running = said-running (refused_script reason) true o p e w; input = said_input; too_much = said-short (refused_script reason) true o p e w };
    did = λ s rest z m. (
      inr (did_from s (left-here view source_view v x s z) (next_script file s.session.supply) (subst (λ g. GivesScript g (Err reason)) (sym (ap (next_script file) m)) gives.2)),
      along-still (script_read s) [] v,
    );
  }
    where
      said_input : e ≡ how.Input → ⊥
      said_input h = subst (λ z. SaidLine (refused_script reason) true o p z) h w

      did_from : (s : Seen) → left_on v s.session.history s.session.history → (g : Result (List ℕ) Why) → GivesScript g (Err reason) → DidScript (task_of g (script_from (script_read s) x.refused)) s.session.history (left_on v) [] [] (world f c o) (world fb c p) e
      did_from s left (Ok bytes) is = absurd is
      did_from s left (Err z) is = (refl, refl, subst (λ k. SaidLine (refused_script k) true o p e) is w, read, refl, left)

  -- the file failed, or memory ran out
  script-failed : (p : KnownOutput) → IsClosing e → HasRead f fb 1 → ((e ≡ how.File) × WritesLast o p [] file_line) ⊎ ((e ≡ how.Memory) × WritesLast o p [] memory_line) → RanScript view source_view file (session_at x v (world f c o)) (session_at y v (world fb c p)) e
  script-failed p closing read ended = record {
    taken = [];
    supply = no_supply;
    supplied = supplied-none f c;
    closing = closing;
    did = λ s rest z m. (inl (record { ended = ended; read = read; clock = refl; none_taken = refl; none_told = refl; left = left-here view source_view v x s z }), along-still (script_read s) [] v);
  }

-- such a call is stopped by the file, or as memory runs out
pub script-stopped : {R S : Type 0} (view : R → Tree) (source_view : S → Tree) (x y : Interpreter R S) (file : List ℕ) (f fb : KnownFiles) (c : KnownClock) (o p : KnownOutput) (v : KnownDisk) (fault : FilesFault) (stop : Stop) → (fault ≡ fails.Failed → stop ≡ File) × (fault ≡ fails.Memory → stop ≡ Memory) → HasRead f fb 1 → TellsStop o p stop
    → RanScript view source_view file (session_at x v (world f c o)) (session_at y v (world fb c p)) (end_of_stop stop)
script-stopped view source_view x y file f fb c o p v fails.Failed stop becomes read w =
    let is = becomes.0 refl in
    let last : WritesLast o p [] file_line = subst (TellsStop o p) is w in
    subst (λ z. RanScript view source_view file (session_at x v (world f c o)) (session_at y v (world fb c p)) (end_of_stop z)) (sym is)
    (script-failed view source_view x y file f fb c o v how.File p
    (record { running = record { fitting = λ h. absurd (cc); opened = λ at h. absurd (cc) }; input = λ h. absurd (cc); too_much = λ h. absurd (cc) }) read (inl (refl, last)))
script-stopped view source_view x y file f fb c o p v fails.Memory stop becomes read w =
    let is = becomes.1 refl in
    let last : WritesLast o p [] memory_line = subst (TellsStop o p) is w in
    subst (λ z. RanScript view source_view file (session_at x v (world f c o)) (session_at y v (world fb c p)) (end_of_stop z)) (sym is)
    (script-failed view source_view x y file f fb c o v how.Memory p
    (record { running = record { fitting = λ h. absurd (cc); opened = λ at h. absurd (cc) }; input = λ h. absurd (cc); too_much = λ h. absurd (cc) }) read (inr (refl, last)))

-- ---- causes

-- of a session whose script was read before
pub script-causes : (f fb : KnownFiles) (c : KnownClock) (o : KnownOutput) (a : World) (e : End) → fb.found ≡ f.found → fb.faults ≡ f.faults → WorldCauses (world fb c o) a e → WorldCauses (world f c o) a e
script-causes f fb c o a e found faults w = record {
  same = w.same ∙ found;
  files = subst (λ n. Accounts (λ z. z ≡ how.File) n a.files.faults (result_of e)) faults w.files;
  clock = w.clock;
  output = w.output;
}

-- of a disk where one line was said
pub said-disk : (line : List ℕ) (o p : KnownOutput) (v : KnownDisk) (e : End) → SaidLine line true o p e → DiskCauses v v e
said-disk line o p v e w = disk-still v e (λ h. subst (λ z. SaidLine line true o p z) h w)

-- an input that isn't read isn't blamed
input-still : (n : ℕ) (e : End) → (e ≡ how.Input → ⊥) → Accounts (λ z. z ≡ how.Input) n n (result_of e)
input-still n how.Done never = record { later = omega arith; blamed = tt; steady = refl }
input-still n how.Refused never = record { later = omega arith; blamed = tt; steady = refl }
input-still n how.Input never = absurd (never refl)
input-still n e never = record { later = omega arith; blamed = λ h. absurd (cc); steady = tt }

-- of a call whose session read no input
pub causes-unread : (i : KnownInput) (f fa : KnownFiles) (k ka : KnownClock) (o oa : KnownOutput) (e : End) → (e ≡ how.Input → ⊥) → WorldCauses (world f k o) (world fa ka oa) e → HasCauses (parts i f k o) (parts i fa ka oa) e
causes-unread i f fa k ka o oa e never w = record { input = input-still i.faults e never; world = w }

-- ---- calls

-- the session from its beginning on is the session on the history
same-work : (terms : Terms) (s : Session) → script_from (begun terms s) false ≡ work_on terms s 1
unfolding plays plays_all job_so_far job
same-work terms s = refl

-- no byte leads on
first-of-script : (h : List Entry) (c curator : List ℕ) (supply : Supply) → ((script_session h c curator supply).so_far []).history ≡ h
unfolding plays job_so_far scan_bytes session_after
first-of-script h c curator supply = refl

-- a front part leads to the same
along-script : (terms : Terms) (s : Session) (taken : List ℕ) (k : ℕ) (c : List ℕ) → StandsFor (plays (begun terms s) (take k taken)).history c → StandsFor ((work_on terms s 1).so_far (take k taken)).history c
unfolding plays job_so_far
along-script terms s taken k c x = x

-- nothing early is a fault of the input
early-not-input : (e : End) → IsEarly e → e ≡ how.Input → ⊥
early-not-input e k h = elim k [
  | inl x ↦ absurd (cc)
  | inr l ↦ elim l [ inl a ↦ let same : e ≡ how.NoStore a.0 = a.1 in absurd (cc) | inr x ↦ absurd (cc) ]
]

-- a call that ran no session on its store
pub committed-early : (file curator : List ℕ) (i : KnownInput) (f : KnownFiles) (k : KnownClock) (o p : KnownOutput) (v w : KnownDisk) (e : End) → IsEarly e → WritesLast o p [] (early_line e)
    → (IsTrue v.known → (at : ℕ) → e ≡ how.NoStore at → IsNot Opens v.view.content at × ViewRests v.view w.view) → (IsTrue v.known → (Opens v.view.content → ⊥) → ViewRests v.view w.view) → LeavesStore v w
    → Committed file curator (parts i f k o) (parts i f k p) v w e
committed-early file curator i f k o p v w e early wrote none never leaves = record {
  input = refl;
  taken = [];
  supply = no_supply;
  supplied = supplied-none f k;
  fitting = early-not-usage e early;
  fed = early-not-input e early;
  short = early-not-long e early;
  no_store = λ known at h. (let x = none known at h in (not_begun, x.1, x.0));
  unopened = λ known h. (not_begun, never known h);
  did = λ known h store. (let l = leaves known h store in record {
    did = λ rest. inl (not_begun, l);
    later = l.later;
    crash = λ rest t c le x. elim (l.since t c le x) [
      | inl old ↦ inl old
      | inr s ↦ inr (0, omega arith, subst (λ g. StandsFor g c) (sym (first-of-script h v.view.content curator (followed_by no_supply rest))) s)
    ];
  });
}
  where
    not_begun : HasNotBegun [] no_supply (parts i f k o) (parts i f k p) e
    not_begun = record { early = early; none_taken = refl; none_told = refl; files = refl; clock = refl; wrote = wrote }

-- a call that ran the script of its file, or said why there is none
module _ {R S : Type 0} (view : R → Tree) (source_view : S → Tree) (file curator : List ℕ) (x y : Interpreter R S) (i : KnownInput) (f fa : KnownFiles) (k ka : KnownClock) (o oa : KnownOutput) (v m w : KnownDisk) (e : End)
    (none : x.refused ≡ false) (same : IsTrue v.known → IsTrue m.known) (opened : IsTrue v.known → BegunOn view source_view (one_curator curator) v m (Ok x)) (leaves : LeavesStore v m) (r : RanScript view source_view file (session_at x m (world f k o)) (session_at y w (world fa ka oa)) e) where
  module _ (known : IsTrue v.known) (h : List Entry) (store : IsStore h v.view.content) where
    abbrev terms : Terms
    terms = store_terms h v.view.content (one_curator curator)

    abbrev session : Supply → Session
    session rest = opened_session h (followed_by r.supply rest)

    -- once its script has been read
    abbrev next : Supply → Session
    next rest = after_read (session rest)

    abbrev Before : Leaving → Supply → Work → Type 0
    Before L rest work = ScriptFailed h L r.taken r.supply (world f k o) (world fa ka oa) e ⊎ DidScript (task_of (next_script file (followed_by r.supply rest)) work) h L r.taken r.supply.moments (world f k o) (world fa ka oa) e

    went : (rest : Supply) → Before (left_on w) rest (script_from (begun terms (next rest)) x.refused) × LeavesAlong (begun terms (next rest)) r.taken m w
    went rest = r.did (begun terms (session rest)) rest ((opened known).1 h (followed_by r.supply rest) store) refl

    left : LeavesHistory h v m
    left = leaves known h store

    done : (rest : Supply) → Before (left_on w) rest (script_session h v.view.content curator (followed_by r.supply rest))
    done rest = subst (Before (left_on w) rest) (same-work terms (next rest)) (subst (λ z. Before (left_on w) rest (script_from (begun terms (next rest)) z)) none (went rest).0)

    crashed : (rest : Supply) → ViewLeaves (StandsForFront (script_session h v.view.content curator (followed_by r.supply rest)) r.taken) v.view w.view
    crashed rest n c le l =
        let y = (went rest).1 (same known) in
        elim (y.1 n c (omega (arith, le, left.later)) l) [
          | inl old ↦ elim (left.since n c le old) [
            | inl z ↦ inl z
            | inr s ↦ inr (0, omega arith, subst (λ g. StandsFor g c) (sym (first-of-script h v.view.content curator (followed_by r.supply rest))) s)
          ]
          | inr z ↦ inr (z.0, z.1, along-script terms (next rest) r.taken z.0 c z.2)
        ]

    did_commit : DidCommit h file curator r.taken r.supply (call_at v (parts i f k o)) (call_at w (parts i fa ka oa)) e
    did_commit = record { did = λ rest. inr (done rest); later = omega (arith, left.later, ((went no_supply).1 (same known)).0); crash = crashed }

  pub committed-ran : Committed file curator (parts i f k o) (parts i fa ka oa) v w e
  committed-ran = record {
    input = refl;
    taken = r.taken;
    supply = r.supply;
    supplied = r.supplied;
    fitting = r.closing.running.fitting;
    fed = r.closing.input;
    short = r.closing.too_much;
    no_store = λ known at h. absurd (r.closing.running.opened at h);
    unopened = λ known never. absurd (never (opened known).0);
    did = did_commit;
  }
