-- Stores that are made, or aren't.
use Rattle.std.proofs.Common.{◌≡◌, ℕ, List, Ok, Err, inl, inr, refl, sym, ap, subst, ◌∙◌, arith}
use Rattle.std.specs.Prelude.{IsTrue, IfErr, Result, ◌⊎◌, Bool}
use Rattle.cp_model.specs.Tree.{Tree}
use Rattle.cp_model.specs.declared.kind.Kind.{Kind}
use Rattle.cp_outside.specs.FileReads.{FileTable}
use Rattle.cp_outside.specs.declared.files.FilesFault.{FilesFault}
use Rattle.cp_outside.specs.declared.files.FilesFault.TheVariants as fails
use Rattle.cp_disk.specs.Views.{View, ViewRests, ViewKeeps, KnownDisk}
use Rattle.cp_journal.specs.NewStores.{IsVacant, SettlesInto}
use Rattle.cp_db.specs.Writing.{IsOldOrVacantOrStart, IsVacantOrStart}
use Rattle.cp_disk.proofs.Composing.{rests_then}
use Rattle.cp_reply.specs.Lines.{lines}
use Rattle.cp_reply.specs.declared.reply.Of.TheVariants as of
use Rattle.cp_reply.specs.declared.reply.Why.{Why}
use Rattle.cp_reply.specs.declared.reply.Why.TheVariants as why
use Rattle.cp_reply.specs.declared.reply.Reply.{Reply}
use Rattle.cp_reply.specs.declared.reply.Reply.TheVariants as reply
use Rattle.cp_reply.specs.Session.{FetchedFile, gives, withholds}
use Rattle.cp_workspace.specs.Fetched.{Gives, GivesFound}
use Rattle.cp_workspace.specs.Files.{KnownFiles, HasRead, IsFound, ReadsBefore, ReadsOrNone, UsesFiles}
use Rattle.cp_workspace.proofs.ReadCounts.{reads-all}
use Rattle.cp_workspace.proofs.Supplied.{found-any}
use Rattle.cp_interpreter.specs.Job.{is_refusal}
use Rattle.cp_interpreter.specs.Outside.{KnownInput, KnownClock, KnownOutput, Outside}
use Rattle.cp_interpreter.specs.Story.{LeavesStart, IsRunning, SaidLine, Made, MadeFrom, EndedEarly, FileOfStartFailed, result_of}
use Rattle.cp_interpreter.specs.Begins.{IsMakingStop, CreatedAs, MadeAs, StoreMade}
use Rattle.cp_interpreter.specs.Turns.{TellsStop, end_of_stop}
use Rattle.cp_interpreter.specs.declared.end.End.{End}
use Rattle.cp_interpreter.specs.declared.end.End.TheVariants as how
use Rattle.cp_interpreter.specs.declared.stop.Stop.{Stop}
use Rattle.cp_interpreter.specs.declared.stop.Stop.TheVariants.{Output, Full, File, Disk, NoStore, Clock, Memory}

-- ---- what a crash leaves

-- where it leaves what it could leave
pub leaves-start : (k : Kind) (g : FetchedFile) (v w : View) → ViewRests v w → LeavesStart k g v w
leaves-start k (gives t) v w r = (record { later = r.later; since = λ s c le i. inl (r.since s c le i); now = λ c i. inl (r.images c i) }, inl r)
leaves-start k (withholds y) v w r = r

-- and then what it leaves of a new store
start-then : (k : Kind) (t : Tree) (v m w : View) → ViewRests v m → ViewKeeps (IsOldOrVacantOrStart m k t) m w → ViewKeeps (IsOldOrVacantOrStart v k t) v w
start-then k t v m w r p = record {
  later = omega (arith, r.later, p.later);
  since = λ s c le i. elim (p.since s c (omega (arith, le, r.later)) i) [ inl old ↦ inl (r.since s c le old) | inr x ↦ inr (old_then c x) ];
  now = λ c i. old_then c (p.now c i);
}
  where
    old_then : (c : List ℕ) → IsOldOrVacantOrStart m k t c → IsOldOrVacantOrStart v k t c
    old_then c x = elim x [ inl old ↦ inl (r.images c old) | inr new ↦ inr new ]

-- from some moment on
settles-then : (k : Kind) (t : Tree) (v m w : View) → ViewRests v m → SettlesInto (IsVacantOrStart k t) m w → SettlesInto (IsVacantOrStart k t) v w
settles-then k t v m w r s = elim s [
  | inl still ↦ inl (rests_then v m w r still)
  | inr settled ↦ inr (record { moment = settled.moment; later = omega (arith, r.later, settled.later); passed = settled.passed; only = settled.only })
]

-- ---- what was replied

-- an error of no file
making : (k : Kind) (g : FetchedFile) (reads : ℕ) (b a : KnownFiles) (w : KnownDisk) (stop : Stop) → IsMakingStop stop → (stop ≡ File → (reads ≡ 1) × HasRead b a 1) → MadeAs k g reads b a w (Err stop)
making k (gives t) reads b a w stop s f = (s, f)
making k (withholds y) reads b a w stop s f = (s, f)

no_file : (stop : Stop) (P : Type 0) → (stop ≡ Disk) ⊎ (stop ≡ Memory) → stop ≡ File → P
no_file stop P k e = elim k [ inl d ↦ (let x = sym d ∙ e in absurd (cc)) | inr m ↦ (let x = sym m ∙ e in absurd (cc)) ]

making_of : (stop : Stop) → (stop ≡ Disk) ⊎ (stop ≡ Memory) → IsMakingStop stop
making_of stop k = inr k

module _ (k : Kind) (given : FileTable → FetchedFile) (reads : ℕ) (b a : KnownFiles) (v m : KnownDisk) (rests : IsTrue v.known → ViewRests v.view m.view) where
  -- the files, which weren't read
  unread : (t : FileTable) × IsFound b t
  unread = found-any b

  -- there is a store
  pub made-there : (IsTrue v.known → IsVacant v.view.content → ⊥) → StoreMade k given reads b b v m (Ok (reply.Refused of.Init why.StoreExists))
  made-there never = record {
    table = unread.0;
    found = unread.1;
    exists = λ known no. (refl, rests known, refl);
    made = λ known vacant. absurd (never known vacant);
    read = λ known vacant. absurd (never known vacant);
    stops = tt;
  }

  -- it wasn't found out
  pub made-unknown : (stop : Stop) → (stop ≡ Disk) ⊎ (stop ≡ Memory) → StoreMade k given reads b b v m (Err stop)
  made-unknown stop s = record {
    table = unread.0;
    found = unread.1;
    exists = λ known no. (refl, rests known, s);
    made = λ known vacant. (making k (given unread.0) reads b b m stop (making_of stop s) (no_file stop _ s), leaves-start k (given unread.0) v.view m.view (rests known));
    read = λ known vacant. inl refl;
    stops = making_of stop s;
  }

  module _ (vacant : IsTrue v.known → IsVacant v.view.content) where
    -- the start tree's file failed, or memory ran out
    pub made-unread : (fault : FilesFault) (stop : Stop) → (fault ≡ fails.Failed → stop ≡ File) × (fault ≡ fails.Memory → stop ≡ Memory) → ReadsBefore (λ e. e ≡ fails.Failed) reads b a fault → StoreMade k given reads b a v m (Err stop)
    made-unread fails.Failed stop becomes r = record {
      table = unread.0;
      found = unread.1;
      exists = λ known no. absurd (no (vacant known));
      made = λ known is. (making k (given unread.0) reads b a m stop (inl (becomes.0 refl)) (λ e. r.blamed refl), leaves-start k (given unread.0) v.view m.view (rests known));
      read = λ known is. r.either;
      stops = inl (becomes.0 refl);
    }
    made-unread fails.Memory stop becomes r = record {
      table = unread.0;
      found = unread.1;
      exists = λ known no. absurd (no (vacant known));
      made = λ known is. (making k (given unread.0) reads b a m stop (inr (inr (becomes.1 refl))) (no_file stop _ (inr (becomes.1 refl))), leaves-start k (given unread.0) v.view m.view (rests known));
      read = λ known is. r.either;
      stops = inr (inr (becomes.1 refl));
    }

    refused_as : (g : FetchedFile) (y : Why) {R : Type 0} (view : R → Tree) → Gives view g (Err y) → MadeAs k g reads b a m (Ok (reply.Refused of.Init y))
    refused_as (gives t) y view h = absurd h
    refused_as (withholds z) y view h = ap (λ u. reply.Refused of.Init u) h

    -- there is no start tree
    pub made-refused : (y : Why) {R : Type 0} (view : R → Tree) → HasRead b a reads → GivesFound view b given (Err y) → StoreMade k given reads b a v m (Ok (reply.Refused of.Init y))
    made-refused y view read h = record {
      table = h.0;
      found = h.1;
      exists = λ known no. absurd (no (vacant known));
      made = λ known is. (refused_as (given h.0) y view h.2, leaves-start k (given h.0) v.view m.view (rests known));
      read = λ known is. read;
      stops = tt;
    }

    module _ (w : KnownDisk) (r : Result Reply Stop) {R : Type 0} (view : R → Tree) (tree : R) (created : IsTrue v.known → CreatedAs k (view tree) w r) (crash : IsTrue v.known → ViewKeeps (IsOldOrVacantOrStart m.view k (view tree)) m.view w.view)
        (settles : IsTrue v.known → SettlesInto (IsVacantOrStart k (view tree)) m.view w.view) where
      created_as : (g : FetchedFile) (q : Result Reply Stop) → Gives view g (Ok tree) → CreatedAs k (view tree) w q → MadeAs k g reads b a w q
      created_as (gives t) (Ok x) h d = subst (λ u. CreatedAs k u w (Ok x)) h d
      created_as (gives t) (Err stop) h d = (making_of stop d, no_file stop _ d)
      created_as (withholds z) q h d = absurd h

      leaves_as : (g : FetchedFile) → Gives view g (Ok tree) → IsTrue v.known → LeavesStart k g v.view w.view
      leaves_as (gives t) h known =
          subst (λ u. ViewKeeps (IsOldOrVacantOrStart v.view k u) v.view w.view × SettlesInto (IsVacantOrStart k u) v.view w.view) h
          (start-then k (view tree) v.view m.view w.view (rests known) (crash known), settles-then k (view tree) v.view m.view w.view (rests known) (settles known))
      leaves_as (withholds z) h known = absurd h

      -- the store was made
      pub made-created : HasRead b a reads → IfErr r IsMakingStop → GivesFound view b given (Ok tree) → StoreMade k given reads b a v w r
      made-created read s h = record {
        table = h.0;
        found = h.1;
        exists = λ known no. absurd (no (vacant known));
        made = λ known is. (created_as (given h.0) r h.2 (created known), leaves_as (given h.0) h.2 known);
        read = λ known is. reads-all reads b a r read;
        stops = s;
      }

-- ---- the end of the call

-- a line was said, at an end of its own
said-running : (line : List ℕ) (f : Bool) (o p : KnownOutput) (e : End) → SaidLine line f o p e → IsRunning e
said-running line f o p how.Done s = record { fitting = λ h. absurd (cc); opened = λ at h. absurd (cc) }
said-running line f o p how.Refused s = record { fitting = λ h. absurd (cc); opened = λ at h. absurd (cc) }
said-running line f o p how.Usage s = absurd s
said-running line f o p how.Input s = absurd s
said-running line f o p how.File s = absurd s
said-running line f o p how.Output s = record { fitting = λ h. absurd (cc); opened = λ at h. absurd (cc) }
said-running line f o p how.Disk s = absurd s
said-running line f o p (how.NoStore at) s = absurd s
said-running line f o p how.Memory s = record { fitting = λ h. absurd (cc); opened = λ at h. absurd (cc) }
said-running line f o p how.TooLong s = absurd s
said-running line f o p how.Clock s = absurd s

-- a store wasn't made at a running end
stop-running : (stop : Stop) → IsMakingStop stop → IsRunning (end_of_stop stop)
stop-running Output s = record { fitting = λ h. absurd (cc); opened = λ at h. absurd (cc) }
stop-running Full s = record { fitting = λ h. absurd (cc); opened = λ at h. absurd (cc) }
stop-running File s = record { fitting = λ h. absurd (cc); opened = λ at h. absurd (cc) }
stop-running Disk s = record { fitting = λ h. absurd (cc); opened = λ at h. absurd (cc) }
stop-running (NoStore n) s = elim s [ inl e ↦ absurd (cc) | inr q ↦ elim q [ inl e ↦ absurd (cc) | inr e ↦ absurd (cc) ] ]
stop-running Clock s = record { fitting = λ h. absurd (cc); opened = λ at h. absurd (cc) }
stop-running Memory s = record { fitting = λ h. absurd (cc); opened = λ at h. absurd (cc) }

module _ (k : Kind) (given : FileTable → FetchedFile) (reads : ℕ) (i : KnownInput) (c : KnownClock) (f g : KnownFiles) (o p : KnownOutput) (v w : KnownDisk) where
  abbrev b : Outside
  b = record { input = i; files = f; clock = c; output = o }

  abbrev a : Outside
  a = record { input = i; files = g; clock = c; output = p }

  made_of : (x : FetchedFile) (r : Reply) (e : End) → MadeAs k x reads f g w (Ok r) → SaidLine (lines r) (is_refusal r) o p e → MadeFrom k x b a v w e
  made_of (gives t) r e m s = (subst (λ y. SaidLine (lines y) (is_refusal y) o p e) m.0 s, m.1)
  made_of (withholds y) r e m s = subst (λ z. SaidLine (lines z) (is_refusal z) o p e) m s

  -- the reply was written
  pub made-said : (r : Reply) (e : End) → StoreMade k given reads f g v w (Ok r) → SaidLine (lines r) (is_refusal r) o p e → Made k given reads b a v w e
  made-said r e m s = record {
    running = said-running (lines r) (is_refusal r) o p e s;
    input = refl;
    clock = refl;
    table = m.table;
    found = m.found;
    exists = λ known no. (let x = m.exists known no in (x.0, x.1, inl (subst (λ z. SaidLine (lines z) (is_refusal z) o p e) x.2 s)));
    did = λ known vacant. inr (inr (made_of (given m.table) r e (m.made known vacant).0 s));
    read = λ known vacant. reads-all reads f g (result_of e) (m.read known vacant);
    crash = λ known vacant. (m.made known vacant).1;
  }

  early_of : (stop : Stop) → (stop ≡ Disk) ⊎ (stop ≡ Memory) → TellsStop o p stop → EndedEarly b a (end_of_stop stop)
  early_of stop d t = elim d [
    | inl e ↦ subst (λ s. EndedEarly b a (end_of_stop s)) (sym e) (inl refl, subst (TellsStop o p) e t)
    | inr e ↦ subst (λ s. EndedEarly b a (end_of_stop s)) (sym e) (inr (inr refl), subst (TellsStop o p) e t)
  ]

  stop_of : (x : FetchedFile) (stop : Stop) → MadeAs k x reads f g w (Err stop) → IsMakingStop stop × (stop ≡ File → (reads ≡ 1) × HasRead f g 1)
  stop_of (gives t) stop m = m
  stop_of (withholds y) stop m = m

  did_stop : (stop : Stop) → IsMakingStop stop × (stop ≡ File → (reads ≡ 1) × HasRead f g 1) → TellsStop o p stop → FileOfStartFailed reads b a (end_of_stop stop) ⊎ EndedEarly b a (end_of_stop stop)
  did_stop stop m t = elim m.0 [
    | inl e ↦ (let x = m.1 e in inl (ap end_of_stop e, x.0, subst (TellsStop o p) e t, x.1))
    | inr d ↦ inr (early_of stop d t)
  ]

  stop_read : (stop : Stop) → HasRead f g 0 ⊎ HasRead f g reads → ReadsOrNone reads f g (result_of (end_of_stop stop))
  stop_read Output r = r
  stop_read Full r = r
  stop_read File r = r
  stop_read Disk r = r
  stop_read (NoStore at) r = r
  stop_read Clock r = r
  stop_read Memory r = r

  -- it was stopped
  pub made-stopped : (stop : Stop) → StoreMade k given reads f g v w (Err stop) → TellsStop o p stop → Made k given reads b a v w (end_of_stop stop)
  made-stopped stop m t = record {
    running = stop-running stop m.stops;
    input = refl;
    clock = refl;
    table = m.table;
    found = m.found;
    exists = λ known no. (let x = m.exists known no in (x.0, x.1, inr (early_of stop x.2 t)));
    did = λ known vacant. elim (did_stop stop (stop_of (given m.table) stop (m.made known vacant).0) t) [ inl q ↦ inl q | inr q ↦ inr (inl q) ];
    read = λ known vacant. stop_read stop (m.read known vacant);
    crash = λ known vacant. (m.made known vacant).1;
  }

-- ---- the files of a call that makes a store

-- what isn't made for want of memory or by the disk isn't made
pub stops-of : {T : Type 0} (r : Result T Stop) → IfErr r (λ e. (e ≡ Disk) ⊎ (e ≡ Memory)) → IfErr r IsMakingStop
stops-of (Ok x) h = tt
stops-of (Err e) h = inr h

-- and blames no file
pub files-unblamed : {T : Type 0} (b a : KnownFiles) (r : Result T Stop) → IfErr r (λ e. (e ≡ Disk) ⊎ (e ≡ Memory)) → a.found ≡ b.found → a.faults ≡ b.faults → UsesFiles (λ e. e ≡ File) b a r
files-unblamed b a (Ok x) h found same = record { same = found; account = record { later = omega (arith, same); blamed = tt; steady = same } }
files-unblamed b a (Err e) h found same = record { same = found; account = record { later = omega (arith, same); blamed = λ f. no_file e _ h f; steady = tt } }
