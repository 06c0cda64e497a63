-- Workspaces that commit nothing, and sources that a call loads by itself.
use Rattle.std.proofs.Common.{◌≡◌, ℕ, List, [], Bool, true, Ok, Err, inl, inr, refl, sym, ap, subst, ◌∙◌, arith}
use Rattle.std.specs.Prelude.{IsTrue, Result, ◌⊎◌, ◌≤◌}
use Rattle.cp_outside.specs.Causes.{Accounts, Rose}
use Rattle.cp_model.specs.Tree.{Tree}
use Rattle.cp_model.specs.History.{Entry}
use Rattle.cp_disk.specs.Counts.{UsesDisk}
use Rattle.cp_disk.specs.Views.{KnownDisk, ViewRests, ViewKeeps, ViewLeaves}
use Rattle.cp_frame.specs.Stands.{IsStore, Opens, StandsForEither}
use Rattle.cp_frame.specs.Stops.{IsNot}
use Rattle.cp_db.specs.Databases as database
use Rattle.cp_db.specs.Databases.{IsKept}
use Rattle.cp_db.specs.Opening.{HasOpened, OpensAs}
use Rattle.cp_db.specs.declared.database.Db.{Db}
use Rattle.cp_db.specs.declared.fault.OpenFault.{OpenFault}
use Rattle.cp_db.specs.declared.fault.OpenFault.TheVariants as opens
use Rattle.cp_db.proofs.Keeping.{kept-images}
use Rattle.cp_lang.specs.declared.syntax_tree.Load.{Load}
use Rattle.cp_lang.specs.declared.syntax_tree.Stmt.TheVariants as stmt
use Rattle.cp_reply.specs.Lines.{lines}
use Rattle.cp_reply.specs.declared.reply.Reply.{Reply}
use Rattle.cp_reply.specs.Session.{Supply, no_supply, followed_by, Session, says, turn_of, session_after_statements}
use Rattle.cp_workspace.specs.Supplies.{IsSupplied}
use Rattle.cp_workspace.specs.Texts.{Terms, setting}
use Rattle.cp_workspace.specs.Loads.{statement_reads}
use Rattle.cp_workspace.specs.Files.{KnownFiles, HasRead, UsesFiles}
use Rattle.cp_workspace.specs.Spending.{Spends}
use Rattle.cp_workspace.specs.Workspaces.{workspace_at, of_nobody, Stands, HoldsFile, HasTurned, db_in, end_now, opened_session}
use Rattle.cp_workspace.specs.declared.fault.WorkspaceFault.{WorkspaceFault}
use Rattle.cp_workspace.specs.declared.fault.WorkspaceFault.TheVariants as fails
use Rattle.cp_workspace.specs.declared.workspace.Workspace.{Workspace}
use Rattle.cp_interpreter.specs.Job.{Report, is_refusal}
use Rattle.cp_interpreter.specs.Outside.{KnownInput, KnownClock, KnownOutput, Outside}
use Rattle.cp_interpreter.specs.Story.{Writes, StopsIn, SaidLine, HasCauses, DiskCauses, HasNotBegun, result_of, left_on, one_curator, terms_from, store_terms, frames_end}
use Rattle.cp_interpreter.specs.Alone.{report_on, DidStatement, Loaded}
use Rattle.cp_interpreter.specs.Begins.{IsOpeningStop, OpenedAlone, NotOpened, LoadGives, LoadedAs}
use Rattle.cp_interpreter.specs.Turns.{TellsStop, end_of_stop}
use Rattle.cp_interpreter.specs.declared.end.End.{End}
use Rattle.cp_interpreter.specs.declared.end.End.TheVariants as how
use Rattle.cp_interpreter.specs.declared.stop.Stop.{Stop}
use Rattle.cp_interpreter.specs.declared.stop.Stop.TheVariants.{Output, Full, File, Disk, NoStore, Clock, Memory}
use Rattle.cp_workspace.proofs.Supplied.{supplied-none}
use Rattle.cp_interpreter.proofs.Opened.{kept-end, stop-early}
use Rattle.cp_interpreter.proofs.Said.{statement-said, said-short, said-fitting, said-opened}

-- ---- workspaces on stores

-- a workspace on the database that was opened
pub alone-opened : {R S : Type 0} (view : R → Tree) (source_view : S → Tree) (v w : KnownDisk) (db : Db R S) (d : Workspace R S) (curator : List ℕ) → curator ≡ [] → db_in d ≡ db
    → HasOpened view source_view db v.view.content w.view → ViewRests v.view w.view → w.view.images w.view.content
    → ((h : List Entry) (supply : Supply) → database.Stands view source_view true db h → Stands view source_view (terms_from (end_now h db) (one_curator curator)) d (opened_session h supply))
    → OpenedAlone view source_view v w (Ok d)
alone-opened view source_view v w db d curator none same o r i f = (
  o.opens,
  λ h supply store. (
      let x = o.stands true h store.told in
      let ends = kept-end db h w.view x.1 i ∙ ap frames_end r.content in (
        subst (λ n. Stands view source_view (terms_from (record { entries = h; at = n }) (one_curator [])) d (opened_session h supply)) ends
            (subst (λ u. Stands view source_view (terms_from (end_now h db) (one_curator u)) d (opened_session h supply)) none (f h supply x.0)),
        subst (λ y. IsKept true y h w.view) (sym same) x.1,
      )
      ),
)

-- a content that isn't opened
pub alone-fault : {R S : Type 0} (view : R → Tree) (source_view : S → Tree) (v w : KnownDisk) (fault : OpenFault) (stop : Stop)
    → (fault ≡ opens.Disk → stop ≡ Disk) × (fault ≡ opens.Memory → stop ≡ Memory) × ((at : ℕ) → fault ≡ opens.NoStore at → stop ≡ NoStore at)
    → OpensAs {R = R} {S = S} view source_view v.view.content w.view (Err fault) → OpenedAlone {R = R} {S = S} view source_view v w (Err stop)
alone-fault view source_view v w opens.Disk stop becomes o = subst (λ s. OpenedAlone view source_view v w (Err s)) (sym (becomes.0 refl)) tt
alone-fault view source_view v w opens.Memory stop becomes o = subst (λ s. OpenedAlone view source_view v w (Err s)) (sym (becomes.1 refl)) tt
alone-fault view source_view v w (opens.NoStore at) stop becomes o = subst (λ s. OpenedAlone view source_view v w (Err s)) (sym (becomes.2 at refl)) o

-- ---- what a load gives

-- the answer of what was stopped
abbrev stopped-by : (T : Type 0) → Stop → Result T Stop
stopped-by T stop = Err stop

-- a stop at which none was opened
opening-is : (P : Stop → Type 0) (stop : Stop) → IsOpeningStop stop → P Disk → ((at : ℕ) → P (NoStore at)) → P Memory → P stop
opening-is P stop k d n m = elim k [
  | inl e ↦ subst P (sym e) d
  | inr l ↦ elim l [ inl a ↦ subst P (sym a.1) (n a.0) | inr e ↦ subst P (sym e) m ]
]

-- a stop of a workspace that asked no clock
workspace-is : (P : Stop → Type 0) (fault : WorkspaceFault) (stop : Stop) → (fault ≡ fails.File → stop ≡ File) × (fault ≡ fails.Disk → stop ≡ Disk) × (fault ≡ fails.Clock → stop ≡ Clock) × (fault ≡ fails.Memory → stop ≡ Memory)
    → (fault ≡ fails.Clock → ⊥) → P File → P Disk → P Memory → P stop
workspace-is P fails.File stop becomes clock f d m = subst P (sym (becomes.0 refl)) f
workspace-is P fails.Disk stop becomes clock f d m = subst P (sym (becomes.1 refl)) d
workspace-is P fails.Clock stop becomes clock f d m = absurd (clock refl)
workspace-is P fails.Memory stop becomes clock f d m = subst P (sym (becomes.3 refl)) m

-- the store is none, where that is why it wasn't opened
not-store : {R S : Type 0} (T : Type 0) (view : R → Tree) (source_view : S → Tree) (v w : KnownDisk) (stop : Stop) (at : ℕ) → stopped-by T stop ≡ Err (NoStore at) → OpenedAlone {R = R} {S = S} view source_view v w (Err stop) → IsNot Opens v.view.content at
not-store T view source_view v w Output at h o = absurd (cc)
not-store T view source_view v w Full at h o = absurd (cc)
not-store T view source_view v w File at h o = absurd (cc)
not-store T view source_view v w Disk at h o = absurd (cc)
not-store T view source_view v w (NoStore n) at h o = let same : n ≡ at = cc h in subst (IsNot Opens v.view.content) same o
not-store T view source_view v w Clock at h o = absurd (cc)
not-store T view source_view v w Memory at h o = absurd (cc)

-- no file is blamed where no store was opened
pub opening-files : {T : Type 0} (f : KnownFiles) (stop : Stop) → IsOpeningStop stop → UsesFiles {T = T} (λ e. e ≡ File) f f (Err stop)
opening-files f stop kind = record {
  same = refl;
  account = record { later = omega arith; blamed = opening-is (λ s. s ≡ File → Rose f.faults f.faults) stop kind (λ h. absurd (cc)) (λ at h. absurd (cc)) (λ h. absurd (cc)); steady = tt };
}

module _ {R S : Type 0} (view : R → Tree) (source_view : S → Tree) (l : Load) (k : KnownClock) (f g : KnownFiles) (v m w : KnownDisk) where
  -- no store was opened
  pub loaded-not : (stop : Stop) → IsOpeningStop stop → (IsTrue v.known → ViewRests v.view m.view) → (IsTrue v.known → OpenedAlone {R = R} {S = S} view source_view v m (Err stop)) → LoadedAs l k f f v m (Err stop)
  loaded-not stop kind rests opened = record {
    supply = no_supply;
    supplied = supplied-none f k;
    no_store = λ known at h. (not_opened known, not-store Reply view source_view v m stop at h (opened known));
    unopened = λ known never. not_opened known;
    did = λ known h store rest. inl (not_opened known);
    later = λ known h store. (rests known).later;
    crash = λ known h store rest. λ s c le x. inl ((rests known).since s c le x);
    kinds = opening-is (λ s. (s ≡ Output → ⊥) × (s ≡ Full → ⊥) × (s ≡ Clock → ⊥)) stop kind
        (λ h. absurd (cc), λ h. absurd (cc), λ h. absurd (cc)) (λ at. (λ h. absurd (cc), λ h. absurd (cc), λ h. absurd (cc))) (λ h. absurd (cc), λ h. absurd (cc), λ h. absurd (cc));
  }
    where
      not_opened : IsTrue v.known → NotOpened no_supply f f v m (Err stop)
      not_opened known = record { stop = stop; is = refl; opening = kind; none_told = refl; files = refl; rests = rests known }

  module _ (old new : Workspace R S) (same : IsTrue v.known → IsTrue m.known) (rests : IsTrue v.known → ViewRests v.view m.view) (opened : IsTrue v.known → OpenedAlone view source_view v m (Ok old)) where
    -- the load made its turn
    abbrev MadeTurn : Result Reply WorkspaceFault → Type 0
    MadeTurn r = HasTurned view source_view of_nobody (λ terms s. turn_of (setting terms) s (says (stmt.Load l))) (IsSupplied f k k) (workspace_at old m) (workspace_at new w) r

    -- and read its file, or none
    abbrev HasSpentAs : Result Reply WorkspaceFault → Type 0
    HasSpentAs r = (terms : Terms) (s : Session) → Stands view source_view terms old s → Spends (statement_reads s (stmt.Load l)) 0 f g k k r

    module _ (known : IsTrue v.known) (h : List Entry) (store : IsStore h v.view.content) where
      abbrev terms : Terms
      terms = store_terms h v.view.content (one_curator [])

      -- the session, to which this is told
      abbrev session : Supply → Session
      session x = opened_session h x

      abbrev report : Supply → Report
      report x = report_on x h v.view.content (stmt.Load l)

      here : (x : Supply) → Stands view source_view terms old (session x) × HoldsFile old h m
      here x = (opened known).1 h x store

      left : (r : Result Reply WorkspaceFault) (turned : MadeTurn r) (rest : Supply) → ViewKeeps (StandsForEither h (report (followed_by turned.supply rest)).history) m.view w.view
      unfolding session_after_statements
      left r turned rest = let x = followed_by turned.supply rest in (turned.turns terms (session x) rest (here x).0 refl).leaves (same known) (here x).1

      later : (r : Result Reply WorkspaceFault) → MadeTurn r → v.view.moment ≤ w.view.moment
      later r turned = omega (arith, (rests known).later, (left r turned no_supply).later)

      crash : (r : Result Reply WorkspaceFault) (turned : MadeTurn r) (rest : Supply) → ViewLeaves (StandsForEither h (report (followed_by turned.supply rest)).history) v.view w.view
      crash r turned rest n c le x = elim ((left r turned rest).since n c (omega (arith, le, (rests known).later)) x) [
        | inl before ↦ inl ((rests known).since n c le before)
        | inr after ↦ inr after
      ]

      said : (y : Reply) (turned : MadeTurn (Ok y)) → HasSpentAs (Ok y) → (rest : Supply) → LoadGives (report (followed_by turned.supply rest)) h f g w (Ok y)
      unfolding session_after_statements
      said y turned reads rest =
          let u = followed_by turned.supply rest in
          let x = turned.turns terms (session u) rest (here u).0 refl in
          let r = statement-said terms (session u) (stmt.Load l) y x.turned.0 in
          (r.0, r.1, (reads terms (session u) (here u).0).read, λ told c image. inl (kept-images (db_in new) (report u).history w.view (x.kept (same known) (here u).1) c image))

      stopped : (fault : WorkspaceFault) (stop : Stop) → (fault ≡ fails.File → stop ≡ File) × (fault ≡ fails.Disk → stop ≡ Disk) × (fault ≡ fails.Clock → stop ≡ Clock) × (fault ≡ fails.Memory → stop ≡ Memory)
          → (turned : MadeTurn (Err fault)) → HasSpentAs (Err fault) → (fault ≡ fails.File → (c : List ℕ) → w.view.images c → m.view.images c) → (fault ≡ fails.Clock → ⊥) → (rest : Supply)
          → LoadGives (report (followed_by turned.supply rest)) h f g w (Err stop)
      stopped fails.File stop becomes turned reads still clock rest =
          let u = followed_by turned.supply rest in
          let x = reads terms (session u) (here u).0 in
          subst (λ z. LoadGives (report u) h f g w (Err z)) (sym (becomes.0 refl)) (x.0, subst (HasRead f g) x.0 x.1.read, λ told c image. inl (kept-images (db_in old) h m.view (here u).1 c (still refl c image)))
      stopped fails.Disk stop becomes turned reads still clock rest =
          let u = followed_by turned.supply rest in
          let x = reads terms (session u) (here u).0 in
          let one : (report u).reads ≡ 1 = omega (arith, x.0) in
          subst (λ z. LoadGives (report u) h f g w (Err z)) (sym (becomes.1 refl)) (one, subst (HasRead f g) one x.1.read, λ told c image. (left (Err fails.Disk) turned rest).now c image)
      stopped fails.Clock stop becomes turned reads still clock rest = absurd (clock refl)
      stopped fails.Memory stop becomes turned reads still clock rest =
          let u = followed_by turned.supply rest in
          subst (λ z. LoadGives (report u) h f g w (Err z)) (sym (becomes.3 refl))
          (elim (reads terms (session u) (here u).0) [ inl none ↦ inl none.read | inr all ↦ inr all.read ], λ told c image. (left (Err fails.Memory) turned rest).now c image)

    -- the load was replied to
    pub loaded-said : (y : Reply) → MadeTurn (Ok y) → HasSpentAs (Ok y) → LoadedAs l k f g v w (Ok y)
    loaded-said y turned reads = record {
      supply = turned.supply;
      supplied = turned.supplied;
      no_store = λ known at h. absurd (cc);
      unopened = λ known never. absurd (never (opened known).0);
      did = λ known h store rest. inr (said known h store y turned reads rest);
      later = λ known h store. later known h store (Ok y) turned;
      crash = λ known h store rest. crash known h store (Ok y) turned rest;
      kinds = tt;
    }

    -- it stopped the call
    pub loaded-stopped : (fault : WorkspaceFault) (stop : Stop) → (fault ≡ fails.File → stop ≡ File) × (fault ≡ fails.Disk → stop ≡ Disk) × (fault ≡ fails.Clock → stop ≡ Clock) × (fault ≡ fails.Memory → stop ≡ Memory)
        → MadeTurn (Err fault) → HasSpentAs (Err fault) → (fault ≡ fails.File → (c : List ℕ) → w.view.images c → m.view.images c) → (fault ≡ fails.Clock → ⊥) → LoadedAs l k f g v w (Err stop)
    loaded-stopped fault stop becomes turned reads still clock = record {
      supply = turned.supply;
      supplied = turned.supplied;
      no_store = λ known at h. absurd (workspace-is (λ s. stopped-by Reply s ≡ Err (NoStore at) → ⊥) fault stop becomes clock (λ e. absurd (cc)) (λ e. absurd (cc)) (λ e. absurd (cc)) h);
      unopened = λ known never. absurd (never (opened known).0);
      did = λ known h store rest. inr (stopped known h store fault stop becomes turned reads still clock rest);
      later = λ known h store. later known h store (Err fault) turned;
      crash = λ known h store rest. crash known h store (Err fault) turned rest;
      kinds = workspace-is (λ s. (s ≡ Output → ⊥) × (s ≡ Full → ⊥) × (s ≡ Clock → ⊥)) fault stop becomes clock
          (λ h. absurd (cc), λ h. absurd (cc), λ h. absurd (cc)) (λ h. absurd (cc), λ h. absurd (cc), λ h. absurd (cc)) (λ h. absurd (cc), λ h. absurd (cc), λ h. absurd (cc));
    }

-- ---- the end of the call

-- how a call that was stopped ends
stop-end : (P : End → Type 0) (stop : Stop) → P how.Output → P how.Memory → P how.File → P how.Disk → ((at : ℕ) → P (how.NoStore at)) → P how.Clock → P (end_of_stop stop)
stop-end P Output u m f d n c = u
stop-end P Full u m f d n c = m
stop-end P File u m f d n c = f
stop-end P Disk u m f d n c = d
stop-end P (NoStore at) u m f d n c = n at
stop-end P Clock u m f d n c = c
stop-end P Memory u m f d n c = m

-- not as one whose words don't fit
stop-fitting : (stop : Stop) → end_of_stop stop ≡ how.Usage → ⊥
stop-fitting stop = stop-end (λ e. e ≡ how.Usage → ⊥) stop (λ h. absurd (cc)) (λ h. absurd (cc)) (λ h. absurd (cc)) (λ h. absurd (cc)) (λ at h. absurd (cc)) (λ h. absurd (cc))

-- nor as one to which too much came
stop-short : (stop : Stop) → end_of_stop stop ≡ how.TooLong → ⊥
stop-short stop = stop-end (λ e. e ≡ how.TooLong → ⊥) stop (λ h. absurd (cc)) (λ h. absurd (cc)) (λ h. absurd (cc)) (λ h. absurd (cc)) (λ at h. absurd (cc)) (λ h. absurd (cc))

-- nor as one whose input failed
stop-input : (stop : Stop) → end_of_stop stop ≡ how.Input → ⊥
stop-input stop = stop-end (λ e. e ≡ how.Input → ⊥) stop (λ h. absurd (cc)) (λ h. absurd (cc)) (λ h. absurd (cc)) (λ h. absurd (cc)) (λ at h. absurd (cc)) (λ h. absurd (cc))

-- why a call ended so that was stopped, but not by the output's want of memory
abbrev stop_at : End → Stop
stop_at how.Done = Memory
stop_at how.Refused = Memory
stop_at how.Usage = Memory
stop_at how.Input = Memory
stop_at how.File = File
stop_at how.Output = Output
stop_at how.Disk = Disk
stop_at (how.NoStore at) = NoStore at
stop_at how.Memory = Memory
stop_at how.TooLong = Memory
stop_at how.Clock = Clock

stop-back : (stop : Stop) → (stop ≡ Full → ⊥) → stop_at (end_of_stop stop) ≡ stop
stop-back Output never = refl
stop-back Full never = absurd (never refl)
stop-back File never = refl
stop-back Disk never = refl
stop-back (NoStore at) never = refl
stop-back Clock never = refl
stop-back Memory never = refl

stop-from : (stop : Stop) (e : End) → (stop ≡ Full → ⊥) → end_of_stop stop ≡ e → stop ≡ stop_at e
stop-from stop e never h = sym (stop-back stop never) ∙ ap stop_at h

-- a count's account where it was stopped
stop-account : (d : End) (n m : ℕ) (stop : Stop) → n ≤ m → (end_of_stop stop ≡ d → Rose n m) → Accounts (λ z. z ≡ d) n m (result_of (end_of_stop stop))
stop-account d n m Output le rose = record { later = le; blamed = rose; steady = tt }
stop-account d n m Full le rose = record { later = le; blamed = rose; steady = tt }
stop-account d n m File le rose = record { later = le; blamed = rose; steady = tt }
stop-account d n m Disk le rose = record { later = le; blamed = rose; steady = tt }
stop-account d n m (NoStore at) le rose = record { later = le; blamed = rose; steady = tt }
stop-account d n m Clock le rose = record { later = le; blamed = rose; steady = tt }
stop-account d n m Memory le rose = record { later = le; blamed = rose; steady = tt }

-- what no load is stopped by
abbrev IsLoadStop : Stop → Type 0
IsLoadStop stop = (stop ≡ Output → ⊥) × (stop ≡ Full → ⊥) × (stop ≡ Clock → ⊥)

-- the disk's account
pub disk-stopped : (v w : KnownDisk) (stop : Stop) → IsLoadStop stop → {T : Type 0} → UsesDisk {T = T} (λ e. e ≡ Disk) v w (Err stop) → DiskCauses v w (end_of_stop stop)
disk-stopped v w stop kind uses = record {
  same = uses.same;
  account = stop-account how.Disk v.counts.faults w.counts.faults stop uses.account.later (λ h. uses.account.blamed (stop-from stop how.Disk kind.1 h));
}

module _ (i : KnownInput) (f g : KnownFiles) (k : KnownClock) (o p : KnownOutput) where
  abbrev b : Outside
  b = record { input = i; files = f; clock = k; output = o }

  abbrev a : Outside
  a = record { input = i; files = g; clock = k; output = p }

  -- the causes where it was stopped
  pub causes-stopped : (stop : Stop) → IsLoadStop stop → UsesFiles {T = Reply} (λ e. e ≡ File) f g (Err stop) → o.faults ≤ p.faults → HasCauses b a (end_of_stop stop)
  causes-stopped stop kind used later = record {
    input = stop-account how.Input i.faults i.faults stop (omega arith) (λ h. absurd (stop-input stop h));
    world = record {
      same = used.same;
      files = stop-account how.File f.faults g.faults stop used.account.later (λ h. used.account.blamed (stop-from stop how.File kind.1 h));
      clock = stop-account how.Clock k.faults k.faults stop (omega arith) (λ h. absurd (kind.2 (stop-from stop how.Clock kind.1 h)));
      output = stop-account how.Output o.faults p.faults stop later (λ h. absurd (kind.0 (stop-from stop how.Output kind.1 h)));
    };
  }

  module _ (l : Load) (v w : KnownDisk) where
    -- the reply of a load was written, or the output stopped in it, or memory ran out before it
    said-statement : (r : Report) (h : List Entry) (line : List ℕ) (flag : Bool) (e : End) → HasRead f g r.reads → left_on w r.history r.history → r.out ≡ line → r.refused ≡ flag → SaidLine line flag o p e → DidStatement r h (left_on w) b a e
    said-statement r h line flag how.Done n x lines_is flag_is s = (flag_is ∙ s.0, subst (λ z. Writes o p z) (sym lines_is) s.1, n, x)
    said-statement r h line flag how.Refused n x lines_is flag_is s = (flag_is ∙ s.0, subst (λ z. Writes o p z) (sym lines_is) s.1, n, x)
    said-statement r h line flag how.Usage n x lines_is flag_is s = s
    said-statement r h line flag how.Input n x lines_is flag_is s = s
    said-statement r h line flag how.File n x lines_is flag_is s = absurd s
    said-statement r h line flag how.Output n x lines_is flag_is s = (subst (λ z. StopsIn o p z) (sym lines_is) s, n, x)
    said-statement r h line flag how.Disk n x lines_is flag_is s = absurd s
    said-statement r h line flag (how.NoStore at) n x lines_is flag_is s = s
    said-statement r h line flag how.Memory n x lines_is flag_is s = elim s [
      | inl y ↦ inl (subst (λ z. StopsIn o p z) (sym lines_is) y, n, x)
      | inr y ↦ inr (y, inr n, λ known c image. inr (either (x known c image)))
    ]
      where
        either : {P : Type 0} → P ⊎ P → P
        either q = elim q [ inl y ↦ y | inr y ↦ y ]
    said-statement r h line flag how.TooLong n x lines_is flag_is s = s
    said-statement r h line flag how.Clock n x lines_is flag_is s = s

    -- the last line of what stopped it was written
    stop-statement : (r : Report) (h : List Entry) (stop : Stop) → LoadGives r h f g w (Err stop) → TellsStop o p stop → DidStatement r h (left_on w) b a (end_of_stop stop)
    stop-statement r h Output x t = absurd x
    stop-statement r h Full x t = absurd x
    stop-statement r h File x t = (x.0, t, x.1, x.2)
    stop-statement r h Disk x t = (x.0, t, x.1, x.2)
    stop-statement r h (NoStore at) x t = absurd x
    stop-statement r h Clock x t = absurd x
    stop-statement r h Memory x t = inr (t, x.0, x.1)

    -- the store wasn't opened
    not-begun : (supply : Supply) (stop : Stop) → NotOpened supply f g v w (Err stop) → TellsStop o p stop → HasNotBegun [] supply b a (end_of_stop stop) × ViewRests v.view w.view
    not-begun supply stop n t =
        let same : n.stop ≡ stop = (let x = n.is in cc) in
        let early = stop-early o p stop (subst IsOpeningStop same n.opening) t in
        (record { early = early.0; none_taken = refl; none_told = n.none_told; files = n.files; clock = refl; wrote = early.1 }, n.rests)

    -- why it ended so
    none-stop : (stop : Stop) (at : ℕ) → end_of_stop stop ≡ how.NoStore at → stopped-by Reply stop ≡ Err (NoStore at)
    none-stop Output at h = absurd (cc)
    none-stop Full at h = absurd (cc)
    none-stop File at h = absurd (cc)
    none-stop Disk at h = absurd (cc)
    none-stop (NoStore n) at h = cc
    none-stop Clock at h = absurd (cc)
    none-stop Memory at h = absurd (cc)

    -- a load was replied to
    pub load-said : (y : Reply) (e : End) → LoadedAs l k f g v w (Ok y) → SaidLine (lines y) (is_refusal y) o p e → Loaded l b a v w e
    load-said y e x s = record {
      input = refl;
      clock = refl;
      supply = x.supply;
      supplied = x.supplied;
      fitting = said-fitting (lines y) (is_refusal y) o p e s;
      short = said-short (lines y) (is_refusal y) o p e s;
      no_store = λ known at h. absurd (said-opened (lines y) (is_refusal y) o p e at s h);
      unopened = λ known never. absurd (opened-after-all (x.unopened known never));
      did = λ known h store rest. record {
        did = elim (x.did known h store rest) [
          | inl n ↦ absurd (opened-after-all n)
          | inr q ↦ inr (said-statement (report_on (followed_by x.supply rest) h v.view.content (stmt.Load l)) h (lines y) (is_refusal y) e q.2 q.3 (sym q.0) (sym q.1) s)
        ];
        later = x.later known h store;
        crash = x.crash known h store rest;
      };
    }
      where
        opened-after-all : NotOpened x.supply f g v w (Ok y) → ⊥
        opened-after-all n = let z = n.is in absurd (cc)

    -- it was stopped
    pub load-stopped : (stop : Stop) → LoadedAs l k f g v w (Err stop) → TellsStop o p stop → Loaded l b a v w (end_of_stop stop)
    load-stopped stop x t = record {
      input = refl;
      clock = refl;
      supply = x.supply;
      supplied = x.supplied;
      fitting = stop-fitting stop;
      short = stop-short stop;
      no_store = λ known at h. (let q = x.no_store known at (none-stop stop at h) in let n = not-begun x.supply stop q.0 t in (n.0, n.1, q.1));
      unopened = λ known never. not-begun x.supply stop (x.unopened known never) t;
      did = λ known h store rest. record {
        did = elim (x.did known h store rest) [
          | inl n ↦ inl (not-begun x.supply stop n t)
          | inr q ↦ inr (stop-statement (report_on (followed_by x.supply rest) h v.view.content (stmt.Load l)) h stop q t)
        ];
        later = x.later known h store;
        crash = x.crash known h store rest;
      };
    }
