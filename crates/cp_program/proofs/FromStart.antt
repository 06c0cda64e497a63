-- A run in memory is the session's job, from its start tree on.
use Rattle.std.proofs.Common.{◌≡◌, ℕ, ◌+◌, List, [], true, false, Ok, Err, refl, inl, inr, sym, ap, subst, ◌∙◌, ◌++◌, ◌∷◌, arith}
use Rattle.std.specs.Prelude.{⊤, ◌⊎◌, OnOk, Result}
use Rattle.std.specs.Io.KnownBytes.{IsAtEnd}
use Rattle.std.specs.declared.option.Option.{Option}
use Rattle.std.proofs.KnownBytes.{Consumes-nil}
use Rattle.cp_outside.specs.FileReads.{FileTable}
use Rattle.cp_outside.specs.declared.files.FilesFault.{FilesFault}
use Rattle.cp_outside.specs.declared.files.FilesFault.TheVariants as fails
use Rattle.cp_lang.specs.Cuts.{scan_start}
use Rattle.cp_lang.specs.CutterState.{held_of}
use Rattle.cp_journal.specs.declared.limits.TheConstants.{HEADER_SIZE, FRAME_HEAD}
use Rattle.cp_frame.specs.Sizes.{start_size}
use Rattle.cp_db.specs.Databases.{IsKept, IsReady, end_in, version_in}
use Rattle.cp_db.specs.declared.database.Db.{Db}
use Rattle.cp_model.specs.Place.{Label}
use Rattle.cp_model.specs.History.{start}
use Rattle.cp_model.specs.Tree.{Tree}
use Rattle.cp_model.specs.declared.kind.Kind.{Kind}
use Rattle.cp_reply.specs.Session.{Supply, no_supply, followed_by, FetchedFile, gives, withholds}
use Rattle.cp_reply.specs.declared.reply.Why.{Why}
use Rattle.cp_workspace.specs.Fetched.{Gives}
use Rattle.cp_workspace.specs.Files.{KnownFiles, HasRead, IsFound, ReadsBefore}
use Rattle.cp_disk.specs.Views.{KnownDisk}
use Rattle.cp_workspace.specs.Workspaces.{Stands, IsWorkspace, IsUsable, HasStamps, HoldsFile, db_in, end_now}
use Rattle.cp_workspace.specs.declared.workspace.Workspace.{Workspace}
use Rattle.cp_workspace.proofs.Supplied.{found-any, supplied-none, supplied-then}
use Rattle.cp_interpreter.specs.Texts.{file_line, memory_line}
use Rattle.cp_scratch.specs.Sessions.{scratch_session, scratch_terms}
use Rattle.cp_program.specs.InMemory.{refused_start, DidFrom, Ran}
use Rattle.cp_interpreter.specs.Outside.{call_at, KnownInput, KnownClock, KnownOutput, Outside}
use Rattle.cp_interpreter.specs.Play.{begun}
use Rattle.cp_interpreter.specs.Story.{WritesLast, SaidLine, left_on, Did, result_of}
use Rattle.cp_program.specs.Begun.{Begun, BegunFrom}
use Rattle.cp_interpreter.specs.Turns.{Follows, MayGoOn, work_from, RanFrom, TellsStop, end_of_stop, cutter_in, workspace_in, has_refused}
use Rattle.cp_interpreter.specs.declared.interpreter.Interpreter.{Interpreter}
use Rattle.cp_interpreter.specs.declared.end.End.{End}
use Rattle.cp_interpreter.specs.declared.end.End.TheVariants as how
use Rattle.cp_interpreter.specs.declared.stop.Stop.{Stop}
use Rattle.cp_interpreter.specs.declared.stop.Stop.TheVariants.{File, Memory}
use Rattle.cp_interpreter.proofs.Runs.{parts}
use Rattle.cp_interpreter.proofs.Whole.{did-start, said-running, said-short}

-- ---- from the start tree on

-- what holds of an end at which all was done
on-done : {P Q : Type 0} (r : Result ⊤ End) → (P → Q) → OnOk r P → OnOk r Q
on-done (Ok x) f h = f h
on-done (Err e) f h = tt

-- a run of a session that begins on its start tree
pub ran-begun : {R S : Type 0} (view : R → Tree) (source_view : S → Tree) (j : Kind) (given : FileTable → FetchedFile) (k : ℕ) (x : Interpreter R S) (i : KnownInput) (f fb : KnownFiles) (c : KnownClock) (o : KnownOutput) (a : Outside) (v w : KnownDisk) (e : End)
    → fb.found ≡ f.found → HasRead f fb k → has_refused x ≡ false → BegunFrom view source_view v j f given (Ok x) → RanFrom view source_view x 0 (call_at v (parts i fb c o)) (call_at w a) e → Ran j given k (parts i f c o) a e
ran-begun {R} {S} view source_view j given k x i f fb c o a v w e same read none begins ran = record {
  taken = ran.taken;
  took = ran.took;
  counted = ran.counted;
  too_much = (λ h. omega (arith, ran.too_much.0 h), λ l. ran.too_much.1 (omega (arith, l)));
  table = begins.0;
  found = begins.1;
  supply = ran.supply;
  supplied = supplied-then f fb c c a.clock no_supply ran.supply same (supplied-none f c) ran.supplied;
  running = ran.running;
  ended = on-done (result_of e) (λ h. inl h) ran.ended;
  did = inr (did_from (given begins.0) begins.2);
}
  where
    did_from : (g : FetchedFile) → Begun view source_view v j g (Ok x) → DidFrom j g k ran.supply ran.taken (parts i f c o) a e
    did_from (gives t) b = λ rest.
        let s = scratch_session j t (followed_by ran.supply rest) in
        let d = ran.did (begun (scratch_terms j t) s) rest (b (followed_by ran.supply rest)) refl in
        did-start (scratch_terms j t) s k ran.taken i f fb c o a (left_on w) read e (subst (λ z. Did (work_from (begun (scratch_terms j t) s) z) (left_on w) 0 ran.taken (parts i fb c o) a e) none d.0)
    did_from (withholds y) b = absurd b

-- a session begins on the tree that is given
pub begun-given : {R S : Type 0} (view : R → Tree) (source_view : S → Tree) (v : KnownDisk) (j : Kind) (g : FetchedFile) (tree : R) (x : Interpreter R S) → Gives view g (Ok tree)
    → ((supply : Supply) → Follows view source_view v x (begun (scratch_terms j (view tree)) (scratch_session j (view tree) supply))) → Begun view source_view v j g (Ok x)
begun-given view source_view v j (gives t) tree x h f = subst (λ u. (supply : Supply) → Follows view source_view v x (begun (scratch_terms j u) (scratch_session j u supply))) h f
begun-given view source_view v j (withholds y) tree x h f = absurd h

pub refused-given : {R S : Type 0} (view : R → Tree) (source_view : S → Tree) (v : KnownDisk) (j : Kind) (g : FetchedFile) (w : Why) → Gives view g (Err w) → Begun {R = R} {S = S} view source_view v j g (Err w)
refused-given view source_view v j (gives t) w h = absurd h
refused-given view source_view v j (withholds y) w h = h

-- a session on a database that was just made
module _ {R S : Type 0} (view : R → Tree) (source_view : S → Tree) (d : Db R S) (m : Workspace R S) (x : Interpreter R S) (v : KnownDisk) (same : db_in m ≡ d) (cutter : cutter_in x ≡ held_of scan_start) (workspace : workspace_in x ≡ m) where
  -- follows the one on its history
  pub scratch-follows : (j : Kind) (t : Tree) (curator : Label) → curator ≡ [] → end_in d ≡ HEADER_SIZE + FRAME_HEAD + start_size t → IsKept true d (start j t ∷ []) v.view
      → ((supply : Supply) → Stands view source_view (record { ends = end_now (start j t ∷ []) d; curator = curator; shared = false }) m (scratch_session j t supply))
      → (supply : Supply) → Follows view source_view v x (begun (scratch_terms j t) (scratch_session j t supply))
  scratch-follows j t curator none size kept stands supply =
      let h = start j t ∷ [] in
      let s = scratch_session j t supply in
      let P : ℕ → Type 0 = λ n. Stands view source_view (record { ends = record { entries = h; at = n }; curator = curator; shared = false }) m s in
      let Q : Label → Type 0 = λ a. Stands view source_view (record { ends = record { entries = h; at = HEADER_SIZE + FRAME_HEAD + start_size t }; curator = a; shared = false }) m s in
      record {
        cutter = cutter;
        stands = subst (λ z. Stands view source_view (scratch_terms j t) z s) (sym workspace) (subst Q none (subst P size (stands supply)));
        holds = λ known. subst (λ z. HoldsFile z h v) (sym workspace) (subst (λ z. IsKept true z h v.view) (sym same) kept);
      }

  -- and may go on
  pub scratch-goes_on : IsWorkspace view source_view m → IsReady d v.view → version_in d ≡ 2 → MayGoOn view source_view v x
  scratch-goes_on w r two = record {
    scan = scan_start;
    cutter = cutter;
    usable = subst (IsUsable view source_view v) (sym workspace) (record { workspace = w; ready = λ known. subst (λ z. IsReady z v.view) (sym same) r });
    stamps = subst HasStamps (sym workspace) (ap version_in same ∙ two);
  }

-- ---- calls that run no session

-- where all was done the start tree is refused
refused-end : (line : List ℕ) (o p : KnownOutput) (taken : List ℕ) (left : Option (List ℕ)) (e : End) → taken ≡ [] → SaidLine line true o p e → OnOk (result_of e) (IsAtEnd left ⊎ ((e ≡ how.Refused) × (taken ≡ [])))
refused-end line o p taken left how.Done none w = absurd (cc)
refused-end line o p taken left how.Refused none w = inr (refl, none)
refused-end line o p taken left how.Usage none w = tt
refused-end line o p taken left how.Input none w = tt
refused-end line o p taken left how.File none w = tt
refused-end line o p taken left how.Output none w = tt
refused-end line o p taken left how.Disk none w = tt
refused-end line o p taken left (how.NoStore at) none w = tt
refused-end line o p taken left how.Memory none w = tt
refused-end line o p taken left how.TooLong none w = tt
refused-end line o p taken left how.Clock none w = tt

module _ (j : Kind) (given : FileTable → FetchedFile) (k : ℕ) (i : KnownInput) (f fb : KnownFiles) (c : KnownClock) (o p : KnownOutput) where
  -- a start tree is refused
  pub ran-refused : {R S : Type 0} (view : R → Tree) (source_view : S → Tree) (v : KnownDisk) (y : Why) (e : End) → HasRead f fb k → BegunFrom {R = R} {S = S} view source_view v j f given (Err y) → SaidLine (refused_start y) true o p e
      → Ran j given k (parts i f c o) (parts i fb c p) e
  ran-refused {R} {S} view source_view v y e read begins w = record {
    taken = [];
    took = Consumes-nil i.left;
    counted = omega arith;
    too_much = (λ h. absurd (said-short (refused_start y) true o p e w h), λ l. absurd (omega (arith, l)));
    table = begins.0;
    found = begins.1;
    supply = no_supply;
    supplied = supplied-none f c;
    running = said-running (refused_start y) true o p e w;
    ended = refused-end (refused_start y) o p [] i.left e refl w;
    did = inr (did_from (given begins.0) begins.2);
  }
    where
      did_from : (g : FetchedFile) → Begun {R = R} {S = S} view source_view v j g (Err y) → DidFrom j g k no_supply [] (parts i f c o) (parts i fb c p) e
      did_from (gives t) b = absurd b
      did_from (withholds z) b = (refl, refl, subst (λ q. SaidLine (refused_start q) true o p e) b w, read, refl)

  -- the files, which weren't read
  unread : (t : FileTable) × IsFound f t
  unread = found-any f

  -- memory ran out before a byte was taken
  pub ran-out : WritesLast o p [] memory_line → HasRead f fb 0 ⊎ HasRead f fb k → Ran j given k (parts i f c o) (parts i fb c p) how.Memory
  ran-out w read = record {
    taken = [];
    took = Consumes-nil i.left;
    counted = omega arith;
    too_much = (λ h. absurd (cc), λ l. absurd (omega (arith, l)));
    table = unread.0;
    found = unread.1;
    supply = no_supply;
    supplied = supplied-none f c;
    running = record { fitting = λ h. absurd (cc); opened = λ at h. absurd (cc) };
    ended = tt;
    did = inl (record { ended = inr (refl, w, read); none_taken = refl; none_told = refl; clock = refl });
  }

  -- a call was stopped before it took a byte: by its start tree's file, or as memory ran out
  pub ran-early : (fault : FilesFault) (stop : Stop) → (fault ≡ fails.Failed → stop ≡ File) × (fault ≡ fails.Memory → stop ≡ Memory) → ReadsBefore (λ e. e ≡ fails.Failed) k f fb fault → TellsStop o p stop → Ran j given k (parts i f c o) (parts i fb c p) (end_of_stop stop)
  ran-early fails.Failed stop becomes r w =
      let is = becomes.0 refl in
      let x = r.blamed refl in
      let last : WritesLast o p [] file_line = subst (TellsStop o p) is w in
      subst (λ z. Ran j given k (parts i f c o) (parts i fb c p) (end_of_stop z)) (sym is) (record {
        taken = [];
        took = Consumes-nil i.left;
        counted = omega arith;
        too_much = (λ h. absurd (cc), λ l. absurd (omega (arith, l)));
        table = unread.0;
        found = unread.1;
        supply = no_supply;
        supplied = supplied-none f c;
        running = record { fitting = λ h. absurd (cc); opened = λ at h. absurd (cc) };
        ended = tt;
        did = inl (record { ended = inl (refl, x.0, last, x.1); none_taken = refl; none_told = refl; clock = refl });
      })
  ran-early fails.Memory stop becomes r w =
      let is = becomes.1 refl in
      subst (λ z. Ran j given k (parts i f c o) (parts i fb c p) (end_of_stop z)) (sym is) (ran-out (subst (TellsStop o p) is w) r.either)
