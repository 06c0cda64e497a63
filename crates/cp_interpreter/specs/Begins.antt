-- How sessions on stores begin, and how stores are opened and made.
use Rattle.std.specs.Prelude.{◌≡◌, ◌⊎◌, ℕ, ◌≤◌, List, [], ◌∷◌, true, IsTrue, Result, Ok, Err, IfErr, ⊤}
use Rattle.cp_model.specs.Keyed.{len}
use Rattle.cp_model.specs.Tree.{Tree}
use Rattle.cp_model.specs.History.{Entry, start}
use Rattle.cp_model.specs.declared.kind.Kind.{Kind}
use Rattle.cp_outside.specs.FileReads.{FileTable}
use Rattle.cp_disk.specs.Views.{ViewRests, ViewKeeps, KnownDisk, ViewLeaves}
use Rattle.cp_journal.specs.NewStores.{IsVacant}
use Rattle.cp_frame.specs.Stands.{IsStore, Opens, StandsFor, StandsForEither}
use Rattle.cp_frame.specs.Stops.{IsNot}
use Rattle.cp_db.specs.Databases as database
use Rattle.cp_db.specs.Databases.{IsKept, end_in}
use Rattle.cp_db.specs.declared.database.Db.{Db}
use Rattle.cp_lang.specs.declared.syntax_tree.Load.{Load}
use Rattle.cp_lang.specs.declared.syntax_tree.Stmt.TheVariants as stmt
use Rattle.cp_reply.specs.Lines.{lines}
use Rattle.cp_reply.specs.declared.reply.Of.TheVariants as of
use Rattle.cp_reply.specs.declared.reply.Why.{Why}
use Rattle.cp_reply.specs.declared.reply.Why.TheVariants as why
use Rattle.cp_reply.specs.declared.reply.Reply.{Reply}
use Rattle.cp_reply.specs.declared.reply.Reply.TheVariants as reply
use Rattle.cp_reply.specs.Session.{Supply, no_supply, followed_by, FetchedFile, gives, withholds}
use Rattle.cp_workspace.specs.Files.{KnownFiles, HasRead, IsFound, ReadsOrNone}
use Rattle.cp_workspace.specs.Clocks.{KnownClock}
use Rattle.cp_workspace.specs.Supplies.{IsSupplied}
use Rattle.cp_workspace.specs.Workspaces as workspace
use Rattle.cp_workspace.specs.Workspaces.{HoldsFile, opened_session}
use Rattle.cp_workspace.specs.declared.workspace.Workspace.{Workspace}
use Rattle.cp_interpreter.specs.Job.{Report, is_refusal}
use Rattle.cp_interpreter.specs.Outside.{KnownOutput}
use Rattle.cp_interpreter.specs.Play.{begun}
use Rattle.cp_interpreter.specs.Story.{LeavesHistory, frames_end, left_on, store_terms, SaidLine, LeavesStart, Committers, one_curator}
use Rattle.cp_interpreter.specs.Alone.{report_on}
use Rattle.cp_interpreter.specs.Scripts.{ScriptState, script_of}
use Rattle.cp_interpreter.specs.Turns.{Follows, TellsStop, end_of_stop}
use Rattle.cp_interpreter.specs.declared.interpreter.Interpreter.{Interpreter}
use Rattle.cp_interpreter.specs.declared.end.End.{End}
use Rattle.cp_interpreter.specs.declared.stop.Stop.{Stop}
use Rattle.cp_interpreter.specs.declared.stop.Stop.TheVariants.{Output, Full, File, Disk, NoStore, Clock, Memory}

-- ---- on a store

-- the database stands for the history, the disk holds that, and the frames end where they do in the content
pub record IsOpenedOn {R S : Type 0} (view : R → Tree) (source_view : S → Tree) (d : Db R S)
    (h : List Entry) (c : List ℕ) (w : KnownDisk) : Type 0 where
  pub stands : database.Stands view source_view true d h
  pub kept : IsKept true d h w.view
  pub is_end : end_in d ≡ frames_end c

-- where the content stands for a history
abbrev pub LeavesStore : KnownDisk → KnownDisk → Type 0
LeavesStore v w = IsTrue v.known → (h : List Entry) → IsStore h v.view.content → LeavesHistory h v w

-- the database stands for the history that the one before stood for, and the frames end where they did
abbrev pub IsMigrated : {R S : Type 0} → (R → Tree) → (S → Tree) → Db R S → List Entry → KnownDisk
    → Result (Db R S) Stop → Type 0
IsMigrated view source_view old h w (Ok d) =
    database.Stands view source_view true d h × IsKept true d h w.view × (end_in d ≡ end_in old)
IsMigrated view source_view old h w (Err stop) = (stop ≡ Disk) ⊎ (stop ≡ Memory)

-- the file was made one of version 2, which tells what it told
abbrev pub Migrated : {R S : Type 0} → (R → Tree) → (S → Tree) → Db R S → KnownDisk → KnownDisk
    → Result (Db R S) Stop → Type 0
Migrated view source_view old v w result =
    (h : List Entry) → database.Stands view source_view true old h → IsTrue v.known
    → IsKept true old h v.view
    → ViewKeeps (StandsFor h) v.view w.view × IsMigrated view source_view old h w result

-- a content that opens gives its database; of one that doesn't the offset is told at which it stops, and a crash leaves what it could leave
abbrev pub OpenedAs : {R S : Type 0} → (R → Tree) → (S → Tree) → KnownDisk → KnownDisk
    → Result (Db R S) Stop → Type 0
OpenedAs view source_view v w (Ok d) =
    Opens v.view.content
    × ((h : List Entry) → IsStore h v.view.content
    → IsOpenedOn view source_view d h v.view.content w)
OpenedAs view source_view v w (Err (NoStore at)) =
    IsNot Opens v.view.content at × ViewRests v.view w.view
OpenedAs view source_view v w (Err stop) = (Opens v.view.content → ⊥) → ViewRests v.view w.view

-- the same of its session
abbrev pub BegunOn : {R S : Type 0} → (R → Tree) → (S → Tree) → Committers → KnownDisk → KnownDisk
    → Result (Interpreter R S) Stop → Type 0
BegunOn view source_view who v w (Ok x) = Opens v.view.content
    × ((h : List Entry) (supply : Supply) → IsStore h v.view.content
    → Follows view source_view w x
    (begun (store_terms h v.view.content who) (opened_session h supply)))
BegunOn view source_view who v w (Err (NoStore at)) =
    IsNot Opens v.view.content at × ViewRests v.view w.view
BegunOn view source_view who v w (Err stop) =
    (Opens v.view.content → ⊥) → ViewRests v.view w.view

-- a store isn't opened for one of these
abbrev pub IsOpeningStop : Stop → Type 0
IsOpeningStop stop = (stop ≡ Disk) ⊎ ((at : ℕ) × (stop ≡ NoStore at)) ⊎ (stop ≡ Memory)

-- ---- a new store

-- it isn't made for one of these
abbrev pub IsMakingStop : Stop → Type 0
IsMakingStop stop = (stop ≡ File) ⊎ (stop ≡ Disk) ⊎ (stop ≡ Memory)

-- the store was made, which a crash leaves now
abbrev pub CreatedAs : Kind → Tree → KnownDisk → Result Reply Stop → Type 0
CreatedAs k t w (Ok r) =
    (r ≡ reply.Created k (len t)) × ((c : List ℕ) → w.view.images c → StandsFor (start k t ∷ []) c)
CreatedAs k t w (Err stop) = (stop ≡ Disk) ⊎ (stop ≡ Memory)

-- it was made from the start tree, or there is none
abbrev pub MadeAs : Kind → FetchedFile → ℕ → KnownFiles → KnownFiles → KnownDisk
    → Result Reply Stop → Type 0
MadeAs k (gives t) reads before now w (Ok r) = CreatedAs k t w (Ok r)
MadeAs k (withholds y) reads before now w (Ok r) = r ≡ reply.Refused of.Init y
MadeAs k g reads before now w (Err stop) =
    IsMakingStop stop × (stop ≡ File → (reads ≡ 1) × HasRead before now 1)

-- the reply that there is one, and the file is as it was; or it wasn't found out
abbrev pub FoundAs : Result Reply Stop → Type 0
FoundAs (Ok r) = r ≡ reply.Refused of.Init why.StoreExists
FoundAs (Err stop) = (stop ≡ Disk) ⊎ (stop ≡ Memory)

-- what was replied to `init`, and what became of the files, which were found so, and of the disk
pub record StoreMade (k : Kind) (given : FileTable → FetchedFile) (reads : ℕ)
    (before now : KnownFiles) (v w : KnownDisk) (result : Result Reply Stop) : Type 0 where
  pub table : FileTable
  pub found : IsFound before table
  pub exists : IsTrue v.known → (IsVacant v.view.content → ⊥) → (now ≡ before)
      × ViewRests v.view w.view × FoundAs result
  pub made : IsTrue v.known → IsVacant v.view.content
      → MadeAs k (given table) reads before now w result × LeavesStart k (given table) v.view w.view
  pub read : IsTrue v.known → IsVacant v.view.content → ReadsOrNone reads before now result
  pub stops : IfErr result IsMakingStop

-- ---- scripts

-- the script that is expected, before its first byte, or why there is none
abbrev pub GivesScript : Result (List ℕ) Why → Result ScriptState Why → Type 0
GivesScript (Ok bytes) (Ok s) = s ≡ record { left = bytes; given = 0 }
GivesScript (Ok bytes) (Err w) = ⊥
GivesScript (Err w) (Ok s) = ⊥
GivesScript (Err w) (Err y) = y ≡ w

-- these are the files, where they are known, and the one with this name gives the script
abbrev pub GivesScriptOf : KnownFiles → List ℕ → Result ScriptState Why → Type 0
GivesScriptOf known name r = (t : FileTable) × IsFound known t × GivesScript (script_of (t name)) r

-- ---- calls that hand over one statement

-- a content that opens gives its workspace, which commits nothing; of one that doesn't the offset is told at which it stops
abbrev pub OpenedAlone : {R S : Type 0} → (R → Tree) → (S → Tree) → KnownDisk → KnownDisk
    → Result (Workspace R S) Stop → Type 0
OpenedAlone view source_view v w (Ok d) = Opens v.view.content
    × ((h : List Entry) (supply : Supply) → IsStore h v.view.content
    → workspace.Stands view source_view (store_terms h v.view.content (one_curator [])) d
    (opened_session h supply) × HoldsFile d h w)
OpenedAlone view source_view v w (Err (NoStore at)) = IsNot Opens v.view.content at
OpenedAlone view source_view v w (Err stop) = ⊤

-- the store wasn't opened, and nothing was told, read or written
pub record NotOpened (supply : Supply) (before now : KnownFiles) (v w : KnownDisk)
    (result : Result Reply Stop) : Type 0 where
  pub stop : Stop
  pub is : result ≡ Err stop
  pub opening : IsOpeningStop stop
  pub none_told : supply ≡ no_supply
  pub files : now ≡ before
  pub rests : ViewRests v.view w.view

-- what a load with this report gave, on the history h
abbrev pub LoadGives : Report → List Entry → KnownFiles → KnownFiles → KnownDisk
    → Result Reply Stop → Type 0
LoadGives r h before now w (Ok y) =
    (lines y ≡ r.out) × (is_refusal y ≡ r.refused) × HasRead before now r.reads
    × left_on w r.history r.history
LoadGives r h before now w (Err Output) = ⊥
LoadGives r h before now w (Err Full) = ⊥
LoadGives r h before now w (Err File) = (r.reads ≡ 1) × HasRead before now 1 × left_on w h h
LoadGives r h before now w (Err Disk) = (r.reads ≡ 1) × HasRead before now 1 × left_on w h r.history
LoadGives r h before now w (Err (NoStore at)) = ⊥
LoadGives r h before now w (Err Clock) = ⊥
LoadGives r h before now w (Err Memory) =
    (HasRead before now 0 ⊎ HasRead before now r.reads) × left_on w h r.history

-- what a load did to files and disk, beside a clock that it doesn't ask, whose report is expected on each history, whatever would be told after this
pub record LoadedAs (l : Load) (clock : KnownClock) (before now : KnownFiles) (v w : KnownDisk)
    (result : Result Reply Stop) : Type 0 where
  pub supply : Supply
  pub supplied : IsSupplied before clock clock supply
  pub no_store : IsTrue v.known → (at : ℕ) → result ≡ Err (NoStore at)
      → NotOpened supply before now v w result × IsNot Opens v.view.content at
  pub unopened : IsTrue v.known → (Opens v.view.content → ⊥)
      → NotOpened supply before now v w result
  pub did : IsTrue v.known → (h : List Entry) → IsStore h v.view.content → (rest : Supply)
      → NotOpened supply before now v w result
      ⊎ LoadGives (report_on (followed_by supply rest) h v.view.content (stmt.Load l)) h
      before now w result
  pub later : IsTrue v.known → (h : List Entry) → IsStore h v.view.content
      → v.view.moment ≤ w.view.moment
  pub crash : IsTrue v.known → (h : List Entry) → IsStore h v.view.content → (rest : Supply)
      → ViewLeaves (StandsForEither h
      (report_on (followed_by supply rest) h v.view.content (stmt.Load l)).history) v.view
      w.view
  pub kinds : IfErr result (λ e. (e ≡ Output → ⊥) × (e ≡ Full → ⊥) × (e ≡ Clock → ⊥))

-- a content from which the call answers has a reply of which this is so; of any other the offset is told at which it stops
abbrev pub AnsweredAs : (List ℕ → Type 0) → (List ℕ → Reply → Type 0) → KnownDisk
    → Result Reply Stop → Type 0
AnsweredAs Answers IsReply v (Ok y) = Answers v.view.content × IsReply v.view.content y
AnsweredAs Answers IsReply v (Err (NoStore at)) = IsNot Answers v.view.content at
AnsweredAs Answers IsReply v (Err stop) = ⊤

-- the answer was written, or the last line of what stopped the call
abbrev pub GaveAnswer : Result Reply Stop → KnownOutput → KnownOutput → End → Type 0
GaveAnswer (Ok y) before now end = SaidLine (lines y) (is_refusal y) before now end
GaveAnswer (Err stop) before now end = (end ≡ end_of_stop stop) × TellsStop before now stop
