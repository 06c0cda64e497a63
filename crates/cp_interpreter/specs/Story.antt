-- What a call did to the outside, by how it ended.
use Rattle.cp_interpreter.specs.declared.limits.TheConstants.{INPUT_MAX, PIECE_MAX}
use Rattle.std.specs.Prelude.{◌≡◌, ◌⊎◌, ◌↔◌, ℕ, ◌≤◌, ◌<◌, ◌+◌, List, [], ◌∷◌, ◌++◌, length, take, drop, Bool, true, false, IsTrue, Result, Ok, Err, ⊤, OnOk}
use Rattle.std.specs.declared.option.Option.{Option}
use Rattle.std.specs.Io.KnownBytes.{Appends, Consumes, IsAtEnd}
use Rattle.cp_outside.specs.Causes.{Accounts, Rose, one_more}
use Rattle.cp_outside.specs.FileReads.{FileTable}
use Rattle.cp_outside.specs.Sinks.{TakesLess}
use Rattle.cp_model.specs.Keyed.{len}
use Rattle.cp_model.specs.History.{Entry, start}
use Rattle.cp_model.specs.declared.kind.Kind.{Kind}
use Rattle.cp_disk.specs.Counts.{UsesDisk}
use Rattle.cp_disk.specs.Views.{View, ViewRests, ViewKeeps, KnownDisk, ViewLeaves}
use Rattle.cp_journal.specs.Frames.{frames_of}
use Rattle.cp_journal.specs.Journals.{walk_end}
use Rattle.cp_journal.specs.NewStores.{IsVacant, SettlesInto}
use Rattle.cp_journal.specs.declared.limits.TheConstants.{HEADER_SIZE}
use Rattle.cp_frame.specs.Stands.{IsStore, Opens, StandsFor}
use Rattle.cp_frame.specs.Stops.{IsNot}
use Rattle.cp_frame.specs.Sizes.{FrameEnd}
use Rattle.cp_db.specs.Writing.{IsOldOrVacantOrStart, IsVacantOrStart}
use Rattle.cp_reply.specs.Lines.{lines}
use Rattle.cp_reply.specs.declared.reply.Of.TheVariants as of
use Rattle.cp_reply.specs.declared.reply.Why.TheVariants as why
use Rattle.cp_reply.specs.declared.reply.Reply.TheVariants as reply
use Rattle.cp_reply.specs.Session.{Supply, no_supply, followed_by, Session, FetchedFile, gives, withholds}
use Rattle.cp_workspace.specs.Texts.{Terms}
use Rattle.cp_workspace.specs.Files.{HasRead, IsFound, ReadsOrNone}
use Rattle.cp_workspace.specs.Supplies.{IsSupplied}
use Rattle.cp_workspace.specs.Spending.{HasSpent}
use Rattle.cp_workspace.specs.Workspaces.{opened_session}
use Rattle.cp_interpreter.specs.Texts.{input_line, file_line, disk_line, no_store_line, memory_line, too_long_line, clock_line}
use Rattle.cp_interpreter.specs.Job.{Report, job_so_far, job}
use Rattle.cp_interpreter.specs.Outside.{KnownOutput, World, Outside, Moment, call_at, world_of}
use Rattle.cp_interpreter.specs.declared.end.End.{End}
use Rattle.cp_interpreter.specs.declared.end.End.TheVariants as how

-- ---- what was written

-- These bytes were written, and no write was refused.
abbrev pub Writes : KnownOutput → KnownOutput → List ℕ → Type 0
Writes before now bytes =
    (now.refusals ≡ before.refusals) × Appends before.contents now.contents bytes

-- One write was refused, and nothing was taken after it.
pub record WasRefused (before now : KnownOutput) : Type 0 where
  pub once : now.refusals ≡ one_more before.refusals
  pub last : now.since_refusal ≡ 0

-- A write was refused, and less than all of these bytes was taken before it.
abbrev pub StopsIn : KnownOutput → KnownOutput → List ℕ → Type 0
StopsIn before now bytes = WasRefused before now × TakesLess before.contents now.contents bytes

-- A front part of these bytes was taken, which has so many of them at least, and isn't all.
abbrev pub TakesFrom : ℕ → Option (List ℕ) → Option (List ℕ) → List ℕ → Type 0
TakesFrom least old new bytes =
    (n : ℕ) × (least ≤ n) × (n < length bytes) × Appends old new (take n bytes)

-- A write was refused after all of the first bytes, and before all of the others, which begin with them.
abbrev pub StopsAfter : KnownOutput → KnownOutput → List ℕ → List ℕ → Type 0
StopsAfter before now first bytes =
    WasRefused before now × TakesFrom (length first) before.contents now.contents bytes

-- These bytes were written and then the last line; or a write of the last line was refused, of which less than all was taken.
abbrev pub WritesLast : KnownOutput → KnownOutput → List ℕ → List ℕ → Type 0
WritesLast before now bytes last =
    Writes before now (bytes ++ last)
    ⊎ (WasRefused before now × (n : ℕ) × (n < length last)
    × Appends before.contents now.contents (bytes ++ take n last))

-- ---- what a crash leaves

-- What is said of the files that a crash leaves now: that each stands for the one history or for the other.
abbrev pub Leaving : Type 1
Leaving = List Entry → List Entry → Type 0

-- of a disk, where it is known what that holds
abbrev pub left_on : KnownDisk → Leaving
left_on w h i = IsTrue w.known → (c : List ℕ) → w.view.images c → StandsFor h c ⊎ StandsFor i c

-- nothing, of a disk that no one sees
abbrev pub unseen : Leaving
unseen h i = ⊤

-- ---- what was spent

-- Files were read, and the clock was asked, as often as the report says.
abbrev pub SpentAs : Report → World → World → Type 0
SpentAs r before now = HasSpent r.reads r.asks before.files now.files before.clock now.clock

-- No file was read, and the clock wasn't asked.
abbrev pub SpentNothing : World → World → Type 0
SpentNothing before now = HasSpent 0 0 before.files now.files before.clock now.clock

-- how many files are read, and how often the clock is asked
abbrev pub spending : Report → ℕ
spending r = r.reads + r.asks

-- ---- what a session did

-- What a session does for bytes of its input: for those that came so far, and for all of a whole input.
pub record Work : Type 0 where
  pub so_far : List ℕ → Report
  pub whole : List ℕ → Report

-- All statements of the input were run, and some line refuses one, or none does; a crash leaves their history.
pub record AllDone (work : Work) (Leaves : Leaving) (taken : List ℕ) (before now : Outside)
    (refused : Bool) : Type 0 where
  pub refused_is : (work.whole taken).refused ≡ refused
  pub wrote : Writes before.output now.output (work.whole taken).out
  pub spent : SpentAs (work.whole taken) (world_of before) (world_of now)
  pub left : Leaves (work.whole taken).history (work.whole taken).history

-- The output refused a write of what is written for the statement that ends with the next byte, which was run: all lines before it were written, and less than all of its own.
pub record StoppedWriting (work : Work) (Leaves : Leaving) (taken : List ℕ)
    (before now : Outside) : Type 0 where
  pub at : ℕ
  pub inside : at < length taken
  pub wrote : StopsAfter before.output now.output (work.so_far (take at taken)).out
      (work.so_far (take (at + 1) taken)).out
  pub spent : SpentAs (work.so_far (take (at + 1) taken)) (world_of before) (world_of now)
  pub left : Leaves (work.so_far (take (at + 1) taken)).history
      (work.so_far (take (at + 1) taken)).history

-- The same of what is written for the input's end, which has come.
pub record StoppedEnding (work : Work) (Leaves : Leaving) (taken : List ℕ)
    (before now : Outside) : Type 0 where
  pub ended : IsAtEnd now.input.left
  pub wrote : StopsAfter before.output now.output (work.so_far taken).out (work.whole taken).out
  pub spent : SpentAs (work.whole taken) (world_of before) (world_of now)
  pub left : Leaves (work.whole taken).history (work.whole taken).history

abbrev pub OutputStopped : Work → Leaving → List ℕ → Outside → Outside → Type 0
OutputStopped work Leaves taken before now =
    StoppedWriting work Leaves taken before now ⊎ StoppedEnding work Leaves taken before now

-- A file failed: that of the load that ends with the next byte. All lines before it were written, and the last line.
pub record FileFailed (work : Work) (Leaves : Leaving) (taken : List ℕ)
    (before now : Outside) : Type 0 where
  pub at : ℕ
  pub inside : at < length taken
  pub load : (work.so_far (take (at + 1) taken)).reads ≡ (work.so_far (take at taken)).reads + 1
  pub wrote : WritesLast before.output now.output (work.so_far (take at taken)).out file_line
  pub spent : SpentAs (work.so_far (take (at + 1) taken)) (world_of before) (world_of now)
  pub left : Leaves (work.so_far (take at taken)).history (work.so_far (take at taken)).history

-- The clock failed: in the commit of operations that ends with the next byte. All lines before it were written, and the last line. A crash leaves the history before it.
pub record ClockFailed (work : Work) (Leaves : Leaving) (taken : List ℕ)
    (before now : Outside) : Type 0 where
  pub at : ℕ
  pub inside : at < length taken
  pub commit : (work.so_far (take (at + 1) taken)).asks ≡ (work.so_far (take at taken)).asks + 1
  pub wrote : WritesLast before.output now.output (work.so_far (take at taken)).out clock_line
  pub spent : SpentAs (work.so_far (take (at + 1) taken)) (world_of before) (world_of now)
  pub left : Leaves (work.so_far (take at taken)).history (work.so_far (take at taken)).history

-- The disk failed: in the load of a file, or the commit of operations, that ends with the next byte. All lines before it were written, and the last line.
-- A crash leaves the history before the statement or after it.
pub record DiskFailed (work : Work) (Leaves : Leaving) (taken : List ℕ)
    (before now : Outside) : Type 0 where
  pub at : ℕ
  pub inside : at < length taken
  pub writing : spending (work.so_far (take (at + 1) taken))
      ≡ spending (work.so_far (take at taken)) + 1
  pub wrote : WritesLast before.output now.output (work.so_far (take at taken)).out disk_line
  pub spent : SpentAs (work.so_far (take (at + 1) taken)) (world_of before) (world_of now)
  pub left : Leaves (work.so_far (take at taken)).history
      (work.so_far (take (at + 1) taken)).history

-- Memory ran out in the statement that ends with the next byte, if one does: all lines before it were written, and the last line.
-- A crash leaves the history before the statement or after it, for which all was spent or nothing.
pub record OutOfMemory (work : Work) (Leaves : Leaving) (taken : List ℕ)
    (before now : Outside) : Type 0 where
  pub at : ℕ
  pub within : at ≤ length taken
  pub wrote : WritesLast before.output now.output (work.so_far (take at taken)).out memory_line
  pub spent : SpentAs (work.so_far (take at taken)) (world_of before) (world_of now)
      ⊎ SpentAs (work.so_far (take (at + 1) taken)) (world_of before) (world_of now)
  pub left : Leaves (work.so_far (take at taken)).history
      (work.so_far (take (at + 1) taken)).history

-- The input failed: all lines for what was taken were written, and the last line.
pub record InputFailed (work : Work) (Leaves : Leaving) (taken : List ℕ)
    (before now : Outside) : Type 0 where
  pub wrote : WritesLast before.output now.output (work.so_far taken).out input_line
  pub spent : SpentAs (work.so_far taken) (world_of before) (world_of now)
  pub left : Leaves (work.so_far taken).history (work.so_far taken).history

-- Too much came, after so many bytes before these: all lines for all but the last piece were written, and the last line.
pub record TooMuchCame (work : Work) (Leaves : Leaving) (count : ℕ) (taken : List ℕ)
    (before now : Outside) : Type 0 where
  pub at : ℕ
  pub within : count + at ≤ INPUT_MAX
  pub last_piece : length taken ≤ at + PIECE_MAX
  pub wrote : WritesLast before.output now.output (work.so_far (take at taken)).out too_long_line
  pub spent : SpentAs (work.so_far (take at taken)) (world_of before) (world_of now)
  pub left : Leaves (work.so_far (take at taken)).history (work.so_far (take at taken)).history

-- What a session did that took these bytes, after so many others, by how it ended.
abbrev pub Did : Work → Leaving → ℕ → List ℕ → Outside → Outside → End → Type 0
Did work Leaves count taken before now how.Done = AllDone work Leaves taken before now false
Did work Leaves count taken before now how.Refused = AllDone work Leaves taken before now true
Did work Leaves count taken before now how.Usage = ⊥
Did work Leaves count taken before now how.Input = InputFailed work Leaves taken before now
Did work Leaves count taken before now how.File = FileFailed work Leaves taken before now
Did work Leaves count taken before now how.Output = OutputStopped work Leaves taken before now
Did work Leaves count taken before now how.Disk = DiskFailed work Leaves taken before now
Did work Leaves count taken before now (how.NoStore at) = ⊥
Did work Leaves count taken before now how.Memory =
    OutputStopped work Leaves taken before now ⊎ OutOfMemory work Leaves taken before now
Did work Leaves count taken before now how.TooLong = TooMuchCame work Leaves count taken before now
Did work Leaves count taken before now how.Clock = ClockFailed work Leaves taken before now

-- ---- ends

-- The end as a result: all was done, or it is why not.
abbrev pub result_of : End → Result ⊤ End
result_of how.Done = Ok tt
result_of how.Refused = Ok tt
result_of how.Usage = Err how.Usage
result_of how.Input = Err how.Input
result_of how.File = Err how.File
result_of how.Output = Err how.Output
result_of how.Disk = Err how.Disk
result_of (how.NoStore at) = Err (how.NoStore at)
result_of how.Memory = Err how.Memory
result_of how.TooLong = Err how.TooLong
result_of how.Clock = Err how.Clock

-- The words fit, and what was to be opened is a store.
pub record IsRunning (end : End) : Type 0 where
  pub fitting : end ≡ how.Usage → ⊥
  pub opened : (at : ℕ) → end ≡ how.NoStore at → ⊥

-- A call that was to write one line did so, or the output stopped in it, or memory ran out before it: by how it ended.
abbrev pub SaidLine : List ℕ → Bool → KnownOutput → KnownOutput → End → Type 0
SaidLine line refused before now how.Done = (refused ≡ false) × Writes before now line
SaidLine line refused before now how.Refused = (refused ≡ true) × Writes before now line
SaidLine line refused before now how.Usage = ⊥
SaidLine line refused before now how.Input = ⊥
SaidLine line refused before now how.File = ⊥
SaidLine line refused before now how.Output = StopsIn before now line
SaidLine line refused before now how.Disk = ⊥
SaidLine line refused before now (how.NoStore at) = ⊥
SaidLine line refused before now how.Memory =
    StopsIn before now line ⊎ WritesLast before now [] memory_line
SaidLine line refused before now how.TooLong = ⊥
SaidLine line refused before now how.Clock = ⊥

-- ---- the work of a session

-- The same, after so many reads.
abbrev pub after_reads : ℕ → Report → Report
after_reads reads r = record r { reads = reads + r.reads }

-- The session s, for which so many files were read.
abbrev pub work_on : Terms → Session → ℕ → Work
work_on terms s reads =
    record {
      so_far = λ bytes. after_reads reads (job_so_far terms s bytes);
      whole = λ bytes. after_reads reads (job terms s bytes);
    }

-- ---- a session on a store

-- where the frames of a file end
abbrev pub frames_end : List ℕ → ℕ
frames_end c = walk_end HEADER_SIZE (frames_of (drop HEADER_SIZE c))

-- who makes the commits of a session: one curator, or each of several, whose texts begin with their names
pub record Committers : Type 0 where
  pub curator : List ℕ
  pub shared : Bool

-- one curator of this label
abbrev pub one_curator : List ℕ → Committers
one_curator label = record { curator = label; shared = false }

-- several, each by his name
abbrev pub several_curators : Committers
several_curators = record { curator = []; shared = true }

-- what their session is run on where the frames end so
abbrev pub terms_from : FrameEnd → Committers → Terms
terms_from ends who = record { ends = ends; curator = who.curator; shared = who.shared }

-- and in a file that stands for this history
abbrev pub store_terms : List Entry → List ℕ → Committers → Terms
store_terms h c who = terms_from (record { entries = h; at = frames_end c }) who

-- the last line of a call that ended before its session began
abbrev pub early_line : End → List ℕ
early_line how.Done = []
early_line how.Refused = []
early_line how.Usage = []
early_line how.Input = []
early_line how.File = []
early_line how.Output = []
early_line how.Disk = disk_line
early_line (how.NoStore at) = no_store_line at
early_line how.Memory = memory_line
early_line how.TooLong = []
early_line how.Clock = []

-- a call may end so before its session begins
abbrev pub IsEarly : End → Type 0
IsEarly end = (end ≡ how.Disk) ⊎ ((at : ℕ) × (end ≡ how.NoStore at)) ⊎ (end ≡ how.Memory)

-- No session was run: the store is none, or the disk failed, or memory ran out, and the last line was written. No input was taken, no file was read, and the clock wasn't asked.
pub record HasNotBegun (taken : List ℕ) (supply : Supply) (before now : Outside)
    (end : End) : Type 0 where
  pub early : IsEarly end
  pub none_taken : taken ≡ []
  pub none_told : supply ≡ no_supply
  pub files : now.files ≡ before.files
  pub clock : now.clock ≡ before.clock
  pub wrote : WritesLast before.output now.output [] (early_line end)

-- Their session on the history h, which the content c tells, to which this is told.
abbrev pub session_on : List Entry → List ℕ → Committers → Supply → Work
session_on h c who supply = work_on (store_terms h c who) (opened_session h supply) 0

-- It stands for what the work makes of a front of the bytes that were taken.
abbrev pub StandsForFront : Work → List ℕ → List ℕ → Type 0
StandsForFront work taken c =
    (k : ℕ) × (k ≤ length taken) × StandsFor (work.so_far (take k taken)).history c

-- The content stands for the history; meanwhile, and now, each file that a crash leaves is one that it could leave before, or stands for the history.
pub record LeavesHistory (h : List Entry) (v w : KnownDisk) : Type 0 where
  pub content : StandsFor h w.view.content
  pub later : v.view.moment ≤ w.view.moment
  pub since : (t : ℕ) (c : List ℕ) → t ≤ v.view.moment → w.view.since t c
      → v.view.since t c ⊎ StandsFor h c
  pub now : (c : List ℕ) → w.view.images c → v.view.images c ⊎ StandsFor h c

-- What was done on a store that stands for the history h, which the content tells at entry: its session, whatever would be told after this; or none was run, and the history is left.
pub record DidOn (h : List Entry) (who : Committers) (taken : List ℕ) (supply : Supply)
    (before now : Moment) (end : End) : Type 0 where
  pub did : (rest : Supply)
      → (HasNotBegun taken supply before.outside now.outside end
      × LeavesHistory h before.disk now.disk)
      ⊎ Did (session_on h before.disk.view.content who (followed_by supply rest))
      (left_on now.disk) 0 taken before.outside now.outside end
  pub later : before.disk.view.moment ≤ now.disk.view.moment
  pub crash : (rest : Supply)
      → ViewLeaves (StandsForFront
      (session_on h before.disk.view.content who (followed_by supply rest)) taken)
      before.disk.view now.disk.view

-- A call that ran a session on a store took these bytes of the input, all of them where all was done; more than a call takes exactly at that end.
-- What isn't opened is no store, and what is none isn't opened. What stands for a history has its session, to which the clock told some moments, and reads some files.
pub record RanOn (who : Committers) (before now : Outside) (v w : KnownDisk)
    (end : End) : Type 0 where
  pub taken : List ℕ
  pub took : Consumes before.input.left now.input.left taken
  pub counted : now.input.given ≡ before.input.given + length taken
  pub too_much : (end ≡ how.TooLong) ↔ (INPUT_MAX < length taken)
  pub supply : Supply
  pub supplied : IsSupplied before.files before.clock now.clock supply
  pub fitting : end ≡ how.Usage → ⊥
  pub ended : OnOk (result_of end) (IsAtEnd now.input.left)
  pub no_store : IsTrue v.known → (at : ℕ) → end ≡ how.NoStore at
      → HasNotBegun taken supply before now end × ViewRests v.view w.view
      × IsNot Opens v.view.content at
  pub unopened : IsTrue v.known → (Opens v.view.content → ⊥)
      → HasNotBegun taken supply before now end × ViewRests v.view w.view
  pub did : IsTrue v.known → (h : List Entry) → IsStore h v.view.content
      → DidOn h who taken supply (call_at v before) (call_at w now) end

-- ---- a new store

-- that the store is there
abbrev pub store_exists : List ℕ
store_exists = lines (reply.Refused of.Init why.StoreExists)

-- The line was written that says of the start tree why there is none, and a crash leaves what it could leave; or that the store was made, and a crash leaves it.
abbrev pub MadeFrom : Kind → FetchedFile → Outside → Outside → KnownDisk → KnownDisk → End → Type 0
MadeFrom k (withholds y) before now v w end =
    SaidLine (lines (reply.Refused of.Init y)) true before.output now.output end
MadeFrom k (gives t) before now v w end =
    SaidLine (lines (reply.Created k (len t))) false before.output now.output end
    × ((c : List ℕ) → w.view.images c → StandsFor (start k t ∷ []) c)

-- What a crash leaves meanwhile: what it could leave, and from some moment on a vacant file, or the store with its start alone.
abbrev pub LeavesStart : Kind → FetchedFile → View → View → Type 0
LeavesStart k (withholds y) v w = ViewRests v w
LeavesStart k (gives t) v w =
    ViewKeeps (IsOldOrVacantOrStart v k t) v w × SettlesInto (IsVacantOrStart k t) v w

-- The call ended before it was known what to say.
abbrev pub EndedEarly : Outside → Outside → End → Type 0
EndedEarly before now end = IsEarly end × WritesLast before.output now.output [] (early_line end)

-- The file of the start tree failed, which is all that was read, and the last line was written.
abbrev pub FileOfStartFailed : ℕ → Outside → Outside → End → Type 0
FileOfStartFailed reads before now end =
    (end ≡ how.File) × (reads ≡ 1) × WritesLast before.output now.output [] file_line
    × HasRead before.files now.files 1

-- A call that was to make a store read no input and asked no clock. Where there is one, it says so, and reads no file; else it made one from the start tree, whose file it read once, and found so.
pub record Made (k : Kind) (given : FileTable → FetchedFile) (reads : ℕ) (before now : Outside)
    (v w : KnownDisk) (end : End) : Type 0 where
  pub running : IsRunning end
  pub input : now.input ≡ before.input
  pub clock : now.clock ≡ before.clock
  pub table : FileTable
  pub found : IsFound before.files table
  pub exists : IsTrue v.known → (IsVacant v.view.content → ⊥)
      → (now.files ≡ before.files) × ViewRests v.view w.view
      × (SaidLine store_exists true before.output now.output end ⊎ EndedEarly before now end)
  pub did : IsTrue v.known → IsVacant v.view.content
      → FileOfStartFailed reads before now end ⊎ EndedEarly before now end
      ⊎ MadeFrom k (given table) before now v w end
  pub read : IsTrue v.known → IsVacant v.view.content
      → ReadsOrNone reads before.files now.files (result_of end)
  pub crash : IsTrue v.known → IsVacant v.view.content → LeavesStart k (given table) v.view w.view

-- ---- causes

-- The causes of an end in files, the clock and the output: counts of faults never fall; an end blames one of them only where its count rose, and each stayed where all was done. The files are what they were.
pub record WorldCauses (before now : World) (end : End) : Type 0 where
  pub same : now.files.found ≡ before.files.found
  pub files : Accounts (λ e. e ≡ how.File) before.files.faults now.files.faults (result_of end)
  pub clock : Accounts (λ e. e ≡ how.Clock) before.clock.faults now.clock.faults (result_of end)
  pub output : Accounts (λ e. e ≡ how.Output) before.output.faults now.output.faults (result_of end)

-- The same of the input too.
pub record HasCauses (before now : Outside) (end : End) : Type 0 where
  pub input : Accounts (λ e. e ≡ how.Input) before.input.faults now.input.faults (result_of end)
  pub world : WorldCauses (world_of before) (world_of now) end

-- And of the disk.
abbrev pub DiskCauses : KnownDisk → KnownDisk → End → Type 0
DiskCauses v w end = UsesDisk (λ e. e ≡ how.Disk) v w (result_of end)

-- No count of faults has risen.
pub record IsFaultless (before now : Outside) (v w : KnownDisk) : Type 0 where
  pub input : Rose before.input.faults now.input.faults → ⊥
  pub files : Rose before.files.faults now.files.faults → ⊥
  pub clock : Rose before.clock.faults now.clock.faults → ⊥
  pub output : Rose before.output.faults now.output.faults → ⊥
  pub disk : Rose v.counts.faults w.counts.faults → ⊥
