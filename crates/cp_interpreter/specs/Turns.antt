-- What the steps of a session did to files, the clock, the output and the disk: for the program's own clauses.
use Rattle.cp_interpreter.specs.declared.limits.TheConstants.{INPUT_MAX}
use Rattle.std.specs.Prelude.{◌≡◌, ◌⊎◌, ◌↔◌, ℕ, ◌≤◌, ◌<◌, ◌+◌, List, [], length, take, Bool, true, false, IsTrue, ◌||◌, Result, Ok, Err, ⊤, OnOk}
use Rattle.std.specs.declared.option.Option.{Option}
use Rattle.std.specs.Io.KnownBytes.{Appends, Consumes, IsAtEnd}
use Rattle.cp_outside.specs.Causes.{Accounts}
use Rattle.cp_outside.specs.Sinks.{TakesLess}
use Rattle.cp_lang.specs.Cuts.{Scan}
use Rattle.cp_lang.specs.CutterState.{CutterState, held_of}
use Rattle.cp_lang.specs.declared.cut.Cut.{Cut}
use Rattle.cp_model.specs.Tree.{Tree}
use Rattle.cp_model.specs.History.{Entry}
use Rattle.cp_frame.specs.Stands.{StandsFor, StandsForEither}
use Rattle.cp_reply.specs.Session.{Supply, followed_by, after_read, session_after}
use Rattle.cp_interpreter.specs.Texts.{no_store_line, memory_line, file_line, disk_line, clock_line}
use Rattle.cp_workspace.specs.Texts.{setting}
use Rattle.cp_disk.specs.Counts.{UsesDisk}
use Rattle.cp_disk.specs.Views.{KnownDisk, Leaves}
use Rattle.cp_workspace.specs.Files.{UsesFiles}
use Rattle.cp_workspace.specs.Supplies.{IsSupplied}
use Rattle.cp_workspace.specs.Workspaces.{Stands, IsUsable, HasStamps, HoldsFile}
use Rattle.cp_workspace.specs.declared.workspace.Workspace.{Workspace}
use Rattle.cp_interpreter.specs.Job.{Report, report_of}
use Rattle.cp_interpreter.specs.Play.{Seen, Played, played_as, bytes_played, plays, closes, plays_all}
use Rattle.cp_interpreter.specs.Outside.{KnownOutput, World, Outside, Moment, world_of}
use Rattle.cp_interpreter.specs.Story.{Writes, WasRefused, StopsIn, TakesFrom, WritesLast, left_on, SpentAs, SpentNothing, spending, Work, Did, after_reads, IsRunning, result_of}
use Rattle.cp_interpreter.specs.Scripts.{next_script, task_of, ScriptFailed, DidScript}
use Rattle.cp_interpreter.specs.declared.interpreter.Interpreter.{Interpreter}
use Rattle.cp_interpreter.specs.declared.end.End.{End}
use Rattle.cp_interpreter.specs.declared.end.End.TheVariants as how
use Rattle.cp_interpreter.specs.declared.stop.Stop.{Stop}
use Rattle.cp_interpreter.specs.declared.stop.Stop.TheVariants.{Output, Full, File, Disk, NoStore, Clock, Memory}

-- ---- where the code stands

-- the cutter of a session that the code keeps
abbrev pub cutter_in : {R S : Type 0} → Interpreter R S → CutterState
cutter_in x = x.cutter

-- its workspace
abbrev pub workspace_in : {R S : Type 0} → Interpreter R S → Workspace R S
workspace_in x = x.workspace

-- whether it wrote a refusal
abbrev pub has_refused : {R S : Type 0} → Interpreter R S → Bool
has_refused x = x.refused

-- a session at one moment: as the code keeps it, what its statements reach, and its disk
pub record SessionMoment (R S : Type 0) : Type 1 where
  pub session : Interpreter R S
  pub world : World
  pub disk : KnownDisk

-- of its parts
abbrev pub session_at : {R S : Type 0} → Interpreter R S → KnownDisk → World → SessionMoment R S
session_at x v o = record { session = x; world = o; disk = v }

-- the code stands where the session does, and the disk, where it is known what that holds, holds its history
pub record Follows {R S : Type 0} (view : R → Tree) (source_view : S → Tree) (v : KnownDisk)
    (x : Interpreter R S) (s : Seen) : Type 0 where
  pub cutter : x.cutter ≡ held_of s.scan
  pub stands : Stands view source_view s.terms x.workspace s.session
  pub holds : IsTrue v.known → HoldsFile x.workspace s.session.history v

-- it may go on: the cutter stands in some text, and the workspace may be used on the disk, and commit
pub record MayGoOn {R S : Type 0} (view : R → Tree) (source_view : S → Tree) (v : KnownDisk)
    (x : Interpreter R S) : Type 0 where
  pub scan : Scan
  pub cutter : x.cutter ≡ held_of scan
  pub usable : IsUsable view source_view v x.workspace
  pub stamps : HasStamps x.workspace

-- ---- what the outside says of a step that may stop the session

-- it isn't that the file is no store
abbrev pub IsOpenedStop : Stop → Type 0
IsOpenedStop stop = (at : ℕ) → stop ≡ NoStore at → ⊥

-- The output refused a write exactly where it stopped the session.
abbrev pub StopRefusesWrite : KnownOutput → KnownOutput → Stop → Type 0
StopRefusesWrite before now Output = WasRefused before now
StopRefusesWrite before now Full = WasRefused before now
StopRefusesWrite before now File = now.refusals ≡ before.refusals
StopRefusesWrite before now Disk = now.refusals ≡ before.refusals
StopRefusesWrite before now (NoStore at) = now.refusals ≡ before.refusals
StopRefusesWrite before now Clock = now.refusals ≡ before.refusals
StopRefusesWrite before now Memory = now.refusals ≡ before.refusals

-- It refused none where nothing stopped.
abbrev pub RefusesWrite : {T : Type 0} → KnownOutput → KnownOutput → Result T Stop → Type 0
RefusesWrite before now (Ok x) = now.refusals ≡ before.refusals
RefusesWrite before now (Err stop) = StopRefusesWrite before now stop

-- The output is blamed only where its count rose, which stays where nothing stopped; and it refused a write exactly where it stopped the session.
pub record UsesOutput (before now : KnownOutput) (result : Result ⊤ Stop) : Type 0 where
  pub account : Accounts (λ e. e ≡ Output) before.faults now.faults result
  pub refuses : RefusesWrite before now result

-- Files, clock, output and disk.
pub record Uses (before now : World) (v w : KnownDisk) (result : Result ⊤ Stop) : Type 0 where
  pub files : UsesFiles (λ e. e ≡ File) before.files now.files result
  pub clock : Accounts (λ e. e ≡ Clock) before.clock.faults now.clock.faults result
  pub output : UsesOutput before.output now.output result
  pub disk : UsesDisk (λ e. e ≡ Disk) v w result

-- ---- what was written

-- Bytes were written; or the output stopped in them; or nothing was written.
abbrev pub SendsOut : List ℕ → Option (List ℕ) → Option (List ℕ) → Result ⊤ Stop → Type 0
SendsOut text before after (Ok x) = Appends before after text
SendsOut text before after (Err Output) = TakesLess before after text
SendsOut text before after (Err Full) = TakesLess before after text
SendsOut text before after (Err File) = ⊥
SendsOut text before after (Err Disk) = ⊥
SendsOut text before after (Err (NoStore at)) = ⊥
SendsOut text before after (Err Clock) = ⊥
SendsOut text before after (Err Memory) = Appends before after []

-- ---- what one cut does

-- what these cuts do
abbrev pub cuts_play : Seen → List Cut → Report
cuts_play s cuts = report_of s.terms s.session cuts

-- the session after these cuts
abbrev pub after_cuts : Seen → List Cut → Seen
after_cuts s cuts =
    record {
      scan = s.scan;
      terms = s.terms;
      session = session_after (setting s.terms) s.session cuts;
    }

-- what they play
abbrev pub cuts_played : Seen → List Cut → Played
cuts_played s cuts = played_as (cuts_play s cuts) (after_cuts s cuts)

-- What is reported was written and spent, the rest is still told after it, and the code follows what is seen then; or the output stopped in it, once its turn was made;
-- or nothing was written: a file fails that is read, the clock where it is asked, and the disk where one of these is; where memory ran out nothing was spent or all.
-- With a file or the clock the disk is as it was, else a crash leaves the history before or after.
abbrev pub Goes : {R S : Type 0} → (R → Tree) → (S → Tree) → Played → List Entry → Supply
    → SessionMoment R S → SessionMoment R S → Result ⊤ Stop → Type 0
Goes view source_view x h rest before now (Ok y) =
    Follows view source_view now.disk now.session x.next
    × (now.session.refused ≡ (before.session.refused || x.report.refused))
    × Appends before.world.output.contents now.world.output.contents x.report.out
    × SpentAs x.report before.world now.world
    × (x.next.session.supply ≡ rest)
Goes view source_view x h rest before now (Err Output) =
    TakesLess before.world.output.contents now.world.output.contents x.report.out
    × SpentAs x.report before.world now.world
    × left_on now.disk x.report.history x.report.history
Goes view source_view x h rest before now (Err Full) =
    TakesLess before.world.output.contents now.world.output.contents x.report.out
    × SpentAs x.report before.world now.world
    × left_on now.disk x.report.history x.report.history
Goes view source_view x h rest before now (Err File) =
    (x.report.reads ≡ 1) × Appends before.world.output.contents now.world.output.contents []
    × SpentAs x.report before.world now.world
    × left_on now.disk h h
Goes view source_view x h rest before now (Err Disk) =
    (spending x.report ≡ 1) × Appends before.world.output.contents now.world.output.contents []
    × SpentAs x.report before.world now.world
    × left_on now.disk h x.report.history
Goes view source_view x h rest before now (Err (NoStore at)) = ⊥
Goes view source_view x h rest before now (Err Clock) =
    (x.report.asks ≡ 1) × Appends before.world.output.contents now.world.output.contents []
    × SpentAs x.report before.world now.world
    × left_on now.disk h h
Goes view source_view x h rest before now (Err Memory) =
    Appends before.world.output.contents now.world.output.contents []
    × (SpentNothing before.world now.world ⊎ SpentAs x.report before.world now.world)
    × left_on now.disk h x.report.history

-- Cuts were run, as the sessions do that the code follows, with what was told and whatever is told after that.
pub record Went {R S : Type 0} (view : R → Tree) (source_view : S → Tree) (played : Seen → Played)
    (before now : SessionMoment R S) (result : Result ⊤ Stop) : Type 0 where
  pub supply : Supply
  pub supplied : IsSupplied before.world.files before.world.clock now.world.clock supply
  pub goes : (s : Seen) (rest : Supply) → Follows view source_view before.disk before.session s
      → s.session.supply ≡ followed_by supply rest
      → Goes view source_view (played s) s.session.history rest before now result
      × Leaves (StandsForEither s.session.history (played s).report.history) before.disk now.disk

-- ---- what the bytes of a piece do

-- the output stopped in what is written for the statement that ends with the byte at this position: all before it was written
pub record StopsWriting (s : Seen) (bytes : List ℕ) (before now : World)
    (w : KnownDisk) : Type 0 where
  pub at : ℕ
  pub inside : at < length bytes
  pub wrote : TakesFrom (length (plays s (take at bytes)).out) before.output.contents
      now.output.contents (plays s (take (at + 1) bytes)).out
  pub spent : SpentAs (plays s (take (at + 1) bytes)) before now
  pub left : left_on w (plays s (take (at + 1) bytes)).history
      (plays s (take (at + 1) bytes)).history

-- a file failed at the load that ends with the byte at this position: all before it was written
pub record StopsAtLoad (s : Seen) (bytes : List ℕ) (before now : World)
    (w : KnownDisk) : Type 0 where
  pub at : ℕ
  pub inside : at < length bytes
  pub load : (plays s (take (at + 1) bytes)).reads ≡ (plays s (take at bytes)).reads + 1
  pub wrote : Appends before.output.contents now.output.contents (plays s (take at bytes)).out
  pub spent : SpentAs (plays s (take (at + 1) bytes)) before now
  pub left : left_on w (plays s (take at bytes)).history (plays s (take at bytes)).history

-- the clock failed in the commit that ends with the byte at this position: all before it was written
pub record StopsAtCommit (s : Seen) (bytes : List ℕ) (before now : World)
    (w : KnownDisk) : Type 0 where
  pub at : ℕ
  pub inside : at < length bytes
  pub commit : (plays s (take (at + 1) bytes)).asks ≡ (plays s (take at bytes)).asks + 1
  pub wrote : Appends before.output.contents now.output.contents (plays s (take at bytes)).out
  pub spent : SpentAs (plays s (take (at + 1) bytes)) before now
  pub left : left_on w (plays s (take at bytes)).history (plays s (take at bytes)).history

-- the disk failed in the load or the commit that ends with the byte at this position: all before it was written
pub record StopsOnDisk (s : Seen) (bytes : List ℕ) (before now : World)
    (w : KnownDisk) : Type 0 where
  pub at : ℕ
  pub inside : at < length bytes
  pub writing : spending (plays s (take (at + 1) bytes)) ≡ spending (plays s (take at bytes)) + 1
  pub wrote : Appends before.output.contents now.output.contents (plays s (take at bytes)).out
  pub spent : SpentAs (plays s (take (at + 1) bytes)) before now
  pub left : left_on w (plays s (take at bytes)).history (plays s (take (at + 1) bytes)).history

-- memory ran out in the statement that ends with the byte at this position: all before it was written
pub record StopsInside (s : Seen) (bytes : List ℕ) (before now : World)
    (w : KnownDisk) : Type 0 where
  pub at : ℕ
  pub within : at ≤ length bytes
  pub wrote : Appends before.output.contents now.output.contents (plays s (take at bytes)).out
  pub spent : SpentAs (plays s (take at bytes)) before now
      ⊎ SpentAs (plays s (take (at + 1) bytes)) before now
  pub left : left_on w (plays s (take at bytes)).history (plays s (take (at + 1) bytes)).history

-- Bytes were played, or a front part of them where something stopped the session.
abbrev pub Fed : {R S : Type 0} → (R → Tree) → (S → Tree) → Seen → List ℕ → Supply
    → SessionMoment R S → SessionMoment R S → Result ⊤ Stop → Type 0
Fed view source_view s bytes rest before now (Ok x) =
    Goes view source_view (bytes_played s bytes) s.session.history rest before now (Ok x)
Fed view source_view s bytes rest before now (Err Output) =
    StopsWriting s bytes before.world now.world now.disk
Fed view source_view s bytes rest before now (Err Full) =
    StopsWriting s bytes before.world now.world now.disk
Fed view source_view s bytes rest before now (Err File) =
    StopsAtLoad s bytes before.world now.world now.disk
Fed view source_view s bytes rest before now (Err Disk) =
    StopsOnDisk s bytes before.world now.world now.disk
Fed view source_view s bytes rest before now (Err (NoStore at)) = ⊥
Fed view source_view s bytes rest before now (Err Clock) =
    StopsAtCommit s bytes before.world now.world now.disk
Fed view source_view s bytes rest before now (Err Memory) =
    StopsInside s bytes before.world now.world now.disk

-- Each file that a crash leaves meanwhile is one that it could leave before, or stands for the history after a front part of the bytes.
abbrev pub LeavesAlong : Seen → List ℕ → KnownDisk → KnownDisk → Type 0
LeavesAlong s bytes v w = IsTrue v.known → (v.view.moment ≤ w.view.moment)
    × ((t : ℕ) (c : List ℕ) → t ≤ v.view.moment → w.view.since t c → v.view.since t c
    ⊎ ((k : ℕ) × (k ≤ length bytes) × StandsFor (plays s (take k bytes)).history c))

-- A piece was fed, as to the sessions that the code follows, with what was told and whatever is told after that.
pub record WasFed {R S : Type 0} (view : R → Tree) (source_view : S → Tree) (bytes : List ℕ)
    (before now : SessionMoment R S) (result : Result ⊤ Stop) : Type 0 where
  pub supply : Supply
  pub supplied : IsSupplied before.world.files before.world.clock now.world.clock supply
  pub fed : (s : Seen) (rest : Supply) → Follows view source_view before.disk before.session s
      → s.session.supply ≡ followed_by supply rest
      → Fed view source_view s bytes rest before now result
      × LeavesAlong s bytes before.disk now.disk

-- ---- the input's end

-- The cut at the end of the input was run, and the code knows whether a refusal was written; or as with other lines. It reads no file, asks no clock, writes nothing to the disk and adds no entry.
abbrev pub RunsLast : {R S : Type 0} → Seen → SessionMoment R S → SessionMoment R S
    → Result ⊤ Stop → Type 0
RunsLast s before now (Ok x) =
    (now.session.refused ≡ (before.session.refused || (closes s).refused))
    × Appends before.world.output.contents now.world.output.contents (closes s).out
    × SpentNothing before.world now.world
    × left_on now.disk s.session.history s.session.history
RunsLast s before now (Err Output) =
    TakesLess before.world.output.contents now.world.output.contents (closes s).out
    × SpentNothing before.world now.world
    × left_on now.disk s.session.history s.session.history
RunsLast s before now (Err Full) =
    TakesLess before.world.output.contents now.world.output.contents (closes s).out
    × SpentNothing before.world now.world
    × left_on now.disk s.session.history s.session.history
RunsLast s before now (Err File) = ⊥
RunsLast s before now (Err Disk) = ⊥
RunsLast s before now (Err (NoStore at)) = ⊥
RunsLast s before now (Err Clock) = ⊥
RunsLast s before now (Err Memory) =
    Appends before.world.output.contents now.world.output.contents []
    × SpentNothing before.world now.world
    × left_on now.disk s.session.history s.session.history

-- The last cut was run, as the sessions do that the code follows, with what was told and whatever is told after that.
pub record RanLast {R S : Type 0} (view : R → Tree) (source_view : S → Tree)
    (before now : SessionMoment R S) (result : Result ⊤ Stop) : Type 0 where
  pub supply : Supply
  pub supplied : IsSupplied before.world.files before.world.clock now.world.clock supply
  pub runs : (s : Seen) (rest : Supply) → Follows view source_view before.disk before.session s
      → s.session.supply ≡ followed_by supply rest
      → RunsLast s before now result
      × Leaves (StandsForEither s.session.history s.session.history) before.disk now.disk

-- ---- how a session ends

-- the end of a call whose session stopped so
abbrev pub end_of_stop : Stop → End
end_of_stop Output = how.Output
end_of_stop Full = how.Memory
end_of_stop File = how.File
end_of_stop Disk = how.Disk
end_of_stop (NoStore at) = how.NoStore at
end_of_stop Clock = how.Clock
end_of_stop Memory = how.Memory

-- The last line of a stop: where the output stopped the session there is none.
abbrev pub TellsStop : KnownOutput → KnownOutput → Stop → Type 0
TellsStop before now Output = now ≡ before
TellsStop before now Full = now ≡ before
TellsStop before now File = WritesLast before now [] file_line
TellsStop before now Disk = WritesLast before now [] disk_line
TellsStop before now (NoStore at) = WritesLast before now [] (no_store_line at)
TellsStop before now Clock = WritesLast before now [] clock_line
TellsStop before now Memory = WritesLast before now [] memory_line

-- a report, where a refusal may have been written before
abbrev pub with_refusal : Bool → Report → Report
with_refusal refused r = record r { refused = refused || r.refused }

-- the ends of a session whose input has ended
pub record IsClosing (end : End) : Type 0 where
  pub running : IsRunning end
  pub input : end ≡ how.Input → ⊥
  pub too_much : end ≡ how.TooLong → ⊥

-- the work of a session that stands at s, and maybe wrote a refusal
abbrev pub work_from : Seen → Bool → Work
work_from s refused =
    record {
      so_far = λ bytes. plays s bytes;
      whole = λ bytes. with_refusal refused (plays_all s bytes);
    }

-- The session of x, after so many bytes, ran to this end.
pub record RanFrom {R S : Type 0} (view : R → Tree) (source_view : S → Tree) (x : Interpreter R S)
    (count : ℕ) (before now : Moment) (end : End) : Type 0 where
  pub taken : List ℕ
  pub took : Consumes before.outside.input.left now.outside.input.left taken
  pub counted : now.outside.input.given ≡ before.outside.input.given + length taken
  pub too_much : (end ≡ how.TooLong) ↔ (INPUT_MAX < count + length taken)
  pub supply : Supply
  pub supplied : IsSupplied before.outside.files before.outside.clock now.outside.clock supply
  pub running : IsRunning end
  pub ended : OnOk (result_of end) (IsAtEnd now.outside.input.left)
  pub did : (s : Seen) (rest : Supply) → Follows view source_view before.disk x s
      → s.session.supply ≡ followed_by supply rest
      → Did (work_from s x.refused) (left_on now.disk) count taken before.outside now.outside end
      × LeavesAlong s taken before.disk now.disk

-- The session is over.
abbrev pub Closes : Seen → Bool → World → World → KnownDisk → End → Type 0
Closes s refused before now w how.Done =
    ((refused || (closes s).refused) ≡ false) × Writes before.output now.output (closes s).out
    × SpentNothing before now × left_on w s.session.history s.session.history
Closes s refused before now w how.Refused =
    ((refused || (closes s).refused) ≡ true) × Writes before.output now.output (closes s).out
    × SpentNothing before now × left_on w s.session.history s.session.history
Closes s refused before now w how.Usage = ⊥
Closes s refused before now w how.Input = ⊥
Closes s refused before now w how.File = ⊥
Closes s refused before now w how.Output =
    StopsIn before.output now.output (closes s).out × SpentNothing before now
    × left_on w s.session.history s.session.history
Closes s refused before now w how.Disk = ⊥
Closes s refused before now w (how.NoStore at) = ⊥
Closes s refused before now w how.Memory =
    (StopsIn before.output now.output (closes s).out × SpentNothing before now
    × left_on w s.session.history s.session.history)
    ⊎ (WritesLast before.output now.output [] memory_line × SpentNothing before now
    × left_on w s.session.history s.session.history)
Closes s refused before now w how.TooLong = ⊥
Closes s refused before now w how.Clock = ⊥

-- The same, as to the sessions that the code follows, with what was told and whatever is told after that.
pub record HasClosed {R S : Type 0} (view : R → Tree) (source_view : S → Tree)
    (before now : SessionMoment R S) (end : End) : Type 0 where
  pub supply : Supply
  pub supplied : IsSupplied before.world.files before.world.clock now.world.clock supply
  pub closing : IsClosing end
  pub closed : (s : Seen) (rest : Supply) → Follows view source_view before.disk before.session s
      → s.session.supply ≡ followed_by supply rest
      → Closes s before.session.refused before.world now.world now.disk end
      × Leaves (StandsForEither s.session.history s.session.history) before.disk now.disk

-- The next bytes were taken and played.
pub record TookPiece {R S : Type 0} (view : R → Tree) (source_view : S → Tree)
    (old new : Interpreter R S) (count later : ℕ) (before now : Moment) : Type 0 where
  pub bytes : List ℕ
  pub took : Consumes before.outside.input.left now.outside.input.left bytes
  pub counted : now.outside.input.given ≡ before.outside.input.given + length bytes
  pub sum : later ≡ count + length bytes
  pub supply : Supply
  pub supplied : IsSupplied before.outside.files before.outside.clock now.outside.clock supply
  pub played : (s : Seen) (rest : Supply) → Follows view source_view before.disk old s
      → s.session.supply ≡ followed_by supply rest
      → Goes view source_view (bytes_played s bytes) s.session.history rest
      (session_at old before.disk (world_of before.outside))
      (session_at new now.disk (world_of now.outside)) (Ok tt)
      × LeavesAlong s bytes before.disk now.disk

-- Turns in which nothing failed: no count of faults rose, and the output refused nothing.
pub record IsSteady (before now : Outside) (v w : KnownDisk) : Type 0 where
  pub input : now.input.faults ≡ before.input.faults
  pub found : now.files.found ≡ before.files.found
  pub files : now.files.faults ≡ before.files.faults
  pub clock : now.clock.faults ≡ before.clock.faults
  pub output : now.output.faults ≡ before.output.faults
  pub refused : now.output.refusals ≡ before.output.refusals
  pub known : w.known ≡ v.known
  pub disk : w.counts.faults ≡ v.counts.faults

-- ---- scripts

-- the work of a session that stands at s, and maybe wrote a refusal, whose script has been read
abbrev pub script_from : Seen → Bool → Work
script_from s refused =
    record {
      so_far = λ bytes. after_reads 1 (plays s bytes);
      whole = λ bytes. after_reads 1 (with_refusal refused (plays_all s bytes));
    }

-- the session once its script has been read
abbrev pub script_read : Seen → Seen
script_read s = record { scan = s.scan; terms = s.terms; session = after_read s.session }

-- The script of the commit file with this name was run in the session, or there is none.
pub record RanScript {R S : Type 0} (view : R → Tree) (source_view : S → Tree) (file : List ℕ)
    (before now : SessionMoment R S) (end : End) : Type 0 where
  pub taken : List ℕ
  pub supply : Supply
  pub supplied : IsSupplied before.world.files before.world.clock now.world.clock supply
  pub closing : IsClosing end
  pub did : (s : Seen) (rest : Supply) → Follows view source_view before.disk before.session s
      → s.session.supply ≡ followed_by supply rest
      → (ScriptFailed s.session.history (left_on now.disk) taken supply before.world now.world end
      ⊎ DidScript (task_of (next_script file s.session.supply)
      (script_from (script_read s) before.session.refused))
      s.session.history (left_on now.disk) taken supply.moments before.world now.world end)
      × LeavesAlong (script_read s) taken before.disk now.disk
