-- Calls that run the statements of a file on a store, and commit them.
use Rattle.std.specs.Prelude.{◌≡◌, ◌⊎◌, ℕ, ◌≤◌, List, [], ◌++◌, codes, length, nat_lt, if◌then◌else◌, true, IsTrue, Result, Ok, Err, OnOk}
use Rattle.std.specs.declared.option.Option.{Option}
use Rattle.std.specs.declared.option.Option.TheVariants.{None, Some}
use Rattle.cp_model.specs.History.{Entry}
use Rattle.cp_disk.specs.Views.{ViewRests, KnownDisk, ViewLeaves}
use Rattle.cp_frame.specs.Stands.{IsStore, Opens}
use Rattle.cp_frame.specs.Stops.{IsNot}
use Rattle.cp_reply.specs.Lines.{lines}
use Rattle.cp_reply.specs.declared.reply.Of.TheVariants as of
use Rattle.cp_reply.specs.declared.reply.Why.{Why}
use Rattle.cp_reply.specs.declared.reply.Why.TheVariants as why
use Rattle.cp_reply.specs.declared.reply.Reply.TheVariants as reply
use Rattle.cp_reply.specs.Session.{Supply, no_supply, followed_by, next_table, after_read}
use Rattle.cp_workspace.specs.declared.limits.TheConstants.{FILE_MAX}
use Rattle.cp_workspace.specs.Files.{HasRead}
use Rattle.cp_workspace.specs.Supplies.{IsSupplied}
use Rattle.cp_workspace.specs.Workspaces.{opened_session}
use Rattle.cp_interpreter.specs.Texts.{file_line, memory_line}
use Rattle.cp_interpreter.specs.Outside.{World, Outside, Moment, call_at, world_of}
use Rattle.cp_interpreter.specs.Story.{WritesLast, Leaving, left_on, Work, Did, result_of, work_on, one_curator, store_terms, SaidLine, HasNotBegun, LeavesHistory, StandsForFront}
use Rattle.cp_interpreter.specs.declared.end.End.{End}
use Rattle.cp_interpreter.specs.declared.end.End.TheVariants as how

-- ---- scripts

-- what is run after the file's own bytes
abbrev pub commit_text : List ℕ
commit_text = codes "\ncommit;"

-- the script of a commit file, which may be none, or why there is no script
abbrev pub script_of : Option (List ℕ) → Result (List ℕ) Why
script_of None = Err why.NoFile
script_of (Some bytes) =
    if nat_lt FILE_MAX (length bytes) then Err why.FileTooLong else Ok (bytes ++ commit_text)

-- a script that is read as an input: what is left of it, and how many of its bytes were given
pub record ScriptState : Type 0 where
  pub left : List ℕ
  pub given : ℕ

-- the line of a commit file that is refused
abbrev pub refused_script : Why → List ℕ
refused_script w = lines (reply.Refused of.Commit w)

-- all that a session reaches, where a script of which this is left stands in for the input
abbrev pub reading : List ℕ → World → Outside
reading left o =
    record {
      input = record { left = Some left; given = 0; faults = 0 };
      files = o.files;
      clock = o.clock;
      output = o.output;
    }

-- The session took these bytes of the script, all of them where all was done, and did what a session over an input does.
pub record PlayedScript (work : Work) (Leaves : Leaving) (script taken : List ℕ)
    (before now : World) (end : End) : Type 0 where
  pub left : List ℕ
  pub parts : script ≡ taken ++ left
  pub whole : OnOk (result_of end) (left ≡ [])
  pub did : Did work Leaves 0 taken (reading script before) (reading left now) end

-- ---- commits from files

-- No session was run since the commit file failed, or memory ran out while it was read, which is all that was read; the clock wasn't asked, and a crash leaves the history.
pub record ScriptFailed (h : List Entry) (Leaves : Leaving) (taken : List ℕ) (supply : Supply)
    (before now : World) (end : End) : Type 0 where
  pub ended : ((end ≡ how.File) × WritesLast before.output now.output [] file_line)
      ⊎ ((end ≡ how.Memory) × WritesLast before.output now.output [] memory_line)
  pub read : HasRead before.files now.files 1
  pub clock : now.clock ≡ before.clock
  pub none_taken : taken ≡ []
  pub none_told : supply ≡ no_supply
  pub left : Leaves h h

-- a script, and what a session does for it
pub record Task : Type 0 where
  pub script : List ℕ
  pub work : Work

-- the task of a script, if there is one, else why there is none
abbrev pub task_of : Result (List ℕ) Why → Work → Result Task Why
task_of (Ok script) work = Ok (record { script = script; work = work })
task_of (Err w) work = Err w

-- What the script did, if there is one; else the line was written that says why there is none, and nothing was run, nor the clock asked.
abbrev pub DidScript : Result Task Why → List Entry → Leaving → List ℕ → List ℕ → World
    → World → End → Type 0
DidScript (Ok task) h Leaves taken moments before now end =
    PlayedScript task.work Leaves task.script taken before now end
DidScript (Err w) h Leaves taken moments before now end =
    (taken ≡ []) × (moments ≡ []) × SaidLine (refused_script w) true before.output now.output end
    × HasRead before.files now.files 1 × (now.clock ≡ before.clock) × Leaves h h

-- the script of the commit file with this name, which is the next file that is read
abbrev pub next_script : List ℕ → Supply → Result (List ℕ) Why
next_script file supply = script_of (next_table supply.tables file)

-- The session on the history h, which the content c tells, to which this is told; its commit file is the first that was read.
abbrev pub script_session : List Entry → List ℕ → List ℕ → Supply → Work
script_session h c curator supply =
    work_on (store_terms h c (one_curator curator)) (after_read (opened_session h supply)) 1

-- What was done on a store that stands for the history h, which the content tells at entry, whatever would be told after this.
pub record DidCommit (h : List Entry) (file curator taken : List ℕ) (supply : Supply)
    (before now : Moment) (end : End) : Type 0 where
  pub did : (rest : Supply)
      → (HasNotBegun taken supply before.outside now.outside end
      × LeavesHistory h before.disk now.disk)
      ⊎ ScriptFailed h (left_on now.disk) taken supply (world_of before.outside)
      (world_of now.outside) end
      ⊎ DidScript (task_of (next_script file (followed_by supply rest))
      (script_session h before.disk.view.content curator (followed_by supply rest)))
      h (left_on now.disk) taken supply.moments (world_of before.outside) (world_of now.outside) end
  pub later : before.disk.view.moment ≤ now.disk.view.moment
  pub crash : (rest : Supply)
      → ViewLeaves (StandsForFront
      (script_session h before.disk.view.content curator (followed_by supply rest)) taken)
      before.disk.view now.disk.view

-- A call that was to run a commit file on a store took no input; the store is opened before the file is read.
-- What isn't opened is no store, and what is none isn't opened. What stands for a history has the session over the script, to which the clock told some moments, and reads some files.
pub record Committed (file curator : List ℕ) (before now : Outside) (v w : KnownDisk)
    (end : End) : Type 0 where
  pub input : now.input ≡ before.input
  pub taken : List ℕ
  pub supply : Supply
  pub supplied : IsSupplied before.files before.clock now.clock supply
  pub fitting : end ≡ how.Usage → ⊥
  pub fed : end ≡ how.Input → ⊥
  pub short : end ≡ how.TooLong → ⊥
  pub no_store : IsTrue v.known → (at : ℕ) → end ≡ how.NoStore at
      → HasNotBegun taken supply before now end × ViewRests v.view w.view
      × IsNot Opens v.view.content at
  pub unopened : IsTrue v.known → (Opens v.view.content → ⊥)
      → HasNotBegun taken supply before now end × ViewRests v.view w.view
  pub did : IsTrue v.known → (h : List Entry) → IsStore h v.view.content
      → DidCommit h file curator taken supply (call_at v before) (call_at w now) end
