-- What a session in memory did from its start.
use Rattle.std.specs.Prelude.{ℕ, ◌+◌, List, [], true, ◌≡◌, ◌⊎◌, ◌↔◌, ◌<◌, length, OnOk}
use Rattle.cp_reply.specs.Lines.{lines}
use Rattle.cp_reply.specs.declared.reply.Of.TheVariants as of
use Rattle.cp_reply.specs.declared.reply.Why.{Why}
use Rattle.cp_reply.specs.declared.reply.Reply.TheVariants as reply
use Rattle.cp_reply.specs.Session.{Supply, no_supply, followed_by, FetchedFile, gives, withholds}
use Rattle.cp_outside.specs.FileReads.{FileTable}
use Rattle.cp_scratch.specs.Sessions.{scratch_session, scratch_terms}
use Rattle.cp_interpreter.specs.declared.limits.TheConstants.{INPUT_MAX}
use Rattle.std.specs.Io.KnownBytes.{Consumes, IsAtEnd}
use Rattle.cp_model.specs.declared.kind.Kind.{Kind}
use Rattle.cp_workspace.specs.Files.{HasRead, IsFound}
use Rattle.cp_workspace.specs.Supplies.{IsSupplied}
use Rattle.cp_interpreter.specs.Texts.{file_line, memory_line}
use Rattle.cp_interpreter.specs.Outside.{Outside}
use Rattle.cp_interpreter.specs.Story.{WritesLast, unseen, Did, result_of, IsRunning, SaidLine, work_on}
use Rattle.cp_interpreter.specs.declared.end.End.{End}
use Rattle.cp_interpreter.specs.declared.end.End.TheVariants as how

-- the lines of a start tree that is refused
abbrev pub refused_start : Why → List ℕ
refused_start w = lines (reply.Refused of.Scratch w)

-- No session was run, since the file of the start tree failed, or memory ran out. Nothing else was read, nothing of the input was taken, the clock wasn't asked, and the last line was written.
pub record HasNotStarted (reads : ℕ) (taken : List ℕ) (supply : Supply) (before now : Outside) (end : End) : Type 0 where
  pub ended : ((end ≡ how.File) × (reads ≡ 1) × WritesLast before.output now.output [] file_line × HasRead before.files now.files 1)
      ⊎ ((end ≡ how.Memory) × WritesLast before.output now.output [] memory_line × (HasRead before.files now.files 0 ⊎ HasRead before.files now.files reads))
  pub none_taken : taken ≡ []
  pub none_told : supply ≡ no_supply
  pub clock : now.clock ≡ before.clock

-- The session from the start tree, for which so many files are read, to which this is told and whatever comes after it; or the line that refuses it.
-- Where there is no start tree nothing of the input is taken, and the clock isn't asked.
abbrev pub DidFrom : Kind → FetchedFile → ℕ → Supply → List ℕ → Outside → Outside → End → Type 0
DidFrom k (gives t) reads supply taken before now end =
    (rest : Supply) → Did (work_on (scratch_terms k t) (scratch_session k t (followed_by supply rest)) reads) unseen 0 taken before now end
DidFrom k (withholds w) reads supply taken before now end =
    (taken ≡ []) × (supply ≡ no_supply) × SaidLine (refused_start w) true before.output now.output end × HasRead before.files now.files reads × (now.clock ≡ before.clock)

-- A call with words that fit took these bytes of the input: all of them where all was done, unless the start tree is refused; more than a call takes exactly at that end.
-- The start tree's file was found among these files, and the call did what the session from the start tree does, to which the clock told some moments, and reads some files.
pub record Ran (k : Kind) (given : FileTable → FetchedFile) (reads : ℕ) (before now : Outside) (end : End) : Type 0 where
  pub taken : List ℕ
  pub took : Consumes before.input.left now.input.left taken
  pub counted : now.input.given ≡ before.input.given + length taken
  pub too_much : (end ≡ how.TooLong) ↔ (INPUT_MAX < length taken)
  pub table : FileTable
  pub found : IsFound before.files table
  pub supply : Supply
  pub supplied : IsSupplied before.files before.clock now.clock supply
  pub running : IsRunning end
  pub ended : OnOk (result_of end) (IsAtEnd now.input.left ⊎ ((end ≡ how.Refused) × (taken ≡ [])))
  pub did : HasNotStarted reads taken supply before now end ⊎ DidFrom k (given table) reads supply taken before now end
