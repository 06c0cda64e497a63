-- One call of the program: its words, what was done for them, and how it ended.
use Rattle.cp_interpreter.specs.declared.limits.TheConstants.{INPUT_MAX}
use Rattle.std.specs.Prelude.{◌≡◌, ◌⊎◌, ℕ, ◌≤◌, ◌+◌, [], false, IsTrue, ⊤}
use Rattle.std.specs.declared.option.Option.{Option}
use Rattle.std.specs.declared.option.Option.TheVariants.{None, Some}
use Rattle.cp_disk.specs.Views.{ViewRests, KnownDisk}
use Rattle.cp_frame.specs.Stands.{Opens, OpensAndReplays}
use Rattle.cp_lang.specs.declared.syntax_tree.Stmt.TheVariants as stmt
use Rattle.cp_words.specs.declared.command.Command.{Command}
use Rattle.cp_words.specs.declared.command.Command.TheVariants as words
use Rattle.cp_program.specs.Texts.{usage_text}
use Rattle.cp_interpreter.specs.Texts.{memory_line}
use Rattle.cp_scratch.specs.Starts.{start_given, start_reads}
use Rattle.cp_program.specs.InMemory.{Ran}
use Rattle.cp_interpreter.specs.Outside.{KnownInput, Outside}
use Rattle.cp_interpreter.specs.Ends.{code_of}
use Rattle.cp_interpreter.specs.Story.{WritesLast, RanOn, one_curator, several_curators, Made, HasCauses, DiskCauses, IsFaultless}
use Rattle.cp_interpreter.specs.Alone.{Loaded}
use Rattle.cp_program.specs.Answering.{Answered, Generated, IsAnswerTo, IsLogOf, IsVerdictOn}
use Rattle.cp_program.specs.Using.{IsUsesOf}
use Rattle.cp_program.specs.Versions.{IsAnswerAt, IsArchiveOf}
use Rattle.cp_interpreter.specs.Scripts.{Committed}
use Rattle.cp_interpreter.specs.Replied.{WroteReplies}
use Rattle.cp_program.specs.FileVersions.{VersionLeft}
use Rattle.cp_interpreter.specs.declared.end.End.{End}
use Rattle.cp_interpreter.specs.declared.end.End.TheVariants as how

-- ---- what a call did

-- With words that fit no row the usage was written, and nothing else was done.
pub record GaveUsage (before now : Outside) (end : End) : Type 0 where
  pub usage : end ≡ how.Usage
  pub input : now.input ≡ before.input
  pub files : now.files ≡ before.files
  pub clock : now.clock ≡ before.clock
  pub wrote : WritesLast before.output now.output [] usage_text

-- Memory ran out while the words were read: the last line was written, and nothing else was done.
pub record RanOut (before now : Outside) (v w : KnownDisk) (end : End) : Type 0 where
  pub memory : end ≡ how.Memory
  pub input : now.input ≡ before.input
  pub files : now.files ≡ before.files
  pub clock : now.clock ≡ before.clock
  pub wrote : WritesLast before.output now.output [] memory_line
  pub rests : ViewRests v.view w.view

-- What was done for a command. A session in memory never ends since the disk failed, nor a new store since too much came.
abbrev pub DidCommand : Command → Outside → Outside → KnownDisk → KnownDisk → End → Type 0
DidCommand (words.Scratch k from) before now v w end = Ran k (λ files. start_given files from) (start_reads from) before now end × (end ≡ how.Disk → ⊥)
DidCommand (words.Init k from) before now v w end = Made k (λ files. start_given files from) (start_reads from) before now v w end × (end ≡ how.TooLong → ⊥)
DidCommand (words.Run curator) before now v w end = RanOn (one_curator curator) before now v w end
DidCommand (words.Commit file curator) before now v w end = Committed file curator before now v w end
DidCommand (words.Load l) before now v w end = Loaded l before now v w end
DidCommand (words.Ask q) before now v w end = Answered Opens (IsAnswerTo (stmt.Ask q)) before now v w end
DidCommand (words.Show p) before now v w end = Answered Opens (IsAnswerTo (stmt.Show p)) before now v w end
DidCommand (words.Generate seed count k) before now v w end = Generated k seed count before now end
DidCommand words.Log before now v w end = Answered OpensAndReplays IsLogOf before now v w end
DidCommand words.Verify before now v w end = Answered OpensAndReplays IsVerdictOn before now v w end
DidCommand (words.At tid asked) before now v w end = Answered OpensAndReplays (IsAnswerAt tid asked) before now v w end
DidCommand words.Archive before now v w end = Answered OpensAndReplays IsArchiveOf before now v w end
DidCommand words.Share before now v w end = RanOn several_curators before now v w end
DidCommand (words.Uses q) before now v w end = Answered Opens (IsUsesOf q) before now v w end

-- What was done for the words: for their command, or, where they fit no row, the usage was given.
abbrev pub RanAs : Option Command → Outside → Outside → KnownDisk → KnownDisk → End → Type 0
RanAs None before now v w end = GaveUsage before now end
RanAs (Some x) before now v w end = DidCommand x before now v w end

-- The command asks for nothing of the disk.
abbrev pub LeavesDisk : Command → Type 0
LeavesDisk (words.Scratch k from) = ⊤
LeavesDisk (words.Init k from) = ⊥
LeavesDisk (words.Run curator) = ⊥
LeavesDisk (words.Commit file curator) = ⊥
LeavesDisk (words.Load l) = ⊥
LeavesDisk (words.Ask q) = ⊥
LeavesDisk (words.Show p) = ⊥
LeavesDisk (words.Generate seed count k) = ⊤
LeavesDisk words.Log = ⊥
LeavesDisk words.Verify = ⊥
LeavesDisk (words.At tid asked) = ⊥
LeavesDisk words.Archive = ⊥
LeavesDisk words.Share = ⊥
LeavesDisk (words.Uses q) = ⊥

-- The words ask for nothing of the disk.
abbrev pub NeedsNoDisk : Option Command → Type 0
NeedsNoDisk None = ⊤
NeedsNoDisk (Some x) = LeavesDisk x

-- ---- completeness

-- At most as many bytes as a call takes came.
abbrev pub IsShort : KnownInput → KnownInput → Type 0
IsShort before now = now.given ≤ before.given + INPUT_MAX

-- The disk is known to hold a store that opens.
abbrev pub HasOpenStore : KnownDisk → Type 0
HasOpenStore v = IsTrue v.known × Opens v.view.content

-- The disk is known to hold a store that opens, and whose frames all tell a history.
abbrev pub HasWholeStore : KnownDisk → Type 0
HasWholeStore v = IsTrue v.known × OpensAndReplays v.view.content

-- The command needs no store, or there is one from which it works: `log`, `verify`, `at` and `archive` read the whole file.
abbrev pub HasItsStore : Command → KnownDisk → Type 0
HasItsStore (words.Scratch k from) v = ⊤
HasItsStore (words.Init k from) v = ⊤
HasItsStore (words.Run curator) v = HasOpenStore v
HasItsStore (words.Commit file curator) v = HasOpenStore v
HasItsStore (words.Load l) v = HasOpenStore v
HasItsStore (words.Ask q) v = HasOpenStore v
HasItsStore (words.Show p) v = HasOpenStore v
HasItsStore (words.Generate seed count k) v = ⊤
HasItsStore words.Log v = HasWholeStore v
HasItsStore words.Verify v = HasWholeStore v
HasItsStore (words.At tid asked) v = HasWholeStore v
HasItsStore words.Archive v = HasWholeStore v
HasItsStore words.Share v = HasOpenStore v
HasItsStore (words.Uses q) v = HasOpenStore v

-- What the words ask for needs no store, or the disk is known to hold one that opens.
abbrev pub HasStore : Option Command → KnownDisk → Type 0
HasStore None v = ⊥
HasStore (Some x) v = HasItsStore x v

-- One call of the program: it ended in some way, whose number the status is, and what it did and the causes are those of this end.
pub record Called (asked : Option Command) (before now : Outside) (v w : KnownDisk) (code : ℕ) : Type 0 where
  pub end : End
  pub number : code ≡ code_of end
  pub ran : RanOut before now v w end ⊎ RanAs asked before now v w end
  -- where the words fit, the store opens if there is to be one, nothing failed and not too much comes, the end is an answer, or memory ran out
  pub complete : HasStore asked v → IsShort before.input now.input → IsFaultless before now v w → (end ≡ how.Done) ⊎ (end ≡ how.Refused) ⊎ (end ≡ how.Memory)
  pub causes : HasCauses before now end
  pub disk : DiskCauses v w end
  -- all that was written are the lines of replies, of which one is a refusal exactly where the end says so, and the last line of an end that is no answer; or the usage
  pub replied : (end ≡ how.Usage → ⊥) → WroteReplies false before.output now.output end
  -- the version of the file
  pub file : IsTrue v.known → VersionLeft asked before now v w end
