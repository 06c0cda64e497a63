-- What a call leaves of the version of its file, by its command.
use Rattle.std.specs.Prelude.{◌≡◌, ◌⊎◌, []}
use Rattle.std.specs.declared.option.Option.{Option}
use Rattle.std.specs.declared.option.Option.TheVariants.{None, Some}
use Rattle.cp_disk.specs.Views.{KnownDisk, ViewRests}
use Rattle.cp_journal.specs.NewStores.{IsVacant}
use Rattle.cp_db.specs.FileVersions.{file_version, newest_version, HasVersion, HasVersionOrNewest, HasFileVersion, IsVacantOrNewest, KeepsFileVersion, LeavesFiles}
use Rattle.cp_reply.specs.Session.{no_supply}
use Rattle.cp_words.specs.declared.command.Command.{Command}
use Rattle.cp_words.specs.declared.command.Command.TheVariants as words
use Rattle.cp_interpreter.specs.Outside.{Outside}
use Rattle.cp_interpreter.specs.Story.{HasNotBegun}
use Rattle.cp_interpreter.specs.declared.end.End.{End}
use Rattle.cp_interpreter.specs.declared.end.End.TheVariants as how

-- A call that was to make a store: where it did, the file is of the newest version, and where it refused to, the file is as it was.
-- However it ended, a file that isn't vacant is as it was, and one that was is vacant or of the newest version, also after a crash.
pub record MakesNewest (v w : KnownDisk) (end : End) : Type 0 where
  pub done : end ≡ how.Done → HasFileVersion newest_version w.view
  pub refused : end ≡ how.Refused → ViewRests v.view w.view
  pub exists : (IsVacant v.view.content → ⊥) → ViewRests v.view w.view
  pub vacant : IsVacant v.view.content → LeavesFiles IsVacantOrNewest v.view w.view

-- The session wasn't begun, and a file of the newest version is as it was.
abbrev pub IsUnbegun : Outside → Outside → KnownDisk → KnownDisk → End → Type 0
IsUnbegun before now v w end = HasNotBegun [] no_supply before now end × (HasVersion newest_version v.view.content → ViewRests v.view w.view)

-- A call that may commit: once its session has begun the file is of the newest version, whether anything is committed or not; and one that was of the newest stays so.
-- Also after a crash the file is of the version that it had, or of the newest.
pub record RunsOnNewest (before now : Outside) (v w : KnownDisk) (end : End) : Type 0 where
  pub leaves : LeavesFiles (HasVersionOrNewest (file_version v.view.content)) v.view w.view
  pub begun : HasFileVersion newest_version w.view ⊎ IsUnbegun before now v w end

-- What the command leaves of the version: all but these keep it.
abbrev pub LeavesVersion : Command → Outside → Outside → KnownDisk → KnownDisk → End → Type 0
LeavesVersion (words.Init k from) before now v w end = MakesNewest v w end
LeavesVersion (words.Run curator) before now v w end = RunsOnNewest before now v w end
LeavesVersion (words.Commit file curator) before now v w end = RunsOnNewest before now v w end
LeavesVersion words.Share before now v w end = RunsOnNewest before now v w end
LeavesVersion x before now v w end = KeepsFileVersion v.view w.view

-- What the words leave of it: where they fit no row, it stays.
abbrev pub VersionLeft : Option Command → Outside → Outside → KnownDisk → KnownDisk → End → Type 0
VersionLeft None before now v w end = KeepsFileVersion v.view w.view
VersionLeft (Some x) before now v w end = LeavesVersion x before now v w end
