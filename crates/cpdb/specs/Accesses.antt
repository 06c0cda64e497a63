-- What a call may do with the file of its store.
use Rattle.std.specs.declared.option.Option.{Option}
use Rattle.std.specs.declared.option.Option.TheVariants.{None, Some}
use Rattle.cp_host.specs.declared.access.Access.{Access}
use Rattle.cp_host.specs.declared.access.Access.TheVariants.{Reads, Writes}
use Rattle.cp_words.specs.declared.command.Command.{Command}
use Rattle.cp_words.specs.declared.command.Command.TheVariants as words

-- What a command may do with its store; those that have none make no call on a disk.
abbrev pub access_of : Command → Access
access_of (words.Scratch k from) = Reads
access_of (words.Init k from) = Writes
access_of (words.Run curator) = Writes
access_of (words.Commit file curator) = Writes
access_of (words.Load l) = Writes
access_of (words.Ask q) = Reads
access_of (words.Show p) = Reads
access_of (words.Generate seed count k) = Reads
access_of words.Log = Reads
access_of words.Verify = Reads
access_of (words.At tid asked) = Reads
access_of words.Archive = Reads
access_of words.Share = Writes
access_of (words.Uses q) = Reads

-- What words may do with a store; those that fit no row make no call on a disk.
abbrev pub access_for : Option Command → Access
access_for None = Reads
access_for (Some command) = access_of command
