-- How a session in memory begins.
use Rattle.std.specs.Prelude.{◌≡◌, Result, Ok, Err}
use Rattle.cp_model.specs.Tree.{Tree}
use Rattle.cp_model.specs.declared.kind.Kind.{Kind}
use Rattle.cp_reply.specs.declared.reply.Why.{Why}
use Rattle.cp_reply.specs.Session.{Supply, FetchedFile, gives, withholds}
use Rattle.cp_outside.specs.FileReads.{FileTable}
use Rattle.cp_disk.specs.Views.{KnownDisk}
use Rattle.cp_workspace.specs.Files.{KnownFiles, IsFound}
use Rattle.cp_scratch.specs.Sessions.{scratch_session, scratch_terms}
use Rattle.cp_interpreter.specs.Play.{begun}
use Rattle.cp_interpreter.specs.Turns.{Follows}
use Rattle.cp_interpreter.specs.declared.interpreter.Interpreter.{Interpreter}

-- the session on the tree that is given, or why none is
abbrev pub Begun : {R S : Type 0} → (R → Tree) → (S → Tree) → KnownDisk → Kind → FetchedFile → Result (Interpreter R S) Why → Type 0
Begun view source_view v k (gives t) (Ok x) = (supply : Supply) → Follows view source_view v x (begun (scratch_terms k t) (scratch_session k t supply))
Begun view source_view v k (gives t) (Err w) = ⊥
Begun view source_view v k (withholds y) (Ok x) = ⊥
Begun view source_view v k (withholds y) (Err w) = w ≡ y

-- the session on the tree of the files, which were found so
abbrev pub BegunFrom : {R S : Type 0} → (R → Tree) → (S → Tree) → KnownDisk → Kind → KnownFiles → (FileTable → FetchedFile) → Result (Interpreter R S) Why → Type 0
BegunFrom view source_view v k known given r = (t : FileTable) × IsFound known t × Begun view source_view v k (given t) r
