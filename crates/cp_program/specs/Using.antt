-- What is replied to who asks which places of a store use one.
use Rattle.std.specs.Prelude.{◌≡◌, ◌||◌, ℕ, Bool, true, false, List, is_some, Result, Ok, Err, ⊤}
use Rattle.std.specs.declared.option.Option.TheVariants.{Some}
use Rattle.cp_path.specs.declared.loc.Loc.{Loc}
use Rattle.cp_model.specs.Place.{label_eq, target}
use Rattle.cp_model.specs.Tree.{Tree, source}
use Rattle.cp_model.specs.History.{Entry, State, replay}
use Rattle.cp_disk.specs.Views.{KnownDisk}
use Rattle.cp_frame.specs.Stands.{IsStore, Opens}
use Rattle.cp_frame.specs.Stops.{IsNot}
use Rattle.cp_db.specs.Databases.{Stands}
use Rattle.cp_db.specs.declared.database.Db.{Db}
use Rattle.cp_uses.specs.Users.{AreUsers}
use Rattle.cp_reply.specs.declared.reply.Of.TheVariants as of
use Rattle.cp_reply.specs.declared.reply.Why.TheVariants as why
use Rattle.cp_reply.specs.declared.reply.Reply.{Reply}
use Rattle.cp_reply.specs.declared.reply.Reply.TheVariants as reply
use Rattle.cp_interpreter.specs.declared.stop.Stop.{Stop}
use Rattle.cp_interpreter.specs.declared.stop.Stop.TheVariants.{NoStore}

-- the name is that of T, or of a source that is loaded
abbrev pub has_database : State → List ℕ → Bool
has_database s name = label_eq name target || is_some (source s.sources name)

-- the reply has the places of T that use q: those whose trace passes through it or ends in it
pub record ListsUsers (s : State) (q : Loc) (y : Reply) : Type 0 where
  pub places : List Loc
  pub is : y ≡ reply.Uses q places
  pub users : AreUsers s q places

-- the reply has them where the database of q is there, and else says that there is no such source
abbrev pub TellsUsers : Bool → State → Loc → Reply → Type 0
TellsUsers true s q y = ListsUsers s q y
TellsUsers false s q y = y ≡ reply.Refused of.Statement (why.NoSource q.db)

-- the reply tells of the history for which the content stands which places use q
abbrev pub IsUsesOf : Loc → List ℕ → Reply → Type 0
IsUsesOf q c y = (h : List Entry) (s : State) → IsStore h c → replay h ≡ Some s → TellsUsers (has_database s q.db) s q y

-- a content that opens gives its database, which stands for the history of that; of one that doesn't the offset is told at which it stops
abbrev pub OpenedToRead : {R S : Type 0} → (R → Tree) → (S → Tree) → KnownDisk → Result (Db R S) Stop → Type 0
OpenedToRead view source_view v (Ok d) = Opens v.view.content × ((h : List Entry) → IsStore h v.view.content → Stands view source_view true d h)
OpenedToRead view source_view v (Err (NoStore at)) = IsNot Opens v.view.content at
OpenedToRead view source_view v (Err stop) = ⊤
