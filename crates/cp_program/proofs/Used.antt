-- What a store replies to who asks which places use one.
use Rattle.std.proofs.Common.{◌≡◌, true, Ok, sym, subst, ◌∙◌}
use Rattle.std.specs.Prelude.{List}
use Rattle.std.proofs.lemmas.Option.{same_Some}
use Rattle.cp_path.specs.declared.loc.Loc.{Loc}
use Rattle.cp_model.specs.Tree.{Tree}
use Rattle.cp_model.specs.History.{Entry, State}
use Rattle.cp_disk.specs.Views.{KnownDisk, View}
use Rattle.cp_frame.specs.Stands.{Opens}
use Rattle.cp_db.specs.Databases.{Stands}
use Rattle.cp_db.specs.Opening.{HasOpened}
use Rattle.cp_db.specs.declared.database.Db.{Db}
use Rattle.cp_reply.specs.declared.reply.Reply.{Reply}
use Rattle.cp_interpreter.specs.Begins.{AnsweredAs}
use Rattle.cp_program.specs.Using.{IsUsesOf, OpenedToRead, TellsUsers, has_database}

-- a database that was opened
pub opened-database : {R S : Type 0} (view : R → Tree) (source_view : S → Tree) (v : KnownDisk) (w : View) (d : Db R S) → HasOpened view source_view d v.view.content w → OpenedToRead view source_view v (Ok d)
opened-database view source_view v w d o = (o.opens, λ h store. (o.stands true h store.told).0)

-- the database was asked
pub answered-uses : {R S : Type 0} (view : R → Tree) (source_view : S → Tree) (v : KnownDisk) (d : Db R S) (q : Loc) (y : Reply) → OpenedToRead view source_view v (Ok d)
    → ((h : List Entry) (z : Stands view source_view true d h) → TellsUsers (has_database z.state q.db) z.state q y)
    → AnsweredAs Opens (IsUsesOf q) v (Ok y)
answered-uses view source_view v d q y o f = (
  o.0,
  λ h s store replayed. (
      let z = o.1 h store in
      let same : z.state ≡ s = same_Some z.state s (sym z.led.replayed ∙ replayed) in
      subst (λ (t : State). TellsUsers (has_database t q.db) t q y) same (f h z)
      ),
)
