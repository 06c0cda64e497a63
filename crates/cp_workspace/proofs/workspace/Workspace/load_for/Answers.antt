use Rattle.std.proofs.Common.{sym, subst, ◌∙◌, Ok}
use Rattle.cp_lang.specs.declared.syntax_tree.Load.{Load}
use Rattle.cp_lang.specs.declared.syntax_tree.Stmt.TheVariants as stmt
use Rattle.cp_reply.specs.declared.reply.Of.TheVariants as of
use Rattle.cp_reply.specs.declared.reply.Why.TheVariants as why
use Rattle.cp_reply.specs.declared.reply.Reply.TheVariants as reply
use Rattle.cp_reply.specs.Session.{no_supply, desk_in, says, turn_at_of, with_opened, closed}
use Rattle.cp_workspace.specs.Files.{known_files}
use Rattle.cp_workspace.specs.Spending.{Spends}
use Rattle.cp_workspace.specs.Supplies.{IsSupplied}
use Rattle.cp_workspace.specs.Texts.{setting}
use Rattle.cp_workspace.specs.Workspaces.{workspace_at, HasTurned, to_name, shared_by}
use Rattle.cp_workspace.proofs.Sharing.{over-any, usable-taken, usable-joined}
use Rattle.cp_workspace.proofs.SharedEntries.{of_one, stands-taken, turns-open, reads-open, turns-loaded_for, reads-idle}
use Rattle.cp_workspace.proofs.Spent.{spends-unread}
use Rattle.cp_workspace.proofs.Supplied.{supplied-none}
use Rattle.cp_workspace.proofs.Sharing.{joined-ok}
use Rattle.cp_workspace.proofs.workspace.Workspace.load_for.Goals as goal

pub load-requires-clause-usable : goal.load-requires-clause-usable
load-requires-clause-usable g c = usable-taken g.R.TreeRep.contents g.S.TreeRep.contents c.args.self.now c.args.curators.now (g.D.Disk.known c.args.disk.now) c.requires.alone c.requires.usable

pub returns-then-any_open-clause-turned : goal.returns-then-any_open-clause-turned
returns-then-any_open-clause-turned g c = λ k.
    let view = g.R.TreeRep.contents in
    let source_view = g.S.TreeRep.contents in
    let n = c.args.name.now in
    let old = shared_by c.args.self.now c.args.curators.now in
    let b = known_files g.F.Files c.args.files.now in
    let v = g.D.Disk.known c.args.disk.now in
    let T : Load → Type 0 = λ x. HasTurned view source_view (to_name n) (λ terms s. turn_at_of (setting terms) s (desk_in s n) (says (stmt.Load x))) (IsSupplied b k k) (workspace_at old v) (workspace_at old v) (Ok (reply.Refused of.Load why.TransactionOpen)) in
    rw (c.refused_load.ensures)
    (record {
      supply = no_supply;
      supplied = supplied-none b k;
      turns = λ terms s rest z supply.
          let x = c.any_open.ensures.open z.db.state.sources z.desks.desks z.desks.stands c.if-any_open.true in
          turns-open view source_view terms c.args.self.now c.args.curators.now s z n c.requires.usable.workspace.desks.0 c.args.load x.0 x.1 x.2 v rest supply;
    })

pub returns-then-any_open-clause-spent : goal.returns-then-any_open-clause-spent
returns-then-any_open-clause-spent g c = λ terms s z k.
    let x = c.any_open.ensures.open z.db.state.sources z.desks.desks z.desks.stands c.if-any_open.true in
    spends-unread _ (known_files g.F.Files c.args.files.now) k
    (reads-open g.R.TreeRep.contents g.S.TreeRep.contents terms c.args.self.now c.args.curators.now s z c.args.name.now c.requires.usable.workspace.desks.0 c.args.load x.0 x.1 x.2)

pub returns-clause-turned : goal.returns-clause-turned
returns-clause-turned g c = λ k.
    let view = g.R.TreeRep.contents in
    let source_view = g.S.TreeRep.contents in
    let none = c.requires.usable.workspace.desks.0 in
    let h = c.load.ensures.turned k in
    record {
      supply = h.supply;
      supplied = h.supplied;
      turns = λ terms s rest z supply.
          turns-loaded_for view source_view terms c.args.self.now c.args.curators.now s z c.args.name.now none c.args.load
          (c.any_open.ensures.idle z.db.state.sources z.desks.desks z.desks.stands c.if-any_open.false)
          (λ us are. c.any_open.ensures.loads z.db.state.sources us z.desks.desks z.desks.stands c.if-any_open.false are)
          rest c.load.new.self (g.D.Disk.known c.args.disk.now) (g.D.Disk.known c.load.new.disk) c.load.result
          (h.turns (of_one terms) (with_opened s closed) rest (stands-taken view source_view terms c.args.self.now c.args.curators.now s z none c.requires.alone) supply);
    }

pub returns-clause-spent : goal.returns-clause-spent
returns-clause-spent g c = λ terms s z k.
    let view = g.R.TreeRep.contents in
    let source_view = g.S.TreeRep.contents in
    let none = c.requires.usable.workspace.desks.0 in
    subst (λ m. Spends m 0 (known_files g.F.Files c.args.files.now) (known_files g.F.Files c.load.new.files) k k c.load.result)
    (sym (reads-idle view source_view terms c.args.self.now c.args.curators.now s z c.args.name.now none c.args.load
    (c.any_open.ensures.idle z.db.state.sources z.desks.desks z.desks.stands c.if-any_open.false)
    (λ us are. c.any_open.ensures.loads z.db.state.sources us z.desks.desks z.desks.stands c.if-any_open.false are)))
    (c.load.ensures.spent (of_one terms) (with_opened s closed) (stands-taken view source_view terms c.args.self.now c.args.curators.now s z none c.requires.alone) k)

pub returns-clause-stays : goal.returns-clause-stays
returns-clause-stays g c =
    let view = g.R.TreeRep.contents in
    let source_view = g.S.TreeRep.contents in
    let w = c.requires.usable.workspace in
    let s = w.stands in
    joined-ok c.load.result _
    (λ u. usable-joined view source_view c.load.new.self c.args.curators.now (g.D.Disk.known c.load.new.disk) (c.load.ensures.kept ∙ w.desks.0)
    (λ y z. over-any view c.args.curators.now s.0 y z.committed.sound.sources
    (λ all stands. c.any_open.ensures.idle s.0.sources all stands c.if-any_open.false)
    (λ all stands. c.any_open.ensures.loads s.0.sources y.sources all stands c.if-any_open.false z.committed.sound.sources)
    (w.desks.1 s.0 s.1)) u)
    c.load.ensures.stays
