use Rattle.std.proofs.Common.{subst, sym}
use Rattle.std.proofs.lemmas.Result.{err_from_is_err_and}
use Rattle.std.specs.Prelude.{Ok}
use Rattle.std.specs.declared.option.Option.TheVariants.{Some}
use Rattle.cp_reply.specs.Session.{turn_of, not_read}
use Rattle.cp_workspace.specs.Supplies.{IsSupplied}
use Rattle.cp_workspace.specs.Texts.{SaysAs, setting, reading}
use Rattle.cp_workspace.specs.Files.{known_files}
use Rattle.cp_workspace.specs.Clocks.{known_clock}
use Rattle.cp_workspace.specs.Commits.{text_asks}
use Rattle.cp_workspace.specs.Loads.{text_reads}
use Rattle.cp_workspace.specs.Workspaces.{workspace_at, HasTurned, any_of_nobody}
use Rattle.cp_workspace.proofs.Spent.{spent-none, spends-nothing}
use Rattle.cp_workspace.proofs.Turning.{file-same, usable-kept, quiet-unread, turned-quiet, turned-failed}
use Rattle.cp_workspace.proofs.workspace.Workspace.run_text.Goals as goal

pub returns-in-Ok-clause-turned : goal.returns-in-Ok-clause-turned
returns-in-Ok-clause-turned g c = let reads = subst (SaysAs c.args.text.now) c.in-Ok.is c.in_ok-statement.ensures in rw reads.0 c.run.ensures.turned

pub returns-in-Ok-clause-spent : goal.returns-in-Ok-clause-spent
returns-in-Ok-clause-spent g c = let says = subst (SaysAs c.args.text.now) c.in-Ok.is c.in_ok-statement.ensures in rw says.0 c.run.ensures.spent

pub returns-in_ok-refuse-in-Err-clause-spent : goal.returns-in_ok-refuse-in-Err-clause-spent
returns-in_ok-refuse-in-Err-clause-spent g c = λ terms s z.
    let b = known_files g.F.Files c.args.files.now in
    let k = known_clock g.K.Clock c.args.clock.now in
    let says = subst (SaysAs c.args.text.now) c.in-Err.is c.in_ok-statement.ensures in rw says (spent-none b k)

pub returns-in_err-refuse-in-Err-clause-spent : goal.returns-in_err-refuse-in-Err-clause-spent
returns-in_err-refuse-in-Err-clause-spent g c = λ terms s z.
    let r = c.from_residual-in_err-refuse-in-Err.result in
    spends-nothing (text_reads s (reading c.args.text.now)) (text_asks s (reading c.args.text.now)) (known_files g.F.Files c.args.files.now) (known_clock g.K.Clock c.args.clock.now) r (err_from_is_err_and r c.from_residual-in_err-refuse-in-Err.ensures.1)

pub returns-in_err-statement-clause-spent : goal.returns-in_err-statement-clause-spent
returns-in_err-statement-clause-spent g c = λ terms s z.
    let r = c.from_residual.result in
    spends-nothing (text_reads s (reading c.args.text.now)) (text_asks s (reading c.args.text.now)) (known_files g.F.Files c.args.files.now) (known_clock g.K.Clock c.args.clock.now) r (err_from_is_err_and r c.from_residual.ensures.1)

pub returns-in_ok-refuse-in-Err-clause-turned : goal.returns-in_ok-refuse-in-Err-clause-turned
returns-in_ok-refuse-in-Err-clause-turned g c =
    let view = g.R.TreeRep.contents in
    let source_view = g.S.TreeRep.contents in
    let old = c.args.self.now in
    let new = c.refuse.new.self in
    let v = g.D.Disk.known c.args.disk.now in
    let b = known_files g.F.Files c.args.files.now in
    let clock = known_clock g.K.Clock c.args.clock.now in
    let reads = subst (SaysAs c.args.text.now) c.in-Err.is c.in_ok-statement.ensures in
    let r = Some c.in_ok-refuse-in-Err.field-0 in
    subst (λ x. HasTurned view source_view any_of_nobody (λ terms s. turn_of (setting terms) s x) (IsSupplied b clock clock) (workspace_at old v) (workspace_at new v) (Ok r)) (sym reads)
    (turned-quiet view source_view (λ terms s. not_read s c.in-Err.why) old new v any_of_nobody b clock (Ok r) (file-same old.db new.db c.in_ok-refuse-in-Err.ensures.same) (λ terms s. quiet-unread s c.in-Err.why)
    c.in_ok-refuse-in-Err.ensures.turned)

pub returns-in_ok-refuse-in-Err-clause-stays : goal.returns-in_ok-refuse-in-Err-clause-stays
returns-in_ok-refuse-in-Err-clause-stays g c =
    usable-kept g.R.TreeRep.contents g.S.TreeRep.contents c.args.self.now c.refuse.new.self (g.D.Disk.known c.args.disk.now) (file-same c.args.self.now.db c.refuse.new.self.db c.in_ok-refuse-in-Err.ensures.same) c.requires.usable c.in_ok-refuse-in-Err.ensures.stays

pub returns-in_err-refuse-in-Err-clause-turned : goal.returns-in_err-refuse-in-Err-clause-turned
returns-in_err-refuse-in-Err-clause-turned g c =
    let b = known_files g.F.Files c.args.files.now in
    let r = c.from_residual-in_err-refuse-in-Err.result in
    let p = err_from_is_err_and r c.from_residual-in_err-refuse-in-Err.ensures.1 in
    turned-failed g.R.TreeRep.contents g.S.TreeRep.contents (λ terms s. turn_of (setting terms) s (reading c.args.text.now)) c.args.self.now c.refuse.new.self (g.D.Disk.known c.args.disk.now) any_of_nobody b (known_clock g.K.Clock c.args.clock.now) r p.0 p.1

pub returns-in_err-statement-clause-turned : goal.returns-in_err-statement-clause-turned
returns-in_err-statement-clause-turned g c =
    let b = known_files g.F.Files c.args.files.now in
    let r = c.from_residual.result in
    let p = err_from_is_err_and r c.from_residual.ensures.1 in
    turned-failed g.R.TreeRep.contents g.S.TreeRep.contents (λ terms s. turn_of (setting terms) s (reading c.args.text.now)) c.args.self.now c.args.self.now (g.D.Disk.known c.args.disk.now) any_of_nobody b (known_clock g.K.Clock c.args.clock.now) r p.0 p.1
