use Rattle.std.proofs.Common.{subst, sym, refl}
use Rattle.std.proofs.lemmas.Result.{err_from_is_err_and}
use Rattle.std.specs.Prelude.{Ok}
use Rattle.std.specs.declared.option.Option.TheVariants.{Some}
use Rattle.cp_reply.specs.Session.{desk_in, seated, turn_at_of, not_read, unread}
use Rattle.cp_workspace.specs.Supplies.{IsSupplied}
use Rattle.cp_workspace.specs.Texts.{SaysAs, setting, reading}
use Rattle.cp_workspace.specs.Files.{known_files}
use Rattle.cp_workspace.specs.Clocks.{known_clock}
use Rattle.cp_workspace.specs.Commits.{text_asks_at}
use Rattle.cp_workspace.specs.Loads.{text_reads_at}
use Rattle.cp_workspace.specs.Workspaces.{workspace_at, HasTurned, any_to_name, shared_by}
use Rattle.cp_workspace.proofs.Spent.{spent-none, spends-nothing}
use Rattle.cp_workspace.proofs.Sharing.{quiet-risen}
use Rattle.cp_workspace.proofs.Turning.{file-same, usable-kept, quiet-unread, turned-quiet, turned-failed}
use Rattle.cp_workspace.proofs.workspace.Workspace.run_text_for.Goals as goal

pub returns-in-Ok-clause-turned : goal.returns-in-Ok-clause-turned
returns-in-Ok-clause-turned g c = let reads = subst (SaysAs c.args.text.now) c.in-Ok.is c.in_ok-statement.ensures in rw reads.0 c.run_for.ensures.turned

pub returns-in-Ok-clause-spent : goal.returns-in-Ok-clause-spent
returns-in-Ok-clause-spent g c = let says = subst (SaysAs c.args.text.now) c.in-Ok.is c.in_ok-statement.ensures in rw says.0 c.run_for.ensures.spent

pub returns-in_ok-refuse_for-in-Err-clause-spent : goal.returns-in_ok-refuse_for-in-Err-clause-spent
returns-in_ok-refuse_for-in-Err-clause-spent g c = λ terms s z.
    let b = known_files g.F.Files c.args.files.now in
    let k = known_clock g.K.Clock c.args.clock.now in
    let says = subst (SaysAs c.args.text.now) c.in-Err.is c.in_ok-statement.ensures in rw says (spent-none b k)

pub returns-in_err-refuse_for-in-Err-clause-spent : goal.returns-in_err-refuse_for-in-Err-clause-spent
returns-in_err-refuse_for-in-Err-clause-spent g c = λ terms s z.
    let r = c.from_residual-in_err-refuse_for-in-Err.result in
    spends-nothing (text_reads_at s (desk_in s c.args.name.now) (reading c.args.text.now)) (text_asks_at s (desk_in s c.args.name.now) (reading c.args.text.now)) (known_files g.F.Files c.args.files.now) (known_clock g.K.Clock c.args.clock.now) r (err_from_is_err_and r c.from_residual-in_err-refuse_for-in-Err.ensures.1)

pub returns-in_err-statement-clause-spent : goal.returns-in_err-statement-clause-spent
returns-in_err-statement-clause-spent g c = λ terms s z.
    let r = c.from_residual.result in
    spends-nothing (text_reads_at s (desk_in s c.args.name.now) (reading c.args.text.now)) (text_asks_at s (desk_in s c.args.name.now) (reading c.args.text.now)) (known_files g.F.Files c.args.files.now) (known_clock g.K.Clock c.args.clock.now) r (err_from_is_err_and r c.from_residual.ensures.1)

pub returns-in_ok-refuse_for-in-Err-clause-turned : goal.returns-in_ok-refuse_for-in-Err-clause-turned
returns-in_ok-refuse_for-in-Err-clause-turned g c =
    let view = g.R.TreeRep.contents in
    let source_view = g.S.TreeRep.contents in
    let n = c.args.name.now in
    let old = shared_by c.args.self.now c.args.curators.now in
    let new = (shared_by c.args.self.now c.refuse_for.new.curators) in
    let v = g.D.Disk.known c.args.disk.now in
    let b = known_files g.F.Files c.args.files.now in
    let clock = known_clock g.K.Clock c.args.clock.now in
    let reads = subst (SaysAs c.args.text.now) c.in-Err.is c.in_ok-statement.ensures in
    let r = Some c.in_ok-refuse_for-in-Err.field-0 in
    subst (λ x. HasTurned view source_view (any_to_name c.args.name.now) (λ terms s. turn_at_of (setting terms) s (desk_in s n) x) (IsSupplied b clock clock) (workspace_at old v) (workspace_at new v) (Ok r)) (sym reads)
    (turned-quiet view source_view (λ terms s. turn_at_of (setting terms) s (desk_in s n) (unread c.in-Err.why)) old new v (any_to_name c.args.name.now) b clock (Ok r) (file-same old.db old.db refl) (λ terms s. quiet-risen (desk_in s n) s (not_read (seated (desk_in s n) s) c.in-Err.why) (quiet-unread (seated (desk_in s n) s) c.in-Err.why))
    c.in_ok-refuse_for-in-Err.ensures.turned)

pub returns-in_ok-refuse_for-in-Err-clause-stays : goal.returns-in_ok-refuse_for-in-Err-clause-stays
returns-in_ok-refuse_for-in-Err-clause-stays g c =
    usable-kept g.R.TreeRep.contents g.S.TreeRep.contents (shared_by c.args.self.now c.args.curators.now) (shared_by c.args.self.now c.refuse_for.new.curators) (g.D.Disk.known c.args.disk.now) (file-same c.args.self.now.db c.args.self.now.db refl) c.requires.usable c.in_ok-refuse_for-in-Err.ensures.stays

pub returns-in_err-refuse_for-in-Err-clause-turned : goal.returns-in_err-refuse_for-in-Err-clause-turned
returns-in_err-refuse_for-in-Err-clause-turned g c =
    let b = known_files g.F.Files c.args.files.now in
    let r = c.from_residual-in_err-refuse_for-in-Err.result in
    let p = err_from_is_err_and r c.from_residual-in_err-refuse_for-in-Err.ensures.1 in
    turned-failed g.R.TreeRep.contents g.S.TreeRep.contents (λ terms s. turn_at_of (setting terms) s (desk_in s c.args.name.now) (reading c.args.text.now)) (shared_by c.args.self.now c.args.curators.now) (shared_by c.args.self.now c.refuse_for.new.curators) (g.D.Disk.known c.args.disk.now) (any_to_name c.args.name.now) b (known_clock g.K.Clock c.args.clock.now) r p.0 p.1

pub returns-in_err-statement-clause-turned : goal.returns-in_err-statement-clause-turned
returns-in_err-statement-clause-turned g c =
    let b = known_files g.F.Files c.args.files.now in
    let r = c.from_residual.result in
    let p = err_from_is_err_and r c.from_residual.ensures.1 in
    turned-failed g.R.TreeRep.contents g.S.TreeRep.contents (λ terms s. turn_at_of (setting terms) s (desk_in s c.args.name.now) (reading c.args.text.now)) (shared_by c.args.self.now c.args.curators.now) (shared_by c.args.self.now c.args.curators.now) (g.D.Disk.known c.args.disk.now) (any_to_name c.args.name.now) b (known_clock g.K.Clock c.args.clock.now) r p.0 p.1
