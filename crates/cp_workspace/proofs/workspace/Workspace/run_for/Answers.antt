use Rattle.std.proofs.Common.{Ok, refl, sym, subst}
use Rattle.std.proofs.lemmas.Result.{err_from_is_err_and}
use Rattle.std.specs.declared.option.Option.TheVariants.{Some}
use Rattle.cp_lang.specs.declared.syntax_tree.Stmt.{Stmt}
use Rattle.cp_lang.specs.declared.syntax_tree.Stmt.TheVariants as stmt
use Rattle.cp_model.specs.History.{replay}
use Rattle.cp_reply.specs.declared.reply.Reply.{Reply}
use Rattle.cp_reply.specs.Session.{says, desk_in, turn_at_of}
use Rattle.cp_workspace.specs.Supplies.{IsSupplied}
use Rattle.cp_workspace.specs.Texts.{setting}
use Rattle.cp_workspace.specs.Clocks.{known_clock}
use Rattle.cp_workspace.specs.Commits.{statement_asks_at}
use Rattle.cp_workspace.specs.Files.{known_files}
use Rattle.cp_workspace.specs.Loads.{statement_reads_at}
use Rattle.cp_workspace.specs.Spending.{HasSpent, Spends}
use Rattle.cp_workspace.specs.Workspaces.{workspace_at, HasTurned, to_name, any_to_name, shared_by}
use Rattle.cp_workspace.proofs.Spent.{spent-none, spends-nothing, spends-passed}
use Rattle.cp_workspace.proofs.Turning.{file-same, usable-kept, turned-failed, turned-given, turned-passed}
use Rattle.cp_workspace.proofs.Sharing.{quiet-op_at, quiet-abort_at, quiet-ask_at, quiet-show_at, ran-quiet_at}
use Rattle.cp_workspace.proofs.workspace.Workspace.run_for.Goals as goal

pub returns-in_ok-operate_for-in-Op-clause-turned : goal.returns-in_ok-operate_for-in-Op-clause-turned
returns-in_ok-operate_for-in-Op-clause-turned g c =
    let view = g.R.TreeRep.contents in
    let source_view = g.S.TreeRep.contents in
    let n = c.args.name.now in
    let old = shared_by c.args.self.now c.args.curators.now in
    let v = g.D.Disk.known c.args.disk.now in
    let b = known_files g.F.Files c.args.files.now in
    let clock = known_clock g.K.Clock c.args.clock.now in
    ran-quiet_at view source_view n old (shared_by c.args.self.now c.operate_for.new.curators) v b clock (Ok c.in_ok-operate_for-in-Op.field-0) c.args.statement (stmt.Op c.in-Op.op) c.in-Op.is (file-same old.db old.db refl)
    (λ x s. quiet-op_at x s (desk_in s n) (replay s.history) c.in-Op.op) c.in_ok-operate_for-in-Op.ensures.turned

pub returns-in_ok-operate_for-in-Op-clause-stays : goal.returns-in_ok-operate_for-in-Op-clause-stays
returns-in_ok-operate_for-in-Op-clause-stays g c =
    let view = g.R.TreeRep.contents in
    let source_view = g.S.TreeRep.contents in
    let n = c.args.name.now in
    let old = shared_by c.args.self.now c.args.curators.now in
    let v = g.D.Disk.known c.args.disk.now in
    let b = known_files g.F.Files c.args.files.now in
    let clock = known_clock g.K.Clock c.args.clock.now in
    usable-kept view source_view old (shared_by c.args.self.now c.operate_for.new.curators) v (file-same old.db old.db refl) c.requires.usable c.in_ok-operate_for-in-Op.ensures.stays

pub returns-in_err-operate_for-in-Op-clause-turned : goal.returns-in_err-operate_for-in-Op-clause-turned
returns-in_err-operate_for-in-Op-clause-turned g c =
    let view = g.R.TreeRep.contents in
    let source_view = g.S.TreeRep.contents in
    let n = c.args.name.now in
    let old = shared_by c.args.self.now c.args.curators.now in
    let v = g.D.Disk.known c.args.disk.now in
    let b = known_files g.F.Files c.args.files.now in
    let clock = known_clock g.K.Clock c.args.clock.now in
    let p = err_from_is_err_and c.from_residual.result c.from_residual.ensures.1 in
    turned-failed view source_view (λ terms s. turn_at_of (setting terms) s (desk_in s n) (says c.args.statement)) old (shared_by c.args.self.now c.operate_for.new.curators) v (any_to_name n) b clock c.from_residual.result p.0 p.1

pub returns-in_ok-ask_for-in-Ask-clause-turned : goal.returns-in_ok-ask_for-in-Ask-clause-turned
returns-in_ok-ask_for-in-Ask-clause-turned g c =
    let view = g.R.TreeRep.contents in
    let source_view = g.S.TreeRep.contents in
    let n = c.args.name.now in
    let old = shared_by c.args.self.now c.args.curators.now in
    let v = g.D.Disk.known c.args.disk.now in
    let b = known_files g.F.Files c.args.files.now in
    let clock = known_clock g.K.Clock c.args.clock.now in
    ran-quiet_at view source_view n old (shared_by c.ask_for.new.self c.args.curators.now) v b clock (Ok (Some c.in_ok-ask_for-in-Ask.field-0)) c.args.statement (stmt.Ask c.in-Ask.query) c.in-Ask.is (c.in_ok-ask_for-in-Ask.ensures.file)
    (λ x s. quiet-ask_at x s (desk_in s n) (replay s.history) c.in-Ask.query) c.in_ok-ask_for-in-Ask.ensures.turned

pub returns-in_ok-ask_for-in-Ask-clause-stays : goal.returns-in_ok-ask_for-in-Ask-clause-stays
returns-in_ok-ask_for-in-Ask-clause-stays g c =
    let view = g.R.TreeRep.contents in
    let source_view = g.S.TreeRep.contents in
    let n = c.args.name.now in
    let old = shared_by c.args.self.now c.args.curators.now in
    let v = g.D.Disk.known c.args.disk.now in
    let b = known_files g.F.Files c.args.files.now in
    let clock = known_clock g.K.Clock c.args.clock.now in
    usable-kept view source_view old (shared_by c.ask_for.new.self c.args.curators.now) v (c.in_ok-ask_for-in-Ask.ensures.file) c.requires.usable c.in_ok-ask_for-in-Ask.ensures.stays

pub returns-in_err-ask_for-in-Ask-clause-turned : goal.returns-in_err-ask_for-in-Ask-clause-turned
returns-in_err-ask_for-in-Ask-clause-turned g c =
    let view = g.R.TreeRep.contents in
    let source_view = g.S.TreeRep.contents in
    let n = c.args.name.now in
    let old = shared_by c.args.self.now c.args.curators.now in
    let v = g.D.Disk.known c.args.disk.now in
    let b = known_files g.F.Files c.args.files.now in
    let clock = known_clock g.K.Clock c.args.clock.now in
    let p = err_from_is_err_and c.from_residual-in_err-ask_for-in-Ask.result c.from_residual-in_err-ask_for-in-Ask.ensures.1 in
    turned-failed view source_view (λ terms s. turn_at_of (setting terms) s (desk_in s n) (says c.args.statement)) old (shared_by c.ask_for.new.self c.args.curators.now) v (any_to_name n) b clock c.from_residual-in_err-ask_for-in-Ask.result p.0 p.1

pub returns-in_ok-show_for-in-Show-clause-turned : goal.returns-in_ok-show_for-in-Show-clause-turned
returns-in_ok-show_for-in-Show-clause-turned g c =
    let view = g.R.TreeRep.contents in
    let source_view = g.S.TreeRep.contents in
    let n = c.args.name.now in
    let old = shared_by c.args.self.now c.args.curators.now in
    let v = g.D.Disk.known c.args.disk.now in
    let b = known_files g.F.Files c.args.files.now in
    let clock = known_clock g.K.Clock c.args.clock.now in
    ran-quiet_at view source_view n old old v b clock (Ok (Some c.in_ok-show_for-in-Show.field-0)) c.args.statement (stmt.Show c.in-Show.place) c.in-Show.is (file-same old.db old.db refl)
    (λ x s. quiet-show_at x s (desk_in s n) (replay s.history) c.in-Show.place) c.in_ok-show_for-in-Show.ensures

pub returns-in_err-show_for-in-Show-clause-turned : goal.returns-in_err-show_for-in-Show-clause-turned
returns-in_err-show_for-in-Show-clause-turned g c =
    let view = g.R.TreeRep.contents in
    let source_view = g.S.TreeRep.contents in
    let n = c.args.name.now in
    let old = shared_by c.args.self.now c.args.curators.now in
    let v = g.D.Disk.known c.args.disk.now in
    let b = known_files g.F.Files c.args.files.now in
    let clock = known_clock g.K.Clock c.args.clock.now in
    let p = err_from_is_err_and c.from_residual-in_err-show_for-in-Show.result c.from_residual-in_err-show_for-in-Show.ensures.1 in
    turned-failed view source_view (λ terms s. turn_at_of (setting terms) s (desk_in s n) (says c.args.statement)) old old v (any_to_name n) b clock c.from_residual-in_err-show_for-in-Show.result p.0 p.1

pub returns-in-Abort-clause-turned : goal.returns-in-Abort-clause-turned
returns-in-Abort-clause-turned g c =
    let view = g.R.TreeRep.contents in
    let source_view = g.S.TreeRep.contents in
    let n = c.args.name.now in
    let old = shared_by c.args.self.now c.args.curators.now in
    let v = g.D.Disk.known c.args.disk.now in
    let b = known_files g.F.Files c.args.files.now in
    let clock = known_clock g.K.Clock c.args.clock.now in
    ran-quiet_at view source_view n old (shared_by c.args.self.now c.abort_for.new.curators) v b clock (Ok (Some c.abort_for.result)) c.args.statement stmt.Abort c.in-Abort.is (file-same old.db old.db refl)
    (λ x s. quiet-abort_at x s (desk_in s n) (replay s.history)) c.abort_for.ensures.turned

pub returns-in-Abort-clause-stays : goal.returns-in-Abort-clause-stays
returns-in-Abort-clause-stays g c =
    let view = g.R.TreeRep.contents in
    let source_view = g.S.TreeRep.contents in
    let n = c.args.name.now in
    let old = shared_by c.args.self.now c.args.curators.now in
    let v = g.D.Disk.known c.args.disk.now in
    let b = known_files g.F.Files c.args.files.now in
    let clock = known_clock g.K.Clock c.args.clock.now in
    usable-kept view source_view old (shared_by c.args.self.now c.abort_for.new.curators) v (file-same old.db old.db refl) c.requires.usable c.abort_for.ensures.stays

pub returns-in_ok-commit_for-in-Commit-clause-turned : goal.returns-in_ok-commit_for-in-Commit-clause-turned
returns-in_ok-commit_for-in-Commit-clause-turned g c =
    let view = g.R.TreeRep.contents in
    let source_view = g.S.TreeRep.contents in
    let n = c.args.name.now in
    let old = shared_by c.args.self.now c.args.curators.now in
    let v = g.D.Disk.known c.args.disk.now in
    let w = g.D.Disk.known c.commit_for.new.disk in
    let b = known_files g.F.Files c.args.files.now in
    let before = known_clock g.K.Clock c.args.clock.now in
    let after = known_clock g.K.Clock c.commit_for.new.clock in
    let r = c.in_ok-commit_for-in-Commit.field-0 in
    subst (λ x. HasTurned view source_view (any_to_name n) (λ terms s. turn_at_of (setting terms) s (desk_in s n) (says x)) (IsSupplied b before after) (workspace_at old v) (workspace_at (shared_by c.commit_for.new.self c.commit_for.new.curators) w) (Ok (Some r))) (sym c.in-Commit.is)
    (turned-given view source_view (to_name n) (λ terms s. turn_at_of (setting terms) s (desk_in s n) (says stmt.Commit)) b before after old (shared_by c.commit_for.new.self c.commit_for.new.curators) v w (Ok r) (any_to_name n) (c.in_ok-commit_for-in-Commit.ensures.turned b) r (Some r) refl refl)

pub returns-in_err-commit_for-in-Commit-clause-turned : goal.returns-in_err-commit_for-in-Commit-clause-turned
returns-in_err-commit_for-in-Commit-clause-turned g c =
    let view = g.R.TreeRep.contents in
    let source_view = g.S.TreeRep.contents in
    let n = c.args.name.now in
    let old = shared_by c.args.self.now c.args.curators.now in
    let v = g.D.Disk.known c.args.disk.now in
    let w = g.D.Disk.known c.commit_for.new.disk in
    let b = known_files g.F.Files c.args.files.now in
    let before = known_clock g.K.Clock c.args.clock.now in
    let after = known_clock g.K.Clock c.commit_for.new.clock in
    let r = c.from_residual-in_err-commit_for-in-Commit.result in
    let p = err_from_is_err_and r c.from_residual-in_err-commit_for-in-Commit.ensures.1 in
    subst (λ x. HasTurned view source_view (any_to_name n) (λ terms s. turn_at_of (setting terms) s (desk_in s n) (says x)) (IsSupplied b before after) (workspace_at old v) (workspace_at (shared_by c.commit_for.new.self c.commit_for.new.curators) w) r) (sym c.in-Commit.is)
    (turned-passed view source_view (to_name n) (λ terms s. turn_at_of (setting terms) s (desk_in s n) (says stmt.Commit)) b before after old (shared_by c.commit_for.new.self c.commit_for.new.curators) v w _ (any_to_name n) (c.in_err-commit_for-in-Commit.ensures.turned b) r p.0 p.1)

pub returns-in_ok-load_for-in-Load-clause-turned : goal.returns-in_ok-load_for-in-Load-clause-turned
returns-in_ok-load_for-in-Load-clause-turned g c =
    let view = g.R.TreeRep.contents in
    let source_view = g.S.TreeRep.contents in
    let n = c.args.name.now in
    let old = shared_by c.args.self.now c.args.curators.now in
    let v = g.D.Disk.known c.args.disk.now in
    let w = g.D.Disk.known c.load_for.new.disk in
    let b = known_files g.F.Files c.args.files.now in
    let clock = known_clock g.K.Clock c.args.clock.now in
    let load = c.in-Load.load in
    let r = c.in_ok-load_for-in-Load.field-0 in
    subst (λ x. HasTurned view source_view (any_to_name n) (λ terms s. turn_at_of (setting terms) s (desk_in s n) (says x)) (IsSupplied b clock clock) (workspace_at old v) (workspace_at (shared_by c.load_for.new.self c.args.curators.now) w) (Ok (Some r))) (sym c.in-Load.is)
    (turned-given view source_view (to_name n) (λ terms s. turn_at_of (setting terms) s (desk_in s n) (says (stmt.Load load))) b clock clock old (shared_by c.load_for.new.self c.args.curators.now) v w (Ok r) (any_to_name n) (c.in_ok-load_for-in-Load.ensures.turned clock) r (Some r) refl refl)

pub returns-in_err-load_for-in-Load-clause-turned : goal.returns-in_err-load_for-in-Load-clause-turned
returns-in_err-load_for-in-Load-clause-turned g c =
    let view = g.R.TreeRep.contents in
    let source_view = g.S.TreeRep.contents in
    let n = c.args.name.now in
    let old = shared_by c.args.self.now c.args.curators.now in
    let v = g.D.Disk.known c.args.disk.now in
    let w = g.D.Disk.known c.load_for.new.disk in
    let b = known_files g.F.Files c.args.files.now in
    let clock = known_clock g.K.Clock c.args.clock.now in
    let load = c.in-Load.load in
    let r = c.from_residual-in_err-load_for-in-Load.result in
    let p = err_from_is_err_and r c.from_residual-in_err-load_for-in-Load.ensures.1 in
    subst (λ x. HasTurned view source_view (any_to_name n) (λ terms s. turn_at_of (setting terms) s (desk_in s n) (says x)) (IsSupplied b clock clock) (workspace_at old v) (workspace_at (shared_by c.load_for.new.self c.args.curators.now) w) r) (sym c.in-Load.is)
    (turned-passed view source_view (to_name n) (λ terms s. turn_at_of (setting terms) s (desk_in s n) (says (stmt.Load load))) b clock clock old (shared_by c.load_for.new.self c.args.curators.now) v w _ (any_to_name n) (c.in_err-load_for-in-Load.ensures.turned clock) r p.0 p.1)

pub returns-in_ok-operate_for-in-Op-clause-spent : goal.returns-in_ok-operate_for-in-Op-clause-spent
returns-in_ok-operate_for-in-Op-clause-spent g c = λ terms s z.
    let b = known_files g.F.Files c.args.files.now in
    let k = known_clock g.K.Clock c.args.clock.now in
    let P : Stmt → Type 0 = λ x. HasSpent (statement_reads_at s (desk_in s c.args.name.now) x) (statement_asks_at s (desk_in s c.args.name.now) x) b b k k in
    subst P (sym c.in-Op.is) (spent-none b k)

pub returns-in_err-operate_for-in-Op-clause-spent : goal.returns-in_err-operate_for-in-Op-clause-spent
returns-in_err-operate_for-in-Op-clause-spent g c = λ terms s z.
    let r = c.from_residual.result in
    spends-nothing (statement_reads_at s (desk_in s c.args.name.now) c.args.statement) (statement_asks_at s (desk_in s c.args.name.now) c.args.statement) (known_files g.F.Files c.args.files.now) (known_clock g.K.Clock c.args.clock.now) r (err_from_is_err_and r c.from_residual.ensures.1)

pub returns-in_ok-ask_for-in-Ask-clause-spent : goal.returns-in_ok-ask_for-in-Ask-clause-spent
returns-in_ok-ask_for-in-Ask-clause-spent g c = λ terms s z.
    let b = known_files g.F.Files c.args.files.now in
    let k = known_clock g.K.Clock c.args.clock.now in
    let P : Stmt → Type 0 = λ x. HasSpent (statement_reads_at s (desk_in s c.args.name.now) x) (statement_asks_at s (desk_in s c.args.name.now) x) b b k k in
    subst P (sym c.in-Ask.is) (spent-none b k)

pub returns-in_err-ask_for-in-Ask-clause-spent : goal.returns-in_err-ask_for-in-Ask-clause-spent
returns-in_err-ask_for-in-Ask-clause-spent g c = λ terms s z.
    let r = c.from_residual-in_err-ask_for-in-Ask.result in
    spends-nothing (statement_reads_at s (desk_in s c.args.name.now) c.args.statement) (statement_asks_at s (desk_in s c.args.name.now) c.args.statement) (known_files g.F.Files c.args.files.now) (known_clock g.K.Clock c.args.clock.now) r (err_from_is_err_and r c.from_residual-in_err-ask_for-in-Ask.ensures.1)

pub returns-in_ok-show_for-in-Show-clause-spent : goal.returns-in_ok-show_for-in-Show-clause-spent
returns-in_ok-show_for-in-Show-clause-spent g c = λ terms s z.
    let b = known_files g.F.Files c.args.files.now in
    let k = known_clock g.K.Clock c.args.clock.now in
    let P : Stmt → Type 0 = λ x. HasSpent (statement_reads_at s (desk_in s c.args.name.now) x) (statement_asks_at s (desk_in s c.args.name.now) x) b b k k in
    subst P (sym c.in-Show.is) (spent-none b k)

pub returns-in_err-show_for-in-Show-clause-spent : goal.returns-in_err-show_for-in-Show-clause-spent
returns-in_err-show_for-in-Show-clause-spent g c = λ terms s z.
    let r = c.from_residual-in_err-show_for-in-Show.result in
    spends-nothing (statement_reads_at s (desk_in s c.args.name.now) c.args.statement) (statement_asks_at s (desk_in s c.args.name.now) c.args.statement) (known_files g.F.Files c.args.files.now) (known_clock g.K.Clock c.args.clock.now) r (err_from_is_err_and r c.from_residual-in_err-show_for-in-Show.ensures.1)

pub returns-in-Abort-clause-spent : goal.returns-in-Abort-clause-spent
returns-in-Abort-clause-spent g c = λ terms s z.
    let b = known_files g.F.Files c.args.files.now in
    let k = known_clock g.K.Clock c.args.clock.now in
    let P : Stmt → Type 0 = λ x. HasSpent (statement_reads_at s (desk_in s c.args.name.now) x) (statement_asks_at s (desk_in s c.args.name.now) x) b b k k in
    subst P (sym c.in-Abort.is) (spent-none b k)

pub returns-in_ok-commit_for-in-Commit-clause-spent : goal.returns-in_ok-commit_for-in-Commit-clause-spent
returns-in_ok-commit_for-in-Commit-clause-spent g c = λ terms s z.
    let b = known_files g.F.Files c.args.files.now in
    let P : Stmt → Type 0 = λ x. HasSpent (statement_reads_at s (desk_in s c.args.name.now) x) (statement_asks_at s (desk_in s c.args.name.now) x) b b (known_clock g.K.Clock c.args.clock.now) (known_clock g.K.Clock c.commit_for.new.clock) in
    subst P (sym c.in-Commit.is) (c.in_ok-commit_for-in-Commit.ensures.spent terms s z b)

pub returns-in_err-commit_for-in-Commit-clause-spent : goal.returns-in_err-commit_for-in-Commit-clause-spent
returns-in_err-commit_for-in-Commit-clause-spent g c = λ terms s z.
    let b = known_files g.F.Files c.args.files.now in
    let kb = known_clock g.K.Clock c.args.clock.now in
    let ka = known_clock g.K.Clock c.commit_for.new.clock in
    let r = c.from_residual-in_err-commit_for-in-Commit.result in
    let P : Stmt → Type 0 = λ x. Spends (statement_reads_at s (desk_in s c.args.name.now) x) (statement_asks_at s (desk_in s c.args.name.now) x) b b kb ka r in
    subst P (sym c.in-Commit.is) (spends-passed Reply _ _ b b kb ka c.in_err-commit_for-in-Commit.field-0.0 r (c.in_err-commit_for-in-Commit.ensures.spent terms s z b) (err_from_is_err_and r c.from_residual-in_err-commit_for-in-Commit.ensures.1))

pub returns-in_ok-load_for-in-Load-clause-spent : goal.returns-in_ok-load_for-in-Load-clause-spent
returns-in_ok-load_for-in-Load-clause-spent g c = λ terms s z.
    let k = known_clock g.K.Clock c.args.clock.now in
    let P : Stmt → Type 0 = λ x. HasSpent (statement_reads_at s (desk_in s c.args.name.now) x) (statement_asks_at s (desk_in s c.args.name.now) x) (known_files g.F.Files c.args.files.now) (known_files g.F.Files c.load_for.new.files) k k in
    subst P (sym c.in-Load.is) (c.in_ok-load_for-in-Load.ensures.spent terms s z k)

pub returns-in_err-load_for-in-Load-clause-spent : goal.returns-in_err-load_for-in-Load-clause-spent
returns-in_err-load_for-in-Load-clause-spent g c = λ terms s z.
    let b = known_files g.F.Files c.args.files.now in
    let a = known_files g.F.Files c.load_for.new.files in
    let k = known_clock g.K.Clock c.args.clock.now in
    let r = c.from_residual-in_err-load_for-in-Load.result in
    let P : Stmt → Type 0 = λ x. Spends (statement_reads_at s (desk_in s c.args.name.now) x) (statement_asks_at s (desk_in s c.args.name.now) x) b a k k r in
    subst P (sym c.in-Load.is) (spends-passed Reply _ _ b a k k c.in_err-load_for-in-Load.field-0.0 r (c.in_err-load_for-in-Load.ensures.spent terms s z k) (err_from_is_err_and r c.from_residual-in_err-load_for-in-Load.ensures.1))
