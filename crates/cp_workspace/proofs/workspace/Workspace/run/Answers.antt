use Rattle.std.proofs.Common.{Ok, refl, sym, subst}
use Rattle.std.proofs.lemmas.Result.{err_from_is_err_and}
use Rattle.std.specs.declared.option.Option.TheVariants.{Some}
use Rattle.cp_lang.specs.declared.syntax_tree.Stmt.{Stmt}
use Rattle.cp_lang.specs.declared.syntax_tree.Stmt.TheVariants as stmt
use Rattle.cp_model.specs.History.{replay}
use Rattle.cp_reply.specs.declared.reply.Reply.{Reply}
use Rattle.cp_reply.specs.Session.{says, turn_of}
use Rattle.cp_workspace.specs.Supplies.{IsSupplied}
use Rattle.cp_workspace.specs.Texts.{setting}
use Rattle.cp_workspace.specs.Clocks.{known_clock}
use Rattle.cp_workspace.specs.Commits.{statement_asks}
use Rattle.cp_workspace.specs.Files.{known_files}
use Rattle.cp_workspace.specs.Loads.{statement_reads}
use Rattle.cp_workspace.specs.Spending.{HasSpent, Spends}
use Rattle.cp_workspace.specs.Workspaces.{workspace_at, HasTurned, of_nobody, any_of_nobody}
use Rattle.cp_workspace.proofs.Spent.{spent-none, spends-nothing, spends-passed}
use Rattle.cp_workspace.proofs.Turning.{file-same, usable-kept, quiet-op, quiet-abort, quiet-ask, quiet-show, ran-quiet, turned-failed, turned-given, turned-passed}
use Rattle.cp_workspace.proofs.workspace.Workspace.run.Goals as goal

pub returns-in_ok-operate-in-Op-clause-turned : goal.returns-in_ok-operate-in-Op-clause-turned
returns-in_ok-operate-in-Op-clause-turned g c =
    let view = g.R.TreeRep.contents in
    let source_view = g.S.TreeRep.contents in
    let old = c.args.self.now in
    let v = g.D.Disk.known c.args.disk.now in
    let b = known_files g.F.Files c.args.files.now in
    let clock = known_clock g.K.Clock c.args.clock.now in
    ran-quiet view source_view old c.operate.new.self v b clock (Ok c.in_ok-operate-in-Op.field-0) c.args.statement (stmt.Op c.in-Op.op) c.in-Op.is (file-same old.db c.operate.new.self.db c.in_ok-operate-in-Op.ensures.same)
    (λ x s. quiet-op s x (replay s.history) c.in-Op.op) c.in_ok-operate-in-Op.ensures.turned

pub returns-in_ok-operate-in-Op-clause-stays : goal.returns-in_ok-operate-in-Op-clause-stays
returns-in_ok-operate-in-Op-clause-stays g c =
    let view = g.R.TreeRep.contents in
    let source_view = g.S.TreeRep.contents in
    let old = c.args.self.now in
    let v = g.D.Disk.known c.args.disk.now in
    let b = known_files g.F.Files c.args.files.now in
    let clock = known_clock g.K.Clock c.args.clock.now in
    usable-kept view source_view old c.operate.new.self v (file-same old.db c.operate.new.self.db c.in_ok-operate-in-Op.ensures.same) c.requires.usable c.in_ok-operate-in-Op.ensures.stays

pub returns-in_err-operate-in-Op-clause-turned : goal.returns-in_err-operate-in-Op-clause-turned
returns-in_err-operate-in-Op-clause-turned g c =
    let view = g.R.TreeRep.contents in
    let source_view = g.S.TreeRep.contents in
    let old = c.args.self.now in
    let v = g.D.Disk.known c.args.disk.now in
    let b = known_files g.F.Files c.args.files.now in
    let clock = known_clock g.K.Clock c.args.clock.now in
    let p = err_from_is_err_and c.from_residual.result c.from_residual.ensures.1 in
    turned-failed view source_view (λ terms s. turn_of (setting terms) s (says c.args.statement)) old c.operate.new.self v any_of_nobody b clock c.from_residual.result p.0 p.1

pub returns-in_ok-ask-in-Ask-clause-turned : goal.returns-in_ok-ask-in-Ask-clause-turned
returns-in_ok-ask-in-Ask-clause-turned g c =
    let view = g.R.TreeRep.contents in
    let source_view = g.S.TreeRep.contents in
    let old = c.args.self.now in
    let v = g.D.Disk.known c.args.disk.now in
    let b = known_files g.F.Files c.args.files.now in
    let clock = known_clock g.K.Clock c.args.clock.now in
    ran-quiet view source_view old c.ask.new.self v b clock (Ok (Some c.in_ok-ask-in-Ask.field-0)) c.args.statement (stmt.Ask c.in-Ask.query) c.in-Ask.is (c.in_ok-ask-in-Ask.ensures.file)
    (λ x s. quiet-ask s x (replay s.history) c.in-Ask.query) c.in_ok-ask-in-Ask.ensures.turned

pub returns-in_ok-ask-in-Ask-clause-stays : goal.returns-in_ok-ask-in-Ask-clause-stays
returns-in_ok-ask-in-Ask-clause-stays g c =
    let view = g.R.TreeRep.contents in
    let source_view = g.S.TreeRep.contents in
    let old = c.args.self.now in
    let v = g.D.Disk.known c.args.disk.now in
    let b = known_files g.F.Files c.args.files.now in
    let clock = known_clock g.K.Clock c.args.clock.now in
    usable-kept view source_view old c.ask.new.self v (c.in_ok-ask-in-Ask.ensures.file) c.requires.usable c.in_ok-ask-in-Ask.ensures.stays

pub returns-in_err-ask-in-Ask-clause-turned : goal.returns-in_err-ask-in-Ask-clause-turned
returns-in_err-ask-in-Ask-clause-turned g c =
    let view = g.R.TreeRep.contents in
    let source_view = g.S.TreeRep.contents in
    let old = c.args.self.now in
    let v = g.D.Disk.known c.args.disk.now in
    let b = known_files g.F.Files c.args.files.now in
    let clock = known_clock g.K.Clock c.args.clock.now in
    let p = err_from_is_err_and c.from_residual-in_err-ask-in-Ask.result c.from_residual-in_err-ask-in-Ask.ensures.1 in
    turned-failed view source_view (λ terms s. turn_of (setting terms) s (says c.args.statement)) old c.ask.new.self v any_of_nobody b clock c.from_residual-in_err-ask-in-Ask.result p.0 p.1

pub returns-in_ok-show-in-Show-clause-turned : goal.returns-in_ok-show-in-Show-clause-turned
returns-in_ok-show-in-Show-clause-turned g c =
    let view = g.R.TreeRep.contents in
    let source_view = g.S.TreeRep.contents in
    let old = c.args.self.now in
    let v = g.D.Disk.known c.args.disk.now in
    let b = known_files g.F.Files c.args.files.now in
    let clock = known_clock g.K.Clock c.args.clock.now in
    ran-quiet view source_view old c.args.self.now v b clock (Ok (Some c.in_ok-show-in-Show.field-0)) c.args.statement (stmt.Show c.in-Show.place) c.in-Show.is (file-same old.db old.db refl)
    (λ x s. quiet-show s x (replay s.history) c.in-Show.place) c.in_ok-show-in-Show.ensures

pub returns-in_err-show-in-Show-clause-turned : goal.returns-in_err-show-in-Show-clause-turned
returns-in_err-show-in-Show-clause-turned g c =
    let view = g.R.TreeRep.contents in
    let source_view = g.S.TreeRep.contents in
    let old = c.args.self.now in
    let v = g.D.Disk.known c.args.disk.now in
    let b = known_files g.F.Files c.args.files.now in
    let clock = known_clock g.K.Clock c.args.clock.now in
    let p = err_from_is_err_and c.from_residual-in_err-show-in-Show.result c.from_residual-in_err-show-in-Show.ensures.1 in
    turned-failed view source_view (λ terms s. turn_of (setting terms) s (says c.args.statement)) old c.args.self.now v any_of_nobody b clock c.from_residual-in_err-show-in-Show.result p.0 p.1

pub returns-in-Abort-clause-turned : goal.returns-in-Abort-clause-turned
returns-in-Abort-clause-turned g c =
    let view = g.R.TreeRep.contents in
    let source_view = g.S.TreeRep.contents in
    let old = c.args.self.now in
    let v = g.D.Disk.known c.args.disk.now in
    let b = known_files g.F.Files c.args.files.now in
    let clock = known_clock g.K.Clock c.args.clock.now in
    ran-quiet view source_view old c.abort.new.self v b clock (Ok (Some c.abort.result)) c.args.statement stmt.Abort c.in-Abort.is (file-same old.db c.abort.new.self.db c.abort.ensures.same)
    (λ x s. quiet-abort s x (replay s.history)) c.abort.ensures.turned

pub returns-in-Abort-clause-stays : goal.returns-in-Abort-clause-stays
returns-in-Abort-clause-stays g c =
    let view = g.R.TreeRep.contents in
    let source_view = g.S.TreeRep.contents in
    let old = c.args.self.now in
    let v = g.D.Disk.known c.args.disk.now in
    let b = known_files g.F.Files c.args.files.now in
    let clock = known_clock g.K.Clock c.args.clock.now in
    usable-kept view source_view old c.abort.new.self v (file-same old.db c.abort.new.self.db c.abort.ensures.same) c.requires.usable c.abort.ensures.stays

pub returns-in_ok-commit-in-Commit-clause-turned : goal.returns-in_ok-commit-in-Commit-clause-turned
returns-in_ok-commit-in-Commit-clause-turned g c =
    let view = g.R.TreeRep.contents in
    let source_view = g.S.TreeRep.contents in
    let old = c.args.self.now in
    let v = g.D.Disk.known c.args.disk.now in
    let w = g.D.Disk.known c.commit.new.disk in
    let b = known_files g.F.Files c.args.files.now in
    let before = known_clock g.K.Clock c.args.clock.now in
    let after = known_clock g.K.Clock c.commit.new.clock in
    let r = c.in_ok-commit-in-Commit.field-0 in
    subst (λ x. HasTurned view source_view any_of_nobody (λ terms s. turn_of (setting terms) s (says x)) (IsSupplied b before after) (workspace_at old v) (workspace_at c.commit.new.self w) (Ok (Some r))) (sym c.in-Commit.is)
    (turned-given view source_view of_nobody (λ terms s. turn_of (setting terms) s (says stmt.Commit)) b before after old c.commit.new.self v w (Ok r) any_of_nobody (c.in_ok-commit-in-Commit.ensures.turned b) r (Some r) refl refl)

pub returns-in_err-commit-in-Commit-clause-turned : goal.returns-in_err-commit-in-Commit-clause-turned
returns-in_err-commit-in-Commit-clause-turned g c =
    let view = g.R.TreeRep.contents in
    let source_view = g.S.TreeRep.contents in
    let old = c.args.self.now in
    let v = g.D.Disk.known c.args.disk.now in
    let w = g.D.Disk.known c.commit.new.disk in
    let b = known_files g.F.Files c.args.files.now in
    let before = known_clock g.K.Clock c.args.clock.now in
    let after = known_clock g.K.Clock c.commit.new.clock in
    let r = c.from_residual-in_err-commit-in-Commit.result in
    let p = err_from_is_err_and r c.from_residual-in_err-commit-in-Commit.ensures.1 in
    subst (λ x. HasTurned view source_view any_of_nobody (λ terms s. turn_of (setting terms) s (says x)) (IsSupplied b before after) (workspace_at old v) (workspace_at c.commit.new.self w) r) (sym c.in-Commit.is)
    (turned-passed view source_view of_nobody (λ terms s. turn_of (setting terms) s (says stmt.Commit)) b before after old c.commit.new.self v w _ any_of_nobody (c.in_err-commit-in-Commit.ensures.turned b) r p.0 p.1)

pub returns-in_ok-load-in-Load-clause-turned : goal.returns-in_ok-load-in-Load-clause-turned
returns-in_ok-load-in-Load-clause-turned g c =
    let view = g.R.TreeRep.contents in
    let source_view = g.S.TreeRep.contents in
    let old = c.args.self.now in
    let v = g.D.Disk.known c.args.disk.now in
    let w = g.D.Disk.known c.load.new.disk in
    let b = known_files g.F.Files c.args.files.now in
    let clock = known_clock g.K.Clock c.args.clock.now in
    let load = c.in-Load.load in
    let r = c.in_ok-load-in-Load.field-0 in
    subst (λ x. HasTurned view source_view any_of_nobody (λ terms s. turn_of (setting terms) s (says x)) (IsSupplied b clock clock) (workspace_at old v) (workspace_at c.load.new.self w) (Ok (Some r))) (sym c.in-Load.is)
    (turned-given view source_view of_nobody (λ terms s. turn_of (setting terms) s (says (stmt.Load load))) b clock clock old c.load.new.self v w (Ok r) any_of_nobody (c.in_ok-load-in-Load.ensures.turned clock) r (Some r) refl refl)

pub returns-in_err-load-in-Load-clause-turned : goal.returns-in_err-load-in-Load-clause-turned
returns-in_err-load-in-Load-clause-turned g c =
    let view = g.R.TreeRep.contents in
    let source_view = g.S.TreeRep.contents in
    let old = c.args.self.now in
    let v = g.D.Disk.known c.args.disk.now in
    let w = g.D.Disk.known c.load.new.disk in
    let b = known_files g.F.Files c.args.files.now in
    let clock = known_clock g.K.Clock c.args.clock.now in
    let load = c.in-Load.load in
    let r = c.from_residual-in_err-load-in-Load.result in
    let p = err_from_is_err_and r c.from_residual-in_err-load-in-Load.ensures.1 in
    subst (λ x. HasTurned view source_view any_of_nobody (λ terms s. turn_of (setting terms) s (says x)) (IsSupplied b clock clock) (workspace_at old v) (workspace_at c.load.new.self w) r) (sym c.in-Load.is)
    (turned-passed view source_view of_nobody (λ terms s. turn_of (setting terms) s (says (stmt.Load load))) b clock clock old c.load.new.self v w _ any_of_nobody (c.in_err-load-in-Load.ensures.turned clock) r p.0 p.1)

pub returns-in_ok-operate-in-Op-clause-spent : goal.returns-in_ok-operate-in-Op-clause-spent
returns-in_ok-operate-in-Op-clause-spent g c = λ terms s z.
    let b = known_files g.F.Files c.args.files.now in
    let k = known_clock g.K.Clock c.args.clock.now in
    let P : Stmt → Type 0 = λ x. HasSpent (statement_reads s x) (statement_asks s x) b b k k in
    subst P (sym c.in-Op.is) (spent-none b k)

pub returns-in_err-operate-in-Op-clause-spent : goal.returns-in_err-operate-in-Op-clause-spent
returns-in_err-operate-in-Op-clause-spent g c = λ terms s z.
    let r = c.from_residual.result in
    spends-nothing (statement_reads s c.args.statement) (statement_asks s c.args.statement) (known_files g.F.Files c.args.files.now) (known_clock g.K.Clock c.args.clock.now) r (err_from_is_err_and r c.from_residual.ensures.1)

pub returns-in_ok-ask-in-Ask-clause-spent : goal.returns-in_ok-ask-in-Ask-clause-spent
returns-in_ok-ask-in-Ask-clause-spent g c = λ terms s z.
    let b = known_files g.F.Files c.args.files.now in
    let k = known_clock g.K.Clock c.args.clock.now in
    let P : Stmt → Type 0 = λ x. HasSpent (statement_reads s x) (statement_asks s x) b b k k in
    subst P (sym c.in-Ask.is) (spent-none b k)

pub returns-in_err-ask-in-Ask-clause-spent : goal.returns-in_err-ask-in-Ask-clause-spent
returns-in_err-ask-in-Ask-clause-spent g c = λ terms s z.
    let r = c.from_residual-in_err-ask-in-Ask.result in
    spends-nothing (statement_reads s c.args.statement) (statement_asks s c.args.statement) (known_files g.F.Files c.args.files.now) (known_clock g.K.Clock c.args.clock.now) r (err_from_is_err_and r c.from_residual-in_err-ask-in-Ask.ensures.1)

pub returns-in_ok-show-in-Show-clause-spent : goal.returns-in_ok-show-in-Show-clause-spent
returns-in_ok-show-in-Show-clause-spent g c = λ terms s z.
    let b = known_files g.F.Files c.args.files.now in
    let k = known_clock g.K.Clock c.args.clock.now in
    let P : Stmt → Type 0 = λ x. HasSpent (statement_reads s x) (statement_asks s x) b b k k in
    subst P (sym c.in-Show.is) (spent-none b k)

pub returns-in_err-show-in-Show-clause-spent : goal.returns-in_err-show-in-Show-clause-spent
returns-in_err-show-in-Show-clause-spent g c = λ terms s z.
    let r = c.from_residual-in_err-show-in-Show.result in
    spends-nothing (statement_reads s c.args.statement) (statement_asks s c.args.statement) (known_files g.F.Files c.args.files.now) (known_clock g.K.Clock c.args.clock.now) r (err_from_is_err_and r c.from_residual-in_err-show-in-Show.ensures.1)

pub returns-in-Abort-clause-spent : goal.returns-in-Abort-clause-spent
returns-in-Abort-clause-spent g c = λ terms s z.
    let b = known_files g.F.Files c.args.files.now in
    let k = known_clock g.K.Clock c.args.clock.now in
    let P : Stmt → Type 0 = λ x. HasSpent (statement_reads s x) (statement_asks s x) b b k k in
    subst P (sym c.in-Abort.is) (spent-none b k)

pub returns-in_ok-commit-in-Commit-clause-spent : goal.returns-in_ok-commit-in-Commit-clause-spent
returns-in_ok-commit-in-Commit-clause-spent g c = λ terms s z.
    let b = known_files g.F.Files c.args.files.now in
    let P : Stmt → Type 0 = λ x. HasSpent (statement_reads s x) (statement_asks s x) b b (known_clock g.K.Clock c.args.clock.now) (known_clock g.K.Clock c.commit.new.clock) in
    subst P (sym c.in-Commit.is) (c.in_ok-commit-in-Commit.ensures.spent terms s z b)

pub returns-in_err-commit-in-Commit-clause-spent : goal.returns-in_err-commit-in-Commit-clause-spent
returns-in_err-commit-in-Commit-clause-spent g c = λ terms s z.
    let b = known_files g.F.Files c.args.files.now in
    let kb = known_clock g.K.Clock c.args.clock.now in
    let ka = known_clock g.K.Clock c.commit.new.clock in
    let r = c.from_residual-in_err-commit-in-Commit.result in
    let P : Stmt → Type 0 = λ x. Spends (statement_reads s x) (statement_asks s x) b b kb ka r in
    subst P (sym c.in-Commit.is) (spends-passed Reply _ _ b b kb ka c.in_err-commit-in-Commit.field-0.0 r (c.in_err-commit-in-Commit.ensures.spent terms s z b) (err_from_is_err_and r c.from_residual-in_err-commit-in-Commit.ensures.1))

pub returns-in_ok-load-in-Load-clause-spent : goal.returns-in_ok-load-in-Load-clause-spent
returns-in_ok-load-in-Load-clause-spent g c = λ terms s z.
    let k = known_clock g.K.Clock c.args.clock.now in
    let P : Stmt → Type 0 = λ x. HasSpent (statement_reads s x) (statement_asks s x) (known_files g.F.Files c.args.files.now) (known_files g.F.Files c.load.new.files) k k in
    subst P (sym c.in-Load.is) (c.in_ok-load-in-Load.ensures.spent terms s z k)

pub returns-in_err-load-in-Load-clause-spent : goal.returns-in_err-load-in-Load-clause-spent
returns-in_err-load-in-Load-clause-spent g c = λ terms s z.
    let b = known_files g.F.Files c.args.files.now in
    let a = known_files g.F.Files c.load.new.files in
    let k = known_clock g.K.Clock c.args.clock.now in
    let r = c.from_residual-in_err-load-in-Load.result in
    let P : Stmt → Type 0 = λ x. Spends (statement_reads s x) (statement_asks s x) b a k k r in
    subst P (sym c.in-Load.is) (spends-passed Reply _ _ b a k k c.in_err-load-in-Load.field-0.0 r (c.in_err-load-in-Load.ensures.spent terms s z k) (err_from_is_err_and r c.from_residual-in_err-load-in-Load.ensures.1))
