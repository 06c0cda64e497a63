use Rattle.std.proofs.Common.{ℕ, List, Ok, length, subst, sym}
use Rattle.std.proofs.lemmas.Result.{err_from_is_err_and}
use Rattle.std.specs.declared.option.Option.TheVariants.{Some}
use Rattle.cp_lang.specs.declared.cut.Cut.{Cut}
use Rattle.cp_reply.specs.declared.reply.Why.TheVariants as why
use Rattle.cp_reply.specs.Session.{Session, turn_alone, turn_of, not_read}
use Rattle.cp_workspace.specs.Supplies.{IsSupplied}
use Rattle.cp_workspace.specs.Texts.{Terms, setting, reading}
use Rattle.cp_workspace.specs.Loads.{text_reads, cut_reads_alone}
use Rattle.cp_workspace.specs.Files.{known_files}
use Rattle.cp_workspace.specs.Clocks.{known_clock}
use Rattle.cp_workspace.specs.Commits.{text_asks, cut_asks_alone}
use Rattle.cp_workspace.specs.Spending.{HasSpent, Spends}
use Rattle.cp_workspace.specs.Workspaces.{workspace_at, Stands, Turned, HasTurned, any_of_nobody}
use Rattle.cp_workspace.proofs.Spent.{spent-none, spends-nothing}
use Rattle.cp_workspace.proofs.Turning.{file-same, usable-kept, quiet-unread, turned-quiet, turned-failed}
use Rattle.cp_workspace.proofs.workspace.Workspace.reply_alone.Goals as goal

pub returns-in-Text-clause-turned : goal.returns-in-Text-clause-turned
returns-in-Text-clause-turned g c =
    let view = g.R.TreeRep.contents in
    let source_view = g.S.TreeRep.contents in
    let before = known_files g.F.Files c.args.files.now in
    let v = g.D.Disk.known c.args.disk.now in
    let w = g.D.Disk.known c.run_text.new.disk in
    let clock = known_clock g.K.Clock c.args.clock.now in
    let ka = known_clock g.K.Clock c.run_text.new.clock in
    let P : Cut → Type 0 = λ x. HasTurned view source_view any_of_nobody (λ terms s. turn_alone (setting terms) s x) (IsSupplied before clock ka) (workspace_at c.args.self.now v) (workspace_at c.run_text.new.self w) c.run_text.result in
    let Q : List ℕ → Type 0 = λ x. HasTurned view source_view any_of_nobody (λ terms s. turn_of (setting terms) s (reading x)) (IsSupplied before clock ka) (workspace_at c.args.self.now v) (workspace_at c.run_text.new.self w) c.run_text.result in
    subst P (sym c.in-Text.is) (subst Q c.as_slice.ensures c.run_text.ensures.turned)

pub returns-in-Text-clause-spent : goal.returns-in-Text-clause-spent
returns-in-Text-clause-spent g c = λ terms s z.
    let before = known_files g.F.Files c.args.files.now in
    let after = known_files g.F.Files c.run_text.new.files in
    let kb = known_clock g.K.Clock c.args.clock.now in
    let ka = known_clock g.K.Clock c.run_text.new.clock in
    let P : Cut → Type 0 = λ x. Spends (cut_reads_alone s x) (cut_asks_alone s x) before after kb ka c.run_text.result in
    let Q : List ℕ → Type 0 = λ t. Spends (text_reads s (reading t)) (text_asks s (reading t)) before after kb ka c.run_text.result in
    subst P (sym c.in-Text.is) (subst Q c.as_slice.ensures (c.run_text.ensures.spent terms s z))

pub returns-in_ok-refuse-in-TooLong-clause-spent : goal.returns-in_ok-refuse-in-TooLong-clause-spent
returns-in_ok-refuse-in-TooLong-clause-spent g c = λ terms s z.
    let b = known_files g.F.Files c.args.files.now in
    let k = known_clock g.K.Clock c.args.clock.now in
    let P : Cut → Type 0 = λ x. HasSpent (cut_reads_alone s x) (cut_asks_alone s x) b b k k in
    subst P (sym c.in-TooLong.is) (spent-none b k)

pub returns-in_err-refuse-in-TooLong-clause-spent : goal.returns-in_err-refuse-in-TooLong-clause-spent
returns-in_err-refuse-in-TooLong-clause-spent g c = λ terms s z.
    let r = c.from_residual.result in
    spends-nothing (cut_reads_alone s c.args.cut) (cut_asks_alone s c.args.cut) (known_files g.F.Files c.args.files.now) (known_clock g.K.Clock c.args.clock.now) r (err_from_is_err_and r c.from_residual.ensures.1)

pub returns-in_ok-refuse-in-Unfinished-clause-spent : goal.returns-in_ok-refuse-in-Unfinished-clause-spent
returns-in_ok-refuse-in-Unfinished-clause-spent g c = λ terms s z.
    let b = known_files g.F.Files c.args.files.now in
    let k = known_clock g.K.Clock c.args.clock.now in
    let P : Cut → Type 0 = λ x. HasSpent (cut_reads_alone s x) (cut_asks_alone s x) b b k k in
    subst P (sym c.in-Unfinished.is) (spent-none b k)

pub returns-in_err-refuse-in-Unfinished-clause-spent : goal.returns-in_err-refuse-in-Unfinished-clause-spent
returns-in_err-refuse-in-Unfinished-clause-spent g c = λ terms s z.
    let r = c.from_residual-in_err-refuse-in-Unfinished.result in
    spends-nothing (cut_reads_alone s c.args.cut) (cut_asks_alone s c.args.cut) (known_files g.F.Files c.args.files.now) (known_clock g.K.Clock c.args.clock.now) r (err_from_is_err_and r c.from_residual-in_err-refuse-in-Unfinished.ensures.1)

pub returns-in_ok-refuse-in-TooLong-clause-turned : goal.returns-in_ok-refuse-in-TooLong-clause-turned
returns-in_ok-refuse-in-TooLong-clause-turned g c =
    let view = g.R.TreeRep.contents in
    let source_view = g.S.TreeRep.contents in
    let old = c.args.self.now in
    let new = c.refuse.new.self in
    let b = known_files g.F.Files c.args.files.now in
    let v = g.D.Disk.known c.args.disk.now in
    let clock = known_clock g.K.Clock c.args.clock.now in
    let r = Some c.in_ok-refuse-in-TooLong.field-0 in
    let P : Cut → Type 0 = λ x. HasTurned view source_view any_of_nobody (λ terms s. turn_alone (setting terms) s x) (IsSupplied b clock clock) (workspace_at old v) (workspace_at new v) (Ok r) in
    subst P (sym c.in-TooLong.is)
    (turned-quiet view source_view (λ terms s. not_read s why.StatementTooLong) old new v any_of_nobody b clock (Ok r) (file-same old.db new.db c.in_ok-refuse-in-TooLong.ensures.same) (λ terms s. quiet-unread s why.StatementTooLong) c.in_ok-refuse-in-TooLong.ensures.turned)

pub returns-in_ok-refuse-in-TooLong-clause-stays : goal.returns-in_ok-refuse-in-TooLong-clause-stays
returns-in_ok-refuse-in-TooLong-clause-stays g c =
    usable-kept g.R.TreeRep.contents g.S.TreeRep.contents c.args.self.now c.refuse.new.self (g.D.Disk.known c.args.disk.now) (file-same c.args.self.now.db c.refuse.new.self.db c.in_ok-refuse-in-TooLong.ensures.same) c.requires.usable c.in_ok-refuse-in-TooLong.ensures.stays

pub returns-in_err-refuse-in-TooLong-clause-turned : goal.returns-in_err-refuse-in-TooLong-clause-turned
returns-in_err-refuse-in-TooLong-clause-turned g c =
    let b = known_files g.F.Files c.args.files.now in
    let r = c.from_residual.result in
    let p = err_from_is_err_and r c.from_residual.ensures.1 in
    turned-failed g.R.TreeRep.contents g.S.TreeRep.contents (λ terms s. turn_alone (setting terms) s c.args.cut) c.args.self.now c.refuse.new.self (g.D.Disk.known c.args.disk.now) any_of_nobody b (known_clock g.K.Clock c.args.clock.now) r p.0 p.1

pub returns-in_ok-refuse-in-Unfinished-clause-turned : goal.returns-in_ok-refuse-in-Unfinished-clause-turned
returns-in_ok-refuse-in-Unfinished-clause-turned g c =
    let view = g.R.TreeRep.contents in
    let source_view = g.S.TreeRep.contents in
    let old = c.args.self.now in
    let new = c.refuse-in-Unfinished.new.self in
    let b = known_files g.F.Files c.args.files.now in
    let v = g.D.Disk.known c.args.disk.now in
    let clock = known_clock g.K.Clock c.args.clock.now in
    let r = Some c.in_ok-refuse-in-Unfinished.field-0 in
    let P : Cut → Type 0 = λ x. HasTurned view source_view any_of_nobody (λ terms s. turn_alone (setting terms) s x) (IsSupplied b clock clock) (workspace_at old v) (workspace_at new v) (Ok r) in
    subst P (sym c.in-Unfinished.is)
    (turned-quiet view source_view (λ terms s. not_read s (why.Syntax (length c.in-Unfinished.text))) old new v any_of_nobody b clock (Ok r) (file-same old.db new.db c.in_ok-refuse-in-Unfinished.ensures.same) (λ terms s. quiet-unread s (why.Syntax (length c.in-Unfinished.text))) (subst (λ (x : List ℕ). (terms : Terms) (s : Session) → Stands view source_view terms old s → Turned view source_view terms (not_read s (why.Syntax (length x))) new (any_of_nobody r)) c.as_slice-in-Unfinished.ensures c.in_ok-refuse-in-Unfinished.ensures.turned))

pub returns-in_ok-refuse-in-Unfinished-clause-stays : goal.returns-in_ok-refuse-in-Unfinished-clause-stays
returns-in_ok-refuse-in-Unfinished-clause-stays g c =
    usable-kept g.R.TreeRep.contents g.S.TreeRep.contents c.args.self.now c.refuse-in-Unfinished.new.self (g.D.Disk.known c.args.disk.now) (file-same c.args.self.now.db c.refuse-in-Unfinished.new.self.db c.in_ok-refuse-in-Unfinished.ensures.same) c.requires.usable c.in_ok-refuse-in-Unfinished.ensures.stays

pub returns-in_err-refuse-in-Unfinished-clause-turned : goal.returns-in_err-refuse-in-Unfinished-clause-turned
returns-in_err-refuse-in-Unfinished-clause-turned g c =
    let b = known_files g.F.Files c.args.files.now in
    let r = c.from_residual-in_err-refuse-in-Unfinished.result in
    let p = err_from_is_err_and r c.from_residual-in_err-refuse-in-Unfinished.ensures.1 in
    turned-failed g.R.TreeRep.contents g.S.TreeRep.contents (λ terms s. turn_alone (setting terms) s c.args.cut) c.args.self.now c.refuse-in-Unfinished.new.self (g.D.Disk.known c.args.disk.now) any_of_nobody b (known_clock g.K.Clock c.args.clock.now) r p.0 p.1
