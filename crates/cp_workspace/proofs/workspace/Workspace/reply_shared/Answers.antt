use Rattle.std.proofs.Common.{ℕ, List, Ok, length, refl, subst, sym, ap, ◌∙◌}
use Rattle.std.proofs.lemmas.Result.{err_from_is_err_and}
use Rattle.std.specs.declared.option.Option.TheVariants.{Some}
use Rattle.cp_lang.specs.Lexer.{spaces}
use Rattle.cp_lang.specs.declared.cut.Cut.{Cut}
use Rattle.cp_reply.specs.declared.reply.Why.TheVariants as why
use Rattle.cp_reply.specs.Sharing.{bad_byte_or, owner, statement_in}
use Rattle.cp_reply.specs.Session.{Session, refuses, shared_turn, turn_by_owner, unread}
use Rattle.cp_workspace.specs.Clocks.{known_clock}
use Rattle.cp_workspace.specs.Commits.{owned_asks, shared_asks}
use Rattle.cp_workspace.specs.Files.{known_files}
use Rattle.cp_workspace.specs.Loads.{owned_reads, shared_reads}
use Rattle.cp_workspace.specs.Spending.{Spends}
use Rattle.cp_workspace.specs.Supplies.{IsSupplied}
use Rattle.cp_workspace.specs.Texts.{Terms, setting, reading}
use Rattle.cp_workspace.specs.Workspaces.{HasTurned, Stands, Turned, shared_by, workspace_at}
use Rattle.cp_workspace.proofs.Sharing.{quiet-unfinished}
use Rattle.cp_workspace.proofs.Turning.{file-same, turned-quiet, turned-failed}
use Rattle.cp_workspace.proofs.workspace.Workspace.reply_shared.Goals as goal

pub returns-in-Text-clause-turned : goal.returns-in-Text-clause-turned
returns-in-Text-clause-turned g c =
    let view = g.R.TreeRep.contents in
    let source_view = g.S.TreeRep.contents in
    let old = shared_by c.args.self.now c.args.curators.now in
    let new = shared_by c.run_owned.new.self c.run_owned.new.curators in
    let told = IsSupplied (known_files g.F.Files c.args.files.now) (known_clock g.K.Clock c.args.clock.now) (known_clock g.K.Clock c.run_owned.new.clock) in
    let v = g.D.Disk.known c.args.disk.now in
    let w = g.D.Disk.known c.run_owned.new.disk in
    let P : Cut → Type 0 = λ x. HasTurned view source_view (λ r. r) (λ terms s. shared_turn (setting terms) s x) told (workspace_at old v) (workspace_at new w) c.run_owned.result in
    let Q : List ℕ → Type 0 = λ x. HasTurned view source_view (λ r. r) (λ terms s. turn_by_owner (setting terms) s (bad_byte_or (spaces x) x) (owner x) (reading (statement_in x))) told (workspace_at old v) (workspace_at new w) c.run_owned.result in
    subst P (sym c.in-Text.is) (subst Q (c.as_mut_slice-bytes.ensures.value ∙ c.text.view_is) c.run_owned.ensures.turned)

pub returns-in-Text-clause-spent : goal.returns-in-Text-clause-spent
returns-in-Text-clause-spent g c = λ terms s z.
    let fb = known_files g.F.Files c.args.files.now in
    let fa = known_files g.F.Files c.run_owned.new.files in
    let kb = known_clock g.K.Clock c.args.clock.now in
    let ka = known_clock g.K.Clock c.run_owned.new.clock in
    let P : Cut → Type 0 = λ x. Spends (shared_reads s x) (shared_asks s x) fb fa kb ka c.run_owned.result in
    let Q : List ℕ → Type 0 = λ x. Spends (owned_reads s (owner x) (reading (statement_in x))) (owned_asks s (owner x) (reading (statement_in x))) fb fa kb ka c.run_owned.result in
    subst P (sym c.in-Text.is) (subst Q (c.as_mut_slice-bytes.ensures.value ∙ c.text.view_is) (c.run_owned.ensures.spent terms s z))

pub returns-in-TooLong-clause-turned : goal.returns-in-TooLong-clause-turned
returns-in-TooLong-clause-turned g c =
    let view = g.R.TreeRep.contents in
    let source_view = g.S.TreeRep.contents in
    let old = shared_by c.args.self.now c.args.curators.now in
    let b = known_files g.F.Files c.args.files.now in
    let clock = known_clock g.K.Clock c.args.clock.now in
    let v = g.D.Disk.known c.args.disk.now in
    let result = Ok (Some c.to_nobody.result) in
    let P : Cut → Type 0 = λ x. HasTurned view source_view (λ r. r) (λ terms s. shared_turn (setting terms) s x) (IsSupplied b clock clock) (workspace_at old v) (workspace_at old v) result in
    subst P (sym c.in-TooLong.is)
    (turned-quiet view source_view (λ terms s. refuses why.StatementTooLong s) old old v (λ r. r) b clock result (file-same old.db old.db refl) (λ terms s. record { history = refl; supply = refl })
    (λ terms s z. (ap (λ x. Some x) c.to_nobody.ensures, z)))

pub returns-in_ok-refuse_unfinished-in-Unfinished-clause-turned : goal.returns-in_ok-refuse_unfinished-in-Unfinished-clause-turned
returns-in_ok-refuse_unfinished-in-Unfinished-clause-turned g c =
    let view = g.R.TreeRep.contents in
    let source_view = g.S.TreeRep.contents in
    let old = shared_by c.args.self.now c.args.curators.now in
    let new = shared_by c.args.self.now c.refuse_unfinished.new.curators in
    let b = known_files g.F.Files c.args.files.now in
    let clock = known_clock g.K.Clock c.args.clock.now in
    let v = g.D.Disk.known c.args.disk.now in
    let text = c.in-Unfinished.text in
    let r = Some c.in_ok-refuse_unfinished-in-Unfinished.field-0 in
    let P : Cut → Type 0 = λ x. HasTurned view source_view (λ r. r) (λ terms s. shared_turn (setting terms) s x) (IsSupplied b clock clock) (workspace_at old v) (workspace_at new v) (Ok r) in
    let Q : List ℕ → Type 0 = λ x. (terms : Terms) (s : Session) → Stands view source_view terms old s → Turned view source_view terms (turn_by_owner (setting terms) s (bad_byte_or (length x) x) (owner x) (unread (why.Syntax (length x)))) new r in
    subst P (sym c.in-Unfinished.is)
    (turned-quiet view source_view (λ terms s. turn_by_owner (setting terms) s (bad_byte_or (length text) text) (owner text) (unread (why.Syntax (length text)))) old new v (λ r. r) b clock (Ok r) (file-same old.db old.db refl)
    (λ terms s. quiet-unfinished (setting terms) s (bad_byte_or (length text) text) (owner text) (why.Syntax (length text)))
    (subst Q c.as_slice.ensures c.in_ok-refuse_unfinished-in-Unfinished.ensures.turned))

pub returns-in_err-refuse_unfinished-in-Unfinished-clause-turned : goal.returns-in_err-refuse_unfinished-in-Unfinished-clause-turned
returns-in_err-refuse_unfinished-in-Unfinished-clause-turned g c =
    let p = err_from_is_err_and c.from_residual.result c.from_residual.ensures.1 in
    turned-failed g.R.TreeRep.contents g.S.TreeRep.contents (λ terms s. shared_turn (setting terms) s c.args.cut) (shared_by c.args.self.now c.args.curators.now) (shared_by c.args.self.now c.refuse_unfinished.new.curators) (g.D.Disk.known c.args.disk.now) (λ r. r) (known_files g.F.Files c.args.files.now) (known_clock g.K.Clock c.args.clock.now) c.from_residual.result p.0 p.1
