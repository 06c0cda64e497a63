use Rattle.std.proofs.Common.{ℕ, List, Ok, Err, refl, sym, ap, subst, ◌∙◌}
use Rattle.std.proofs.lemmas.Result.{err_from_is_err_and}
use Rattle.std.specs.declared.option.Option.{Option}
use Rattle.std.specs.declared.option.Option.TheVariants.{None, Some}
use Rattle.cp_lang.specs.Lexer.{spaces}
use Rattle.cp_reply.specs.declared.reply.Of.TheVariants as of
use Rattle.cp_reply.specs.declared.reply.Reply.{Reply}
use Rattle.cp_reply.specs.declared.reply.Reply.TheVariants as reply
use Rattle.cp_reply.specs.declared.reply.Why.TheVariants as why
use Rattle.cp_reply.specs.Sharing.{bad_byte_or, blanked, owner, statement_in}
use Rattle.cp_reply.specs.Session.{said_to, turn_by_owner}
use Rattle.cp_workspace.specs.Clocks.{known_clock}
use Rattle.cp_workspace.specs.Commits.{owned_asks}
use Rattle.cp_workspace.specs.Files.{known_files}
use Rattle.cp_workspace.specs.Loads.{owned_reads}
use Rattle.cp_workspace.specs.Spending.{HasSpent, Spends}
use Rattle.cp_workspace.specs.Supplies.{IsSupplied}
use Rattle.cp_workspace.specs.Texts.{setting, reading}
use Rattle.cp_workspace.specs.Workspaces.{HasTurned, any_to_name, shared_by, workspace_at}
use Rattle.cp_workspace.proofs.Spent.{spends-passed}
use Rattle.cp_workspace.proofs.Turning.{file-same, turned-quiet, turned-failed, turned-given, turned-passed}
use Rattle.cp_workspace.proofs.workspace.Workspace.run_owned.Goals as goal

pub returns-in_err-name-clause-turned : goal.returns-in_err-name-clause-turned
returns-in_err-name-clause-turned g c =
    let old = shared_by c.args.self.now c.args.curators.now in
    let text = c.args.text.now in
    let p = err_from_is_err_and c.from_residual.result c.from_residual.ensures.1 in
    turned-failed g.R.TreeRep.contents g.S.TreeRep.contents (λ terms s. turn_by_owner (setting terms) s (bad_byte_or (spaces text) text) (owner text) (reading (statement_in text))) old old (g.D.Disk.known c.args.disk.now) (λ r. r) (known_files g.F.Files c.args.files.now) (known_clock g.K.Clock c.args.clock.now) c.from_residual.result p.0 p.1

pub returns-in_default-clause-turned : goal.returns-in_default-clause-turned
returns-in_default-clause-turned g c =
    let view = g.R.TreeRep.contents in
    let source_view = g.S.TreeRep.contents in
    let old = shared_by c.args.self.now c.args.curators.now in
    let text = c.args.text.now in
    let at = bad_byte_or (spaces text) text in
    let r = reading (statement_in text) in
    let b = known_files g.F.Files c.args.files.now in
    let clock = known_clock g.K.Clock c.args.clock.now in
    let v = g.D.Disk.known c.args.disk.now in
    let result = Ok (Some c.to_nobody.result) in
    let T : Option (List ℕ) → Type 0 = λ o. HasTurned view source_view (λ r. r) (λ terms s. turn_by_owner (setting terms) s at o r) (IsSupplied b clock clock) (workspace_at old v) (workspace_at old v) result in
    let said = c.to_nobody.ensures ∙ ap (λ k. said_to None (reply.Refused of.Statement (why.Syntax k))) (c.bad_byte_or-at.ensures ∙ ap (λ m. bad_byte_or m text) c.spaces.ensures.is) in
    subst T (sym c.in_default.is ∙ c.in_ok-name.ensures)
    (turned-quiet view source_view (λ terms s. turn_by_owner (setting terms) s at None r) old old v (λ r. r) b clock result (file-same old.db old.db refl) (λ terms s. record { history = refl; supply = refl })
    (λ terms s z. (ap (λ x. Some x) said, z)))

pub returns-in_err-reply-clause-turned : goal.returns-in_err-reply-clause-turned
returns-in_err-reply-clause-turned g c =
    let view = g.R.TreeRep.contents in
    let source_view = g.S.TreeRep.contents in
    let text = c.args.text.now in
    let at = bad_byte_or (spaces text) text in
    let old = shared_by c.args.self.now c.args.curators.now in
    let new = shared_by c.run_text_for.new.self c.run_text_for.new.curators in
    let b = known_files g.F.Files c.args.files.now in
    let before = known_clock g.K.Clock c.args.clock.now in
    let after = known_clock g.K.Clock c.run_text_for.new.clock in
    let v = g.D.Disk.known c.args.disk.now in
    let w = g.D.Disk.known c.run_text_for.new.disk in
    let n = c.in-Some.name in
    let called = Err c.in_err-reply.field-0.0 in
    let Q : Option (List ℕ) → Type 0 = λ o. HasTurned view source_view (any_to_name n) (λ terms s. turn_by_owner (setting terms) s at o (reading c.blank.new.text)) (IsSupplied b before after) (workspace_at old v) (workspace_at new w) called in
    let T : List ℕ → Type 0 = λ y. HasTurned view source_view (any_to_name n) (λ terms s. turn_by_owner (setting terms) s at (owner text) (reading y)) (IsSupplied b before after) (workspace_at old v) (workspace_at new w) called in
    let h = subst T (c.blank.ensures ∙ ap (λ k. blanked k text) c.front_end-end.ensures.end) (subst Q (sym c.in-Some.is ∙ c.in_ok-name.ensures) c.in_err-reply.ensures.turned) in
    let r = c.from_residual-in_err-reply.result in
    let p = err_from_is_err_and r c.from_residual-in_err-reply.ensures.1 in
    turned-passed view source_view (any_to_name n) (λ terms s. turn_by_owner (setting terms) s at (owner text) (reading (statement_in text))) b before after old new v w called (λ r. r) h r p.0 p.1

pub returns-clause-turned : goal.returns-clause-turned
returns-clause-turned g c =
    let view = g.R.TreeRep.contents in
    let source_view = g.S.TreeRep.contents in
    let text = c.args.text.now in
    let at = bad_byte_or (spaces text) text in
    let old = shared_by c.args.self.now c.args.curators.now in
    let new = shared_by c.run_text_for.new.self c.run_text_for.new.curators in
    let b = known_files g.F.Files c.args.files.now in
    let before = known_clock g.K.Clock c.args.clock.now in
    let after = known_clock g.K.Clock c.run_text_for.new.clock in
    let v = g.D.Disk.known c.args.disk.now in
    let w = g.D.Disk.known c.run_text_for.new.disk in
    let n = c.in-Some.name in
    let called = Ok c.in_ok-reply.reply in
    let Q : Option (List ℕ) → Type 0 = λ o. HasTurned view source_view (any_to_name n) (λ terms s. turn_by_owner (setting terms) s at o (reading c.blank.new.text)) (IsSupplied b before after) (workspace_at old v) (workspace_at new w) called in
    let T : List ℕ → Type 0 = λ y. HasTurned view source_view (any_to_name n) (λ terms s. turn_by_owner (setting terms) s at (owner text) (reading y)) (IsSupplied b before after) (workspace_at old v) (workspace_at new w) called in
    let h = subst T (c.blank.ensures ∙ ap (λ k. blanked k text) c.front_end-end.ensures.end) (subst Q (sym c.in-Some.is ∙ c.in_ok-name.ensures) c.in_ok-reply.ensures.turned) in
    turned-given view source_view (any_to_name n) (λ terms s. turn_by_owner (setting terms) s at (owner text) (reading (statement_in text))) b before after old new v w called (λ r. r) h c.in_ok-reply.reply c.said_to.result refl (sym c.said_to.ensures)

pub returns-in_err-reply-clause-spent : goal.returns-in_err-reply-clause-spent
returns-in_err-reply-clause-spent g c = λ terms s z.
    let text = c.args.text.now in
    let fb = known_files g.F.Files c.args.files.now in
    let fa = known_files g.F.Files c.run_text_for.new.files in
    let kb = known_clock g.K.Clock c.args.clock.now in
    let ka = known_clock g.K.Clock c.run_text_for.new.clock in
    let e = c.in_err-reply.field-0.0 in
    let Q : Option (List ℕ) → Type 0 = λ o. Spends {T = Option Reply} (owned_reads s o (reading c.blank.new.text)) (owned_asks s o (reading c.blank.new.text)) fb fa kb ka (Err e) in
    let T : List ℕ → Type 0 = λ y. Spends {T = Option Reply} (owned_reads s (owner text) (reading y)) (owned_asks s (owner text) (reading y)) fb fa kb ka (Err e) in
    let h = subst T (c.blank.ensures ∙ ap (λ k. blanked k text) c.front_end-end.ensures.end) (subst Q (sym c.in-Some.is ∙ c.in_ok-name.ensures) (c.in_err-reply.ensures.spent terms s z)) in
    let r = c.from_residual-in_err-reply.result in
    spends-passed (Option Reply) (owned_reads s (owner text) (reading (statement_in text))) (owned_asks s (owner text) (reading (statement_in text))) fb fa kb ka e r h (err_from_is_err_and r c.from_residual-in_err-reply.ensures.1)

pub returns-clause-spent : goal.returns-clause-spent
returns-clause-spent g c = λ terms s z.
    let text = c.args.text.now in
    let fb = known_files g.F.Files c.args.files.now in
    let fa = known_files g.F.Files c.run_text_for.new.files in
    let kb = known_clock g.K.Clock c.args.clock.now in
    let ka = known_clock g.K.Clock c.run_text_for.new.clock in
    let Q : Option (List ℕ) → Type 0 = λ o. HasSpent (owned_reads s o (reading c.blank.new.text)) (owned_asks s o (reading c.blank.new.text)) fb fa kb ka in
    let T : List ℕ → Type 0 = λ y. HasSpent (owned_reads s (owner text) (reading y)) (owned_asks s (owner text) (reading y)) fb fa kb ka in
    subst T (c.blank.ensures ∙ ap (λ k. blanked k text) c.front_end-end.ensures.end) (subst Q (sym c.in-Some.is ∙ c.in_ok-name.ensures) (c.in_ok-reply.ensures.spent terms s z))
