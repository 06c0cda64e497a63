use Rattle.std.proofs.Common.{Ok, refl, sym, ap, ◌∙◌, subst}
use Rattle.std.proofs.lemmas.Result.{err_from_is_err_and}
use Rattle.std.specs.Prelude.{is_some}
use Rattle.std.specs.declared.option.Option.{Option}
use Rattle.cp_reply.specs.declared.reply.Reply.{Reply}
use Rattle.cp_reply.specs.Session.{Session, turn, turn_alone, shared_turn}
use Rattle.cp_workspace.specs.Texts.{Terms, setting}
use Rattle.cp_workspace.specs.Clocks.{known_clock}
use Rattle.cp_workspace.specs.Files.{known_files}
use Rattle.cp_workspace.specs.Supplies.{IsSupplied}
use Rattle.cp_workspace.specs.Workspaces.{HasTurned, IsUsable, Stands, any_of_nobody, shared_by, workspace_at}
use Rattle.cp_workspace.specs.Commits.{cut_asks_alone}
use Rattle.cp_workspace.specs.Loads.{cut_reads_alone}
use Rattle.cp_workspace.proofs.Sharing.{taken-again, taken-none}
use Rattle.cp_workspace.proofs.Spent.{spends-passed}
use Rattle.cp_workspace.proofs.Turning.{turned-as, turned-given, turned-passed, turn-of_one, spends-of_one, turn-of_several, spends-of_several}
use Rattle.cp_workspace.proofs.workspace.Workspace.reply_to.Goals as goal

pub reply_alone-requires-clause-usable : goal.reply_alone-requires-clause-usable
reply_alone-requires-clause-usable g c =
    let old = c.args.self.now in
    let same = taken-none old c.take.new.self (sym c.take.ensures.value ∙ c.in_default.is) c.take.ensures.after in
    subst (λ d. IsUsable g.R.TreeRep.contents g.S.TreeRep.contents (g.D.Disk.known c.args.disk.now) d) (sym same) c.requires.usable

pub returns-in_err-reply-clause-turned : goal.returns-in_err-reply-clause-turned
returns-in_err-reply-clause-turned g c =
    let view = g.R.TreeRep.contents in
    let source_view = g.S.TreeRep.contents in
    let old = c.args.self.now in
    let new = c.reply_alone.new.self in
    let b = known_files g.F.Files c.args.files.now in
    let before = known_clock g.K.Clock c.args.clock.now in
    let after = known_clock g.K.Clock c.reply_alone.new.clock in
    let v = g.D.Disk.known c.args.disk.now in
    let w = g.D.Disk.known c.reply_alone.new.disk in
    let r = c.from_residual.result in
    let p = err_from_is_err_and r c.from_residual.ensures.1 in
    let none = sym c.take.ensures.value ∙ c.in_default.is in
    let first = record old { curators = c.take.new.self } in
    let alone = λ (terms : Terms) (s : Session). turn_alone (setting terms) s c.args.cut in
    turned-as view source_view (λ r. r) alone (λ terms s. turn (setting terms) s c.args.cut) (IsSupplied b before after) old new v w r
    (λ terms s z. turn-of_one terms s c.args.cut (sym z.shared ∙ ap is_some none))
    (subst (λ d. HasTurned view source_view (λ r. r) alone (IsSupplied b before after) (workspace_at d v) (workspace_at new w) r) (taken-none old c.take.new.self none c.take.ensures.after)
    (turned-passed view source_view any_of_nobody alone b before after first new v w _ (λ r. r) c.in_err-reply.ensures.turned r p.0 p.1))

pub returns-in_err-reply-clause-spent : goal.returns-in_err-reply-clause-spent
returns-in_err-reply-clause-spent g c = λ terms s z.
    let fb = known_files g.F.Files c.args.files.now in
    let fa = known_files g.F.Files c.reply_alone.new.files in
    let kb = known_clock g.K.Clock c.args.clock.now in
    let ka = known_clock g.K.Clock c.reply_alone.new.clock in
    let r = c.from_residual.result in
    let none = sym c.take.ensures.value ∙ c.in_default.is in
    let stands = subst (λ d. Stands g.R.TreeRep.contents g.S.TreeRep.contents terms d s) (sym (taken-none c.args.self.now c.take.new.self none c.take.ensures.after)) z in
    spends-of_one terms s c.args.cut fb fa kb ka r (sym z.shared ∙ ap is_some none)
    (spends-passed (Option Reply) (cut_reads_alone s c.args.cut) (cut_asks_alone s c.args.cut) fb fa kb ka c.in_err-reply.field-0.0 r (c.in_err-reply.ensures.spent terms s stands) (err_from_is_err_and r c.from_residual.ensures.1))

pub returns-in_default-clause-turned : goal.returns-in_default-clause-turned
returns-in_default-clause-turned g c =
    let view = g.R.TreeRep.contents in
    let source_view = g.S.TreeRep.contents in
    let old = c.args.self.now in
    let new = c.reply_alone.new.self in
    let b = known_files g.F.Files c.args.files.now in
    let before = known_clock g.K.Clock c.args.clock.now in
    let after = known_clock g.K.Clock c.reply_alone.new.clock in
    let v = g.D.Disk.known c.args.disk.now in
    let w = g.D.Disk.known c.reply_alone.new.disk in
    let none = sym c.take.ensures.value ∙ c.in_default.is in
    let first = record old { curators = c.take.new.self } in
    let alone = λ (terms : Terms) (s : Session). turn_alone (setting terms) s c.args.cut in
    turned-as view source_view (λ r. r) alone (λ terms s. turn (setting terms) s c.args.cut) (IsSupplied b before after) old new v w (Ok c.said_to.result)
    (λ terms s z. turn-of_one terms s c.args.cut (sym z.shared ∙ ap is_some none))
    (subst (λ d. HasTurned view source_view (λ r. r) alone (IsSupplied b before after) (workspace_at d v) (workspace_at new w) (Ok c.said_to.result)) (taken-none old c.take.new.self none c.take.ensures.after)
    (turned-given view source_view any_of_nobody alone b before after first new v w _ (λ r. r) c.in_ok-reply.ensures.turned c.in_ok-reply.reply c.said_to.result refl (sym c.said_to.ensures)))

pub returns-in_default-clause-spent : goal.returns-in_default-clause-spent
returns-in_default-clause-spent g c = λ terms s z.
    let none = sym c.take.ensures.value ∙ c.in_default.is in
    let stands = subst (λ d. Stands g.R.TreeRep.contents g.S.TreeRep.contents terms d s) (sym (taken-none c.args.self.now c.take.new.self none c.take.ensures.after)) z in
    spends-of_one terms s c.args.cut (known_files g.F.Files c.args.files.now) (known_files g.F.Files c.reply_alone.new.files) (known_clock g.K.Clock c.args.clock.now) (known_clock g.K.Clock c.reply_alone.new.clock) (Ok c.said_to.result) (sym z.shared ∙ ap is_some none)
    (c.in_ok-reply.ensures.spent terms s stands)

pub reply_shared-said-requires-clause-usable : goal.reply_shared-said-requires-clause-usable
reply_shared-said-requires-clause-usable g c =
    let old = c.args.self.now in
    let same = taken-again old c.take.new.self c.in-Some.curators (sym c.take.ensures.value ∙ c.in-Some.is) in
    subst (λ d. IsUsable g.R.TreeRep.contents g.S.TreeRep.contents (g.D.Disk.known c.args.disk.now) d) (sym same) c.requires.usable

pub returns-clause-turned : goal.returns-clause-turned
returns-clause-turned g c =
    let view = g.R.TreeRep.contents in
    let source_view = g.S.TreeRep.contents in
    let old = c.args.self.now in
    let new = shared_by c.reply_shared-said.new.self c.reply_shared-said.new.curators in
    let told = IsSupplied (known_files g.F.Files c.args.files.now) (known_clock g.K.Clock c.args.clock.now) (known_clock g.K.Clock c.reply_shared-said.new.clock) in
    let v = g.D.Disk.known c.args.disk.now in
    let w = g.D.Disk.known c.reply_shared-said.new.disk in
    let r = c.reply_shared-said.result in
    let some = sym c.take.ensures.value ∙ c.in-Some.is in
    let shared = λ (terms : Terms) (s : Session). shared_turn (setting terms) s c.args.cut in
    turned-as view source_view (λ r. r) shared (λ terms s. turn (setting terms) s c.args.cut) told old new v w r
    (λ terms s z. turn-of_several terms s c.args.cut (sym z.shared ∙ ap is_some some))
    (subst (λ d. HasTurned view source_view (λ r. r) shared told (workspace_at d v) (workspace_at new w) r) (taken-again old c.take.new.self c.in-Some.curators some) c.reply_shared-said.ensures.turned)

pub returns-clause-spent : goal.returns-clause-spent
returns-clause-spent g c = λ terms s z.
    let some = sym c.take.ensures.value ∙ c.in-Some.is in
    let stands = subst (λ d. Stands g.R.TreeRep.contents g.S.TreeRep.contents terms d s) (sym (taken-again c.args.self.now c.take.new.self c.in-Some.curators some)) z in
    spends-of_several terms s c.args.cut (known_files g.F.Files c.args.files.now) (known_files g.F.Files c.reply_shared-said.new.files) (known_clock g.K.Clock c.args.clock.now) (known_clock g.K.Clock c.reply_shared-said.new.clock) c.reply_shared-said.result (sym z.shared ∙ ap is_some some)
    (c.reply_shared-said.ensures.spent terms s stands)
