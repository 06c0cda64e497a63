use Rattle.std.proofs.Common.{Ok, Err, refl, sym, ap, subst}
use Rattle.std.proofs.KnownBytes.{Appends-nil}
use Rattle.std.proofs.lemmas.Result.{err_from_is_err_and}
use Rattle.std.specs.Option.{option_to_list}
use Rattle.std.specs.declared.option.Option.{Option}
use Rattle.cp_disk.proofs.Composing.{still}
use Rattle.cp_lang.specs.declared.cut.Cut.{Cut}
use Rattle.cp_reply.specs.declared.said.Said.{Said}
use Rattle.cp_reply.specs.Session.{turn}
use Rattle.cp_workspace.specs.Supplies.{IsSupplied}
use Rattle.cp_workspace.specs.Texts.{setting}
use Rattle.cp_workspace.specs.Workspaces.{workspace_at, HasTurned}
use Rattle.cp_interpreter.specs.Outside.{known_output, known_world}
use Rattle.cp_interpreter.specs.Turns.{Went, cuts_played, session_at}
use Rattle.cp_interpreter.proofs.Plays.{after_reply, went-none, went-silent, went-said, went-stopped_early}
use Rattle.cp_db.proofs.FileVersions.{version-none}
use Rattle.cp_interpreter.specs.Turns.{has_refused}
use Rattle.cp_interpreter.proofs.Replied.{sent-none, sent-fault}
use Rattle.cp_interpreter.proofs.interpreter.Interpreter.run.Goals as goal

pub returns-in_default-clause-went : goal.returns-in_default-clause-went
returns-in_default-clause-went g c =
    let view = g.R.TreeRep.contents in
    let source_view = g.S.TreeRep.contents in
    let k = c.args.self.now in
    let a = known_world g.F.Files g.K.Clock g.O.Sink c.args.files.now c.args.clock.now c.args.output.now in
    let v = g.D.Disk.known c.args.disk.now in
    let P : Option Cut → Type 0 = λ o. Went view source_view (λ s. cuts_played s (option_to_list o)) (session_at k v a) (session_at k v a) (Ok tt) in
    subst P (sym c.in_default.is) (went-none view source_view k a v)

pub returns-in-Some-2-clause-went : goal.returns-in-Some-2-clause-went
returns-in-Some-2-clause-went g c =
    let view = g.R.TreeRep.contents in
    let source_view = g.S.TreeRep.contents in
    let old = c.args.self.now in
    let mid = after_reply old c.reply_to.new.self in
    let n = c.reply_to.new in
    let b = known_world g.F.Files g.K.Clock g.O.Sink c.args.files.now c.args.clock.now c.args.output.now in
    let a = known_world g.F.Files g.K.Clock g.O.Sink n.files n.clock c.say.new.output in
    let v = g.D.Disk.known c.args.disk.now in
    let w = g.D.Disk.known n.disk in
    let cut = c.in-Some.cut in
    let said = c.in-Some-2.said in
    let T : Option Said → Type 0 = λ o. HasTurned view source_view (λ (z : Option Said). z) (λ terms s. turn (setting terms) s cut) (IsSupplied b.files b.clock a.clock) (workspace_at old.workspace v) (workspace_at mid.workspace w) (Ok o) in
    let P : Option Cut → Type 0 = λ o. Went view source_view (λ s. cuts_played s (option_to_list o)) (session_at old v b) (session_at c.say.new.self w a) c.say.result in
    subst P (sym c.in-Some.is) (went-said view source_view cut said old mid c.say.new.self b a v w c.say.result (subst T c.in-Some-2.is c.in_ok-said.ensures.turned) c.in_ok-said.ensures.spent (λ k. still (sym c.in_ok-said.ensures.disk.same) k) refl refl
    c.say.ensures.went c.say.ensures.held c.say.ensures.workspace c.say.ensures.refused)

pub returns-in-None-clause-went : goal.returns-in-None-clause-went
returns-in-None-clause-went g c =
    let view = g.R.TreeRep.contents in
    let source_view = g.S.TreeRep.contents in
    let old = c.args.self.now in
    let n = c.reply_to.new in
    let new = after_reply old n.self in
    let b = known_world g.F.Files g.K.Clock g.O.Sink c.args.files.now c.args.clock.now c.args.output.now in
    let a = known_world g.F.Files g.K.Clock g.O.Sink n.files n.clock c.args.output.now in
    let v = g.D.Disk.known c.args.disk.now in
    let w = g.D.Disk.known n.disk in
    let cut = c.in-Some.cut in
    let T : Option Said → Type 0 = λ o. HasTurned view source_view (λ (z : Option Said). z) (λ terms s. turn (setting terms) s cut) (IsSupplied b.files b.clock a.clock) (workspace_at old.workspace v) (workspace_at new.workspace w) (Ok o) in
    let P : Option Cut → Type 0 = λ o. Went view source_view (λ s. cuts_played s (option_to_list o)) (session_at old v b) (session_at new w a) (Ok tt) in
    subst P (sym c.in-Some.is) (went-silent view source_view cut old new b a v w (subst T c.in-None.is c.in_ok-said.ensures.turned) c.in_ok-said.ensures.spent (λ k. still (sym c.in_ok-said.ensures.disk.same) k) (Appends-nil b.output.contents) refl refl)

pub returns-in_err-said-clause-went : goal.returns-in_err-said-clause-went
returns-in_err-said-clause-went g c =
    let view = g.R.TreeRep.contents in
    let source_view = g.S.TreeRep.contents in
    let old = c.args.self.now in
    let n = c.reply_to.new in
    let new = after_reply old n.self in
    let b = known_world g.F.Files g.K.Clock g.O.Sink c.args.files.now c.args.clock.now c.args.output.now in
    let a = known_world g.F.Files g.K.Clock g.O.Sink n.files n.clock c.args.output.now in
    let v = g.D.Disk.known c.args.disk.now in
    let w = g.D.Disk.known n.disk in
    let cut = c.in-Some.cut in
    let met = c.in_err-said.ensures in
    let e = c.in_err-said.field-0.0 in
    let p = err_from_is_err_and c.from_residual.result c.from_residual.ensures.1 in
    let P : Option Cut → Type 0 = λ o. Went view source_view (λ s. cuts_played s (option_to_list o)) (session_at old v b) (session_at new w a) (Err p.0) in
    rw p.1 (subst P (sym c.in-Some.is) (went-stopped_early view source_view cut old new b a v w e p.0 met.turned met.spent (λ k. still (sym met.disk.same) k) p.2
    (λ is z image. subst (λ d. (g.D.Disk.known d).view.images z) (met.same (ap (λ y. Err y) is)) image) (λ is z image. subst (λ d. (g.D.Disk.known d).view.images z) (met.untouched (ap (λ y. Err y) is)) image) (Appends-nil b.output.contents)))

pub returns-in_default-clause-replied : goal.returns-in_default-clause-replied
returns-in_default-clause-replied g c = sent-none (has_refused c.args.self.now) (known_output g.O.Sink c.args.output.now)

pub returns-in-None-clause-replied : goal.returns-in-None-clause-replied
returns-in-None-clause-replied g c = sent-none (has_refused c.args.self.now) (known_output g.O.Sink c.args.output.now)

pub returns-in_err-said-clause-replied : goal.returns-in_err-said-clause-replied
returns-in_err-said-clause-replied g c =
    let flag = has_refused c.args.self.now in
    let p = err_from_is_err_and c.from_residual.result c.from_residual.ensures.1 in
    rw p.1 (sent-fault flag flag (known_output g.O.Sink c.args.output.now) c.in_err-said.field-0.0 p.0 p.2)

pub returns-in_default-clause-file : goal.returns-in_default-clause-file
returns-in_default-clause-file g c = λ known. version-none (g.D.Disk.known c.args.disk.now).view
