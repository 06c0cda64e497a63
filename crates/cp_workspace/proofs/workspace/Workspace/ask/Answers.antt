use Rattle.std.proofs.Common.{sym, ap, subst, ◌∙◌, refl, Err}
use Rattle.std.proofs.lemmas.Result.{IfOk-weaker}
use Rattle.cp_reply.specs.Session.{says, turn_of}
use Rattle.cp_lang.specs.declared.syntax_tree.Stmt.TheVariants as stmt
use Rattle.cp_workspace.specs.Texts.{setting}
use Rattle.cp_workspace.specs.Workspaces.{Turned, of_nobody}
use Rattle.cp_workspace.proofs.Turning.{whenever-ok}
use Rattle.cp_workspace.proofs.Answering.{workspace-asked, turned-answered, turned-unanswered}
use Rattle.cp_workspace.proofs.workspace.Workspace.ask.Goals as goal

pub returns-in-Ok-clause-turned : goal.returns-in-Ok-clause-turned
returns-in-Ok-clause-turned g c = λ terms s z.
    let d = c.args.self.now in
    let m = record d { db = c.query.new.self } in
    turned-answered g.R.TreeRep.contents g.S.TreeRep.contents terms d m s z c.query.ensures.file c.query.ensures.same refl refl refl c.args.query c.in-Ok.answer (c.in-Ok.ensures.answer s.history z.db).answer

pub returns-in-Err-clause-turned : goal.returns-in-Err-clause-turned
returns-in-Err-clause-turned g c =
    let view = g.R.TreeRep.contents in
    let source_view = g.S.TreeRep.contents in
    let d = c.args.self.now in
    let m = record d { db = c.query.new.self } in
    IfOk-weaker c.unanswered.result _ _
    (λ r p. λ terms s z.
    let there = c.query.ensures.answer s.history z.db in
    subst (λ x. Turned view source_view terms (turn_of (setting terms) s (says (stmt.Ask c.args.query))) m (of_nobody x)) (sym p.1)
    (turned-unanswered view source_view terms d m s z c.query.ensures.file c.query.ensures.same refl refl refl c.args.query (there.place.0 (c.in-Err.is ∙ ap (λ e. Err e) p.0))))
    c.unanswered.ensures.place

pub returns-in-Ok-clause-stays : goal.returns-in-Ok-clause-stays
returns-in-Ok-clause-stays g c = workspace-asked g.R.TreeRep.contents g.S.TreeRep.contents c.args.self.now _ c.query.ensures.file c.query.ensures.same refl refl c.requires.workspace

pub returns-in-Err-clause-stays : goal.returns-in-Err-clause-stays
returns-in-Err-clause-stays g c =
    whenever-ok c.unanswered.result (workspace-asked g.R.TreeRep.contents g.S.TreeRep.contents c.args.self.now (record c.args.self.now { db = c.query.new.self }) c.query.ensures.file c.query.ensures.same refl refl c.requires.workspace)
