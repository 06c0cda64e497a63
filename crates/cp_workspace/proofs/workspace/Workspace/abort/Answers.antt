use Rattle.std.proofs.Common.{sym, ◌∙◌, refl}
use Rattle.cp_workspace.specs.Texts.{setting}
use Rattle.cp_workspace.proofs.Committing.{turned-aborted, turned-aborted-none}
use Rattle.cp_workspace.proofs.workspace.Workspace.abort.Goals as goal
use Rattle.cp_workspace.proofs.workspace.Workspace.abort.Goals.{in-Some, in-None}

pub returns-clause-turned : goal.returns-clause-turned
returns-clause-turned g c = λ terms s z.
    let view = g.R.TreeRep.contents in
    let source_view = g.S.TreeRep.contents in
    elim c.match-take.branch [
      | in-Some w ↦ turned-aborted view source_view terms c.args.self.now _ s z refl refl refl c.take.ensures.after w.in-Some.transaction (sym c.take.ensures.value ∙ w.in-Some.is) (setting terms) c.match-take.count (λ k ss t n p h. w.count-is ∙ w.abort-count.ensures k ss t n p h)
      | in-None w ↦ turned-aborted-none view source_view terms c.args.self.now _ s z refl refl refl c.take.ensures.after (setting terms) c.match-take.count w.count-is (sym c.take.ensures.value ∙ w.in-None.is)
    ]
