use Rattle.std.proofs.lemmas.Result.{IfOk-weaker}
use Rattle.cp_workspace.proofs.Sharing.{workspace-taken, workspace-asked_for}
use Rattle.cp_workspace.proofs.SharedEntries.{of_one, stands-taken, turned-asked}
use Rattle.cp_workspace.proofs.Turning.{whenever-ok}
use Rattle.cp_reply.specs.Session.{with_opened, closed}
use Rattle.cp_workspace.proofs.workspace.Workspace.ask_for.Goals as goal

pub ask-requires : goal.ask-requires
ask-requires g c = record { workspace = workspace-taken g.R.TreeRep.contents g.S.TreeRep.contents c.args.self.now c.args.curators.now c.requires.alone c.requires.workspace }

pub returns-clause-turned : goal.returns-clause-turned
returns-clause-turned g c =
    let view = g.R.TreeRep.contents in
    let source_view = g.S.TreeRep.contents in
    let none = c.requires.workspace.desks.0 in
    IfOk-weaker c.ask.result _ _
    (λ r h. λ terms s z. turned-asked view source_view terms c.args.self.now c.args.curators.now s z c.args.name.now none c.ask.new.self c.args.query r (h (of_one terms) (with_opened s closed) (stands-taken view source_view terms c.args.self.now c.args.curators.now s z none c.requires.alone)))
    c.ask.ensures.turned

pub returns-clause-stays : goal.returns-clause-stays
returns-clause-stays g c =
    whenever-ok c.ask.result
    (workspace-asked_for g.R.TreeRep.contents g.S.TreeRep.contents c.args.self.now c.ask.new.self c.args.curators.now c.ask.ensures.file c.ask.ensures.same c.ask.ensures.kept c.requires.workspace)
