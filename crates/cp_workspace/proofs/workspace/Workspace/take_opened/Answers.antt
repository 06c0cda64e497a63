use Rattle.std.proofs.Common.{sym, [], ◌∙◌}
use Rattle.std.proofs.lemmas.Result.{IfOk-weaker}
use Rattle.cp_engine.specs.Transactions.{going}
use Rattle.cp_workspace.proofs.Operating.{opened-there, opened-begun, begun-there}
use Rattle.cp_workspace.proofs.workspace.Workspace.take_opened.Goals as goal

pub returns-in-Some-clause-opened : goal.returns-in-Some-clause-opened
returns-in-Some-clause-opened g c = opened-there g.R.TreeRep.contents g.S.TreeRep.contents c.args.self.now c.in-Some.transaction (sym c.take.ensures.value ∙ c.in-Some.is)

pub returns-in-Some-clause-begun : goal.returns-in-Some-clause-begun
returns-in-Some-clause-begun g c = begun-there g.R.TreeRep.contents g.S.TreeRep.contents c.args.self.now c.in-Some.transaction (sym c.take.ensures.value ∙ c.in-Some.is) c.requires.workspace

pub returns-in-None-clause-opened : goal.returns-in-None-clause-opened
returns-in-None-clause-opened g c =
    IfOk-weaker c.begin.result _ _ (λ x h. opened-begun g.R.TreeRep.contents g.S.TreeRep.contents c.args.self.now x (sym c.take.ensures.value ∙ c.in-None.is) h) c.begin.ensures

pub returns-in-None-clause-begun : goal.returns-in-None-clause-begun
returns-in-None-clause-begun g c = IfOk-weaker c.begin.result _ _ (λ x h. (going [], h)) c.begin.ensures
