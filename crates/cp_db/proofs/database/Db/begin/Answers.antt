use Rattle.std.proofs.lemmas.Result.{IfOk-weaker}
use Rattle.cp_db.proofs.WritingStanding.{come-begun}
use Rattle.cp_db.proofs.database.Db.begin.Goals as goal

pub returns : goal.returns
returns g c =
    IfOk-weaker c.begin.result _ _
    (λ x stands. come-begun g.R.TreeRep.contents g.S.TreeRep.contents c.args.self.now x c.kind.result c.upto.result c.kind.ensures c.upto.ensures stands)
    c.begin.ensures
