use Rattle.std.proofs.Common.{refl, sym}
use Rattle.cp_db.proofs.WritingStanding.{state-asked}
use Rattle.cp_db.proofs.database.Db.into_parts.Goals as goal

pub returns : goal.returns
returns g c = λ h z. record {
  keeps = sym (z.rows refl);
  committed = state-asked g.R.TreeRep.contents g.S.TreeRep.contents c.args.self.committed h z.state z.led z.holds.committed;
}
