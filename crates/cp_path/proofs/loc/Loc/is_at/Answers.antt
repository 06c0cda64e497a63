use Rattle.cp_path.proofs.Same.{place_eq-iff}
use Rattle.cp_path.proofs.loc.Loc.is_at.Goals as goal

pub returns : goal.returns
returns c = place_eq-iff c.eq.result c.args.self.now c.args.other.now c.eq.ensures
