use Rattle.std.proofs.Common.{subst}
use Rattle.cp_tree_box.specs.Tallies.{spot_at, IsNear}
use Rattle.cp_tree_box.proofs.Changes.{near_front}
use Rattle.cp_tree_box.proofs.spot.Spot.+below.Goals as goal

pub child-requires : goal.child-requires
child-requires t c = near_front _ c.in-Some.rest.now (subst (λ z. IsNear (spot_at c.args.self z)) c.in-Some.ensures.cases.0 c.requires)
