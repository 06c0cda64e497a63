use Rattle.std.proofs.lemmas.Result.{IfOk-weaker}
use Rattle.cp_archive.proofs.Covering.{until-covers}
use Rattle.cp_archive.proofs.Idling.{idle-covers}
use Rattle.cp_archive.proofs.idle.changed_places.Goals as goal

pub returns-then-are_idle-clause-covers : goal.returns-then-are_idle-clause-covers
returns-then-are_idle-clause-covers g c = idle-covers (g.R.TreeRep.contents c.args.tree.now) c.args.ops.now c.new.result.items (c.are_idle.ensures c.if-are_idle.true)

pub returns-clause-covers : goal.returns-clause-covers
returns-clause-covers g c = IfOk-weaker c.touched_places.result _ _ (λ v touched ss a. until-covers ss (g.R.TreeRep.contents c.args.tree.now) c.args.ops.now v.items a touched) c.touched_places.ensures.touched
