use Rattle.std.proofs.Common.{sym, ◌∙◌}
use Rattle.cp_overlay.specs.Seen.{seen}
use Rattle.cp_engine.proofs.Followed.{ok-then, follows-ins, follows-del, follows-copy, follows-within}
use Rattle.cp_engine.proofs.follow.follow.Goals as goal

pub returns-in-Ins-clause-ok : goal.returns-in-Ins-clause-ok
returns-in-Ins-clause-ok g c =
    let a = g.R.TreeRep.contents c.args.start.now in
    ok-then (λ h ss. follows-ins ss a (seen c.args.overlay.now) (seen c.ins.new.self) c.in-Ins.into c.in-Ins.label c.in-Ins.tree c.args.op.now c.in-Ins.is (h ss a c.in-Ins.tree)) c.ins.result c.ins.ensures.ok

pub returns-in-Del-clause-ok : goal.returns-in-Del-clause-ok
returns-in-Del-clause-ok g c =
    let a = g.R.TreeRep.contents c.args.start.now in
    ok-then (λ h ss. follows-del ss a (seen c.args.overlay.now) (seen c.del.new.self) c.in-Del.label c.in-Del.from c.args.op.now c.in-Del.is (h ss)) c.del.result c.del.ensures.ok

pub returns-then-is_target-clause-ok : goal.returns-then-is_target-clause-ok
returns-then-is_target-clause-ok g c =
    let a = g.R.TreeRep.contents c.args.start.now in
    ok-then (λ h ss. follows-within ss a (seen c.args.overlay.now) (seen c.copy_within.new.self) c.in-Copy.from c.in-Copy.into c.args.op.now c.in-Copy.is (sym c.is_target.ensures ∙ c.if-is_target.true) (h ss a)) c.copy_within.result c.copy_within.ensures.ok

pub returns-else-is_target-clause-ok : goal.returns-else-is_target-clause-ok
returns-else-is_target-clause-ok g c =
    let a = g.R.TreeRep.contents c.args.start.now in
    ok-then (λ h ss. follows-copy ss a (seen c.args.overlay.now) (seen c.copy_from.new.self) c.in-Copy.from c.in-Copy.into c.args.op.now c.in-Copy.is (h ss a (sym c.is_target.ensures ∙ c.if-is_target.false))) c.copy_from.result c.copy_from.ensures.ok
