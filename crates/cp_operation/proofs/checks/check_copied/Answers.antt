use Rattle.std.proofs.Common.{true, false, sym, ap, ◌∙◌, arith}
use Rattle.cp_operation.proofs.Cases.{copied-originless, copied-deep, copied-fits}
use Rattle.cp_operation.proofs.Limits.{copy-reaches, copy-passed, reach-within}
use Rattle.cp_operation.proofs.checks.check_copied.Goals as goal

pub returns-then-not-is_there : goal.returns-then-not-is_there
returns-then-not-is_there g c =
    sym (copied-originless (g.O.TreeRep.contents c.args.other.now) c.args.from.now.path (g.R.TreeRep.contents c.args.tree.now) c.args.into.now (sym c.is_there.ensures ∙ c.if-not-is_there.true))

pub returns-then-is_over : goal.returns-then-is_over
returns-then-is_over g c =
    let u = g.O.TreeRep.contents c.args.other.now in
    let q = c.args.from.now.path in
    let origin = sym c.is_there.ensures ∙ c.if-not-is_there.false in
    sym (copied-deep u q (g.R.TreeRep.contents c.args.tree.now) c.args.into.now origin
    (copy-reaches u q c.args.into.now c.reach-copied.result true origin c.reach-copied.ensures (sym c.is_over.ensures ∙ c.if-is_over.true)))

pub overflow_sub-nodes : goal.overflow_sub-nodes
overflow_sub-nodes g c =
    let most = reach-within (g.R.TreeRep.contents c.args.tree.now) c.args.into.now.path c.requires.there in
    omega (arith, most.0, ap (λ r. r.nodes) c.reach-replaced.ensures, c.count.ensures)

pub overflow_add-nodes : goal.overflow_add-nodes
overflow_add-nodes g c =
    let u = g.O.TreeRep.contents c.args.other.now in
    let most = reach-within u c.args.from.now.path (sym c.is_there.ensures ∙ c.if-not-is_there.false) in
    omega (arith, most.0, (g.met.O.TreeRep.is_tree c.args.other.now).within.nodes, (g.met.R.TreeRep.is_tree c.args.tree.now).within.nodes, ap (λ r. r.nodes) c.reach-copied.ensures, c.count.ensures)

pub overflow_sub-weight : goal.overflow_sub-weight
overflow_sub-weight g c =
    let most = reach-within (g.R.TreeRep.contents c.args.tree.now) c.args.into.now.path c.requires.there in
    omega (arith, most.1, ap (λ r. r.inner) c.reach-replaced.ensures, c.weight.ensures)

pub overflow_add-weight : goal.overflow_add-weight
overflow_add-weight g c =
    let u = g.O.TreeRep.contents c.args.other.now in
    let most = reach-within u c.args.from.now.path (sym c.is_there.ensures ∙ c.if-not-is_there.false) in
    omega (arith, most.1, (g.met.O.TreeRep.is_tree c.args.other.now).within.weighs, (g.met.R.TreeRep.is_tree c.args.tree.now).within.weighs, ap (λ r. r.inner) c.reach-copied.ensures, c.weight.ensures)

pub returns : goal.returns
returns g c =
    let t = g.R.TreeRep.contents c.args.tree.now in
    let u = g.O.TreeRep.contents c.args.other.now in
    let q = c.args.from.now.path in
    let p = c.args.into.now in
    let origin = sym c.is_there.ensures ∙ c.if-not-is_there.false in
    let deep = copy-reaches u q p c.reach-copied.result false origin c.reach-copied.ensures (sym c.is_over.ensures ∙ c.if-is_over.false) in
    c.check_limits.ensures
    ∙ copy-passed t u q p.path c.count.result c.weight.result c.reach-replaced.result c.reach-copied.result origin c.requires.there c.count.ensures c.weight.ensures c.reach-replaced.ensures c.reach-copied.ensures
    ∙ sym (copied-fits u q t p origin deep)
