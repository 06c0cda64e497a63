use Rattle.std.proofs.Common.{sym, ◌∙◌}
use Rattle.cp_operation.specs.Loaded.{sources_in}
use Rattle.cp_operation.proofs.Cases.{copy-elsewhere, copy-nowhere, copy-sourceless, copy-from}
use Rattle.cp_operation.proofs.Changed.{named-inside, named-loaded}
use Rattle.cp_operation.proofs.checks.check_copy.Goals as goal

pub returns-then-not-is_target : goal.returns-then-not-is_target
returns-then-not-is_target g c =
    let ss = sources_in g.S.TreeRep.contents c.args.sources.now in
    sym (copy-elsewhere ss (g.R.TreeRep.contents c.args.tree.now) c.args.from.now c.args.into.now (sym c.is_target.ensures ∙ c.if-not-is_target.true))

pub returns-then-not-is_there : goal.returns-then-not-is_there
returns-then-not-is_there g c =
    let ss = sources_in g.S.TreeRep.contents c.args.sources.now in
    sym (copy-nowhere ss (g.R.TreeRep.contents c.args.tree.now) c.args.from.now c.args.into.now (sym c.is_target.ensures ∙ c.if-not-is_target.false) (sym c.is_there.ensures ∙ c.if-not-is_there.true))

pub returns-then-is_target : goal.returns-then-is_target
returns-then-is_target g c =
    let ss = sources_in g.S.TreeRep.contents c.args.sources.now in
    let t = g.R.TreeRep.contents c.args.tree.now in
    c.check_copied.ensures
    ∙ sym (copy-from ss t t c.args.from.now c.args.into.now (sym c.is_target.ensures ∙ c.if-not-is_target.false) (sym c.is_there.ensures ∙ c.if-not-is_there.false)
    (named-inside ss t c.args.from.now c.is_target-2.result c.is_target-2.ensures c.if-is_target.true))

pub returns-in-Some : goal.returns-in-Some
returns-in-Some g c =
    let ss = sources_in g.S.TreeRep.contents c.args.sources.now in
    let t = g.R.TreeRep.contents c.args.tree.now in
    c.check_copied-in-Some.ensures
    ∙ sym (copy-from ss t (g.S.TreeRep.contents c.in-Some.source.now) c.args.from.now c.args.into.now (sym c.is_target.ensures ∙ c.if-not-is_target.false) (sym c.is_there.ensures ∙ c.if-not-is_there.false)
    (named-loaded (λ b. g.S.TreeRep.contents b.now) ss t c.args.from.now c.is_target-2.result c.get.result _ c.is_target-2.ensures c.if-is_target.false c.get.ensures c.in-Some.is))

pub returns-in-None : goal.returns-in-None
returns-in-None g c =
    let ss = sources_in g.S.TreeRep.contents c.args.sources.now in
    let t = g.R.TreeRep.contents c.args.tree.now in
    sym (copy-sourceless ss t c.args.from.now c.args.into.now (sym c.is_target.ensures ∙ c.if-not-is_target.false) (sym c.is_there.ensures ∙ c.if-not-is_there.false)
    (named-loaded (λ b. g.S.TreeRep.contents b.now) ss t c.args.from.now c.is_target-2.result c.get.result _ c.is_target-2.ensures c.if-is_target.false c.get.ensures c.in-None.is))
