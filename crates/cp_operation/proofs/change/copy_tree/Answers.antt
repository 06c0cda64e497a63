use Rattle.std.proofs.Common.{◌≡◌}
use Rattle.std.specs.declared.option.Option.TheVariants.{Some}
use Rattle.cp_model.specs.Tree.{database}
use Rattle.cp_operation.specs.Loaded.{sources_in}
use Rattle.cp_operation.proofs.LoadedLemmas.{trees-loaded}
use Rattle.cp_operation.proofs.Changed.{copy-copied, copy-changed, named-inside, named-loaded, never-sourceless, then-is}
use Rattle.cp_operation.proofs.change.copy_tree.Goals as goal

pub copy_inside-requires : goal.copy_inside-requires
copy_inside-requires g c =
    let ss = sources_in g.S.TreeRep.contents c.args.sources.now in
    let t = g.R.TreeRep.contents c.args.tree.now in
    let x = copy-copied ss t t c.args.from.now c.args.into.now (g.met.R.TreeRep.is_tree c.args.tree.now) (trees-loaded g.S.TreeRep.contents g.met.S.TreeRep.is_tree c.args.sources.now) c.requires.accepted
    (named-inside ss t c.args.from.now c.is_target.result c.is_target.ensures c.if-is_target.true) in
    record { from = x.origin; there = x.there; fits = x.fits }

pub returns-then-is_target-clause-tree : goal.returns-then-is_target-clause-tree
returns-then-is_target-clause-tree g c =
    let ss = sources_in g.S.TreeRep.contents c.args.sources.now in
    let t = g.R.TreeRep.contents c.args.tree.now in
    then-is c.copy_inside.result _ _ _ (copy-changed ss t t c.args.from.now c.args.into.now (named-inside ss t c.args.from.now c.is_target.result c.is_target.ensures c.if-is_target.true)) c.copy_inside.ensures.ok

pub graft-requires : goal.graft-requires
graft-requires g c =
    let ss = sources_in g.S.TreeRep.contents c.args.sources.now in
    let t = g.R.TreeRep.contents c.args.tree.now in
    let u = g.S.TreeRep.contents c.in-Some.source.now in
    let named : database ss t c.args.from.now ≡ Some u =
    named-loaded (λ b. g.S.TreeRep.contents b.now) ss t c.args.from.now c.is_target.result c.get.result _ c.is_target.ensures c.if-is_target.false c.get.ensures c.in-Some.is in
    let x = copy-copied ss t u c.args.from.now c.args.into.now (g.met.R.TreeRep.is_tree c.args.tree.now) (trees-loaded g.S.TreeRep.contents g.met.S.TreeRep.is_tree c.args.sources.now) c.requires.accepted named in
    record { from = x.origin; there = x.there; fits = x.fits }

pub returns-clause-tree : goal.returns-clause-tree
returns-clause-tree g c =
    let ss = sources_in g.S.TreeRep.contents c.args.sources.now in
    let t = g.R.TreeRep.contents c.args.tree.now in
    let u = g.S.TreeRep.contents c.in-Some.source.now in
    let named : database ss t c.args.from.now ≡ Some u =
    named-loaded (λ b. g.S.TreeRep.contents b.now) ss t c.args.from.now c.is_target.result c.get.result _ c.is_target.ensures c.if-is_target.false c.get.ensures c.in-Some.is in
    then-is c.graft.result _ _ _ (copy-changed ss t u c.args.from.now c.args.into.now named) c.graft.ensures.ok

pub unreachable-requires : goal.unreachable-requires
unreachable-requires g c =
    let ss = sources_in g.S.TreeRep.contents c.args.sources.now in
    let t = g.R.TreeRep.contents c.args.tree.now in
    never-sourceless ss t c.args.from.now c.args.into.now c.requires.accepted
    (named-loaded (λ b. g.S.TreeRep.contents b.now) ss t c.args.from.now c.is_target.result c.get.result _ c.is_target.ensures c.if-is_target.false c.get.ensures c.in-None.is)
