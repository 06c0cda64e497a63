use Rattle.std.proofs.Common.{◌≡◌, sym, ap, ◌∙◌, true, false}
use Rattle.std.specs.declared.option.Option.TheVariants.{Some}
use Rattle.cp_model.specs.Place.{in_target}
use Rattle.cp_model.specs.Tree.{database}
use Rattle.cp_model.proofs.Accepted.{copy_accepted}
use Rattle.cp_operation.specs.Loaded.{sources_in}
use Rattle.cp_operation.proofs.LoadedLemmas.{trees-loaded}
use Rattle.cp_operation.proofs.Changed.{copy-copied, copy-changed, named-inside, named-loaded, never-sourceless, then-is}
use Rattle.cp_operation.proofs.OpRows.{copy-added}
use Rattle.cp_operation.proofs.change.copy_onto.Goals as goal

pub copy_within-requires : goal.copy_within-requires
copy_within-requires g c =
    let ss = sources_in g.S.TreeRep.contents c.args.sources.now in
    let t = g.R.TreeRep.contents c.args.tree.now in
    record {
      copied = copy-copied ss t t c.args.from.now c.args.into.now (g.met.R.TreeRep.is_tree c.args.tree.now) (trees-loaded g.S.TreeRep.contents g.met.S.TreeRep.is_tree c.args.sources.now) c.requires.accepted
          (named-inside ss t c.args.from.now c.is_target.result c.is_target.ensures c.if-is_target.true);
    }

pub returns-then-is_target-clause-tree : goal.returns-then-is_target-clause-tree
returns-then-is_target-clause-tree g c =
    let ss = sources_in g.S.TreeRep.contents c.args.sources.now in
    let t = g.R.TreeRep.contents c.args.tree.now in
    then-is c.copy_within.result _ _ _ (copy-changed ss t t c.args.from.now c.args.into.now (named-inside ss t c.args.from.now c.is_target.result c.is_target.ensures c.if-is_target.true)) c.copy_within.ensures.tree

pub returns-then-is_target-clause-rows : goal.returns-then-is_target-clause-rows
returns-then-is_target-clause-rows g c =
    let ss = sources_in g.S.TreeRep.contents c.args.sources.now in
    let t = g.R.TreeRep.contents c.args.tree.now in
    c.copy_within.ensures.rows ss (named-inside ss t c.args.from.now c.is_target.result c.is_target.ensures c.if-is_target.true)

pub copy_from-requires : goal.copy_from-requires
copy_from-requires g c =
    let ss = sources_in g.S.TreeRep.contents c.args.sources.now in
    let t = g.R.TreeRep.contents c.args.tree.now in
    let u = g.S.TreeRep.contents c.in-Some.source.now in
    let named : database ss t c.args.from.now ≡ Some u =
    named-loaded (λ b. g.S.TreeRep.contents b.now) ss t c.args.from.now c.is_target.result c.get.result _ c.is_target.ensures c.if-is_target.false c.get.ensures c.in-Some.is in
    record { copied = copy-copied ss t u c.args.from.now c.args.into.now (g.met.R.TreeRep.is_tree c.args.tree.now) (trees-loaded g.S.TreeRep.contents g.met.S.TreeRep.is_tree c.args.sources.now) c.requires.accepted named }

pub returns-clause-tree : goal.returns-clause-tree
returns-clause-tree g c =
    let ss = sources_in g.S.TreeRep.contents c.args.sources.now in
    let t = g.R.TreeRep.contents c.args.tree.now in
    let u = g.S.TreeRep.contents c.in-Some.source.now in
    let named : database ss t c.args.from.now ≡ Some u =
    named-loaded (λ b. g.S.TreeRep.contents b.now) ss t c.args.from.now c.is_target.result c.get.result _ c.is_target.ensures c.if-is_target.false c.get.ensures c.in-Some.is in
    then-is c.copy_from.result _ _ _ (copy-changed ss t u c.args.from.now c.args.into.now named) c.copy_from.ensures.tree

pub returns-clause-rows : goal.returns-clause-rows
returns-clause-rows g c =
    let ss = sources_in g.S.TreeRep.contents c.args.sources.now in
    let t = g.R.TreeRep.contents c.args.tree.now in
    let u = g.S.TreeRep.contents c.in-Some.source.now in
    let q = c.args.from.now in
    let p = c.args.into.now in
    let named : database ss t q ≡ Some u =
    named-loaded (λ b. g.S.TreeRep.contents b.now) ss t q c.is_target.result c.get.result _ c.is_target.ensures c.if-is_target.false c.get.ensures c.in-Some.is in
    let other : q ≡ p → ⊥ = λ e. (let in_place : in_target q ≡ true = ap in_target e ∙ (copy_accepted ss t q p c.requires.accepted).target in
    let outside : in_target q ≡ false = sym c.is_target.ensures ∙ c.if-is_target.false in
    absurd (cc)) in
    copy-added c.copy_from.result c.args.tid ss t u q p _ _ other named c.copy_from.ensures.rows

pub unreachable-requires : goal.unreachable-requires
unreachable-requires g c =
    let ss = sources_in g.S.TreeRep.contents c.args.sources.now in
    let t = g.R.TreeRep.contents c.args.tree.now in
    never-sourceless ss t c.args.from.now c.args.into.now c.requires.accepted
    (named-loaded (λ b. g.S.TreeRep.contents b.now) ss t c.args.from.now c.is_target.result c.get.result _ c.is_target.ensures c.if-is_target.false c.get.ensures c.in-None.is)
