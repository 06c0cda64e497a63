use Rattle.std.proofs.Common.{◌∷◌, [], sym, ap, ◌∙◌}
use Rattle.std.specs.declared.option.Option.TheVariants.{Some}
use Rattle.cp_model.specs.declared.origin.Origin.TheVariants.{Was as was}
use Rattle.cp_overlay.specs.Lost.{lost_in}
use Rattle.cp_overlay.proofs.Calls.{from_follows, alone_sparse}
use Rattle.cp_overlay.proofs.OriginLemmas.{same_place}
use Rattle.cp_overlay.proofs.overlay.Overlay.copy_from.Goals as goal

pub returns-clause-ok : goal.returns-clause-ok
returns-clause-ok c =
    λ ss t out. from_follows c.args.self.now.origins c.replace.new.map c.settle.new.map (lost_in c.args.self.now.lost) c.in_ok-rows.rows.items c.labels.result.now c.in_ok-replace.ensures.ok c.settle.ensures.same c.settle.ensures.fewer
    c.args.from.now c.args.into.now c.labels.ensures.labels (c.in_ok-rows.ensures ∙ ap (λ l. ([], Some (was l)) ∷ []) (same_place _ c.args.from.now c.in_ok-clone.ensures.cases)) ss t out

pub invariant_of-self-2 : goal.invariant_of-self-2
invariant_of-self-2 c = record {
  sparse = alone_sparse c.args.self.now.origins c.replace.new.map c.settle.new.map c.in_ok-rows.rows.items c.labels.result.now c.labels-2.result.now c.in_ok-replace.ensures.ok c.settle.ensures.same c.settle.ensures.fewer
      (c.labels-2.ensures.labels ∙ sym c.labels.ensures.labels) c.settle.ensures.settled c.args.self.now.sparse (was c.in_ok-clone.field-0) c.in_ok-rows.ensures;
}
