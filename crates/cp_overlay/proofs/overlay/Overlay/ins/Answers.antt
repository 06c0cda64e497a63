use Rattle.std.proofs.Common.{sym, ◌∙◌}
use Rattle.cp_model.specs.declared.origin.Origin.TheVariants.{New as new}
use Rattle.cp_overlay.specs.Lost.{lost_in}
use Rattle.cp_overlay.proofs.Calls.{ins_follows, alone_sparse}
use Rattle.cp_overlay.proofs.overlay.Overlay.ins.Goals as goal

pub returns-clause-ok : goal.returns-clause-ok
returns-clause-ok c =
    λ ss t l. ins_follows c.args.self.now.origins c.replace.new.map c.settle.new.map (lost_in c.args.self.now.lost) c.in_ok-rows.rows.items c.as_slice.result.now c.in_ok-replace.ensures.ok c.settle.ensures.same c.settle.ensures.fewer
    c.args.place.now c.args.label.now (c.as_slice.ensures.value ∙ c.in_ok-key.ensures) c.in_ok-rows.ensures ss t l

pub invariant_of-self-2 : goal.invariant_of-self-2
invariant_of-self-2 c = record {
  sparse = alone_sparse c.args.self.now.origins c.replace.new.map c.settle.new.map c.in_ok-rows.rows.items c.as_slice.result.now c.as_slice-2.result.now c.in_ok-replace.ensures.ok c.settle.ensures.same c.settle.ensures.fewer
      (c.as_slice-2.ensures.value ∙ sym c.as_slice.ensures.value) c.settle.ensures.settled c.args.self.now.sparse new c.in_ok-rows.ensures;
}
