use Rattle.std.proofs.Common.{ap, ◌∙◌}
use Rattle.cp_overlay.specs.Lost.{lost_in}
use Rattle.cp_overlay.specs.Shown.{paths}
use Rattle.cp_overlay.proofs.Calls.{del_follows, del_sparse}
use Rattle.cp_overlay.proofs.overlay.Overlay.del.Goals as goal

pub returns-clause-ok : goal.returns-clause-ok
returns-clause-ok g c =
    λ ss. del_follows c.args.self.now.origins c.remove_all.new.map (lost_in c.args.self.now.lost) (lost_in c.lose.new.lost) c.as_slice-2.result.now c.as_slice.result.now c.args.place.now c.args.label.now c.in_ok-parent.parent
    (g.R.TreeRep.contents c.args.before.now) (c.as_slice.ensures.value ∙ c.in_ok-key.ensures) c.remove_all.ensures (ap paths c.as_slice-2.ensures.value ∙ c.in_ok-stale.ensures) c.in_ok-parent.ensures
    c.lose.ensures.grows c.in_ok-lose.ensures.ok ss

pub invariant_of-self-2 : goal.invariant_of-self-2
invariant_of-self-2 g c = record {
  sparse = del_sparse c.args.self.now.origins c.remove_all.new.map c.as_slice-2.result.now c.as_slice.result.now c.remove_all.ensures (ap paths c.as_slice-2.ensures.value ∙ c.in_ok-stale.ensures) c.args.self.now.sparse;
}
