use Rattle.std.proofs.Common.{◌≡◌, ◌-◌, ◌≤◌, suc, sym, ap, ◌∙◌, arith, take, length}
use Rattle.cp_overlay.specs.Shown.{kept}
use Rattle.cp_overlay.proofs.Reaches.{reach, reach-whole, reach-found, reach-none, reach-shorter}
use Rattle.cp_overlay.proofs.origins.nearest_to.Goals as goal

pub loop-count-init : goal.loop-count-init
loop-count-init c = record { few = omega arith; rest = sym (reach-whole (kept c.args.map.now) c.args.place.now) }

pub returns-in-Some : goal.returns-in-Some
returns-in-Some c = (c.loop-count.invariant.few, c.loop-count.invariant.rest ∙ reach-found (kept c.args.map.now) c.args.place.now c.loop-count.count c.in-Some.origin.now (sym c.in-Some.ensures))

pub loop-count-preserved : goal.loop-count-preserved
loop-count-preserved c =
    let m = c.loop-count.count - 1 in
    let e : c.loop-count.count ≡ suc m = omega (arith, c.loop-count-test.true) in
    let few : c.loop-count.count ≤ length c.args.place.now = c.loop-count.invariant.few in
    record {
      few = omega (arith, few);
      rest = c.loop-count.invariant.rest ∙ ap (reach (kept c.args.map.now) c.args.place.now) e
          ∙ reach-shorter (kept c.args.map.now) c.args.place.now m (omega (arith, few, e)) (ap (λ n. kept c.args.map.now (take n c.args.place.now)) (sym e) ∙ sym c.in_default.ensures);
    }

pub returns-in-Some-at : goal.returns-in-Some-at
returns-in-Some-at c =
    let z : c.loop-count.count ≡ 0 = omega (arith, c.loop-count-test.false) in
    (omega arith, c.loop-count.invariant.rest ∙ ap (reach (kept c.args.map.now) c.args.place.now) z ∙ reach-found (kept c.args.map.now) c.args.place.now 0 c.in-Some-at.origin.now (sym c.in-Some-at.ensures))

pub returns-in-None : goal.returns-in-None
returns-in-None c =
    let z : c.loop-count.count ≡ 0 = omega (arith, c.loop-count-test.false) in
    c.loop-count.invariant.rest ∙ ap (reach (kept c.args.map.now) c.args.place.now) z ∙ reach-none (kept c.args.map.now) c.args.place.now (sym c.in-None.ensures)
