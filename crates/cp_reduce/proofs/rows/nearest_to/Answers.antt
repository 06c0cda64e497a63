use Rattle.std.proofs.Common.{◌≡◌, ◌-◌, ◌≤◌, suc, sym, ap, ◌∙◌, arith, take, length}
use Rattle.cp_overlay.proofs.Reaches.{reach, reach-whole, reach-found, reach-none, reach-shorter}
use Rattle.cp_reduce.specs.Told.{mark_in, mark_at}
use Rattle.cp_reduce.proofs.rows.nearest_to.Goals as goal

pub loop-count-init : goal.loop-count-init
loop-count-init c = record { few = omega arith; rest = λ _. sym (reach-whole (mark_at c.args.rows.now) c.args.place.now) }

pub returns-in-Some-clause-exact : goal.returns-in-Some-clause-exact
returns-in-Some-clause-exact c = λ h. (c.loop-count.invariant.few, c.loop-count.invariant.rest h ∙ reach-found (mark_at c.args.rows.now) c.args.place.now c.loop-count.count (mark_in c.in-Some.row.now) (sym (c.in-Some.ensures h)))

pub loop-count-preserved : goal.loop-count-preserved
loop-count-preserved c =
    let m = c.loop-count.count - 1 in
    let e : c.loop-count.count ≡ suc m = omega (arith, c.loop-count-test.true) in
    let few : c.loop-count.count ≤ length c.args.place.now = c.loop-count.invariant.few in
    record {
      few = omega (arith, few);
      rest = λ h.
          c.loop-count.invariant.rest h ∙ ap (reach (mark_at c.args.rows.now) c.args.place.now) e
          ∙ reach-shorter (mark_at c.args.rows.now) c.args.place.now m (omega (arith, few, e)) (ap (λ n. mark_at c.args.rows.now (take n c.args.place.now)) (sym e) ∙ sym (c.in_default.ensures h));
    }

pub returns-in-Some-row_at-clause-exact : goal.returns-in-Some-row_at-clause-exact
returns-in-Some-row_at-clause-exact c = λ h.
    let z : c.loop-count.count ≡ 0 = omega (arith, c.loop-count-test.false) in
    (omega arith, c.loop-count.invariant.rest h ∙ ap (reach (mark_at c.args.rows.now) c.args.place.now) z ∙ reach-found (mark_at c.args.rows.now) c.args.place.now 0 (mark_in c.in-Some-row_at.row.now) (sym (c.in-Some-row_at.ensures h)))

pub returns-in-None-clause-exact : goal.returns-in-None-clause-exact
returns-in-None-clause-exact c = λ h.
    let z : c.loop-count.count ≡ 0 = omega (arith, c.loop-count-test.false) in
    c.loop-count.invariant.rest h ∙ ap (reach (mark_at c.args.rows.now) c.args.place.now) z ∙ reach-none (mark_at c.args.rows.now) c.args.place.now (sym (c.in-None.ensures h))
