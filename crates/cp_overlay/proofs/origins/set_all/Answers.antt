use Rattle.std.proofs.Common.{◌<◌, cond, sym, ap, ◌∙◌, rules}
use Rattle.cp_model.specs.Place.{path_eq}
use Rattle.cp_overlay.specs.Shown.{kept, has_key}
use Rattle.cp_overlay.proofs.Sets.{set_front, front_there, fronts_there}
use Rattle.cp_overlay.proofs.origins.set_all.Goals as goal

pub set-requires : goal.set-requires
set-requires c =
    let some : 0 < c.loop-count.count = c.loop-count-test.true in
    let row = c.index-rows-count.result in
    ap (has_key c.loop-count.map) (c.as_slice.ensures.value ∙ ap (λ x. x.0.items) (sym c.index-rows-count.is))
    ∙ front_there c.loop-count.map c.loop-count.map c.loop-count.rows c.loop-count.count row row some c.loop-count.invariant.few c.index-rows-count.is c.loop-count.invariant.there

pub loop-count-preserved : goal.loop-count-preserved
loop-count-preserved c =
    let some : 0 < c.loop-count.count = c.loop-count-test.true in
    let m = c.loop-count.map in
    let row = c.index-rows-count.result in
    record {
      few = search rules;
      value = λ r. set_front m c.set.new.map c.loop-count.rows c.loop-count.count row _ some c.loop-count.invariant.few c.index-rows-count.is r
          (c.set.ensures.value r
          ∙ ap (λ k. cond (path_eq r k) c.take-origin.result (kept m r)) (c.as_slice.ensures.value ∙ ap (λ x. x.0.items) (sym c.index-rows-count.is))
          ∙ ap (λ o. cond (path_eq r row.0.items) o (kept m r)) (c.take-origin.ensures.value ∙ ap (λ x. x.1) (sym c.index-rows-count.is)))
          ∙ c.loop-count.invariant.value r;
      there = fronts_there m c.set.new.map c.loop-count.rows c.loop-count.count row _ some c.loop-count.invariant.few c.index-rows-count.is c.loop-count.invariant.there c.set.ensures.keys;
    }
