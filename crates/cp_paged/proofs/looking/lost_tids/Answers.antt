use Rattle.std.proofs.Common.{arith, ◌<◌, ◌∙◌}
use Rattle.cp_model.specs.Place.{at_target}
use Rattle.cp_paged.proofs.LostFound.{none-lost, lost-found, lost-read, small-of, keys-of}
use Rattle.cp_paged.proofs.looking.lost_tids.Goals as goal

pub returns-then-high-low-clause-lost : goal.returns-then-high-low-clause-lost
returns-then-high-low-clause-lost g c = λ k upto rs kept. none-lost rs c.args.labels.now c.args.low c.args.high c.if-high-low.true _ c.new.ensures.items

pub returns-in_err-found-clause-reads : goal.returns-in_err-found-clause-reads
returns-in_err-found-clause-reads g c = λ k upto rs kept.
    let order : c.args.low < c.args.high = omega (arith, c.if-high-low.false) in
    lost-read k upto kept.stored rs kept.hold c.args.labels.now c.args.low c.args.high order c.ranges.high.fits c.as_slice.result.now c.as_slice-key.result.now (c.as_slice.ensures ∙ c.in_ok-from.ensures) (c.as_slice-key.ensures ∙ c.in_ok-to.ensures)
    (g.L.KeyedRows.cost c.args.rows.now) (g.L.KeyedRows.reads c.args.rows.now) _ (c.in_err-found.ensures.reads kept.stored kept.has)

pub returns-in_err-tids_at_place-clause-reads : goal.returns-in_err-tids_at_place-clause-reads
returns-in_err-tids_at_place-clause-reads g c = λ k upto rs kept.
    let order : c.args.low < c.args.high = omega (arith, c.if-high-low.false) in
    lost-read k upto kept.stored rs kept.hold c.args.labels.now c.args.low c.args.high order c.ranges.high.fits c.as_slice.result.now c.as_slice-key.result.now (c.as_slice.ensures ∙ c.in_ok-from.ensures) (c.as_slice-key.ensures ∙ c.in_ok-to.ensures)
    (g.L.KeyedRows.cost c.args.rows.now) (g.L.KeyedRows.reads c.args.rows.now) _ (c.in_ok-found.ensures.reads kept.stored kept.has)

pub returns-clause-reads : goal.returns-clause-reads
returns-clause-reads g c = λ k upto rs kept.
    let order : c.args.low < c.args.high = omega (arith, c.if-high-low.false) in
    lost-read k upto kept.stored rs kept.hold c.args.labels.now c.args.low c.args.high order c.ranges.high.fits c.as_slice.result.now c.as_slice-key.result.now (c.as_slice.ensures ∙ c.in_ok-from.ensures) (c.as_slice-key.ensures ∙ c.in_ok-to.ensures)
    (g.L.KeyedRows.cost c.args.rows.now) (g.L.KeyedRows.reads c.args.rows.now) _ (c.in_ok-found.ensures.reads kept.stored kept.has)

pub returns-clause-lost : goal.returns-clause-lost
returns-clause-lost g c = λ k upto rs kept.
    let order : c.args.low < c.args.high = omega (arith, c.if-high-low.false) in
    let to_is = c.as_slice-key.ensures ∙ c.in_ok-to.ensures in
    lost-found k upto kept.stored rs kept.hold c.args.labels.now c.args.low c.args.high order c.ranges.high.fits c.as_slice.result.now c.as_slice-key.result.now (c.as_slice.ensures ∙ c.in_ok-from.ensures) to_is c.in_ok-found.found.items
    (c.in_ok-found.ensures.found kept.stored kept.has) _ (small-of c.args.low c.args.high c.ranges.high.fits _ c.in_ok-tids_at_place.ensures.within)
    (keys-of (at_target c.args.labels.now) c.args.low c.args.high _ _ _ c.as_slice-2.ensures.value (c.in_ok-tids_at_place.ensures.all (at_target c.args.labels.now) c.args.high to_is))
