use Rattle.std.proofs.Common.{◌+◌, ◌∙◌, sym, ap, cond, refl, arith}
use Rattle.cp_gen.specs.Summaries.{is_born, copies_at, count_born, count_copies, row_paths}
use Rattle.cp_gen.proofs.Answered.{answered-none, answered-at, answered-database, answered-then}
use Rattle.cp_gen.proofs.Counting.{born-more, copies-more, all-taken}
use Rattle.cp_gen.proofs.summary.count_places.Goals as goal

pub loop-row-init : goal.loop-row-init
loop-row-init g c = record {
  born = λ t z. refl;
  copies = λ t z. refl;
  few = omega arith;
  same = answered-none g.R.TreeRep.contents g.S.TreeRep.contents c.args.db.now;
}

pub with_place-requires-clause-stands : goal.with_place-requires-clause-stands
with_place-requires-clause-stands g c = answered-database g.R.TreeRep.contents g.S.TreeRep.contents c.args.db.now c.loop-row.db c.loop-row.invariant.same c.requires.stands

pub with_place-requires-clause-few : goal.with_place-requires-clause-few
with_place-requires-clause-few g c = omega (arith, c.loop-row.invariant.few, c.loop-row-test.true, c.requires.few)

pub returns-in_err-more-clause-same : goal.returns-in_err-more-clause-same
returns-in_err-more-clause-same g c = answered-then g.R.TreeRep.contents g.S.TreeRep.contents c.args.db.now c.loop-row.db c.loop-row.invariant.same c.with_place.new.db c.with_place.ensures.same

pub loop-row-preserved : goal.loop-row-preserved
loop-row-preserved g c = record {
  born = λ t z.
      c.in_ok-more.ensures.born t (answered-at g.R.TreeRep.contents g.S.TreeRep.contents c.args.db.now c.loop-row.db c.loop-row.invariant.same t z)
      ∙ ap (λ n. n + cond (is_born t c.row-item.result.path) 1 0) (c.loop-row.invariant.born t z)
      ∙ sym (born-more t c.args.rows.now c.loop-row.row-index c.row-item.result c.loop-row-test.true c.row-item.is);
  copies = λ t z.
      c.in_ok-more.ensures.copies t (answered-at g.R.TreeRep.contents g.S.TreeRep.contents c.args.db.now c.loop-row.db c.loop-row.invariant.same t z)
      ∙ ap (λ n. n + copies_at t c.row-item.result.path) (c.loop-row.invariant.copies t z)
      ∙ sym (copies-more t c.args.rows.now c.loop-row.row-index c.row-item.result c.loop-row-test.true c.row-item.is);
  few = omega (arith, c.in_ok-more.ensures.few, c.loop-row.invariant.few);
  same = answered-then g.R.TreeRep.contents g.S.TreeRep.contents c.args.db.now c.loop-row.db c.loop-row.invariant.same c.with_place.new.db c.with_place.ensures.same;
}

pub returns-clause-born : goal.returns-clause-born
returns-clause-born g c = λ t z. c.loop-row.invariant.born t z ∙ ap (λ rows. count_born t (row_paths rows)) (all-taken c.args.rows.now c.loop-row.row-index c.loop-row-test.false)

pub returns-clause-copies : goal.returns-clause-copies
returns-clause-copies g c = λ t z. c.loop-row.invariant.copies t z ∙ ap (λ rows. count_copies t (row_paths rows)) (all-taken c.args.rows.now c.loop-row.row-index c.loop-row-test.false)
