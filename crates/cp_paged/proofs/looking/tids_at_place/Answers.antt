use Rattle.cp_paged.proofs.TidsListed.{one-listed, all-listed}
use Rattle.cp_paged.proofs.looking.tids_at_place.Goals as goal

pub loop-row-preserved : goal.loop-row-preserved
loop-row-preserved c =
    let i = c.loop-row.invariant in
    record {
      all = λ q u e are. one-listed q c.args.low c.args.high c.args.rows.now c.loop-row.row-index c.row-item.result c.loop-row.items.items c.push_tid.new.tids.items are c.loop-row-test.true c.row-item.is (i.all q u e are) (c.in_ok-push_tid.ensures.tid q u e);
      within = c.in_ok-push_tid.ensures.within i.within;
    }

pub returns-clause-all : goal.returns-clause-all
returns-clause-all c = λ q u e are. all-listed q c.args.rows.now c.loop-row.row-index _ c.loop-row-test.false (c.loop-row.invariant.all q u e are)
