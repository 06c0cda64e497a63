use Rattle.cp_tree.proofs.Edges.{drop-one}
use Rattle.cp_archive.proofs.Finding.{begun_with, one-given}
use Rattle.cp_archive.proofs.difference.add_begun.Goals as goal

pub loop-row-preserved : goal.loop-row-preserved
loop-row-preserved c =
    let rows = c.args.after.now in
    let row = c.row-item.result in
    one-given (begun_with c.args.place.now) c.args.found.now.items c.loop-row.found.items c.args.before.now c.loop-row.left.now rows row _ _ c.loop-row.invariant
    (drop-one rows c.loop-row.row-index row c.loop-row-test.true c.row-item.is) _ _ c.in_ok-left.ensures.found c.in_ok-left.ensures.after
