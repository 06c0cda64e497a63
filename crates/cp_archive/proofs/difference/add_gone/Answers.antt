use Rattle.cp_tree.proofs.Edges.{drop-one}
use Rattle.cp_archive.proofs.Finding.{gone_with, one-given}
use Rattle.cp_archive.proofs.difference.add_gone.Goals as goal

pub loop-row-preserved : goal.loop-row-preserved
loop-row-preserved c =
    let rows = c.args.before.now in
    let row = c.row-item.result in
    one-given (gone_with c.args.place.now) c.args.found.now.items c.loop-row.found.items c.args.after.now c.loop-row.left.now rows row _ _ c.loop-row.invariant
    (drop-one rows c.loop-row.row-index row c.loop-row-test.true c.row-item.is) _ _ c.in_ok-left.ensures.found c.in_ok-left.ensures.after
