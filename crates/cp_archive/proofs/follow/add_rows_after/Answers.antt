use Rattle.cp_archive.specs.Touching.{with_after}
use Rattle.cp_archive.proofs.Following.{made-more, made-all}
use Rattle.cp_archive.proofs.follow.add_rows_after.Goals as goal

pub loop-one-preserved : goal.loop-one-preserved
loop-one-preserved g c =
    let f = with_after (g.R.TreeRep.contents c.args.tree.now) in
    made-more f c.args.touched.now c.loop-one.touched c.loop-one.one-index c.add_after.new.touched c.one-item.result c.loop-one-test.true c.loop-one.invariant c.in_ok-add_after.ensures

pub returns : goal.returns
returns g c = made-all (with_after (g.R.TreeRep.contents c.args.tree.now)) c.args.touched.now c.loop-one.touched c.loop-one.one-index c.loop-one-test.false c.loop-one.invariant
