use Rattle.cp_lang.proofs.CutterLemmas.{fed_none, fed_step, begins_same, begins_more}
use Rattle.cp_lang.proofs.cutter.Cutter.feed.Goals as goal

pub loop-byte-init : goal.loop-byte-init
loop-byte-init c = (fed_none c.args.self.now c.args.out.now.items, begins_same c.args.out.now.items)

pub loop-byte-preserved : goal.loop-byte-preserved
loop-byte-preserved c =
    let met = c.in_ok-byte.ensures.ok in (
      fed_step c.args.self.now c.args.out.now.items c.args.piece.now c.loop-byte.byte-index c.loop-byte.self c.byte.new.self c.loop-byte.out.items c.byte.new.out.items
          c.loop-byte-test.true c.loop-byte.invariant.0 met.0 met.1,
      begins_more c.args.out.now.items c.loop-byte.out.items c.byte.new.out.items c.loop-byte.invariant.1 c.in_ok-byte.ensures.front,
    )
