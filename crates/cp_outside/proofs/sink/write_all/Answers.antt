use Rattle.std.proofs.Common.{arith, length-drop}
use Rattle.cp_outside.proofs.WritesInTurn.{Appends-more}
use Rattle.std.proofs.lemmas.List.{take_rest}
use Rattle.cp_outside.proofs.sink.write_all.Goals as goal

pub loop-at-preserved : goal.loop-at-preserved
loop-at-preserved g c = record {
  within = omega (arith, length-drop c.loop-at.at c.args.bytes.now, c.in_ok-at.ensures.some);
  wrote = Appends-more _ _ _ c.args.bytes.now c.loop-at.at c.in_ok-at.field-0 c.loop-at.invariant.wrote (rw (take_rest c.args.bytes.now c.loop-at.at) at c.in_ok-at.ensures.bytes);
  steady = omega (arith, c.loop-at.invariant.steady, c.in_ok-at.ensures.cause.steady);
  kept = omega (arith, c.loop-at.invariant.kept, c.in_ok-at.ensures.refused);
}
