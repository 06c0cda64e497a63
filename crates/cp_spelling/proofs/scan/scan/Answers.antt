use Rattle.std.proofs.Common.{sym, ◌∙◌}
use Rattle.cp_spelling.proofs.Runs.{scan_step}
use Rattle.cp_spelling.specs.declared.scan.Spot.TheVariants as spot
use Rattle.cp_spelling.proofs.scan.scan.Goals as goal

pub loop-at-preserved : goal.loop-at-preserved
loop-at-preserved c = scan_step c.args.deep (spot.Start c.args.part) c.loop-at.spot c.in-Some.next c.args.word.now c.loop-at.at c.loop-at-test.true c.loop-at.invariant (sym c.step.ensures ∙ c.in-Some.is)
