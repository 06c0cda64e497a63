use Rattle.std.proofs.Common.{arith}
use Rattle.cp_store.proofs.AskLemmas.{not-asked}
use Rattle.cp_paged.specs.Calls.{as_store}
use Rattle.cp_paged.proofs.AboveLemmas.{above-start}
use Rattle.cp_paged.proofs.newest.newest_above.Goals as goal

pub loop-depth-init : goal.loop-depth-init
loop-depth-init g c = record {
  deep = omega arith;
  end = (let some = c.requires.some in omega (arith, some));
  best = λ rs kept. above-start rs c.args.labels.now c.args.first c.args.t;
  within = tt;
  spent = omega arith;
  asked = not-asked (as_store g.K.PlaceRows) c.args.rows.now;
}
