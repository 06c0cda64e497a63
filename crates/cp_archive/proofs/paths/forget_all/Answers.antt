use Rattle.std.proofs.Common.{◌-◌, ◌+◌, ◌≡◌, ◌≤◌, ◌<◌, length, subst, sym, take, arith, get_or, refl}
use Rattle.cp_archive.specs.Notes.{AreNoted}
use Rattle.cp_archive.proofs.Forgetting.{forgotten}
use Rattle.cp_archive.proofs.paths.forget_all.Goals as goal

pub loop-count-preserved : goal.loop-count-preserved
loop-count-preserved c =
    let n = c.loop-count.count - 1 in
    let some : n + 1 ≡ c.loop-count.count = omega (arith, c.loop-count-test.true) in
    let few : c.loop-count.count ≤ length c.args.differences.now = c.loop-count.invariant.few in
    let within : n < length c.args.differences.now = omega (arith, few, some) in
    record {
      few = omega (arith, few);
      noted = λ m h. forgotten m c.loop-count.paths c.forget.new.paths c.args.since n c.args.differences.now (get_or c.args.differences.now n c.index-differences-count.result) c.index-differences-count.result within refl c.forget.ensures
          (subst (λ k. AreNoted m c.loop-count.paths c.args.since (take k c.args.differences.now)) (sym some) (c.loop-count.invariant.noted m h));
    }
