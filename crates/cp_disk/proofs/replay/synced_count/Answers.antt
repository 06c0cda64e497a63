use Rattle.std.proofs.Common.{◌≡◌, true, sym, ◌∙◌, ap}
use Rattle.cp_disk.proofs.Replays.{quiet_synced}
use Rattle.cp_disk.specs.declared.edit.LoggedEdit.{LoggedEdit}
use Rattle.cp_disk.proofs.replay.synced_count.Goals as goal

pub returns-then-log-count-clause-quiet : goal.returns-then-log-count-clause-quiet
returns-then-log-count-clause-quiet c =
    let is = c.index-log-count.is in
    let so : c.index-log-count.result.synced ≡ true = ap (λ (e : LoggedEdit). e.synced) is ∙ c.if-log-count.true in
    quiet_synced c.args.log.now c.loop-count.count c.index-log-count.result c.loop-count-test.true c.loop-count.invariant.within (sym is) so
