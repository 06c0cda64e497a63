use Rattle.std.proofs.Common.{rules, sym, ◌<◌, length}
use Rattle.cp_disk.proofs.Replays.{bytes_after_all-none, bytes_after_all-more}
use Rattle.cp_disk.proofs.replay.redo_all.Goals as goal

pub loop-entry-init : goal.loop-entry-init
loop-entry-init c = bytes_after_all-none _ _

pub loop-entry-preserved : goal.loop-entry-preserved
loop-entry-preserved c =
    let within : c.loop-entry.entry-index < length c.args.log.now = search rules in
    bytes_after_all-more _ _ _ _ c.args.log.now c.loop-entry.entry-index c.entry-item.result within (sym c.entry-item.is) c.loop-entry.invariant c.in_ok-redo.ensures
