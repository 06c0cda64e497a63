use Rattle.std.proofs.Common.{◌≡◌, drop, Some}
use Rattle.std.proofs.lemmas.List.{take_rest}
use Rattle.cp_disk.specs.Edits.{calls_of, bytes_after_all}
use Rattle.cp_disk.specs.Images.{file_after}
use Rattle.cp_disk.proofs.Crashing.{filled_is}
use Rattle.cp_disk.proofs.Replays.{calls_of-split}
use Rattle.cp_disk.proofs.replay.filled.Goals as goal

pub returns : goal.returns
returns c =
    let log = c.args.log.now in
    let n = c.synced_count.result in
    let base : c.in_ok-file.file.items ≡ (file_after c.args.first.now (calls_of log)).base = c.in_ok-file.ensures in
    let made : c.redo_all.new.file.items ≡ bytes_after_all (Some c.args.byte) c.in_ok-file.file.items (calls_of (drop n log)) =
    rw (take_rest log n) at c.in_ok-redo_all.ensures in
    filled_is c.args.first.now _ _ _ (calls_of-split log n) c.synced_count.ensures.quiet c.synced_count.ensures.none c.args.byte _ _ base made
