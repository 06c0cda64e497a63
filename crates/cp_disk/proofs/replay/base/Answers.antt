use Rattle.std.proofs.Common.{rules, ◌≡◌, List, ℕ, take, None, ◌∙◌, ap}
use Rattle.cp_disk.specs.Edits.{calls_of, bytes_after_all}
use Rattle.cp_disk.proofs.Crashing.{base_is}
use Rattle.cp_disk.proofs.Replays.{calls_of-split}
use Rattle.cp_disk.proofs.replay.base.Goals as goal

pub returns : goal.returns
returns c =
    let log = c.args.log.now in
    let n = c.synced_count.result in
    let first : c.in_ok-file.file.items ≡ c.args.first.now = search rules in
    let made : c.redo_all.new.file.items ≡ bytes_after_all None c.in_ok-file.file.items (calls_of (take n log)) = search rules in
    base_is c.args.first.now _ _ _ (calls_of-split log n) c.synced_count.ensures.quiet c.synced_count.ensures.none _
    (made ∙ ap (λ (l : List ℕ). bytes_after_all None l (calls_of (take n log))) first)
