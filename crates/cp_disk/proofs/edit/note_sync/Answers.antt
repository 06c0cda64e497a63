use Rattle.std.proofs.Common.{◌≡◌, ◌+◌, ◌-◌, length, get_or, arith, refl, sym}
use Rattle.std.specs.Vec.{vec_len}
use Rattle.cp_disk.proofs.Replays.{ends_in_sync}
use Rattle.cp_disk.proofs.edit.note_sync.Goals as goal

pub returns-in-Some : goal.returns-in-Some
returns-in-Some c =
    let log = c.args.log.now.items in
    let last = c.in-Some.last.now in
    let is : get_or log (vec_len c.args.log.now - 1) last ≡ last = sym c.in-Some.ensures.value in
    let size : length log ≡ (vec_len c.args.log.now - 1) + 1 = let some = c.in-Some.ensures.variant.0 refl in omega (arith, c.args.log.now.ok, some) in
    ends_in_sync log (vec_len c.args.log.now - 1) last size is
