use Rattle.std.proofs.Common.{◌<◌, ◌+◌, [], ◌++◌, length, drop, get_or, arith}
use Rattle.std.specs.List.{flat_map}
use Rattle.cp_path.specs.Encoding.{counted_bytes}
use Rattle.cp_record.proofs.Kept.{next_label, none_left}
use Rattle.cp_record.proofs.unpack.behind_labels.Goals as goal

pub counted_at-requires : goal.counted_at-requires
counted_at-requires c =
    let p = c.requires.first in
    let k = c.loop.counter in
    let within : k < length p = omega (arith, c.requires.fit.many, c.loop-test.true) in
    record { first = get_or p k []; fit = tt; rest = flat_map counted_bytes (drop (k + 1) p) ++ c.requires.rest; is = next_label p c.requires.rest c.loop.rest.now k within (c.loop.invariant p c.requires.rest c.requires.fit.many c.requires.is) }

pub loop-preserved : goal.loop-preserved
loop-preserved c =
    λ p rest n e.
    let k = c.loop.counter in
    let within : k < length p = omega (arith, n, c.loop-test.true) in
    (c.counted_at.ensures (get_or p k []) (flat_map counted_bytes (drop (k + 1) p) ++ rest) (next_label p rest c.loop.rest.now k within (c.loop.invariant p rest n e))).1

pub returns : goal.returns
returns c = λ p rest n e. none_left p rest c.loop.rest.now c.loop.counter (omega (arith, n, c.loop-test.false)) (c.loop.invariant p rest n e)
