use Rattle.std.proofs.Common.{◌<◌, ◌≤◌, ◌+◌, [], ◌++◌, length, drop, get_or, arith}
use Rattle.std.specs.List.{flat_map}
use Rattle.cp_path.specs.Encoding.{counted_bytes}
use Rattle.cp_record.specs.Kept.{IsLabel}
use Rattle.cp_record.proofs.Kept.{next_label, one_more, all_labels, none_left, all_at, front_few}
use Rattle.cp_record.proofs.unpack.labels_at.Goals as goal

pub label_at-requires : goal.label_at-requires
label_at-requires c =
    let p = c.requires.first in
    let k = c.loop.counter in
    let within : k < length p = omega (arith, c.requires.fit.many, c.loop-test.true) in
    let kept = c.loop.invariant p c.requires.rest c.requires.fit.many c.requires.is in
    record { first = get_or p k []; fit = all_at IsLabel p k [] within c.requires.fit.path.labels; rest = flat_map counted_bytes (drop (k + 1) p) ++ c.requires.rest; is = next_label p c.requires.rest c.loop.rest.now k within kept.1 }

pub push-requires : goal.push-requires
push-requires c =
    let p = c.requires.first in
    let within : c.loop.counter < length p = omega (arith, c.requires.fit.many, c.loop-test.true) in
    front_few p c.loop.path c.loop.counter (c.loop.invariant p c.requires.rest c.requires.fit.many c.requires.is).0 within c.requires.fit.path.few

pub loop-preserved : goal.loop-preserved
loop-preserved c =
    λ p rest n e.
    let k = c.loop.counter in
    let within : k < length p = omega (arith, n, c.loop-test.true) in
    let kept = c.loop.invariant p rest n e in
    let next = c.in_ok-label.ensures (get_or p k []) (flat_map counted_bytes (drop (k + 1) p) ++ rest) (next_label p rest c.loop.rest.now k within kept.1) in
    (one_more p c.loop.path c.push.new.path c.in_ok-label.label k within kept.0 next.0 c.in_ok-push.ensures, next.1)

pub returns : goal.returns
returns c =
    λ p rest n e.
    let kept = c.loop.invariant p rest n e in
    let over : length p ≤ c.loop.counter = omega (arith, n, c.loop-test.false) in
    (all_labels p c.loop.path c.loop.counter over kept.0, none_left p rest c.loop.rest.now c.loop.counter over kept.1)
