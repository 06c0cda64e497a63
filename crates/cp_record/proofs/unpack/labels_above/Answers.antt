use Rattle.std.proofs.Common.{◌≡◌, ℕ, ◌<◌, ◌++◌, List, Some, sym, ap, ◌∙◌, length, take, drop, ◌-◌, slice_index_or, arith}
use Rattle.std.proofs.lemmas.Bool.Decides.{nat_tests}
use Rattle.std.specs.List.{flat_map}
use Rattle.cp_path.specs.Encoding.{counted_bytes}
use Rattle.cp_record.proofs.Iterating.{last-of, above-begins, above-many, above-tail, above-is, front-less, front-of}
use Rattle.cp_record.proofs.unpack.labels_above.Goals as goal

pub behind_labels-last-requires : goal.behind_labels-last-requires
behind_labels-last-requires c =
    let path = c.args.path.now in
    let p = c.requires.first in
    let count : slice_index_or path 0 0 ≡ length p = ap (λ (l : List ℕ). slice_index_or l 0 0) c.requires.is in
    let test = c.if-count-eq0.false in
    let some : 0 < length p = grind (arith, nat_tests) in
    above-begins path p c.requires.rest c.requires.is (last-of p some) (slice_index_or path 0 0) c.requires.fit count

pub overflow_sub-labels : goal.overflow_sub-labels
overflow_sub-labels c =
    let path = c.args.path.now in
    let p = c.requires.first in
    let count : slice_index_or path 0 0 ≡ length p = ap (λ (l : List ℕ). slice_index_or l 0 0) c.requires.is in
    let test = c.if-count-eq0.false in
    let some : 0 < length p = grind (arith, nat_tests) in
    let l = last-of p some in
    let tail = above-tail path p c.requires.rest c.requires.is l in
    let behind = c.behind_labels-last.ensures l.above (counted_bytes l.label ++ c.requires.rest) (above-many path p c.requires.rest c.requires.is l (slice_index_or path 0 0) count) tail in
    front-less (take (length path - 1) (drop 1 path)) (flat_map counted_bytes l.above) c.behind_labels-last.result.now (tail ∙ ap (λ (x : List ℕ). flat_map counted_bytes l.above ++ x) (sym behind))

pub returns : goal.returns
returns c = λ p rest is.
    let path = c.args.path.now in
    let count : slice_index_or path 0 0 ≡ length p = ap (λ (l : List ℕ). slice_index_or l 0 0) is in
    let test = c.if-count-eq0.false in
    let some : 0 < length p = grind (arith, nat_tests) in
    let l = last-of p some in
    let tail = above-tail path p rest is l in
    let behind = c.behind_labels-last.ensures l.above (counted_bytes l.label ++ rest) (above-many path p rest is l (slice_index_or path 0 0) count) tail in
    ap (λ (x : List ℕ). Some x) (c.split_at.ensures.front ∙ front-of (take (length path - 1) (drop 1 path)) (flat_map counted_bytes l.above) c.behind_labels-last.result.now (tail ∙ ap (λ (x : List ℕ). flat_map counted_bytes l.above ++ x) (sym behind)))
    ∙ sym (above-is path p rest is l)
