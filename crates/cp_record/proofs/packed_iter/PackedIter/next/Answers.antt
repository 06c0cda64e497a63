use Rattle.std.proofs.Common.{◌≡◌, ℕ, ◌<◌, [], sym, ap, ◌∙◌, length, arith}
use Rattle.std.proofs.lemmas.Bool.Decides.{nat_tests}
use Rattle.cp_record.specs.Unpacked.{records_in}
use Rattle.cp_record.proofs.Iterating.{none-left, first-begins, fewer, rest-packed, one-packed, first-and-rest}
use Rattle.cp_record.proofs.packed_iter.PackedIter.next.Goals as goal

pub returns-then-is_empty : goal.returns-then-is_empty
returns-then-is_empty c =
    let test = sym c.is_empty.ensures ∙ c.if-is_empty.true in
    let none : length c.self.inside.rest.now ≡ 0 = grind (arith, nat_tests) in
    sym c.self.view_is ∙ none-left c.self.inside.rest.now none

pub behind_record-behind-requires : goal.behind_record-behind-requires
behind_record-behind-requires c =
    let test = sym c.is_empty.ensures ∙ c.if-is_empty.false in
    let some : 0 < length c.self.inside.rest.now = grind (arith, nat_tests) in
    first-begins c.self.inside.rest.now some c.self.invariant

pub overflow_sub-self-inside : goal.overflow_sub-self-inside
overflow_sub-self-inside c =
    let test = sym c.is_empty.ensures ∙ c.if-is_empty.false in
    let some : 0 < length c.self.inside.rest.now = grind (arith, nat_tests) in
    fewer c.self.inside.rest.now c.behind_record-behind.result.now some c.self.invariant c.behind_record-behind.ensures

pub invariant_of-result : goal.invariant_of-result
invariant_of-result c =
    let test = sym c.is_empty.ensures ∙ c.if-is_empty.false in
    let some : 0 < length c.self.inside.rest.now = grind (arith, nat_tests) in
    one-packed c.self.inside.rest.now c.behind_record-behind.result.now some c.self.invariant c.behind_record-behind.ensures c.split_at.result.0.now c.split_at.ensures.front

pub invariant_of-self : goal.invariant_of-self
invariant_of-self c =
    let test = sym c.is_empty.ensures ∙ c.if-is_empty.false in
    let some : 0 < length c.self.inside.rest.now = grind (arith, nat_tests) in
    rest-packed c.self.inside.rest.now c.behind_record-behind.result.now some c.self.invariant c.behind_record-behind.ensures

pub returns : goal.returns
returns c =
    let test = sym c.is_empty.ensures ∙ c.if-is_empty.false in
    let some : 0 < length c.self.inside.rest.now = grind (arith, nat_tests) in
    sym c.self.view_is ∙ first-and-rest c.self.inside.rest.now c.behind_record-behind.result.now some c.self.invariant c.behind_record-behind.ensures c.split_at.result.0.now c.split_at.ensures.front
