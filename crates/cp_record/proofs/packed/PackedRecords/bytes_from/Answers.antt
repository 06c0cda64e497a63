use Rattle.std.proofs.Common.{◌<◌, ◌+◌, ap, subst, ◌∙◌, length, drop, arith}
use Rattle.std.specs.List.{AllByRecursion}
use Rattle.cp_record.specs.Bytes.{records_bytes}
use Rattle.cp_record.specs.Kept.{IsPackable}
use Rattle.cp_record.proofs.Kept.{numbered, begins_numbered}
use Rattle.cp_record.proofs.packed.PackedRecords.bytes_from.Goals as goal

pub loop-init : goal.loop-init
loop-init c = c.as_slice-rest.ensures.value ∙ c.self.invariant.is ∙ ap records_bytes c.self.view_is

pub behind_record-rest-requires : goal.behind_record-rest-requires
behind_record-rest-requires c =
    let rs = c.args.self.now in
    let kept = subst (λ l. AllByRecursion IsPackable l) c.self.view_is c.self.invariant.kept in
    let within : c.loop.counter < length rs = omega (arith, c.requires, c.loop-test.true) in
    begins_numbered rs c.loop.rest.now c.loop.counter (numbered rs c.loop.counter kept within) c.loop.invariant

pub loop-preserved : goal.loop-preserved
loop-preserved c =
    let rs = c.args.self.now in
    let kept = subst (λ l. AllByRecursion IsPackable l) c.self.view_is c.self.invariant.kept in
    let within : c.loop.counter < length rs = omega (arith, c.requires, c.loop-test.true) in
    let n = numbered rs c.loop.counter kept within in
    c.behind_record-rest.ensures n.is (records_bytes (drop (c.loop.counter + 1) rs)) n.kept (c.loop.invariant ∙ n.bytes)

pub returns-clause-kept : goal.returns-clause-kept
returns-clause-kept c = subst (λ l. AllByRecursion IsPackable l) c.self.view_is c.self.invariant.kept
