use Rattle.std.proofs.Common.{◌<◌, ◌≡◌, ◌++◌, ap, subst, ◌∙◌, length, arith}
use Rattle.std.specs.List.{AllByRecursion}
use Rattle.std.proofs.lemmas.Bool.Decides.{nat_tests}
use Rattle.cp_record.specs.Bytes.{records_bytes}
use Rattle.cp_record.specs.Kept.{IsPackable}
use Rattle.cp_record.proofs.Kept.{left_one, left_none, left_begins, left_smaller}
use Rattle.cp_record.proofs.packed.PackedRecords.records.Goals as goal

pub loop-rest-init : goal.loop-rest-init
loop-rest-init c = record {
  next = c.args.self.now;
  kept = subst (λ l. AllByRecursion IsPackable l) c.self.view_is c.self.invariant.kept;
  bytes = c.as_slice-rest.ensures.value ∙ c.self.invariant.is ∙ ap records_bytes c.self.view_is;
  all = ap (λ l. l ++ c.args.self.now) c.new-items.ensures.items;
}

pub record_at-requires : goal.record_at-requires
record_at-requires c =
    let some : 0 < length c.loop-rest.rest.now = grind (arith, nat_tests) in
    left_begins c.args.self.now c.loop-rest.items.items c.loop-rest.rest.now some c.loop-rest.invariant

pub loop-rest-smaller : goal.loop-rest-smaller
loop-rest-smaller c =
    let some : 0 < length c.loop-rest.rest.now = grind (arith, nat_tests) in
    left_smaller c.args.self.now c.loop-rest.items.items c.loop-rest.rest.now c.in_ok-record.behind.now c.in_ok-record.record some c.loop-rest.invariant c.in_ok-record.ensures

pub loop-rest-preserved : goal.loop-rest-preserved
loop-rest-preserved c =
    let some : 0 < length c.loop-rest.rest.now = grind (arith, nat_tests) in
    left_one c.args.self.now c.loop-rest.items.items c.push.new.self.items c.loop-rest.rest.now c.in_ok-record.behind.now c.in_ok-record.record some c.loop-rest.invariant c.in_ok-record.ensures c.in_ok-push.ensures.items

pub returns : goal.returns
returns c =
    let none : length c.loop-rest.rest.now ≡ 0 = grind (arith, nat_tests) in
    left_none c.args.self.now c.loop-rest.items.items c.loop-rest.rest.now none c.loop-rest.invariant
