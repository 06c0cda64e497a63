use Rattle.std.proofs.Common.{rules, ◌≡◌}
use Rattle.cp_disk.proofs.Kept.{kept_new, durable_new}
use Rattle.cp_disk.proofs.sure_disk.SureDisk.new.Goals as goal

pub invariant_of-result : goal.invariant_of-result
invariant_of-result c =
    let first : c.in_ok-to_vec.field-0.items ≡ c.args.bytes.now = search rules in
    let file : c.in_ok-to_vec-2.field-0.items ≡ c.args.bytes.now = search rules in
    kept_new c.args.bytes.now _ c.new.result.items first c.new.ensures.items _ file c.requires

pub returns-clause-durable : goal.returns-clause-durable
returns-clause-durable c =
    let first : c.in_ok-to_vec.field-0.items ≡ c.args.bytes.now = search rules in
    durable_new c.args.bytes.now _ c.new.result.items first c.new.ensures.items
