use Rattle.std.proofs.Common.{◌++◌, ◌∷◌, [], ap, ◌∙◌}
use Rattle.std.specs.Option.{option_map}
use Rattle.cp_record.specs.Bytes.{record_below}
use Rattle.cp_record.proofs.Decoded.{packed-more, records_in-more}
use Rattle.cp_record.proofs.packed.PackedRecords.push.Goals as goal

pub invariant_of-self : goal.invariant_of-self
invariant_of-self c =
    let r = record_below c.args.tid c.args.op c.args.base.now c.args.below.now (option_map (λ q. q.now) c.args.source) in
    packed-more c.self.inside.bytes.items c.push_record.new.out.items r c.self.invariant c.in-Ok.ensures.kept c.in-Ok.ensures.ok

pub returns-in-Ok-clause-ok : goal.returns-in-Ok-clause-ok
returns-in-Ok-clause-ok c =
    let r = record_below c.args.tid c.args.op c.args.base.now c.args.below.now (option_map (λ q. q.now) c.args.source) in
    records_in-more c.self.inside.bytes.items c.push_record.new.out.items r c.self.invariant c.in-Ok.ensures.kept c.in-Ok.ensures.ok
    ∙ ap (λ rs. rs ++ r ∷ []) c.self.view_is
