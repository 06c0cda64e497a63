use Rattle.std.proofs.Common.{◌++◌, ◌∷◌, [], List, ap, ◌∙◌}
use Rattle.cp_model.specs.declared.record.Record.{Record}
use Rattle.cp_record.specs.Unpacked.{record_in}
use Rattle.cp_record.proofs.Iterating.{more-packed, more-records}
use Rattle.cp_record.proofs.packed.PackedRecords.push_packed.Goals as goal

pub invariant_of-self-2 : goal.invariant_of-self-2
invariant_of-self-2 c = more-packed c.self.inside.bytes.items c.extend_from_slice.new.self.items c.row.inside.bytes.now c.self.invariant c.row.invariant c.in_ok-extend_from_slice.ensures.items

pub returns-clause-ok : goal.returns-clause-ok
returns-clause-ok c =
    more-records c.self.inside.bytes.items c.extend_from_slice.new.self.items c.row.inside.bytes.now c.self.invariant c.row.invariant c.in_ok-extend_from_slice.ensures.items
    ∙ ap (λ (rs : List Record). rs ++ (record_in c.row.inside.bytes.now).0 ∷ []) c.self.view_is
    ∙ ap (λ (r : Record). c.args.self.now ++ r ∷ []) c.row.view_is
