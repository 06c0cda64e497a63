use Rattle.std.proofs.Common.{[], ap, ◌∙◌}
use Rattle.std.specs.List.{flat_map}
use Rattle.std.specs.Option.{option_map}
use Rattle.cp_path.specs.Encoding.{counted_bytes}
use Rattle.cp_model.specs.Place.{parent}
use Rattle.cp_record.specs.Unpacked.{record_in}
use Rattle.cp_record.proofs.Iterating.{one-is, one-begins}
use Rattle.cp_record.proofs.packed_record.PackedRecord.labels_above.Goals as goal

pub first_above-requires : goal.first_above-requires
first_above-requires c = one-begins c.self.inside.bytes.now c.self.invariant

pub returns : goal.returns
returns c =
    let bytes = c.self.inside.bytes.now in
    c.first_above.ensures (record_in bytes).0 [] c.self.invariant.kept (one-is bytes c.self.invariant) ∙ ap (λ r. option_map (flat_map counted_bytes) (parent r.loc.path)) c.self.view_is
