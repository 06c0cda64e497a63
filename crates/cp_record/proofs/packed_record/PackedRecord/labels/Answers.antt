use Rattle.std.proofs.Common.{[], ap, ◌∙◌}
use Rattle.std.specs.List.{flat_map}
use Rattle.std.specs.Option.{option_map}
use Rattle.cp_path.specs.Encoding.{counted_bytes}
use Rattle.cp_model.specs.Place.{parent}
use Rattle.cp_record.specs.Unpacked.{record_in}
use Rattle.cp_record.proofs.Iterating.{one-is, one-begins}
use Rattle.cp_record.proofs.packed_record.PackedRecord.labels.Goals as goal

pub first_labels-requires : goal.first_labels-requires
first_labels-requires c = one-begins c.self.inside.bytes.now c.self.invariant

pub returns : goal.returns
returns c =
    let bytes = c.self.inside.bytes.now in
    c.first_labels.ensures (record_in bytes).0 [] c.self.invariant.kept (one-is bytes c.self.invariant) ∙ ap (λ r. flat_map counted_bytes r.loc.path) c.self.view_is
