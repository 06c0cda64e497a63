use Rattle.std.proofs.Common.{◌≡◌, ◌∷◌, take}
use Rattle.std.specs.List.{flat_map}
use Rattle.cp_path.specs.Encoding.{counted_bytes}
use Rattle.cp_uses.proofs.source.write_key.Given as goal

abbrev pub invariant-loop-label : goal.invariant-loop-label
invariant-loop-label l = l.key.items ≡ flat_map counted_bytes (l.place.db ∷ take l.label-index l.place.path)
