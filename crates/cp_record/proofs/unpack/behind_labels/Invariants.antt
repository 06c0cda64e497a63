use Rattle.std.proofs.Common.{◌≡◌, ℕ, List, ◌++◌, drop, length}
use Rattle.std.specs.List.{flat_map}
use Rattle.cp_path.specs.Encoding.{counted_bytes}
use Rattle.cp_path.specs.Place.{Path}
use Rattle.cp_record.proofs.unpack.behind_labels.Given as goal

abbrev pub invariant-loop : goal.invariant-loop
invariant-loop l = (p : Path) → (rest : List ℕ) → l.count ≡ length p → l.fn.bytes ≡ flat_map counted_bytes p ++ rest → l.rest ≡ flat_map counted_bytes (drop l.counter p) ++ rest
