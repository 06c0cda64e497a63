use Rattle.std.proofs.Common.{◌≡◌, ◌≤◌, ◌<◌, ℕ, true, length, get_or}
use Rattle.cp_format.specs.Parts.{fits_name}
use Rattle.cp_format.proofs.name.name_bytes.Given as goal

abbrev pub invariant-loop-k : goal.invariant-loop-k
invariant-loop-k l = record {
  there : l.k ≤ length l.bytes;
  fit : (i : ℕ) → i < l.k → fits_name i (get_or l.bytes i 0) ≡ true;
}
