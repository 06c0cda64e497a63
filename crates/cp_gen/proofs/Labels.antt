-- The labels of places and of the source's nodes are short.
use Rattle.cp_path.specs.declared.limits.TheConstants.{LABEL_MAX}
use Rattle.std.specs.Prelude.{ℕ, ◌≡◌, ◌≤◌, ◌<◌, ◌^◌, List, ◌∷◌, length, decimal}
use Rattle.std.proofs.Common.{ap, arith}
use Rattle.std.proofs.lemmas.Fmt.{length-decimal-le}

-- a letter and a number are a short label
pub short_label : (w : List ℕ) (x n : ℕ) → w ≡ x ∷ decimal n → n < 2 ^ 64 → length w ≤ LABEL_MAX
short_label w x n e h = omega (arith, ap length e, length-decimal-le 20 n (omega arith) (omega arith) h)
