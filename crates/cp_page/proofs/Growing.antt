-- Bytes that are added behind others.
use Rattle.std.proofs.Common.{◌≡◌, ◌∙◌, ap, ℕ, List, ◌++◌, append_assoc}
use Rattle.cp_record.specs.Packed.{Grew}

-- some was added, and then more
pub grew_then : (old xs mid new : List ℕ) → mid ≡ old ++ xs → Grew mid new → Grew old new
grew_then old xs mid new e g = record { added = xs ++ g.added; is = g.is ∙ ap (λ l. l ++ g.added) e ∙ append_assoc old xs g.added }
