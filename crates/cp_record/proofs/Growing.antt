-- Bytes that are added behind others.
use Rattle.std.proofs.Common.{◌≡◌, ℕ, List, [], ◌++◌, refl, sym, ap, ◌∙◌, append_assoc, append-nil, length, take}
use Rattle.std.proofs.lemmas.List.{take_at}
use Rattle.cp_record.specs.Packed.{Grew}

-- nothing was added
pub grew_none : (old : List ℕ) → Grew old old
grew_none old = record { added = []; is = sym (append-nil old) }

-- some was added, and then more
pub grew_then : (old xs mid new : List ℕ) → mid ≡ old ++ xs → Grew mid new → Grew old new
grew_then old xs mid new e g = record { added = xs ++ g.added; is = g.is ∙ ap (λ (l : List ℕ). l ++ g.added) e ∙ append_assoc old xs g.added }

-- some was added
pub grew_by : (old xs new : List ℕ) → new ≡ old ++ xs → Grew old new
grew_by old xs new e = record { added = xs; is = e }

-- what was there is the front of what grew from it
pub grew_front : (old new : List ℕ) → Grew old new → take (length old) new ≡ old
grew_front old new g = ap (take (length old)) g.is ∙ take_at old g.added (length old) refl
