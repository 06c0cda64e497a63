-- What stands at an offset, whatever its value is.
use Rattle.std.proofs.Common.{◌≡◌, ℕ, ◌+◌, ◌-◌, List, ◌++◌, refl, ap, ◌∙◌, length, take, drop, arith}
use Rattle.std.proofs.lemmas.List.{take_at}
use Rattle.cp_format.specs.Formats.{Format, ReadsAt, StandsAt}
use Rattle.cp_format.proofs.Formats.{Alike, both, reads_alike_at, reads_both_at}

module _ {X Y Z : Type 0} (F : Format X) (G : X → Format Y) (H : Format Z) (to : X × Y → Z) (a : Alike (both F G) H to) (bytes : List ℕ) where
  -- one after another are one of the whole
  pub stands_both : (at mid next : ℕ) (x : X) → ReadsAt F bytes at x mid → StandsAt (G x) bytes mid next → StandsAt H bytes at next
  stands_both at mid next x r s = record { value = to (x, s.value); reads = reads_alike_at (both F G) H to a bytes at (x, s.value) next (reads_both_at F G bytes at mid next x s.value r s.reads) }

-- what is as it was spelled stands there too
pub stands_alike : {X Y : Type 0} (F : Format X) (G : Format Y) (to : X → Y) → Alike F G to → (bytes : List ℕ) (at next : ℕ) → StandsAt F bytes at next → StandsAt G bytes at next
stands_alike F G to a bytes at next s = record { value = to s.value; reads = reads_alike_at F G to a bytes at s.value next s.reads }

-- the bytes from the one offset to the other are the spelling
pub spelling_at : {X : Type 0} (F : Format X) (bytes : List ℕ) (at next : ℕ) (x : X) → ReadsAt F bytes at x next → take (next - at) (drop at bytes) ≡ F.bytes x
spelling_at F bytes at next x r =
    let n : length (F.bytes x) ≡ next - at = omega (arith, r.count) in
    ap (take (next - at)) r.reads.is ∙ take_at (F.bytes x) (drop next bytes) (next - at) n
