-- Bytes that come in pieces are scanned as one run.
use Rattle.std.specs.Prelude.{ℕ, ◌≡◌, List, [], ◌∷◌, ◌++◌}
use Rattle.std.proofs.Common.{refl, ap, sym, ◌∙◌, append_assoc}
use Rattle.cp_lang.specs.declared.cut.Cut.{Cut}
use Rattle.cp_lang.specs.Cuts.{Scan, scan_byte, scan_bytes}

-- the second piece is scanned from where the first one ends
pub scan-append : (s : Scan) (xs ys : List ℕ) → (scan_bytes s (xs ++ ys)).scan ≡ (scan_bytes (scan_bytes s xs).scan ys).scan
unfolding scan_bytes
scan-append s [] ys = refl
scan-append s (b ∷ xs) ys = scan-append (scan_byte s b).scan xs ys

-- the cuts of the first piece come before those of the second
pub cuts-append : (s : Scan) (xs ys : List ℕ) → (scan_bytes s (xs ++ ys)).cuts ≡ (scan_bytes s xs).cuts ++ (scan_bytes (scan_bytes s xs).scan ys).cuts
unfolding scan_bytes
cuts-append s [] ys = refl
cuts-append s (b ∷ xs) ys =
    ap (λ (cs : List Cut). (scan_byte s b).cuts ++ cs) (cuts-append (scan_byte s b).scan xs ys) ∙ sym (append_assoc (scan_byte s b).cuts _ _)
