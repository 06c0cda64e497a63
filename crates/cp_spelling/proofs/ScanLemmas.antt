-- The scan of a word, byte by byte.
use Rattle.std.specs.Prelude.{ℕ, Bool, List, [], ◌∷◌, Option, Some, option_and_then}
use Rattle.cp_spelling.specs.declared.scan.Part.{Part}
use Rattle.cp_spelling.specs.Scan.{part_step}

abbrev pub part_run : Bool → Part → List ℕ → Option Part
part_run deep p [] = Some p
part_run deep p (x ∷ w) = option_and_then (λ q. part_run deep q w) (part_step deep p x)
