use Rattle.std.proofs.Common.{◌≡◌, ◌++◌, ◌∷◌, string_bytes, take, flat_map}
use Rattle.cp_path.specs.Spelling.{escaped_text}
use Rattle.cp_spelling.proofs.place.raw_text.Given as goal

abbrev pub invariant-loop-label : goal.invariant-loop-label
invariant-loop-label l = string_bytes l.word ≡ l.fn.place.db ++ flat_map (λ a. 47 ∷ escaped_text a) (take l.label-index l.label-items)
