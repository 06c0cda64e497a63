use Rattle.std.proofs.Common.{◌≡◌, ◌++◌, string_bytes, codes, take, flat_map}
use Rattle.cp_path.specs.Spelling.{place_text}
use Rattle.cp_reply.proofs.places.push_each.Given as goal

abbrev pub invariant-loop-place : goal.invariant-loop-place
invariant-loop-place l = string_bytes l.text ≡ string_bytes l.initial.text ++ flat_map (λ q. codes " " ++ place_text q) (take l.place-index l.places)
