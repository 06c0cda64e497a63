use Rattle.std.proofs.Common.{◌≡◌, ◌++◌, string_bytes, codes, decimal, take, flat_map}
use Rattle.cp_reply.proofs.answer.push_tids.Given as goal

abbrev pub invariant-loop-tid : goal.invariant-loop-tid
invariant-loop-tid l = string_bytes l.text ≡ string_bytes l.initial.text ++ flat_map (λ t. codes " " ++ decimal t) (take l.tid-index l.tids)
