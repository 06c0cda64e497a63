use Rattle.std.proofs.Common.{◌≡◌, ◌++◌, string_bytes, codes, take, flat_map}
use Rattle.cp_reply.specs.Lines.{segment_text}
use Rattle.cp_reply.proofs.answer.push_segments.Given as goal

abbrev pub invariant-loop-segment : goal.invariant-loop-segment
invariant-loop-segment l = string_bytes l.text ≡ string_bytes l.initial.text ++ flat_map (λ s. segment_text s ++ codes " < ") (take l.segment-index l.segments)
