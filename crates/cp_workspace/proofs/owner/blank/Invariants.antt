use Rattle.std.proofs.Common.{◌≡◌, length}
use Rattle.cp_reply.specs.Sharing.{blanked}
use Rattle.cp_workspace.proofs.owner.blank.Given as goal

-- the bytes so far are blanks
abbrev pub invariant-loop-at : goal.invariant-loop-at
invariant-loop-at l = record { blanks : l.text ≡ blanked l.at l.fn.text; long : length l.text ≡ length l.fn.text }
