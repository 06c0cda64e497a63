use Rattle.std.proofs.Common.{◌≡◌, ◌+◌, drop}
use Rattle.cp_lang.specs.Lexer.{run}
use Rattle.cp_workspace.proofs.owner.run.Given as goal

abbrev pub invariant-loop-at : goal.invariant-loop-at
invariant-loop-at l = run l.text ≡ l.at + run (drop l.at l.text)
