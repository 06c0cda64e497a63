use Rattle.std.proofs.Common.{◌≡◌, ◌+◌, drop}
use Rattle.cp_lang.specs.Lexer.{spaces}
use Rattle.cp_lang.proofs.lexer.spaces.Given as goal

abbrev pub invariant-loop-at : goal.invariant-loop-at
invariant-loop-at l = spaces l.text ≡ l.at + spaces (drop l.at l.text)
