use Rattle.std.proofs.Common.{◌≡◌, false, drop}
use Rattle.cp_lang.specs.Lexer.{closing}
use Rattle.cp_lang.proofs.LexerLaws.{later}
use Rattle.cp_lang.proofs.lexer.closing.Given as goal

abbrev pub invariant-loop-at : goal.invariant-loop-at
invariant-loop-at l = closing false l.text ≡ later l.at (closing l.is_escaped (drop l.at l.text))
