use Rattle.std.proofs.Common.{sym, subst}
use Rattle.cp_lang.specs.Grammar.{at_place}
use Rattle.cp_lang.specs.Parser.{IsRead}
use Rattle.cp_lang.specs.Tokenized.{shape_of}
use Rattle.cp_lang.specs.declared.lexer.Shape.{Shape}
use Rattle.cp_lang.proofs.token_reading.place_of.Goals as goal

pub returns-in-Word : goal.returns-in-Word
returns-in-Word c = record {
  reads = let P : Shape → Type 0 = λ x. IsRead c.args.token.at (at_place (shape_of x)) c.place_at.result in subst P (sym c.in-Word.is) c.place_at.ensures.reads;
}

pub returns-in-Quoted : goal.returns-in-Quoted
returns-in-Quoted c = record {
  reads =
      let P : Shape → Type 0 = λ x. IsRead c.args.token.at (at_place (shape_of x)) c.place_at-in-Quoted.result in
      subst P (sym c.in-Quoted.is) c.place_at-in-Quoted.ensures.reads;
}
