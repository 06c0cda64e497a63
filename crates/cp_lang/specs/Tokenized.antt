-- What a token of the code stands for.
use Rattle.cp_lang.specs.Lexer as lexer
use Rattle.cp_lang.specs.declared.lexer.Shape.{Shape}
use Rattle.cp_lang.specs.declared.lexer.Shape.TheVariants.{Open, Close, Colon, Comma, Word, Quoted, Stray}
use Rattle.cp_lang.specs.declared.lexer.Token.{Token}

-- what a token is, with the bytes of its slice
abbrev pub shape_of : Shape → lexer.Shape
shape_of Open = lexer.opens
shape_of Close = lexer.closes
shape_of Colon = lexer.colon
shape_of Comma = lexer.comma
shape_of (Word w) = lexer.word w.now
shape_of (Quoted w) = lexer.quotes w.now
shape_of Stray = lexer.stray

-- a token with its offset
abbrev pub token_of : Token → lexer.Token
token_of t = record { at = t.at; shape = shape_of t.shape }
