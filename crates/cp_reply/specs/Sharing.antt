-- Several curators in one input: whose a text is, which statement it has, and where a text of nobody is refused.
use Rattle.std.specs.Prelude.{ℕ, zero, suc, ◌+◌, ◌==◌, ◌&&◌, List, [], ◌∷◌, take, drop, length, if◌then◌else◌}
use Rattle.std.specs.Str.Lossy.{utf8_valid_len}
use Rattle.std.specs.declared.option.Option.{Option}
use Rattle.std.specs.declared.option.Option.TheVariants.{None, Some}
use Rattle.cp_path.specs.Text.{is_name}
use Rattle.cp_lang.specs.Lexer.{run, spaces}

-- the name behind an `@`, if it is one
abbrev pub name_behind_at : List ℕ → Option (List ℕ)
name_behind_at [] = None
name_behind_at (x ∷ w) = if (x == 64) && is_name w then Some w else None

-- the bytes up to the first trigger
abbrev pub front_word : List ℕ → List ℕ
front_word bytes = take (run bytes) bytes

-- whose a text is: that name's with which it begins, behind an `@`
abbrev pub owner : List ℕ → Option (List ℕ)
owner text = name_behind_at (front_word (drop (spaces text) text))

-- the offset behind its first word
abbrev pub front_end : List ℕ → ℕ
front_end text = spaces text + run (drop (spaces text) text)

-- the bytes, with blanks in place of the first n
abbrev pub blanked : ℕ → List ℕ → List ℕ
blanked zero bytes = bytes
blanked (suc n) [] = []
blanked (suc n) (b ∷ bytes) = 32 ∷ blanked n bytes

-- the statement in a text that is somebody's; each offset is the one in the text
abbrev pub statement_in : List ℕ → List ℕ
statement_in text = blanked (front_end text) text

-- the first byte of a text that isn't UTF-8, or else this offset
abbrev pub bad_byte_or : ℕ → List ℕ → ℕ
bad_byte_or at text = if utf8_valid_len text == length text then at else utf8_valid_len text
