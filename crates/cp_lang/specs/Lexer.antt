-- How a text falls into tokens.
use Rattle.std.specs.Prelude.{ℕ, zero, suc, ◌+◌, ◌==◌, List, [], ◌∷◌, Bool, true, false, length, take, drop, if◌then◌else◌}
use Rattle.std.specs.declared.option.Option.{Option}
use Rattle.std.specs.declared.option.Option.TheVariants.{None, Some}
use Rattle.std.specs.Option.{option_map}
use Rattle.cp_path.specs.Spelling.{is_trigger}
use Rattle.cp_lang.specs.Spaces.{is_space}

-- what a token is
pub data Shape : Type 0 where
  opens : Shape
  closes : Shape
  colon : Shape
  comma : Shape
  -- as many characters as follow each other without a trigger
  word : List ℕ → Shape
  -- from a quotation mark to the one that closes it, both included
  quotes : List ℕ → Shape
  -- what can't stand anywhere
  stray : Shape

-- a token, and the offset of its first byte
pub record Token : Type 0 where
  pub at : ℕ
  pub shape : Shape

-- what bytes begin with, and how many of them it takes
pub record FrontToken : Type 0 where
  pub shape : Shape
  pub size : ℕ

-- the bytes before the first trigger
abbrev pub run : List ℕ → ℕ
run [] = 0
run (x ∷ xs) = if is_trigger x then 0 else run xs + 1

-- the bytes up to the quotation mark that closes, that one included; a backslash passes over the byte behind it
abbrev pub closing : Bool → List ℕ → Option ℕ
closing escaped [] = None
closing true (x ∷ xs) = option_map (λ n. n + 1) (closing false xs)
closing false (x ∷ xs) = if x == 34 then Some 1 else option_map (λ n. n + 1) (closing (x == 92) xs)

-- a quotation mark that nothing closes takes all that follows
abbrev pub quote_token : List ℕ → Option ℕ → FrontToken
quote_token bs None = record { shape = stray; size = length bs }
quote_token bs (Some n) = record { shape = quotes (take (n + 1) bs); size = n + 1 }

-- the four marks; every other trigger can't stand
abbrev pub mark : ℕ → Shape
mark x = if x == 123 then opens else (if x == 125 then closes else (if x == 58 then colon else (if x == 44 then comma else stray)))

-- the token that bytes without white space before it begin with
abbrev pub front_token : ℕ → List ℕ → FrontToken
front_token x xs =
    if x == 34 then quote_token (x ∷ xs) (closing false xs)
    else (if is_trigger x then record { shape = mark x; size = 1 }
    else record { shape = word (take (run (x ∷ xs)) (x ∷ xs)); size = run (x ∷ xs) })

-- the tokens of bytes that begin at this offset, at most so many; white space separates them
unfoldable pub tokens_in : ℕ → ℕ → List ℕ → List Token
tokens_in zero at bs = []
tokens_in (suc n) at [] = []
tokens_in (suc n) at (x ∷ xs) =
    if is_space x then tokens_in n (at + 1) xs
    else record { at = at; shape = (front_token x xs).shape } ∷ tokens_in n (at + (front_token x xs).size) (drop (front_token x xs).size (x ∷ xs))

-- the tokens from an offset of the text on, of which there are no more than bytes
abbrev pub pending : List ℕ → ℕ → List Token
pending text at = tokens_in (length (drop at text)) at (drop at text)

-- the tokens of a text
abbrev pub tokens_of : List ℕ → List Token
tokens_of text = pending text 0

-- the offset of the first token, and the text's end where there is none
abbrev pub first_offset : ℕ → List Token → ℕ
first_offset end [] = end
first_offset end (t ∷ ts) = t.at

-- the tokens of bytes that begin at this offset
abbrev pub tokens_at : ℕ → List ℕ → List Token
tokens_at at bs = tokens_in (length bs) at bs

-- how many bytes of white space bytes begin with
abbrev pub spaces : List ℕ → ℕ
spaces [] = 0
spaces (x ∷ xs) = if is_space x then spaces xs + 1 else 0

-- the token that bytes begin with, where there are any
abbrev pub first_token : List ℕ → FrontToken
first_token [] = record { shape = stray; size = 0 }
first_token (x ∷ xs) = front_token x xs
