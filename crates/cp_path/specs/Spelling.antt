-- The one spelling of a place, of a label that stands alone, and of a value.
use Rattle.std.specs.Prelude.{ℕ, ℤ, pos, negsuc, ◌+◌, Bool, ◌||◌, ◌==◌, nat_le, List, [], ◌∷◌, ◌++◌, decimal, flat_map, codes, if◌then◌else◌}
use Rattle.std.specs.List.{list_any}
use Rattle.json.specs.Print.{quoted}
use Rattle.cp_path.specs.Place.{Label}
use Rattle.cp_path.specs.declared.loc.Loc.{Loc}
use Rattle.cp_path.specs.declared.value.Value.{Value}
use Rattle.cp_path.specs.declared.value.Value.TheVariants.{Null, False, True, Whole, Text}

-- a byte that makes a word be quoted: white space and what else is below it, `"`, `;`, `{`, `}`, `:` or `,`
abbrev pub is_trigger : ℕ → Bool
is_trigger x = nat_le x 32 || (x == 34) || (x == 59) || (x == 123) || (x == 125) || (x == 58) || (x == 44)

-- some byte makes the word be quoted
abbrev pub has_trigger : List ℕ → Bool
has_trigger w = list_any is_trigger w

-- `~` is written `~0`, and `/` is written `~1`, as in RFC 6901
abbrev pub escape_label_byte : ℕ → List ℕ
escape_label_byte x = if x == 126 then codes "~0" else (if x == 47 then codes "~1" else x ∷ [])

-- the label, escaped byte by byte
abbrev pub escaped_text : Label → List ℕ
escaped_text a = flat_map escape_label_byte a

-- the name, then a slash and the escaped label for each label
abbrev pub raw_place : Loc → List ℕ
raw_place q = q.db ++ flat_map (λ a. 47 ∷ escaped_text a) q.path

-- a word without a trigger stands for itself, any other in quotation marks
abbrev pub unless_quoted : List ℕ → List ℕ
unless_quoted w = if has_trigger w then quoted w else w

-- the spelling of a place
abbrev pub place_text : Loc → List ℕ
place_text q = unless_quoted (raw_place q)

-- the empty label is quoted too
abbrev pub label_word : List ℕ → List ℕ
label_word [] = quoted []
label_word (x ∷ w) = unless_quoted (x ∷ w)

-- the spelling of a label that stands alone
abbrev pub label_text : Label → List ℕ
label_text a = label_word (escaped_text a)

-- digits, with a minus before a negative number
abbrev pub whole_text : ℤ → List ℕ
whole_text (pos n) = decimal n
whole_text (negsuc n) = 45 ∷ decimal (n + 1)

-- the spelling of a value
abbrev pub value_text : Value → List ℕ
value_text Null = codes "null"
value_text False = codes "false"
value_text True = codes "true"
value_text (Whole n) = whole_text n
value_text (Text t) = quoted t
