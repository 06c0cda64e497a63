-- What a single word of a call may be.
use Rattle.std.specs.Prelude.{ℕ, pos, List, [], ◌∷◌, Bool, false, not, ◌&&◌, ◌==◌, codes, length, nat_le, if◌then◌else◌, Option, Some, None, option_map, option_and_then, Result, Ok}
use Rattle.std.specs.Str.{bytes_eq}
use Rattle.cp_path.specs.declared.limits.TheConstants.{LABEL_MAX}
use Rattle.cp_path.specs.Place.{Label, label_eq, target}
use Rattle.cp_path.specs.Text.{is_name}
use Rattle.cp_spelling.specs.Words.{place_reading, value_reading}
use Rattle.cp_path.specs.declared.fault.PathFault.{PathFault}
use Rattle.cp_path.specs.declared.loc.Loc.{Loc}
use Rattle.cp_path.specs.declared.value.Value.{Value}
use Rattle.cp_path.specs.declared.value.Value.TheVariants.{Whole}
use Rattle.cp_model.specs.declared.kind.Kind.{Kind}
use Rattle.cp_model.specs.declared.kind.Kind.TheVariants as kind
use Rattle.cp_model.specs.declared.query.Form.{Form}
use Rattle.cp_model.specs.declared.query.Form.TheVariants.{Json, Csv}
use Rattle.cp_words.specs.declared.limits.TheConstants.{COUNT_MAX}

-- a word that isn't empty, and doesn't begin with `-`
abbrev pub is_operand : List ℕ → Bool
is_operand [] = false
is_operand (x ∷ xs) = not (x == 45)

-- the kind that a word names
abbrev pub kind_named : List ℕ → Option Kind
kind_named w =
    if bytes_eq w (codes "n") then Some kind.N
    else if bytes_eq w (codes "t") then Some kind.T
    else if bytes_eq w (codes "h") then Some kind.H
    else if bytes_eq w (codes "ht") then Some kind.HT
    else None

-- a word is the text of a label, unless it is too long
abbrev pub label_of : List ℕ → Option Label
label_of w = if nat_le (length w) LABEL_MAX then Some w else None

-- the curator is the label that the word is, and without a word the empty label
abbrev pub curator_by : Option (List ℕ) → Option Label
curator_by None = Some []
curator_by (Some w) = label_of w

-- a source may have any name but T
abbrev pub source_name : List ℕ → Option (List ℕ)
source_name w = if is_name w && not (label_eq w target) then Some w else None

-- `json`, or `csv` without a key column
abbrev pub plain_form : List ℕ → Option Form
plain_form w = if bytes_eq w (codes "json") then Some Json else if bytes_eq w (codes "csv") then Some (Csv None) else None

-- `csv` with a key column, whose label's text is the second word
abbrev pub keyed_form : List ℕ → List ℕ → Option Form
keyed_form w column = if bytes_eq w (codes "csv") then option_map (λ key. Csv (Some key)) (label_of column) else None

-- the form that a word names, perhaps with a key column
abbrev pub form_by : List ℕ → Option (List ℕ) → Option Form
form_by w None = plain_form w
form_by w (Some column) = keyed_form w column

-- the number, where a word was read as a whole number that isn't below 0
abbrev pub number_in : Result Value PathFault → Option ℕ
number_in (Ok (Whole (pos n))) = Some n
number_in r = None

-- the number, from 0 to 2^64-1, that the word spells as a value: decimal digits without a leading zero
abbrev pub number_of : List ℕ → Option ℕ
number_of w = number_in (value_reading w)

-- a number of statements, from 1 on, unless it is too large
abbrev pub count_in : ℕ → Option ℕ
count_in n = if nat_le 1 n && nat_le n COUNT_MAX then Some n else None

-- the number of statements that the word spells
abbrev pub count_of : List ℕ → Option ℕ
count_of w = option_and_then count_in (number_of w)

-- the place, where a word was read as one
abbrev pub place_in : Result Loc PathFault → Option Loc
place_in (Ok q) = Some q
place_in r = None

-- the place that the word spells
abbrev pub place_of : List ℕ → Option Loc
place_of w = place_in (place_reading w)
