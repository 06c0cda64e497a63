-- The readings as functions on a word's bytes.
use Rattle.cp_path.specs.declared.limits.TheConstants.{LABELS_MAX, LABEL_MAX, LOC_MAX, TEXT_MAX}
use Rattle.std.specs.Prelude.{ℕ, ℤ, pos, negsuc, suc, ◌^◌, Bool, true, false, ◌&&◌, ◌==◌, nat_le, nat_lt, List, [], ◌∷◌, length, slice_index, slice_index_or, codes, if◌then◌else◌, Option, Some, None, option_map, option_and_then, Result, Ok, Err}
use Rattle.std.specs.Option.{unwrap_or}
use Rattle.std.specs.Str.Parse.{signed_digits_value}
use Rattle.serde_json.specs.Find.{as_str}
use Rattle.serde_json.specs.Read.{read}
use Rattle.cp_path.specs.Text.{text_eq}
use Rattle.cp_path.specs.Place.{Label, size}
use Rattle.cp_path.specs.Spelling.{whole_text}
use Rattle.cp_spelling.specs.Scan.{step, scan_over, accepts, pieces, place_from}
use Rattle.cp_spelling.specs.Reading.{any_long, is_in_quotes}
use Rattle.cp_path.specs.declared.loc.Loc.{Loc}
use Rattle.cp_path.specs.declared.fault.PathFault.{PathFault}
use Rattle.cp_path.specs.declared.fault.PathFault.TheVariants as fault
use Rattle.cp_spelling.specs.declared.scan.Part.TheVariants as part
use Rattle.cp_spelling.specs.declared.scan.Spot.{Spot}
use Rattle.cp_spelling.specs.declared.scan.Spot.TheVariants as spot
use Rattle.cp_path.specs.declared.value.Value.{Value}
use Rattle.cp_path.specs.declared.value.Value.TheVariants.{Null, False, True, Whole, Text}

-- the text of the JSON string that the word is, of any length, where nothing stands round it
abbrev pub string_reading : List ℕ → Option (List ℕ)
string_reading w = if is_in_quotes w then option_and_then as_str (read w) else None

-- the text that a spelling stands for: what its quotation marks hold, or the word itself
abbrev pub unquoted_text : List ℕ → List ℕ
unquoted_text w = if slice_index w 0 == 34 then unwrap_or (string_reading w) [] else w

-- the scan goes over the whole word, and may end there
abbrev pub is_accepted : Bool → Spot → List ℕ → Bool
is_accepted deep s w = unwrap_or (option_map accepts (scan_over deep s w)) false

-- how many bytes the scan goes over
abbrev pub reach : Bool → Spot → List ℕ → ℕ
reach deep s [] = 0
reach deep s (x ∷ w) = unwrap_or (option_map (λ t. suc (reach deep t w)) (step deep s x)) 0

-- the place, or the first limit that it is over
abbrev pub place_within : Loc → Result Loc PathFault
place_within q =
    if any_long q.path then Err fault.LabelTooLong
    else (if nat_lt LABELS_MAX (length q.path) then Err fault.TooDeep
    else (if nat_lt LOC_MAX (size q) then Err fault.PathTooLong else Ok q))

-- what a word is read as, as a place
abbrev pub place_reading : List ℕ → Result Loc PathFault
place_reading w =
    if is_accepted true (spot.Start part.Begin) w then place_within (place_from (pieces false [] (unquoted_text w)))
    else Err (fault.BadEscape (reach true (spot.Start part.Begin) w))

-- the label, unless it is too long
abbrev pub label_within : Label → Result Label PathFault
label_within a = if nat_lt LABEL_MAX (length a) then Err fault.LabelTooLong else Ok a

-- what a word is read as, as a label that stands alone
abbrev pub label_reading : List ℕ → Result Label PathFault
label_reading w =
    if is_accepted false (spot.Start part.Empty) w then label_within (slice_index_or (pieces false [] (unquoted_text w)) 0 [])
    else Err (fault.BadEscape (reach false (spot.Start part.Empty) w))

-- one of the three words
abbrev pub word_reading : List ℕ → Option Value
word_reading w =
    if text_eq w (codes "null") then Some Null
    else (if text_eq w (codes "false") then Some False
    else (if text_eq w (codes "true") then Some True else None))

-- from -2^63 to 2^64-1
abbrev pub is_whole : ℤ → Bool
is_whole (pos n) = nat_lt n (2 ^ 64)
is_whole (negsuc n) = nat_lt n (2 ^ 63)

-- the whole number that the word is the one spelling of
abbrev pub whole_reading : List ℕ → Option ℤ
whole_reading w = let n = signed_digits_value 10 w in if is_whole n && text_eq w (whole_text n) then Some n else None

-- the text of a JSON string, within the limit of a text value
abbrev pub text_reading : List ℕ → Option (List ℕ)
text_reading w = option_and_then (λ t. if nat_le (length t) TEXT_MAX then Some t else None) (string_reading w)

-- the text value, if there is one
abbrev pub text_or_bad : Option (List ℕ) → Result Value PathFault
text_or_bad (Some t) = Ok (Text t)
text_or_bad None = Err fault.BadValue

-- the number, else the text value
abbrev pub whole_or : Result Value PathFault → Option ℤ → Result Value PathFault
whole_or other (Some n) = Ok (Whole n)
whole_or other None = other

-- the value, else the other
abbrev pub value_or : Result Value PathFault → Option Value → Result Value PathFault
value_or other (Some v) = Ok v
value_or other None = other

-- what a word is read as, as a value
abbrev pub value_reading : List ℕ → Result Value PathFault
value_reading w = value_or (whole_or (text_or_bad (text_reading w)) (whole_reading w)) (word_reading w)
