-- The formats of the parts of a record, and of a record.
use Rattle.std.specs.Prelude.{ℕ, zero, suc, ◌≡◌, ◌≤◌, ◌<◌, ◌+◌, ◌/◌, ◌%◌, ◌^◌, Bool, true, false, List, [], ◌∷◌, length, sum_by, IfSome, IsUtf8, ⊤}
use Rattle.std.specs.List.{flat_map, AllByRecursion}
use Rattle.std.specs.Int.{to_be_bytes, w32, w64}
use Rattle.std.specs.declared.option.Option.{Option}
use Rattle.cp_path.specs.Encoding.{counted_bytes, path_bytes, place_bytes}
use Rattle.cp_path.specs.Place.{Label, Path, over_limit}
use Rattle.cp_path.specs.Text.{is_letter, is_name_byte, is_name}
use Rattle.cp_path.specs.declared.loc.Loc.{Loc}
use Rattle.cp_model.specs.declared.record.Record.{Record}
use Rattle.cp_model.specs.declared.record.RecOp.{RecOp}
use Rattle.cp_record.specs.Bytes.{letter, source_bytes, record_bytes}
use Rattle.cp_record.specs.Kept.{IsLabel, IsName, IsPath, IsPlace, IsSourceOf}
use Rattle.cp_format.specs.Formats.{Format, unchecked}
use Rattle.cp_format.specs.Spelled.{IsSpelled}

-- a number in eight bytes, the highest first
abbrev pub number_format : Format ℕ
number_format = record { fit = λ n. n < 2 ^ 64; bytes = λ n. to_be_bytes w64 n; checks = unchecked }

-- the letter of an operation
abbrev pub letter_format : Format RecOp
letter_format = record { fit = λ o. ⊤; bytes = λ o. letter o ∷ []; checks = unchecked }

-- a number from the least to the most in one byte
abbrev pub count_format : ℕ → ℕ → Format ℕ
count_format least most = record { fit = λ n. (least ≤ n) × (n ≤ most) × (n < 256); bytes = λ n. n ∷ []; checks = unchecked }

-- a number from the least to the most in four bytes, the highest first
abbrev pub bounded_format : ℕ → ℕ → Format ℕ
bounded_format least most = record { fit = λ n. (least ≤ n) × (n ≤ most) × (n < 2 ^ 32); bytes = λ n. to_be_bytes w32 n; checks = unchecked }

-- the last byte of a number from the least to the most, whose bytes before it make this number
abbrev pub digit_format : ℕ → ℕ → ℕ → Format ℕ
digit_format high least most = record { fit = λ n. (least ≤ n) × (n ≤ most) × (n / 256 ≡ high); bytes = λ n. n % 256 ∷ []; checks = unchecked }

-- a text of so many bytes
abbrev pub text_format : ℕ → Format (List ℕ)
text_format n = record { fit = λ a. IsUtf8 a × (length a ≡ n); bytes = λ a. a; checks = unchecked }

-- a name of so many bytes
abbrev pub name_text_format : ℕ → Format (List ℕ)
name_text_format n = record { fit = λ a. (is_name a ≡ true) × (length a ≡ n); bytes = λ a. a; checks = unchecked }

-- a label of so many bytes at most, behind its length
abbrev pub label_format : ℕ → Format Label
label_format most = record { fit = λ a. IsLabel a × (length a ≤ most); bytes = λ a. counted_bytes a; checks = unchecked }

-- what the labels of a path take: their bytes, and one for each
abbrev pub labels_size : Path → ℕ
labels_size p = sum_by (λ a. length a + 1) p

-- so many labels, which take so much at most
abbrev pub labels_format : ℕ → ℕ → Format Path
labels_format count room = record { fit = λ p. AllByRecursion IsLabel p × (length p ≡ count) × (labels_size p ≤ room); bytes = λ p. flat_map counted_bytes p; checks = unchecked }

-- a path whose labels take so much at most, behind their number
abbrev pub path_format : ℕ → Format Path
path_format room = record { fit = λ p. IsPath p × (labels_size p ≤ room); bytes = λ p. path_bytes p; checks = unchecked }

-- a name behind its length
abbrev pub name_format : Format (List ℕ)
name_format = record { fit = λ a. IsName a; bytes = λ a. counted_bytes a; checks = unchecked }

-- a place within the limits of places
abbrev pub place_format : Format Loc
place_format = record { fit = λ q. IsPlace q × (over_limit q ≡ false); bytes = λ q. place_bytes q; checks = unchecked }

-- what follows the path in a record of this operation: of a copy the place that it came from
abbrev pub source_format : RecOp → Format (Option Loc)
source_format o = record { fit = λ q. IsSourceOf o q × IfSome q (λ p. over_limit p ≡ false); bytes = λ q. source_bytes q; checks = unchecked }

-- a record
abbrev pub record_format : Format Record
record_format = record { fit = λ r. IsSpelled r; bytes = λ r. record_bytes r; checks = unchecked }

-- the byte may stand at this index of a name
abbrev pub fits_name : ℕ → ℕ → Bool
fits_name zero x = is_letter x
fits_name (suc k) x = is_name_byte x
