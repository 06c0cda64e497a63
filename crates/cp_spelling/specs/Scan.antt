-- The scan of a word, byte by byte.
use Rattle.cp_path.specs.declared.limits.TheConstants.{NAME_MAX}
use Rattle.std.specs.Prelude.{ℕ, ◌+◌, ◌≡◌, ◌⊎◌, Bool, true, false, not, ◌&&◌, ◌||◌, ◌==◌, nat_le, nat_lt, List, [], ◌∷◌, ◌++◌, take, length, slice_get, if◌then◌else◌, Option, Some, None, option_map, option_and_then, slice_index_or, drop}
use Rattle.cp_path.specs.Text.{is_letter, is_name_byte}
use Rattle.cp_path.specs.Spelling.{is_trigger}
use Rattle.cp_path.specs.declared.loc.Loc.{Loc}
use Rattle.cp_spelling.specs.declared.scan.Part.{Part}
use Rattle.cp_spelling.specs.declared.scan.Part.TheVariants as part
use Rattle.cp_spelling.specs.declared.scan.Spot.{Spot}
use Rattle.cp_spelling.specs.declared.scan.Spot.TheVariants as spot

-- a label has begun, or may begin and end at once
abbrev pub is_label : Part → Bool
is_label part.Begin = false
is_label (part.Name n) = false
is_label part.Empty = true
is_label part.Label = true
is_label part.Tilde = false

-- the closing quotation mark may stand there
abbrev pub closes : Part → Bool → Bool
closes part.Begin t = false
closes (part.Name n) t = t
closes part.Empty t = true
closes part.Label t = t
closes part.Tilde t = false

-- the text may end there
abbrev pub may_end : Part → Bool
may_end part.Begin = false
may_end (part.Name n) = true
may_end part.Empty = true
may_end part.Label = true
may_end part.Tilde = false

-- one byte of a label: `~` begins an escape, and a slash ends it where another may follow
abbrev pub label_step : Bool → ℕ → Option Part
label_step deep x = if x == 126 then Some part.Tilde else (if (x == 47) && not deep then None else Some part.Label)

-- one byte of the text; deep where a slash may begin the next label
abbrev pub part_step : Bool → Part → ℕ → Option Part
part_step deep part.Begin x = if is_letter x then Some (part.Name 1) else None
part_step deep (part.Name n) x = if x == 47 then Some part.Label else (if nat_lt n NAME_MAX && is_name_byte x then Some (part.Name (n + 1)) else None)
part_step deep part.Empty x = label_step deep x
part_step deep part.Label x = label_step deep x
part_step deep part.Tilde x = if (x == 48) || (x == 49) then Some part.Label else None

-- one byte of a word without quotation marks
abbrev pub bare_step : Bool → Part → ℕ → Option Spot
bare_step deep p x = if is_trigger x then None else option_map spot.Bare (part_step deep p x)

-- one byte inside quotation marks
abbrev pub quoted_step : Bool → Part → Bool → ℕ → Option Spot
quoted_step deep p t x =
    if x == 34 then (if closes p t then Some spot.Ended else None)
    else (if x == 92 then (if is_label p then Some (spot.Backslash t) else None)
    else (if nat_lt x 32 then None else option_map (λ q. spot.Quoted q (t || is_trigger x)) (part_step deep p x)))

-- what behind a backslash stands for a byte that asks for quotation marks
abbrev pub is_letter_escape : ℕ → Bool
is_letter_escape x = (x == 34) || (x == 98) || (x == 102) || (x == 110) || (x == 114) || (x == 116)

-- the byte behind a backslash
abbrev pub escape_step : Bool → ℕ → Option Spot
escape_step t x = if x == 92 then Some (spot.Quoted part.Label t) else (if is_letter_escape x then Some (spot.Quoted part.Label true) else (if x == 117 then Some spot.Unicode else None))

-- `\u000` and this digit stand for a byte that no letter stands for
abbrev pub ends_low : ℕ → Bool
ends_low x = (nat_le 48 x && nat_le x 55) || (x == 98) || (x == 101) || (x == 102)

-- `\u001` and this digit stand for a byte
abbrev pub ends_high : ℕ → Bool
ends_high x = (nat_le 48 x && nat_le x 57) || (nat_le 97 x && nat_le x 102)

-- two zeros, a zero or a one, and a digit
abbrev pub unicode_step : Spot → ℕ → Option Spot
unicode_step (spot.Start p) x = None
unicode_step (spot.Bare p) x = None
unicode_step (spot.Quoted p t) x = None
unicode_step (spot.Backslash t) x = None
unicode_step spot.Unicode x = if x == 48 then Some spot.Zero else None
unicode_step spot.Zero x = if x == 48 then Some spot.Zeros else None
unicode_step spot.Zeros x = if x == 48 then Some spot.Low else (if x == 49 then Some spot.High else None)
unicode_step spot.Low x = if ends_low x then Some (spot.Quoted part.Label true) else None
unicode_step spot.High x = if ends_high x then Some (spot.Quoted part.Label true) else None
unicode_step spot.Ended x = None

-- one byte of the word
abbrev pub step : Bool → Spot → ℕ → Option Spot
step deep (spot.Start p) x = if x == 34 then Some (spot.Quoted p false) else bare_step deep p x
step deep (spot.Bare p) x = bare_step deep p x
step deep (spot.Quoted p t) x = quoted_step deep p t x
step deep (spot.Backslash t) x = escape_step t x
step deep spot.Unicode x = unicode_step spot.Unicode x
step deep spot.Zero x = unicode_step spot.Zero x
step deep spot.Zeros x = unicode_step spot.Zeros x
step deep spot.Low x = unicode_step spot.Low x
step deep spot.High x = unicode_step spot.High x
step deep spot.Ended x = None

-- the word may end there
abbrev pub accepts : Spot → Bool
accepts (spot.Start p) = false
accepts (spot.Bare p) = may_end p
accepts (spot.Quoted p t) = false
accepts (spot.Backslash t) = false
accepts spot.Unicode = false
accepts spot.Zero = false
accepts spot.Zeros = false
accepts spot.Low = false
accepts spot.High = false
accepts spot.Ended = true

-- where the scan stands after these bytes, if it goes over all of them
abbrev pub scan_over : Bool → Spot → List ℕ → Option Spot
scan_over deep s [] = Some s
scan_over deep s (x ∷ w) = option_and_then (λ t. scan_over deep t w) (step deep s x)

-- the scan goes over the whole word, and may end there
abbrev pub Accepts : Bool → Spot → List ℕ → Type 0
Accepts deep s w = (t : Spot) × (scan_over deep s w ≡ Some t) × (accepts t ≡ true)

-- the scan stands after that many bytes, and goes no further, or may not end there
abbrev pub StopsAt : Bool → Spot → List ℕ → ℕ → Type 0
StopsAt deep s w at = (t : Spot) × (scan_over deep s (take at w) ≡ Some t) × (((at ≡ length w) × (accepts t ≡ false)) ⊎ ((x : ℕ) × (slice_get w at ≡ Some x) × (step deep t x ≡ None)))

-- the pieces between slashes, unescaped; the bytes a of the first came before, with a `~` last or not
abbrev pub pieces : Bool → List ℕ → List ℕ → List (List ℕ)
pieces t a [] = a ∷ []
pieces true a (x ∷ w) = pieces false (a ++ (if x == 48 then 126 else (if x == 49 then 47 else x)) ∷ []) w
pieces false a (x ∷ w) = if x == 126 then pieces true a w else (if x == 47 then a ∷ pieces false [] w else pieces false (a ++ x ∷ []) w)

-- the byte that `~` and this one stand for
abbrev pub unescaped_byte : ℕ → ℕ
unescaped_byte x = if x == 48 then 126 else (if x == 49 then 47 else x)

-- the place whose name is the first piece, and whose labels are the others
abbrev pub place_from : List (List ℕ) → Loc
place_from ps = record { db = slice_index_or ps 0 []; path = drop 1 ps }
