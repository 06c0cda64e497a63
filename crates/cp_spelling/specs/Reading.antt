-- What a word is read as: places, labels and values by their spellings, and how far a word goes before no spelling begins so.
use Rattle.cp_path.specs.declared.limits.TheConstants.{LABELS_MAX, LABEL_MAX, LOC_MAX, TEXT_MAX}
use Rattle.std.specs.Prelude.{ℕ, ℤ, Bool, true, false, nat_lt, ◌&&◌, ◌==◌, ◌-◌, ◌≡◌, ◌≤◌, ◌<◌, ◌++◌, take, List, codes, length, slice_index, Some}
use Rattle.serde_json.specs.Data.{string}
use Rattle.serde_json.specs.Read.{read}
use Rattle.cp_path.specs.Whole.{IsWhole}
use Rattle.cp_path.specs.Text.{is_name}
use Rattle.std.specs.List.{list_any}
use Rattle.cp_path.specs.Place.{Label, Path, size}
use Rattle.cp_path.specs.Spelling.{whole_text, label_text, place_text}
use Rattle.cp_path.specs.declared.loc.Loc.{Loc}
use Rattle.cp_path.specs.declared.fault.PathFault.{PathFault}
use Rattle.cp_path.specs.declared.fault.PathFault.TheVariants as fault
use Rattle.cp_path.specs.declared.value.Value.{Value}
use Rattle.cp_path.specs.declared.value.Value.TheVariants.{Null, False, True, Whole, Text}

-- some spelling begins with the word
abbrev pub IsFrontOfSpelling : (List ℕ → Type 0) → List ℕ → Type 0
IsFrontOfSpelling Spells w = (rest : List ℕ) × Spells (w ++ rest)

-- the word is no spelling, and its longest beginning that some spelling begins with has that many bytes
abbrev pub IsBadAt : (List ℕ → Type 0) → List ℕ → ℕ → Type 0
IsBadAt Spells w at = ¬ Spells w × (at ≤ length w) × IsFrontOfSpelling Spells (take at w) × ((n : ℕ) → at < n → n ≤ length w → ¬ IsFrontOfSpelling Spells (take n w))

-- the word is the spelling of a label of any bytes, where it stands alone
abbrev pub IsLabelSpelling : List ℕ → Type 0
IsLabelSpelling w = (a : Label) × (w ≡ label_text a)

-- the word spells the place, whose labels are of any bytes
abbrev pub SpellsPlace : List ℕ → Loc → Type 0
SpellsPlace w q = (is_name q.db ≡ true) × (w ≡ place_text q)

-- the word is the spelling of a place with labels of any bytes
abbrev pub IsPlaceSpelling : List ℕ → Type 0
IsPlaceSpelling w = (q : Loc) × SpellsPlace w q

-- why a word is read as no label: it is no spelling, or that of too long a label
abbrev pub LabelFault : PathFault → List ℕ → Type 0
LabelFault (fault.BadEscape at) w = IsBadAt IsLabelSpelling w at
LabelFault fault.LabelTooLong w = (a : Label) × (w ≡ label_text a) × (LABEL_MAX < length a)
LabelFault fault.TooDeep w = ⊥
LabelFault fault.PathTooLong w = ⊥
LabelFault fault.BadValue w = ⊥
LabelFault fault.BadName w = ⊥
LabelFault fault.Memory w = Unit {0}

-- some label is longer than a label may be
abbrev pub any_long : Path → Bool
any_long path = list_any (λ a. nat_lt LABEL_MAX (length a)) path

-- why a place is over a limit: first a label, then the depth, then the size
abbrev pub IsOver : PathFault → Loc → Type 0
IsOver (fault.BadEscape at) q = ⊥
IsOver fault.LabelTooLong q = any_long q.path ≡ true
IsOver fault.TooDeep q = (any_long q.path ≡ false) × (LABELS_MAX < length q.path)
IsOver fault.PathTooLong q = (any_long q.path ≡ false) × (length q.path ≤ LABELS_MAX) × (LOC_MAX < size q)
IsOver fault.BadValue q = ⊥
IsOver fault.BadName q = ⊥
IsOver fault.Memory q = Unit {0}

-- the word spells a place that is over this limit
abbrev pub SpellsOver : PathFault → List ℕ → Type 0
SpellsOver e w = (q : Loc) × SpellsPlace w q × IsOver e q

-- why a word is read as no place: it is no spelling, or that of a place over a limit
abbrev pub PlaceFault : PathFault → List ℕ → Type 0
PlaceFault (fault.BadEscape at) w = IsBadAt IsPlaceSpelling w at
PlaceFault fault.LabelTooLong w = SpellsOver fault.LabelTooLong w
PlaceFault fault.TooDeep w = SpellsOver fault.TooDeep w
PlaceFault fault.PathTooLong w = SpellsOver fault.PathTooLong w
PlaceFault fault.BadValue w = ⊥
PlaceFault fault.BadName w = ⊥
PlaceFault fault.Memory w = Unit {0}

-- the word is none of the three
abbrev pub IsNoWord : List ℕ → Type 0
IsNoWord w = ¬ (w ≡ codes "null") × ¬ (w ≡ codes "false") × ¬ (w ≡ codes "true")

-- the word is the spelling of no whole number
abbrev pub IsNoWhole : List ℕ → Type 0
IsNoWhole w = (n : ℤ) → IsWhole n → ¬ (w ≡ whole_text n)

-- the first byte is a quotation mark, and so is the last
abbrev pub is_in_quotes : List ℕ → Bool
is_in_quotes w = (slice_index w 0 == 34) && (slice_index w (length w - 1) == 34)

-- the word is a JSON string of the text, with nothing round it
abbrev pub SpellsString : List ℕ → List ℕ → Type 0
SpellsString w t = (is_in_quotes w ≡ true) × (read w ≡ Some (string t))

-- the word is a JSON string of the text, which is within its limit
abbrev pub SpellsText : List ℕ → List ℕ → Type 0
SpellsText w t = SpellsString w t × (length t ≤ TEXT_MAX)

-- the word is a JSON string of no text
abbrev pub IsNoString : List ℕ → Type 0
IsNoString w = (t : List ℕ) → ¬ SpellsString w t

-- the word is a JSON string of no text within its limit
abbrev pub IsNoText : List ℕ → Type 0
IsNoText w = (t : List ℕ) → ¬ SpellsText w t

-- the word stands for the value: its one spelling, and for a text each JSON string of it
abbrev pub SpellsValue : List ℕ → Value → Type 0
SpellsValue w Null = w ≡ codes "null"
SpellsValue w False = w ≡ codes "false"
SpellsValue w True = w ≡ codes "true"
SpellsValue w (Whole n) = IsWhole n × (w ≡ whole_text n)
SpellsValue w (Text t) = SpellsText w t
