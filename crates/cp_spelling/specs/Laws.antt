-- The laws of spellings and readings that the crates above rest on, as statements.
use Rattle.cp_path.specs.declared.limits.TheConstants.{LABELS_MAX, LABEL_MAX, LOC_MAX, TEXT_MAX}
use Rattle.std.specs.Prelude.{ℕ, ◌≡◌, ◌≤◌, true, false, List, length, Some, Ok, Err}
use Rattle.json.specs.Print.{quoted}
use Rattle.cp_path.specs.Text.{is_name}
use Rattle.cp_path.specs.Place.{Label, size}
use Rattle.cp_path.specs.Spelling.{place_text, label_text, value_text, has_trigger}
use Rattle.cp_spelling.specs.Reading.{any_long, SpellsPlace, SpellsValue, PlaceFault, LabelFault}
use Rattle.cp_spelling.specs.Words.{string_reading, place_reading, label_reading, value_reading}
use Rattle.cp_path.specs.declared.loc.Loc.{Loc}
use Rattle.cp_path.specs.declared.fault.PathFault.{PathFault}
use Rattle.cp_path.specs.declared.fault.PathFault.TheVariants as fault
use Rattle.cp_path.specs.declared.value.Value.{Value}
use Rattle.std.proofs.Common.{◌<◌, ◌⊎◌}
use Rattle.cp_path.specs.Whole.{IsWhole}
use Rattle.cp_path.specs.declared.value.Value.TheVariants.{Null, False, True, Whole, Text}

-- ---- places

-- the word is the spelling of the place, which is within every limit
abbrev pub IsSpelling : List ℕ → Loc → Type 0
IsSpelling w q = (place_text q ≡ w) × (size q ≤ LOC_MAX) × (length q.path ≤ LABELS_MAX) × (is_name q.db ≡ true) × (any_long q.path ≡ false)

-- ---- what a spelling looks like

-- the word is not empty, and stands in quotation marks or has no byte that asks for them
abbrev pub IsTokenShape : List ℕ → Type 0
IsTokenShape w = (0 < length w) × ((has_trigger w ≡ false) ⊎ ((t : List ℕ) × (w ≡ quoted t)))

-- ---- values

-- no value is spelled
abbrev pub IsNoValue : List ℕ → Type 0
IsNoValue w = (v : Value) → ¬ SpellsValue w v

-- the value has a place in a tree: a number in the range, a text within its limit
abbrev pub IsValueWithin : Value → Type 0
IsValueWithin Null = Unit {0}
IsValueWithin False = Unit {0}
IsValueWithin True = Unit {0}
IsValueWithin (Whole n) = IsWhole n
IsValueWithin (Text t) = length t ≤ TEXT_MAX

-- a place within every limit is read back from its spelling; a word spells one place; and what a reading says of its word
pub record PlaceLaws : Type 0 where
  pub reads_back : (q : Loc) → is_name q.db ≡ true → any_long q.path ≡ false → length q.path ≤ LABELS_MAX → size q ≤ LOC_MAX → place_reading (place_text q) ≡ Ok q
  pub spelled_once : (w : List ℕ) (p q : Loc) → SpellsPlace w p → SpellsPlace w q → p ≡ q
  pub read : (w : List ℕ) (q : Loc) → place_reading w ≡ Ok q → IsSpelling w q
  pub refused : (w : List ℕ) (e : PathFault) → place_reading w ≡ Err e → PlaceFault e w
  pub shape : (q : Loc) → is_name q.db ≡ true → IsTokenShape (place_text q)

-- the same of labels that stand alone
pub record LabelLaws : Type 0 where
  pub reads_back : (a : Label) → length a ≤ LABEL_MAX → label_reading (label_text a) ≡ Ok a
  pub spelled_once : (a b : Label) → label_text a ≡ label_text b → a ≡ b
  pub read : (w : List ℕ) (a : Label) → label_reading w ≡ Ok a → (w ≡ label_text a) × (length a ≤ LABEL_MAX)
  pub refused : (w : List ℕ) (e : PathFault) → label_reading w ≡ Err e → LabelFault e w
  pub shape : (a : Label) → IsTokenShape (label_text a)

-- the same of values, whose texts have many spellings, of which one is written
pub record ValueLaws : Type 0 where
  pub reads_back : (v : Value) → IsValueWithin v → value_reading (value_text v) ≡ Ok v
  pub spelled_once : (u v : Value) → IsValueWithin u → IsValueWithin v → value_text u ≡ value_text v → u ≡ v
  pub read : (w : List ℕ) (v : Value) → value_reading w ≡ Ok v → SpellsValue w v
  pub refused : (w : List ℕ) (e : PathFault) → value_reading w ≡ Err e → (e ≡ fault.BadValue) × IsNoValue w
  pub shape : (v : Value) → IsTokenShape (value_text v)

-- a text of any length is read back from its quotation marks
abbrev pub StringsReadBack : Type 0
StringsReadBack = (t : List ℕ) → string_reading (quoted t) ≡ Some t
