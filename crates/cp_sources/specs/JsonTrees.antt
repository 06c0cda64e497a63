-- The tree of a JSON text, or why it is refused.
use Rattle.cp_model.specs.declared.limits.TheConstants.{NODES_MAX, WEIGHT_MAX}
use Rattle.cp_path.specs.declared.limits.TheConstants.{LABELS_MAX, LABEL_MAX, LOC_MAX, TEXT_MAX}
use Rattle.std.specs.Prelude.{ℕ, Bool, not, List, [], ◌∷◌, length, sum_by, nat_lt, take, drop, if◌then◌else◌, Result, Ok, Err}
use Rattle.std.specs.List.{list_all, list_any, filter_map, find}
use Rattle.std.specs.declared.option.Option.{Option}
use Rattle.std.specs.declared.option.Option.TheVariants.{None, Some}
use Rattle.std.specs.Option.{ok_or, option_map}
use Rattle.std.specs.Ordering.{is_lt}
use Rattle.std.specs.Str.{is_utf8}
use Rattle.serde_json.specs.Data.{Data}
use Rattle.serde_json.specs.Read.{read}
use Rattle.cp_model.specs.Cases.{first_case, unless}
use Rattle.cp_path.specs.Text.{text_eq}
use Rattle.cp_model.specs.declared.row.Content.{Content}
use Rattle.cp_model.specs.Place.{Path, path_cmp, size}
use Rattle.cp_model.specs.Keyed as keyed
use Rattle.cp_model.specs.Tree.{Tree, last_bytes}
use Rattle.cp_sources.specs.Places.{value_places, bytes_of, place_weight}
use Rattle.cp_sources.specs.declared.json_fault.JsonFault.{JsonFault}
use Rattle.cp_sources.specs.declared.json_fault.JsonFault.TheVariants.{NotJson, LabelTooLong, TooDeep, PathTooLong, TextTooLong, TooMany, TooBig, NotWhole}

-- ---- numbers that are not whole

-- the path of a place whose number is not whole, which holds no value
abbrev pub fraction_path : Path × Option Content → Option Path
fraction_path (p, None) = Some p
fraction_path (p, Some c) = None

-- of these paths the one before which none of them comes
abbrev pub least_path : List Path → Option Path
least_path ps = find (λ p. list_all (λ q. not (is_lt (path_cmp q p))) ps) ps

-- the first place, in their order, whose number is not whole
abbrev pub first_fraction : List (Path × Option Content) → Option Path
first_fraction es = least_path (filter_map fraction_path es)

-- ---- the tree

-- some place has a number above this one
abbrev pub any_above : ℕ → (Path × Option Content → ℕ) → List (Path × Option Content) → Bool
any_above n f es = list_any (λ e. nat_lt n (f e)) es

-- the refusals in order, each with whether it applies to the places of a text that is loaded under this name
abbrev pub refusals : List ℕ → List (Path × Option Content) → List (Bool × JsonFault)
refusals name es =
    (any_above LABEL_MAX (λ e. last_bytes e.0) es, LabelTooLong)
    ∷ (any_above LABELS_MAX (λ e. length e.0) es, TooDeep)
    ∷ (any_above LOC_MAX (λ e. size (record { db = name; path = e.0 })) es, PathTooLong)
    ∷ (any_above TEXT_MAX (λ e. bytes_of e.1) es, TextTooLong)
    ∷ (nat_lt NODES_MAX (length es), TooMany)
    ∷ (nat_lt WEIGHT_MAX (sum_by place_weight es), TooBig)
    ∷ []

-- the entry of a place that holds a value
abbrev pub entry_of : Path × Option Content → Option (Path × Content)
entry_of e = option_map (λ c. (e.0, c)) e.1

-- the tree of these places
abbrev pub tree_of_places : List ℕ → List (Path × Option Content) → Result Tree JsonFault
tree_of_places name es =
    unless (first_case (refusals name es)) (unless (option_map NotWhole (first_fraction es)) (Ok (keyed.from_entries (filter_map entry_of es))))

-- the tree of a value that was read, or why none was
abbrev pub tree_of_reading : List ℕ → Result Data JsonFault → Result Tree JsonFault
tree_of_reading name (Ok d) = tree_of_places name (value_places d)
tree_of_reading name (Err e) = Err e

-- the value that a text is, if it is one
abbrev pub json_reading : List ℕ → Result Data JsonFault
json_reading text = ok_or (if is_utf8 text then read text else None) NotJson

-- one byte order mark in front is dropped
abbrev pub without_mark : List ℕ → List ℕ
without_mark bytes = if text_eq (take 3 bytes) (239 ∷ 187 ∷ 191 ∷ []) then drop 3 bytes else bytes

-- the tree of the bytes of a file that is loaded under this name
unfoldable pub json_tree : List ℕ → List ℕ → Result Tree JsonFault
json_tree name bytes = tree_of_reading name (json_reading (without_mark bytes))
