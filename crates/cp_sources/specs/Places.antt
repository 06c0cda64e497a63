-- The places of a JSON value, and what each holds.
use Rattle.cp_model.specs.declared.limits.TheConstants.{PLACE_WEIGHT}
use Rattle.std.specs.Prelude.{ℕ, ◌+◌, pos, Bool, true, false, List, [], ◌∷◌, ◌++◌, decimal}
use Rattle.std.specs.declared.option.Option.{Option}
use Rattle.std.specs.declared.option.Option.TheVariants.{None, Some}
use Rattle.serde_json.specs.Data.{Num, unsigned, negative, float, Data, null, boolean, number, string, array, object, Items, no_items, item, Members, no_members, member}
use Rattle.cp_path.specs.declared.value.Value.TheVariants.{Null, False, True, Whole, Text}
use Rattle.cp_model.specs.declared.row.Content.{Content}
use Rattle.cp_model.specs.declared.row.Content.TheVariants.{Node, Leaf}
use Rattle.cp_model.specs.Place.{Path, child}
use Rattle.cp_model.specs.Tree.{text_bytes, last_bytes}

-- a whole number is a leaf, and any other holds no value
abbrev pub number_content : Num → Option Content
number_content (unsigned n) = Some (Leaf (Whole (pos n)))
number_content (negative z) = Some (Leaf (Whole z))
number_content (float x) = None

-- a truth value as a leaf
abbrev pub truth_content : Bool → Option Content
truth_content true = Some (Leaf True)
truth_content false = Some (Leaf False)

-- what the place of a value holds
abbrev pub content_of : Data → Option Content
content_of null = Some (Leaf Null)
content_of (boolean b) = truth_content b
content_of (number n) = number_content n
content_of (string s) = Some (Leaf (Text s))
content_of (array ds) = Some Node
content_of (object ms) = Some Node

-- the places below p, where the value stands: the names of an object's members are labels, and so are the indexes of an array's items in decimal
abbrev mutual
  pub places_below : Path → Data → List (Path × Option Content)
  places_below p null = []
  places_below p (boolean b) = []
  places_below p (number n) = []
  places_below p (string s) = []
  places_below p (array ds) = item_places p 0 ds
  places_below p (object ms) = member_places p ms

  pub item_places : Path → ℕ → Items → List (Path × Option Content)
  item_places p i no_items = []
  item_places p i (item d ds) = (child p (decimal i), content_of d) ∷ (places_below (child p (decimal i)) d ++ item_places p (i + 1) ds)

  pub member_places : Path → Members → List (Path × Option Content)
  member_places p no_members = []
  member_places p (member k d ms) = (child p k, content_of d) ∷ (places_below (child p k) d ++ member_places p ms)

-- the places of a value, from its root
abbrev pub value_places : Data → List (Path × Option Content)
value_places d = ([], content_of d) ∷ places_below [] d

-- the bytes of a text, and 0 where none is held
abbrev pub bytes_of : Option Content → ℕ
bytes_of None = 0
bytes_of (Some c) = text_bytes c

-- the weight of a place alone, the bytes of its last label and those of a text
abbrev pub place_weight : Path × Option Content → ℕ
place_weight e = PLACE_WEIGHT + last_bytes e.0 + bytes_of e.1
