-- Worked examples: JSON values, each with the tree that it is. What value a text is, RFC 8259 says.
use Rattle.std.specs.Prelude.{ℕ, zero, suc, true, ◌≡◌, pos, List, [], ◌∷◌, codes, map, Ok, Err, Float}
use Prim.Native.String.{String}
use Rattle.serde_json.specs.Data.{unsigned, float, null, boolean, number, array, object, Items, no_items, item, no_members, member}
use Rattle.cp_path.specs.declared.value.Value.TheVariants.{Null, True, Whole}
use Rattle.cp_model.specs.Place.{Path}
use Rattle.cp_model.specs.Keyed as keyed
use Rattle.cp_model.specs.declared.row.Content.{Content}
use Rattle.cp_model.specs.declared.row.Content.TheVariants.{Node, Leaf}
use Rattle.cp_sources.specs.declared.json_fault.JsonFault.TheVariants.{NotWhole}
use Rattle.cp_sources.specs.JsonTrees.{tree_of_reading}

-- what stands at the place with these labels
abbrev pub at : List String → Content → Path × Content
at labels c = (map codes labels, c)

abbrev pub whole : ℕ → Content
whole n = Leaf (Whole (pos n))

-- so many truth values in a row
abbrev pub truths : ℕ → Items
truths zero = no_items
truths (suc n) = item (boolean true) (truths n)

-- `{"l":[18446744073709551615,null]}`: an array is a node whose labels are the numbers of its elements, and the greatest whole number is kept
abbrev pub array_has_numbered_labels : Type 0
array_has_numbered_labels =
    tree_of_reading (codes "S") (Ok (object (member (codes "l") (array (item (number (unsigned 18446744073709551615)) (item null no_items))) no_members)))
    ≡ Ok (keyed.from_entries (at [] Node ∷ at ("l" ∷ []) Node ∷ at ("l" ∷ "0" ∷ []) (whole 18446744073709551615) ∷ at ("l" ∷ "1" ∷ []) (Leaf Null) ∷ []))

-- twelve elements: labels come in the order of their bytes, and so `10` and `11` before `2`
abbrev pub elements_are_ordered_by_their_labels : Type 0
elements_are_ordered_by_their_labels =
    tree_of_reading (codes "S") (Ok (array (truths 12)))
    ≡ Ok (keyed.from_entries (at [] Node ∷ map (λ a. at (a ∷ []) (Leaf True)) ("0" ∷ "1" ∷ "10" ∷ "11" ∷ "2" ∷ "3" ∷ "4" ∷ "5" ∷ "6" ∷ "7" ∷ "8" ∷ "9" ∷ [])))

-- of numbers that aren't whole the first in the order of places is named
abbrev pub first_number_that_is_not_whole_is_named : Type 0
first_number_that_is_not_whole_is_named =
    (x y z : Float)
    → tree_of_reading (codes "S") (Ok (object (member (codes "b") (array (item (number (unsigned 1)) (item (number (float x)) (item (number (float y)) no_items)))) (member (codes "c") (number (float z)) no_members))))
    ≡ Err (NotWhole (codes "b" ∷ codes "1" ∷ []))

pub record ArraysHold : Type 0 where
  pub numbered : array_has_numbered_labels
  pub ordered : elements_are_ordered_by_their_labels
  pub whole : first_number_that_is_not_whole_is_named
