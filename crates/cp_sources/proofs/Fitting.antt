-- A value that nothing refuses can be made into a tree, which is the map of its value_places.
use Rattle.cp_model.specs.declared.limits.TheConstants.{NODES_MAX, WEIGHT_MAX}
use Rattle.cp_path.specs.declared.limits.TheConstants.{LABEL_MAX, LABELS_MAX, LOC_MAX, NAME_MAX, TEXT_MAX}
use Rattle.std.proofs.Common.{◌≡◌, ◌≤◌, ℕ, Bool, true, false, cond, ◌||◌, List, [], ◌∷◌, length, sum_by, nat_lt, is_some, Result, Ok, Err, refl, sym, ap, ◌∙◌, arith}
use Rattle.std.proofs.lemmas.Bool.{and_parts, or_parts}
use Rattle.cp_model.proofs.Accepted.{at_most}
use Rattle.std.proofs.lemmas.List.Sums.{sum_by-cons}
use Rattle.std.specs.List.{list_all, filter_map}
use Rattle.std.specs.Option.{option_map}
use Rattle.std.specs.declared.option.Option.{Option}
use Rattle.std.specs.declared.option.Option.TheVariants.{None, Some}
use Rattle.serde_json.specs.Data.{Data}
use Rattle.cp_model.specs.declared.row.Content.{Content}
use Rattle.cp_model.specs.Place.{Path, child, path_eq, or_else, over_limit, size}
use Rattle.cp_path.proofs.Same.{path_eq-same}
use Rattle.cp_model.proofs.KeyedLemmas.{same_map}
use Rattle.cp_model.specs.Keyed as keyed
use Rattle.cp_model.specs.Keyed.{look}
use Rattle.cp_model.specs.Subtrees.{is_there}
use Rattle.cp_model.proofs.Lookups.{find-from_entries}
use Rattle.cp_model.specs.Tree.{Tree, IsTree, last_bytes}
use Rattle.cp_tree.specs.Rows.{single}
use Rattle.cp_tree.proofs.Leaves.{single-get, single-len, single-weight, single-tree}
use Rattle.cp_tree.proofs.Fits.{within-limit}
use Rattle.cp_sources.specs.declared.json_fault.JsonFault.{JsonFault}
use Rattle.cp_sources.specs.declared.json_fault.JsonFault.TheVariants.{NotWhole}
use Rattle.cp_sources.specs.Places.{content_of, places_below, value_places, bytes_of, place_weight}
use Rattle.cp_model.specs.Cases.{first_case, unless}
use Rattle.cp_sources.specs.JsonTrees.{any_above, refusals, first_fraction, entry_of, json_reading, without_mark, tree_of_places, tree_of_reading, json_tree}
use Rattle.cp_sources.specs.Growing.{or_node, with_leaf, CanPut, AreWithinLimits, grown_tree, CanGrow}
use Rattle.cp_sources.specs.Ordered.{HasRisingMembers}
use Rattle.cp_path.specs.Text.{is_name}
use Rattle.cp_sources.specs.declared.survey.Survey.{Survey}
use Rattle.cp_sources.specs.Surveys.{survey_of, survey_refusals}
use Rattle.cp_sources.proofs.Surveying.{refusals_is, survey_whole}
use Rattle.cp_sources.proofs.Walking.{Entry, stepped, AllNeeds, below_is, needs_below}
use Rattle.cp_sources.proofs.Looking.{AreLow, near_all, all_held, low_first}
use Rattle.cp_sources.proofs.Growing.{AllInRange, range_all, IsListing, with_entries, listing_below, AllSmall, all_put, get_with_entries}

-- ---- where nothing is refused

cond_none : (b : Bool) (e : JsonFault) (r : Option JsonFault) → cond b (Some e) r ≡ None → (b ≡ false) × (r ≡ None)
cond_none true e r h = absurd (cc)
cond_none false e r h = (refl, h)

-- no limit is survey_refusals by these value_places
pub record AreWithin (name : List ℕ) (es : List Entry) : Type 0 where
  pub low : AreLow es
  pub near : any_above LOC_MAX (λ e. size (record { db = name; path = e.0 })) es ≡ false
  pub texts : any_above TEXT_MAX (λ e. bytes_of e.1) es ≡ false
  pub nodes : length es ≤ NODES_MAX
  pub weight : sum_by place_weight es ≤ WEIGHT_MAX

within : (name : List ℕ) (es : List Entry) → first_case (refusals name es) ≡ None → AreWithin name es
within name es h =
    let a = cond_none _ _ _ h in
    let b = cond_none _ _ _ a.1 in
    let c = cond_none _ _ _ b.1 in
    let d = cond_none _ _ _ c.1 in
    let f = cond_none _ _ _ d.1 in
    let g = cond_none _ _ _ f.1 in
    record {
      low = record { short = a.0; few = b.0 };
      near = c.0;
      texts = d.0;
      nodes = at_most NODES_MAX (length es) f.0;
      weight = at_most WEIGHT_MAX (sum_by place_weight es) g.0;
    }

holds : (c : Option Content) → is_some c ≡ true → c ≡ Some (or_node c)
holds None h = absurd (cc)
holds (Some c) h = refl

small : (name : List ℕ) (es : List Entry) → 1 ≤ length name → any_above LABEL_MAX (λ e. last_bytes e.0) es ≡ false → AllInRange es → any_above LABELS_MAX (λ e. length e.0) es ≡ false → any_above LOC_MAX (λ e. size (record { db = name; path = e.0 })) es ≡ false →
    any_above TEXT_MAX (λ e. bytes_of e.1) es ≡ false → list_all (λ e. is_some e.1) es ≡ true → AllSmall es
small name [] n l g f s t w = tt
small name (e ∷ es) n l g f s t w =
    let low = low_first e es (record { short = l; few = f }) in
    let a = or_parts (nat_lt LABELS_MAX (length e.0)) (any_above LABELS_MAX (λ e. length e.0) es) f in
    let b = or_parts (nat_lt LOC_MAX (size (record { db = name; path = e.0 }))) (any_above LOC_MAX (λ e. size (record { db = name; path = e.0 })) es) s in
    let c = or_parts (nat_lt TEXT_MAX (bytes_of e.1)) (any_above TEXT_MAX (λ e. bytes_of e.1) es) t in
    let d = and_parts (is_some e.1) (list_all (λ e. is_some e.1) es) w in
    let is : e.1 ≡ Some (or_node e.1) = holds e.1 d.0 in (
      record {
        low = low.0;
        holds = is;
        place = within-limit e.0 (at_most LABELS_MAX (length e.0) a.0) (omega (arith, n, at_most LOC_MAX (size (record { db = name; path = e.0 })) b.0));
        text = omega (arith, at_most TEXT_MAX (bytes_of e.1) c.0, ap bytes_of is);
        number = g.0;
      },
      small name es n low.1.short g.1 a.1 b.1 c.1 d.1,
    )

-- a place of the map lies within the limits
near_entry : (name : List ℕ) (es : List Entry) (p : Path) → any_above LABELS_MAX (λ e. length e.0) es ≡ false → any_above LOC_MAX (λ e. size (record { db = name; path = e.0 })) es ≡ false →
    is_some (look p (filter_map entry_of es)) ≡ true → over_limit (record { db = name; path = p }) ≡ false
near_entry name [] p f s i = absurd (cc)
near_entry name ((q, None) ∷ es) p f s i =
    near_entry name es p (or_parts (nat_lt LABELS_MAX (length q)) (any_above LABELS_MAX (λ e. length e.0) es) f).1
    (or_parts (nat_lt LOC_MAX (size (record { db = name; path = q }))) (any_above LOC_MAX (λ e. size (record { db = name; path = e.0 })) es) s).1 i
near_entry name ((q, Some c) ∷ es) p f s i = by (near_entry name es p a.1 b.1) (path_eq p q) refl i
  where
    a : (nat_lt LABELS_MAX (length q) ≡ false) × (any_above LABELS_MAX (λ e. length e.0) es ≡ false)
    a = or_parts (nat_lt LABELS_MAX (length q)) (any_above LABELS_MAX (λ e. length e.0) es) f

    b : (nat_lt LOC_MAX (size (record { db = name; path = q })) ≡ false) × (any_above LOC_MAX (λ e. size (record { db = name; path = e.0 })) es ≡ false)
    b = or_parts (nat_lt LOC_MAX (size (record { db = name; path = q }))) (any_above LOC_MAX (λ e. size (record { db = name; path = e.0 })) es) s

    by : (is_some (look p (filter_map entry_of es)) ≡ true → over_limit (record { db = name; path = p }) ≡ false) → (x : Bool) → path_eq p q ≡ x → is_some (cond x (Some c) (look p (filter_map entry_of es))) ≡ true → over_limit (record { db = name; path = p }) ≡ false
    by rest true e j = ap (λ (r : Path). over_limit (record { db = name; path = r })) (path_eq-same p q e) ∙ ap (λ x. x || nat_lt LOC_MAX (size (record { db = name; path = q }))) a.0 ∙ b.0
    by rest false e j = rest j

module _ (name : List ℕ) (d : Data) (n : 1 ≤ length name) (o : HasRisingMembers d) (r : first_case (refusals name (value_places d)) ≡ None) (w : first_fraction (value_places d) ≡ None) where
  abbrev v : Content
  v = or_node (content_of d)

  x : AreWithin name (value_places d)
  x = within name (value_places d) r

  all : AllSmall (value_places d)
  all = small name (value_places d) n x.low.short (range_all d o) x.low.few x.near x.texts (all_held (value_places d) w)

  start : IsTree (single v)
  start = single-tree v all.0.text all.0.number

  listed : IsListing (single v) (places_below [] d)
  listed = listing_below (single v) [] d o (omega (arith, x.nodes)) (single-get v []) (λ a s. single-get v (a ∷ s))

  put : AllNeeds with_leaf CanPut (places_below [] d) (single v) × (stepped with_leaf (places_below [] d) (single v) ≡ with_entries (single v) (places_below [] d))
  put =
      all_put (single v) (places_below [] d) start listed all.1
      (omega (arith, x.nodes, single-len v))
      (omega (arith, x.weight, single-weight v, sum_by-cons place_weight ([], content_of d) (places_below [] d), ap bytes_of all.0.holds))

  -- the tree can be grown
  pub can_grow : CanGrow d
  can_grow = record {
    holds = all.0.holds;
    short = all.0.text;
    room = needs_below with_leaf CanPut [] d (single v) put.0;
  }

  -- and it is the map of the value_places
  pub grown_is : grown_tree d ≡ keyed.from_entries (filter_map entry_of (value_places d))
  grown_is =
      below_is child with_leaf (λ p. p) (λ p a. refl) [] d (single v) ∙ put.1 ∙ same_map (with_entries (single v) (places_below [] d)) (keyed.from_entries (filter_map entry_of (value_places d))) (λ r.
      get_with_entries (single v) (places_below [] d) listed (and_parts _ _ (all_held (value_places d) w)).1 r
      ∙ ap (λ z. or_else z (look r (filter_map entry_of (places_below [] d)))) (single-get v r)
      ∙ first (path_eq r []) r
      ∙ ap (λ c. look r (filter_map entry_of (([], c) ∷ places_below [] d))) (sym all.0.holds)
      ∙ sym (find-from_entries (filter_map entry_of (value_places d)) r))
    where
      first : (b : Bool) (r : Path) → or_else (cond b (Some v) None) (look r (filter_map entry_of (places_below [] d))) ≡ cond b (Some v) (look r (filter_map entry_of (places_below [] d)))
      first true r = refl
      first false r = refl

  -- whose value_places lie within the limits
  pub grown_near : (p : Path) → is_there (grown_tree d) p ≡ true → over_limit (record { db = name; path = p }) ≡ false
  grown_near p i = near_entry name (value_places d) p x.low.few x.near (sym (ap (λ t. is_there t p) grown_is ∙ ap is_some (find-from_entries (filter_map entry_of (value_places d)) p)) ∙ i)

-- the walk for a number that isn't whole stays within the limits
pub near_enough : (name : List ℕ) (d : Data) → first_case (refusals name (value_places d)) ≡ None → AreWithinLimits d
near_enough name d r = near_all d (within name (value_places d) r).low

-- ---- answers

-- the tree of the map of the places
abbrev map_of : Data → Result Tree JsonFault
map_of d = Ok (keyed.from_entries (filter_map entry_of (value_places d)))

tree_or : (name : List ℕ) (d : Data) (o p : Option JsonFault) → first_case (refusals name (value_places d)) ≡ o → option_map NotWhole (first_fraction (value_places d)) ≡ p → tree_of_places name (value_places d) ≡ unless o (unless p (map_of d))
tree_or name d o p h k = ap (λ z. unless z (unless (option_map NotWhole (first_fraction (value_places d))) (map_of d))) h ∙ ap (λ z. unless o (unless z (map_of d))) k

-- a refusal is the answer
pub places_refused : (name : List ℕ) (d : Data) (e : JsonFault) → first_case (refusals name (value_places d)) ≡ Some e → tree_of_places name (value_places d) ≡ Err e
places_refused name d e h = tree_or name d (Some e) (option_map NotWhole (first_fraction (value_places d))) h refl

-- or else the first number that isn't whole is
pub places_not_whole : (name : List ℕ) (d : Data) (p : Path) → first_case (refusals name (value_places d)) ≡ None → first_fraction (value_places d) ≡ Some p → tree_of_places name (value_places d) ≡ Err (NotWhole p)
places_not_whole name d p h k = tree_or name d None (Some (NotWhole p)) h (ap (option_map NotWhole) k)

-- or else the tree
pub places_grown : (name : List ℕ) (d : Data) (t : Tree) → 1 ≤ length name → HasRisingMembers d → first_case (refusals name (value_places d)) ≡ None → first_fraction (value_places d) ≡ None → t ≡ grown_tree d → tree_of_places name (value_places d) ≡ Ok t
places_grown name d t n o h k e = tree_or name d None None h (ap (option_map NotWhole) k) ∙ ap (λ z. Ok z) (sym (e ∙ grown_is name d n o h k))

-- the tree of bytes that are a value
pub json_is : (name bytes : List ℕ) (d : Data) → json_reading (without_mark bytes) ≡ Ok d → json_tree name bytes ≡ tree_of_places name (value_places d)
unfolding json_tree
json_is name bytes d h = ap (tree_of_reading name) h

-- and of bytes that are none
pub json_none : (name bytes : List ℕ) (e : JsonFault) → json_reading (without_mark bytes) ≡ Err e → json_tree name bytes ≡ Err e
unfolding json_tree
json_none name bytes e h = ap (tree_of_reading name) h

-- ---- the survey

-- a name has a byte
pub name_some : (name : List ℕ) → is_name name ≡ true → 1 ≤ length name
name_some [] h = absurd (cc)
name_some (b ∷ name) h = omega arith

-- the refusal by the survey is the one by the listing
pub refusal_is : (name : List ℕ) (d : Data) (s : Survey) (o : Option JsonFault) → length name ≤ NAME_MAX → s ≡ survey_of (length name) d → o ≡ first_case (survey_refusals s) → first_case (refusals name (value_places d)) ≡ o
refusal_is name d s o l e h = ap first_case (sym (ap survey_refusals e ∙ refusals_is name d l)) ∙ sym h

-- the survey says whether each place holds a value
pub whole_is : (name : List ℕ) (d : Data) (s : Survey) → length name ≤ NAME_MAX → s ≡ survey_of (length name) d → s.whole ≡ list_all (λ e. is_some e.1) (value_places d)
whole_is name d s l e = ap (λ (z : Survey). z.whole) e ∙ survey_whole name d l
