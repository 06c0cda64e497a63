-- The walk that looks for the earliest place without a value.
use Rattle.cp_path.specs.declared.limits.TheConstants.{LABELS_MAX, LABEL_MAX}
use Rattle.std.proofs.Common.{◌≡◌, Bool, true, false, not, cond, ◌&&◌, List, [], ◌∷◌, length, ◌<◌, ◌≤◌, nat_lt, is_some, refl, sym, ap, ◌∙◌, arith, length-append, ◌⊎◌, inl, inr}
use Rattle.std.proofs.lemmas.Bool.{and_parts, or_parts}
use Rattle.std.specs.List.{list_all, filter_map, find}
use Rattle.std.specs.Ordering.{is_lt, ordering_reverse}
use Rattle.std.specs.declared.cmp.Ordering.{Ordering}
use Rattle.std.specs.declared.cmp.Ordering.TheVariants.{Less, Equal, Greater}
use Rattle.std.specs.declared.option.Option.{Option}
use Rattle.std.specs.declared.option.Option.TheVariants.{None, Some}
use Rattle.serde_json.specs.Data.{Data}
use Rattle.cp_path.proofs.Same.{path_same}
use Rattle.cp_path.specs.PathOrder.{path_total}
use Rattle.cp_model.proofs.Accepted.{at_most}
use Rattle.cp_model.specs.Place.{Label, Path, child, path_cmp}
use Rattle.cp_model.specs.Tree.{last_bytes}
use Rattle.cp_model.proofs.SumsLemmas.{last_bytes_child}
use Rattle.cp_sources.specs.Places.{content_of, value_places}
use Rattle.cp_sources.specs.JsonTrees.{any_above, fraction_path, least_path, first_fraction}
use Rattle.cp_sources.specs.Walks.{walk_below}
use Rattle.cp_sources.specs.Growing.{earlier_of, with_place, IsWithinLimits, AreWithinLimits}
use Rattle.cp_sources.proofs.Walking.{Entry, stepped, AllNeeds, below_is, needs_below}

-- ---- the least of some paths

abbrev not_before : Path → Path → Bool
not_before q p = not (is_lt (path_cmp q p))

-- the earliest of a path and of these
abbrev earliest : Option Path → List Path → Option Path
earliest o [] = o
earliest o (p ∷ ps) = earliest (Some (earlier_of o p)) ps

abbrev IsIn : Path → List Path → Type 0
IsIn n [] = ⊥
IsIn n (p ∷ ps) = (n ≡ p) ⊎ IsIn n ps

abbrev none_before : Path → List Path → Bool
none_before n ps = list_all (λ q. not_before q n) ps

all_at : (f : Path → Bool) (x : Path) (xs : List Path) → IsIn x xs → list_all f xs ≡ true → f x ≡ true
all_at f x [] i h = absurd i
all_at f x (y ∷ xs) (inl e) h = ap f e ∙ (and_parts (f y) (list_all f xs) h).0
all_at f x (y ∷ xs) (inr i) h = all_at f x xs i (and_parts (f y) (list_all f xs) h).1

turned : (a b : Path) (o : Ordering) → path_cmp a b ≡ o → path_cmp b a ≡ ordering_reverse o
turned a b o e = path_total.antisymm b a ∙ ap ordering_reverse e

not_less_after : (a b : Path) → path_cmp a b ≡ Less → not_before b a ≡ true
not_less_after a b e = ap (λ o. not (is_lt o)) (turned a b Less e)

before_trans : (a b c : Path) → not_before a b ≡ true → not_before b c ≡ true → not_before a c ≡ true
before_trans a b c f g = by (path_cmp a c) (path_cmp a b) refl refl
  where
    less : path_cmp b c ≡ Less → true ≡ false
    less e = sym g ∙ ap (λ o. not (is_lt o)) e

    by : (o q : Ordering) → path_cmp a c ≡ o → path_cmp a b ≡ q → not (is_lt o) ≡ true
    by Equal q e k = refl
    by Greater q e k = refl
    by Less Less e k = sym (ap (λ o. not (is_lt o)) k) ∙ f
    by Less Equal e k = sym (less (ap (λ z. path_cmp z c) (sym (path_same a b k)) ∙ e))
    by Less Greater e k = sym (less (path_total.trans b a c (turned a b Greater k) e))

both_ways : (a b : Path) → not_before a b ≡ true → not_before b a ≡ true → a ≡ b
both_ways a b f g = by (path_cmp a b) refl
  where
    by : (o : Ordering) → path_cmp a b ≡ o → a ≡ b
    by Equal e = path_same a b e
    by Less e = absurd (let no = sym (ap (λ o. not (is_lt o)) e) ∙ f in cc)
    by Greater e = absurd (let no = sym (ap (λ o. not (is_lt o)) (turned a b Greater e)) ∙ g in cc)

both_true : (a b : Bool) → a ≡ true → b ≡ true → (a && b) ≡ true
both_true true b e f = f
both_true false b e f = absurd (cc)

record IsLeast (n : Path) (ps : List Path) : Type 0 where
  low : none_before n ps ≡ true
  there : IsIn n ps

not_itself : (m : Path) → not_before m m ≡ true
not_itself m = by (path_cmp m m) refl
  where
    by : (o : Ordering) → path_cmp m m ≡ o → not (is_lt o) ≡ true
    by Equal e = refl
    by Greater e = refl
    by Less e = absurd (let no : Less ≡ Greater = sym e ∙ turned m m Less e in cc)

after : (m p : Path) (ps : List Path) (n : Path) → IsIn n (m ∷ ps) → IsIn n (m ∷ p ∷ ps)
after m p ps n (inl e) = inl e
after m p ps n (inr i) = inr (inr i)

-- a least one of some paths, which the walk finds
abbrev Found : Path → List Path → List Path → Type 0
Found m ps all = (n : Path) × ((earliest (Some m) ps ≡ Some n) × IsLeast n all)

earliest_some : (m : Path) (ps : List Path) → Found m ps (m ∷ ps)
earliest_some m [] = (m, (refl, record { low = both_true (not_before m m) true (not_itself m) refl; there = inl refl }))
earliest_some m (p ∷ ps) = by (path_cmp p m) refl (earliest_some p ps) (earliest_some m ps)
  where
    stays : not_before p m ≡ true → Found m ps (m ∷ ps) → Found m ps (m ∷ p ∷ ps)
    stays le r =
        let q = and_parts (not_before m r.0) (none_before r.0 ps) r.1.1.low in
        let more = both_true (not_before p r.0) (none_before r.0 ps) (before_trans p m r.0 le q.0) q.1 in
        (r.0, (r.1.0, record { low = both_true (not_before m r.0) (not_before p r.0 && none_before r.0 ps) q.0 more; there = after m p ps r.0 r.1.1.there }))

    by : (o : Ordering) → path_cmp p m ≡ o → Found p ps (p ∷ ps) → Found m ps (m ∷ ps) → (n : Path) × ((earliest (Some (cond (is_lt o) p m)) ps ≡ Some n) × IsLeast n (m ∷ p ∷ ps))
    by Less e r _ =
        let q = and_parts (not_before p r.0) (none_before r.0 ps) r.1.1.low in
        (r.0, (r.1.0, record { low = both_true (not_before m r.0) (not_before p r.0 && none_before r.0 ps) (before_trans m p r.0 (not_less_after p m e) q.0) r.1.1.low; there = inr r.1.1.there }))
    by Equal e _ r = stays (ap (λ o. not (is_lt o)) e) r
    by Greater e _ r = stays (ap (λ o. not (is_lt o)) e) r

find_least : (n : Path) (all ps : List Path) → IsLeast n all → none_before n ps ≡ true → IsIn n ps → ((q : Path) → IsIn q ps → IsIn q all) → find (λ p. none_before p all) ps ≡ Some n
find_least n all [] l h i sub = absurd i
find_least n all (p ∷ ps) l h i sub =
    by (none_before p all) refl (λ j. find_least n all ps l (and_parts (not_before p n) (none_before n ps) h).1 j (λ q k. sub q (inr k)))
  where
    here : none_before p all ≡ true → p ≡ n
    here t = both_ways p n (and_parts (not_before p n) (none_before n ps) h).0 (all_at (λ q. not_before q p) n all l.there t)

    rest : n ≡ p ⊎ IsIn n ps → none_before p all ≡ false → IsIn n ps
    rest (inr j) f = j
    rest (inl e) f = absurd (let no : true ≡ false = sym l.low ∙ ap (λ z. none_before z all) e ∙ f in cc)

    by : (b : Bool) → none_before p all ≡ b → (IsIn n ps → find (λ p. none_before p all) ps ≡ Some n) → cond b (Some p) (find (λ p. none_before p all) ps) ≡ Some n
    by true t later = ap (λ z. Some z) (here t)
    by false f later = later (rest i f)

earliest_least : (p : Path) (ps : List Path) → (n : Path) × ((earliest (Some p) ps ≡ Some n) × (least_path (p ∷ ps) ≡ Some n))
earliest_least p ps =
    let r = earliest_some p ps in
    (r.0, (r.1.0, find_least r.0 (p ∷ ps) (p ∷ ps) r.1.1 r.1.1.low r.1.1.there (λ q i. i)))

-- the walk keeps the least of the paths
least_is : (ps : List Path) → earliest None ps ≡ least_path ps
least_is [] = refl
least_is (p ∷ ps) = let r = earliest_least p ps in r.1.0 ∙ sym r.1.1

-- ---- the walk

stepped_is : (es : List Entry) (o : Option Path) → stepped with_place es o ≡ earliest o (filter_map fraction_path es)
stepped_is [] o = refl
stepped_is ((q, None) ∷ es) o = stepped_is es (Some (earlier_of o q))
stepped_is ((q, Some c) ∷ es) o = stepped_is es o

-- the walk over a value finds the first place without a value
pub first_is : (d : Data) → walk_below child with_place [] d (with_place [] (content_of d) None) ≡ first_fraction (value_places d)
first_is d =
    below_is child with_place (λ p. p) (λ p a. refl) [] d (with_place [] (content_of d) None)
    ∙ stepped_is (value_places d) None ∙ least_is (filter_map fraction_path (value_places d))

-- ---- where each place holds a value

none_without : (es : List Entry) → list_all (λ e. is_some e.1) es ≡ true → filter_map fraction_path es ≡ []
none_without [] h = refl
none_without ((q, None) ∷ es) h = absurd (cc)
none_without ((q, Some c) ∷ es) h = none_without es h

-- no place is found where each holds a value
pub none_found : (d : Data) → list_all (λ e. is_some e.1) (value_places d) ≡ true → first_fraction (value_places d) ≡ None
none_found d h = ap least_path (none_without (value_places d) h)

-- and where none is found each holds a value
pub all_held : (es : List Entry) → first_fraction es ≡ None → list_all (λ e. is_some e.1) es ≡ true
all_held [] h = refl
all_held ((q, Some c) ∷ es) h = all_held es h
all_held ((q, None) ∷ es) h = absurd (let r = earliest_least q (filter_map fraction_path es) in let no : None ≡ Some r.0 = sym h ∙ r.1.1 in cc)

-- ---- limits

-- no label is too long and no place too deep
pub record AreLow (es : List Entry) : Type 0 where
  pub short : any_above LABEL_MAX (λ e. last_bytes e.0) es ≡ false
  pub few : any_above LABELS_MAX (λ e. length e.0) es ≡ false

near : (e : Entry) → nat_lt LABEL_MAX (last_bytes e.0) ≡ false → nat_lt LABELS_MAX (length e.0) ≡ false → (p : Path) (a : Label) → e.0 ≡ child p a → (length p < LABELS_MAX) × (length a ≤ LABEL_MAX)
near e s f p a is = (
  omega (arith, at_most LABELS_MAX (length e.0) f, ap length is, length-append p (a ∷ [])),
  omega (arith, at_most LABEL_MAX (last_bytes e.0) s, ap last_bytes is, last_bytes_child p a),
)

-- the label and the depth of each place are within their limits
pub record IsLow (e : Entry) : Type 0 where
  pub near : (p : Path) (a : Label) → e.0 ≡ child p a → (length p < LABELS_MAX) × (length a ≤ LABEL_MAX)

pub low_first : (e : Entry) (es : List Entry) → AreLow (e ∷ es) → IsLow e × AreLow es
low_first e es h =
    let a = or_parts (nat_lt LABEL_MAX (last_bytes e.0)) (any_above LABEL_MAX (λ e. last_bytes e.0) es) h.short in
    let b = or_parts (nat_lt LABELS_MAX (length e.0)) (any_above LABELS_MAX (λ e. length e.0) es) h.few in
    (record { near = near e a.0 b.0 }, record { short = a.1; few = b.1 })

near_needs : (es : List Entry) (o : Option Path) → AreLow es → AllNeeds with_place IsWithinLimits es o
near_needs [] o h = tt
near_needs (e ∷ es) o h = let l = low_first e es h in (l.0.near, near_needs es (with_place e.0 e.1 o) l.1)

-- the walk stays within the limits of labels and paths
pub near_all : (d : Data) → AreLow (value_places d) → AreWithinLimits d
near_all d h = needs_below with_place IsWithinLimits [] d (with_place [] (content_of d) None) (near_needs (value_places d) None h).1
