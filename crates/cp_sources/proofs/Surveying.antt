-- What the survey counts is what is said of the listing of the places.
use Rattle.cp_model.specs.declared.limits.TheConstants.{NODES_MAX, WEIGHT_MAX}
use Rattle.cp_path.specs.declared.limits.TheConstants.{LABELS_MAX, LABEL_MAX, LOC_MAX, NAME_MAX, TEXT_MAX}
use Rattle.std.proofs.Common.{◌≡◌, ◌≤◌, ◌<◌, ◌+◌, ◌-◌, ◌^◌, ℕ, Bool, true, false, ◌||◌, ◌&&◌, List, [], ◌∷◌, length, min, max, sum_by, nat_lt, is_some, refl, sym, ap, ◌∙◌, arith, length-append}
use Rattle.std.proofs.Math.Bool.{or_assoc}
use Rattle.std.proofs.lemmas.List.Sums.{sum_by-cons, sum_by-append}
use Rattle.std.proofs.lemmas.Bool.Decides.{nat_tests}
use Rattle.std.specs.List.{list_all}
use Rattle.serde_json.specs.Data.{Data}
use Rattle.cp_model.specs.Place.{Label, Path, child}
use Rattle.cp_model.specs.Tree.{last_bytes}
use Rattle.cp_model.proofs.SumsLemmas.{last_bytes_child, sum_by-one}
use Rattle.cp_tree.specs.Rows.{path_size}
use Rattle.cp_sources.specs.Places.{content_of, value_places, bytes_of, place_weight}
use Rattle.cp_sources.specs.JsonTrees.{any_above, refusals}
use Rattle.cp_sources.specs.Surveys.{capped_sum, name_spot, spot_below, empty_survey, survey_place, survey_of, survey_refusals}
use Rattle.cp_sources.specs.Walks.{walk_below}
use Rattle.cp_sources.proofs.Walking.{Entry, step_all, below_is}
use Rattle.cp_sources.specs.declared.json_fault.JsonFault.TheVariants.{LabelTooLong, TooDeep, PathTooLong, TextTooLong, TooMany, TooBig}
use Rattle.cp_sources.specs.declared.survey.Spot.{Spot}
use Rattle.cp_sources.specs.declared.survey.Survey.{Survey}

abbrev top : ℕ
top = 2 ^ 64 - 1

-- where the place at p lies
abbrev spot_of : ℕ → Path → Spot
spot_of n p = record { depth = min (length p) top; size = min (n + path_size p) top; last = last_bytes p }

deeper : (t k l : ℕ) → l ≡ k + 1 → min (min k t + 1) t ≡ min l t
deeper t k l e = omega (arith, e)

larger : (t k a l : ℕ) → l ≡ k + (a + 1) → min (min (min k t + a) t + 1) t ≡ min l t
larger t k a l e = omega (arith, e)

spot_child : (n : ℕ) (p : Path) (a : Label) → spot_below (spot_of n p) a ≡ spot_of n (child p a)
spot_child n p a =
    let d : capped_sum (min (length p) top) 1 ≡ min (length (child p a)) top = deeper top (length p) (length (child p a)) (length-append p (a ∷ [])) in
    let z : capped_sum (capped_sum (min (n + path_size p) top) (length a)) 1 ≡ min (n + path_size (child p a)) top =
    larger top (n + path_size p) (length a) (n + path_size (child p a)) (omega (arith, sum_by-append (λ (b : Label). length b + 1) p (a ∷ []), sum_by-cons (λ (b : Label). length b + 1) a [])) in
    let l : length a ≡ last_bytes (child p a) = sym (last_bytes_child p a) in
    λ i. record { depth = d i; size = z i; last = l i }

-- with these places
abbrev survey_all : ℕ → List Entry → Survey → Survey
survey_all n es s = step_all spot_below survey_place (spot_of n) (spot_child n) es s

root_is : (n : ℕ) → n ≤ top → name_spot n ≡ spot_of n []
root_is n h =
    let z : n ≡ min (n + 0) top = omega (arith, h) in
    λ i. record { depth = 0; size = z i; last = 0 }

survey_is : (n : ℕ) (d : Data) → n ≤ top → survey_of n d ≡ survey_all n (value_places d) empty_survey
survey_is n d h =
    ap (λ r. walk_below spot_below survey_place r d (survey_place r (content_of d) empty_survey)) (root_is n h)
    ∙ below_is spot_below survey_place (spot_of n) (spot_child n) [] d (survey_place (spot_of n []) (content_of d) empty_survey)

-- ---- tests

or_nil : (b : Bool) → b ≡ (b || false)
or_nil true = refl
or_nil false = refl

and_nil : (b : Bool) → b ≡ (b && true)
and_nil true = refl
and_nil false = refl

and_assoc : (a b c : Bool) → ((a && b) && c) ≡ (a && (b && c))
and_assoc true b c = refl
and_assoc false b c = refl

lt_max : (k a b : ℕ) → nat_lt k (max a b) ≡ (nat_lt k a || nat_lt k b)
lt_max k a b = by (nat_lt k a) (nat_lt k b) refl refl ∙ (λ i. nat_lt k a || nat_lt k b)
  where
    by : (x y : Bool) → nat_lt k a ≡ x → nat_lt k b ≡ y → nat_lt k (max a b) ≡ (x || y)
    by true y e f =
        let l : k < a = grind (arith, nat_tests) in
        let m : k < max a b = omega (arith, l) in
        grind (arith, nat_tests)
    by false true e f =
        let l : k < b = grind (arith, nat_tests) in
        let m : k < max a b = omega (arith, l) in
        grind (arith, nat_tests)
    by false false e f =
        let l : a ≤ k = grind (arith, nat_tests) in
        let r : b ≤ k = grind (arith, nat_tests) in
        let m : max a b ≤ k = omega (arith, l, r) in
        grind (arith, nat_tests)

lt_capped : (k a t : ℕ) → k < t → nat_lt k (min a t) ≡ nat_lt k a
lt_capped k a t h = by (nat_lt k a) refl
  where
    by : (x : Bool) → nat_lt k a ≡ x → nat_lt k (min a t) ≡ x
    by true e =
        let l : k < a = grind (arith, nat_tests) in
        let m : k < min a t = omega (arith, l, h) in
        grind (arith, nat_tests)
    by false e =
        let l : a ≤ k = grind (arith, nat_tests) in
        let m : min a t ≤ k = omega (arith, l) in
        grind (arith, nat_tests)

module _ (n : ℕ) where
  any_is : (k : ℕ) (f : Survey → ℕ) (g : Entry → ℕ) → ((e : Entry) (s : Survey) → nat_lt k (f (survey_place (spot_of n e.0) e.1 s)) ≡ (nat_lt k (f s) || nat_lt k (g e))) →
      (es : List Entry) (s : Survey) → nat_lt k (f (survey_all n es s)) ≡ (nat_lt k (f s) || any_above k g es)
  any_is k f g h [] s = or_nil (nat_lt k (f s))
  any_is k f g h (e ∷ es) s =
      any_is k f g h es (survey_place (spot_of n e.0) e.1 s) ∙ ap (λ b. b || any_above k g es) (h e s) ∙ or_assoc (nat_lt k (f s)) (nat_lt k (g e)) (any_above k g es)

  sum_is : (f : Survey → ℕ) (w : Entry → ℕ) → ((e : Entry) (s : Survey) → f (survey_place (spot_of n e.0) e.1 s) ≡ min (f s + w e) top) →
      (es : List Entry) (s : Survey) → f s ≤ top → f (survey_all n es s) ≡ min (f s + sum_by w es) top
  sum_is f w h [] s l = omega (arith, l)
  sum_is f w h (e ∷ es) s l =
      let st = h e s in
      sum_is f w h es (survey_place (spot_of n e.0) e.1 s) (at_top top (f s + w e) (f (survey_place (spot_of n e.0) e.1 s)) st)
      ∙ ap (λ m. min (m + sum_by w es) top) st
      ∙ joined top (f s) (w e) (sum_by w es) (sum_by w (e ∷ es)) (sum_by-cons w e es)
    where
      at_top : (t a m : ℕ) → m ≡ min a t → m ≤ t
      at_top t a m e = omega (arith, e)

      joined : (t a b c m : ℕ) → m ≡ b + c → min (min (a + b) t + c) t ≡ min (a + m) t
      joined t a b c m e = omega (arith, e)

  whole_is : (es : List Entry) (s : Survey) → (survey_all n es s).whole ≡ (s.whole && list_all (λ e. is_some e.1) es)
  whole_is [] s = and_nil s.whole
  whole_is (e ∷ es) s = whole_is es (survey_place (spot_of n e.0) e.1 s) ∙ and_assoc s.whole (is_some e.1) (list_all (λ e. is_some e.1) es)

weighed : (t w l b : ℕ) → min (min (min (w + 16) t + l) t + b) t ≡ min (w + (16 + l + b)) t
weighed t w l b = omega arith

from_none : (t m k : ℕ) → m ≡ k → min (0 + m) t ≡ min k t
from_none t m k e = omega (arith, e)

-- the refusals by the survey are those by the listing
pub refusals_is : (name : List ℕ) (d : Data) → length name ≤ NAME_MAX → survey_refusals (survey_of (length name) d) ≡ refusals name (value_places d)
refusals_is name d h =
    let n = length name in
    let es = value_places d in
    let s : Survey = survey_all n es empty_survey in
    let a : nat_lt LABEL_MAX s.last ≡ any_above LABEL_MAX (λ e. last_bytes e.0) es = any_is n LABEL_MAX (λ s. s.last) (λ e. last_bytes e.0) (λ e s. lt_max LABEL_MAX s.last (last_bytes e.0)) es empty_survey in
    let b : nat_lt LABELS_MAX s.depth ≡ any_above LABELS_MAX (λ e. length e.0) es =
    any_is n LABELS_MAX (λ s. s.depth) (λ e. length e.0) (λ e s. lt_max LABELS_MAX s.depth (min (length e.0) top) ∙ ap (λ x. nat_lt LABELS_MAX s.depth || x) (lt_capped LABELS_MAX (length e.0) top (omega arith))) es empty_survey in
    let c : nat_lt LOC_MAX s.size ≡ any_above LOC_MAX (λ e. n + path_size e.0) es =
    any_is n LOC_MAX (λ s. s.size) (λ e. n + path_size e.0) (λ e s. lt_max LOC_MAX s.size (min (n + path_size e.0) top) ∙ ap (λ x. nat_lt LOC_MAX s.size || x) (lt_capped LOC_MAX (n + path_size e.0) top (omega arith))) es empty_survey in
    let f : nat_lt TEXT_MAX s.text ≡ any_above TEXT_MAX (λ e. bytes_of e.1) es = any_is n TEXT_MAX (λ s. s.text) (λ e. bytes_of e.1) (λ e s. lt_max TEXT_MAX s.text (bytes_of e.1)) es empty_survey in
    let g : nat_lt NODES_MAX s.places ≡ nat_lt NODES_MAX (length es) =
    ap (nat_lt NODES_MAX) (sum_is n (λ s. s.places) (λ _. 1) (λ e s. refl) es empty_survey (omega arith) ∙ from_none top (sum_by (λ _. 1) es) (length es) (sum_by-one es)) ∙ lt_capped NODES_MAX (length es) top (omega arith) in
    let w : nat_lt WEIGHT_MAX s.weight ≡ nat_lt WEIGHT_MAX (sum_by place_weight es) =
    ap (nat_lt WEIGHT_MAX) (sum_is n (λ s. s.weight) place_weight (λ e s. weighed top s.weight (last_bytes e.0) (bytes_of e.1)) es empty_survey (omega arith) ∙ from_none top (sum_by place_weight es) (sum_by place_weight es) refl) ∙ lt_capped WEIGHT_MAX (sum_by place_weight es) top (omega arith) in
    ap survey_refusals (survey_is n d (omega (arith, h)))
    ∙ (λ i. (a i, LabelTooLong) ∷ (b i, TooDeep) ∷ (c i, PathTooLong) ∷ (f i, TextTooLong) ∷ (g i, TooMany) ∷ (w i, TooBig) ∷ [])

-- and so is whether each place holds a value
pub survey_whole : (name : List ℕ) (d : Data) → length name ≤ NAME_MAX → (survey_of (length name) d).whole ≡ list_all (λ e. is_some e.1) (value_places d)
survey_whole name d h = ap (λ (s : Survey). s.whole) (survey_is (length name) d (omega (arith, h))) ∙ whole_is (length name) (value_places d) empty_survey
