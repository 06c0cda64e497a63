-- The rows of a step, by the rows of the order by step.
use Rattle.std.proofs.Common.{ℕ, ◌^◌, ◌<◌, ◌≤◌, ◌≡◌, ◌⊎◌, inl, inr, Bool, true, false, true≢false, refl, sym, ap, subst, ◌∙◌, arith, List, [], ◌∷◌, ◌++◌, map, length, Ordering, Less, Equal, Greater, nat_cmp}
use Rattle.std.proofs.lemmas.Bool.Decides.{nat_tests}
use Rattle.std.proofs.lemmas.List.{append-nil}
use Rattle.std.specs.Prelude.{◌==◌, ◌&&◌, ◌||◌, nat_lt, filter}
use Rattle.std.specs.Int.{to_be_bytes, w64}
use Rattle.std.specs.List.{list_all}
use Rattle.std.specs.Ordering.{is_le, is_lt, ordering_then, ordering_reverse}
use Rattle.std.specs.Cmp.Lexicographic.{nat_list_cmp_total}
use Rattle.cp_path.specs.PathOrder.{path_total}
use Rattle.cp_path.specs.Text.{text_cmp}
use Rattle.cp_path.proofs.Same.{path_same}
use Rattle.cp_page.specs.PlaceKeys.{path_key, place_key}
use Rattle.cp_page.specs.Orders.{by_step, tid_place}
use Rattle.cp_page.specs.declared.row.PageRow.{PageRow}
use Rattle.cp_page.proofs.KeyOrder.{path_keys_keep_order}
use Rattle.cp_model.specs.Changes.{goes_before, records_at}
use Rattle.cp_model.specs.Place.{Path, path_cmp, at_target}
use Rattle.cp_model.specs.declared.kind.Kind.{Kind}
use Rattle.cp_model.specs.declared.record.Record.{Record}
use Rattle.cp_store.specs.Rows.{AreOrdered}
use Rattle.cp_paged.specs.Held.{AreHeldRows}
use Rattle.cp_paged.proofs.Among.{IsAmong, RiseByKey, AreWithin}
use Rattle.cp_store.proofs.RowsTold.{case_of}
use Rattle.cp_paged.proofs.TidKeys.{tids-order}
use Rattle.cp_paged.proofs.ByPlace.{is_small, is_of_target}

-- ---- two rising lists of the same rows

first_part : (a b : Bool) → (a && b) ≡ true → a ≡ true
first_part true b e = refl
first_part false b e = absurd (cc)

second_part : (a b : Bool) → (a && b) ≡ true → b ≡ true
second_part true b e = e
second_part false b e = absurd (cc)

one_after : (a : List ℕ) (ys : List PageRow) (y : PageRow) → list_all (λ s. is_lt (text_cmp a s.key)) ys ≡ true → IsAmong y ys → is_lt (text_cmp a y.key) ≡ true
one_after a [] y e is = absurd is
one_after a (x ∷ ys) y e (inl same) = subst (λ (z : PageRow). is_lt (text_cmp a z.key) ≡ true) same (first_part (is_lt (text_cmp a x.key)) (list_all (λ s. is_lt (text_cmp a s.key)) ys) e)
one_after a (x ∷ ys) y e (inr is) = one_after a ys y (second_part (is_lt (text_cmp a x.key)) (list_all (λ s. is_lt (text_cmp a s.key)) ys) e) is

never_both : (a b : List ℕ) → is_lt (text_cmp a b) ≡ true → is_lt (text_cmp b a) ≡ true → ⊥
never_both a b x y = by_order (text_cmp a b) (text_cmp b a) (nat_list_cmp_total.antisymm b a) x y
  where
    by_order : (o n : Ordering) → n ≡ ordering_reverse o → is_lt o ≡ true → is_lt n ≡ true → ⊥
    by_order Less n e x y = true≢false (sym y ∙ ap is_lt e)
    by_order Equal n e x y = cc
    by_order Greater n e x y = cc

pub rising-same : (xs ys : List PageRow) → RiseByKey xs → RiseByKey ys → ((r : PageRow) → IsAmong r xs → IsAmong r ys) → ((r : PageRow) → IsAmong r ys → IsAmong r xs) → xs ≡ ys
rising-same [] [] a b f g = refl
rising-same [] (y ∷ ys) a b f g = absurd (g y (inl refl))
rising-same (x ∷ xs) [] a b f g = absurd (f x (inl refl))
rising-same (x ∷ xs) (y ∷ ys) a b f g =
    let head : y ≡ x = heads (f x (inl refl)) (g y (inl refl)) in
    let rest : xs ≡ ys = rising-same xs ys a.1 b.1 (λ r is. tail_on y ys r (λ e. never_both x.key x.key (subst (λ (z : PageRow). is_lt (text_cmp x.key z.key) ≡ true) (sym e ∙ head) (one_after x.key xs r a.0 is)) (subst (λ (z : PageRow). is_lt (text_cmp x.key z.key) ≡ true) (sym e ∙ head) (one_after x.key xs r a.0 is))) (f r (inr is)))
    (λ r is. tail_on x xs r (λ e. never_both y.key y.key (subst (λ (z : PageRow). is_lt (text_cmp y.key z.key) ≡ true) (sym e ∙ sym head) (one_after y.key ys r b.0 is)) (subst (λ (z : PageRow). is_lt (text_cmp y.key z.key) ≡ true) (sym e ∙ sym head) (one_after y.key ys r b.0 is))) (g r (inr is))) in
    ap (λ z. z ∷ xs) (sym head) ∙ ap (λ l. y ∷ l) rest
  where
    heads : ((y ≡ x) ⊎ IsAmong x ys) → ((x ≡ y) ⊎ IsAmong y xs) → y ≡ x
    heads (inl e) k = e
    heads (inr is) (inl e) = sym e
    heads (inr is) (inr js) = absurd (never_both x.key y.key (one_after x.key xs y a.0 js) (one_after y.key ys x b.0 is))

    tail_on : (z : PageRow) (zs : List PageRow) (r : PageRow) → (z ≡ r → ⊥) → (z ≡ r) ⊎ IsAmong r zs → IsAmong r zs
    tail_on z zs r off (inl e) = absurd (off e)
    tail_on z zs r off (inr is) = is

-- ---- keys

then_assoc : (a b c : Ordering) → ordering_then (ordering_then a b) c ≡ ordering_then a (ordering_then b c)
then_assoc Less b c = refl
then_assoc Equal b c = refl
then_assoc Greater b c = refl

then_equal : (o : Ordering) → ordering_then o Equal ≡ o
then_equal Less = refl
then_equal Equal = refl
then_equal Greater = refl

-- fronts of one length compare first
fronts : (xs ys s t : List ℕ) → length xs ≡ length ys → text_cmp (xs ++ s) (ys ++ t) ≡ ordering_then (text_cmp xs ys) (text_cmp s t)
fronts [] [] s t e = refl
fronts [] (y ∷ ys) s t e = absurd (omega (arith, e))
fronts (x ∷ xs) [] s t e = absurd (omega (arith, e))
fronts (x ∷ xs) (y ∷ ys) s t e = ap (ordering_then (nat_cmp x y)) (fronts xs ys s t (omega (arith, e))) ∙ sym (then_assoc (nat_cmp x y) (text_cmp xs ys) (text_cmp s t))

tids_then : (u v : ℕ) (s t : List ℕ) → u < 2 ^ 64 → v < 2 ^ 64 → text_cmp (to_be_bytes w64 u ++ s) (to_be_bytes w64 v ++ t) ≡ ordering_then (nat_cmp u v) (text_cmp s t)
tids_then u v s t a b = fronts (to_be_bytes w64 u) (to_be_bytes w64 v) s t refl ∙ ap (λ o. ordering_then o (text_cmp s t)) (tids-order u v a b)

paths_order : (p q : Path) → text_cmp (path_key p) (path_key q) ≡ path_cmp p q
paths_order p q = sym (ap (λ x. text_cmp x (path_key q)) (append-nil (path_key p))) ∙ sym (ap (text_cmp (path_key p ++ [])) (append-nil (path_key q))) ∙ path_keys_keep_order p q [] [] ∙ then_equal (path_cmp p q)

-- keys by step compare by the steps, and then by the places
step_order : (p q : Path) (u v : ℕ) → u < 2 ^ 64 → v < 2 ^ 64 → text_cmp (tid_place (at_target p) u) (tid_place (at_target q) v) ≡ ordering_then (nat_cmp u v) (path_cmp p q)
step_order p q u v a b = tids_then u v (84 ∷ 0 ∷ 1 ∷ path_key p) (84 ∷ 0 ∷ 1 ∷ path_key q) a b ∙ ap (ordering_then (nat_cmp u v)) (paths_order p q)

-- a key by step is of one step and one place
pub step-same : (p q : Path) (u v : ℕ) → u < 2 ^ 64 → v < 2 ^ 64 → tid_place (at_target p) u ≡ tid_place (at_target q) v → (p ≡ q) × (u ≡ v)
step-same p q u v a b e =
    let cmp : ordering_then (nat_cmp u v) (path_cmp p q) ≡ Equal = sym (step_order p q u v a b) ∙ ap (λ x. text_cmp x (tid_place (at_target q) v)) e ∙ step_order q q v v b b ∙ ap (λ o. ordering_then o (path_cmp q q)) (self_cmp v) ∙ self_path q in
    let both = parts (nat_cmp u v) (path_cmp p q) cmp in
    (path_same p q both.1, equal_is u v both.0)
  where
    self_path : (p : Path) → path_cmp p p ≡ Equal
    self_path p = by_order (path_cmp p p) (path_total.antisymm p p)
      where
        by_order : (o : Ordering) → o ≡ ordering_reverse o → o ≡ Equal
        by_order Less e = absurd (cc)
        by_order Equal e = refl
        by_order Greater e = absurd (cc)

    self_cmp : (u : ℕ) → nat_cmp u u ≡ Equal
    self_cmp u = grind arith

    equal_is : (x y : ℕ) → nat_cmp x y ≡ Equal → x ≡ y
    equal_is x y e = grind arith

    parts : (a b : Ordering) → ordering_then a b ≡ Equal → (a ≡ Equal) × (b ≡ Equal)
    parts Equal b e = (refl, e)
    parts Less b e = absurd (cc)
    parts Greater b e = absurd (cc)

from_map : (f : Record → PageRow) (xs : List Record) (y : PageRow) → IsAmong y (map f xs) → (r : Record) × IsAmong r xs × (f r ≡ y)
from_map f [] y is = absurd is
from_map f (x ∷ xs) y (inl same) = (x, inl refl, same)
from_map f (x ∷ xs) y (inr is) = let on = from_map f xs y is in (on.0, inr on.1, on.2)

to_map : (f : Record → PageRow) (xs : List Record) (r : Record) → IsAmong r xs → IsAmong (f r) (map f xs)
to_map f [] r is = is
to_map f (x ∷ xs) r (inl same) = inl (ap f same)
to_map f (x ∷ xs) r (inr is) = inr (to_map f xs r is)

number_same : (u t : ℕ) → (u == t) ≡ true → u ≡ t
number_same u t e = grind (arith, nat_tests)

number_self : (t : ℕ) → (t == t) ≡ true
number_self t = grind (arith, nat_tests)

kept_of : (t : ℕ) (xs : List Record) (r : Record) → IsAmong r (records_at xs t) → IsAmong r xs × (r.tid ≡ t)
unfolding records_at
kept_of t [] r is = absurd is
kept_of t (x ∷ xs) r is = elim (case_of (x.tid == t)) [
  | inl of ↦ by_head of (rw of at is) (λ k. kept_of t xs r k)
  | inr off ↦ let on = kept_of t xs r (rw off at is) in (inr on.0, on.1)
]
  where
    by_head : (x.tid == t) ≡ true → (x ≡ r) ⊎ IsAmong r (filter (λ r. r.tid == t) xs) → (IsAmong r (filter (λ r. r.tid == t) xs) → IsAmong r xs × (r.tid ≡ t)) → IsAmong r (x ∷ xs) × (r.tid ≡ t)
    by_head of (inl same) more = (inl same, ap (λ (y : Record). y.tid) (sym same) ∙ number_same x.tid t of)
    by_head of (inr is) more = let on = more is in (inr on.0, on.1)

of_kept : (t : ℕ) (xs : List Record) (r : Record) → IsAmong r xs → r.tid ≡ t → IsAmong r (records_at xs t)
unfolding records_at
of_kept t [] r is e = is
of_kept t (x ∷ xs) r (inl same) e = rw (subst (λ u. (u == t) ≡ true) (sym (ap (λ (y : Record). y.tid) same ∙ e)) (number_self t)) (inl same)
of_kept t (x ∷ xs) r (inr is) e = elim (case_of (x.tid == t)) [
  | inl of ↦ rw of (inr (of_kept t xs r is e))
  | inr off ↦ rw off (of_kept t xs r is e)
]

module _ (k : Kind) (upto : ℕ) (rs : List Record) (h : AreHeldRows k upto rs) where
  step_key : (r : Record) → IsAmong r rs → (by_step r).key ≡ to_be_bytes w64 r.tid ++ 84 ∷ 0 ∷ 1 ∷ path_key r.loc.path
  step_key r is = ap (λ q. to_be_bytes w64 r.tid ++ place_key q) (is_of_target k upto rs h r is)

  step_cmp : (r s : Record) → IsAmong r rs → IsAmong s rs → text_cmp (by_step r).key (by_step s).key ≡ ordering_then (nat_cmp r.tid s.tid) (path_cmp r.loc.path s.loc.path)
  step_cmp r s is js =
      ap (λ x. text_cmp x (by_step s).key) (step_key r is) ∙ ap (text_cmp (to_be_bytes w64 r.tid ++ 84 ∷ 0 ∷ 1 ∷ path_key r.loc.path)) (step_key s js)
      ∙ tids_then r.tid s.tid (84 ∷ 0 ∷ 1 ∷ path_key r.loc.path) (84 ∷ 0 ∷ 1 ∷ path_key s.loc.path) (is_small k upto rs h r is) (is_small k upto rs h s js)
      ∙ ap (ordering_then (nat_cmp r.tid s.tid)) (paths_order r.loc.path s.loc.path)

  module _ (t : ℕ) (fits : t < 2 ^ 64) where
    not_below : (r : Record) → IsAmong r rs → text_cmp (to_be_bytes w64 t ++ 84 ∷ []) (by_step r).key ≡ ordering_then (nat_cmp t r.tid) Less
    not_below r is = ap (text_cmp (to_be_bytes w64 t ++ 84 ∷ [])) (step_key r is) ∙ tids_then t r.tid (84 ∷ []) (84 ∷ 0 ∷ 1 ∷ path_key r.loc.path) fits (is_small k upto rs h r is)

    not_above : (r : Record) → IsAmong r rs → text_cmp (by_step r).key (to_be_bytes w64 t ++ 85 ∷ []) ≡ ordering_then (nat_cmp r.tid t) Less
    not_above r is = ap (λ x. text_cmp x (to_be_bytes w64 t ++ 85 ∷ [])) (step_key r is) ∙ tids_then r.tid t (84 ∷ 0 ∷ 1 ∷ path_key r.loc.path) (85 ∷ []) (is_small k upto rs h r is) fits

    order_le : (x y : ℕ) → is_le (ordering_then (nat_cmp x y) Less) ≡ true → x ≤ y
    order_le x y e = by_order (nat_cmp x y) refl e
      where
        by_order : (o : Ordering) → nat_cmp x y ≡ o → is_le (ordering_then o Less) ≡ true → x ≤ y
        by_order Less c e = grind (arith, c)
        by_order Equal c e = grind (arith, c)
        by_order Greater c e = absurd (cc)

    self_le : (x : ℕ) → is_le (ordering_then (nat_cmp x x) Less) ≡ true
    self_le x = ap (λ o. is_le (ordering_then o Less)) (let e : nat_cmp x x ≡ Equal = grind arith in e)

    rises_on : (xs : List Record) → ((r : Record) → IsAmong r xs → IsAmong r rs × (r.tid ≡ t)) → AreOrdered xs → RiseByKey (map by_step xs)
    rises_on [] f o = tt
    rises_on (x ∷ xs) f o = (afters xs (λ r is. f r (inr is)) o.0, rises_on xs (λ r is. f r (inr is)) o.1)
      where
        afters : (ys : List Record) → ((r : Record) → IsAmong r ys → IsAmong r rs × (r.tid ≡ t)) → list_all (goes_before x) ys ≡ true → list_all (λ s. is_lt (text_cmp (by_step x).key s.key)) (map by_step ys) ≡ true
        afters [] g e = refl
        afters (y ∷ ys) g e =
            let mine = f x (inl refl) in
            let its = g y (inl refl) in
            let before = first_part (goes_before x y) (list_all (goes_before x) ys) e in
            let lt : is_lt (path_cmp x.loc.path y.loc.path) ≡ true = same_step (nat_lt x.tid y.tid) (x.tid == y.tid) (is_lt (path_cmp x.loc.path y.loc.path)) (not_less x.tid y.tid (mine.1 ∙ sym its.1)) before in
            let here : is_lt (text_cmp (by_step x).key (by_step y).key) ≡ true = ap is_lt (step_cmp x y mine.0 its.0) ∙ ap (λ o. is_lt (ordering_then o (path_cmp x.loc.path y.loc.path))) (same_cmp x.tid y.tid (mine.1 ∙ sym its.1)) ∙ lt in
            rw here (afters ys (λ r is. g r (inr is)) (second_part (goes_before x y) (list_all (goes_before x) ys) e))
          where
            same_step : (a b c : Bool) → a ≡ false → (a || (b && c)) ≡ true → c ≡ true
            same_step true b c e f = absurd (cc)
            same_step false true c e f = f
            same_step false false c e f = absurd (cc)

            not_less : (u v : ℕ) → u ≡ v → nat_lt u v ≡ false
            not_less u v e = grind (arith, nat_tests)

            same_cmp : (u v : ℕ) → u ≡ v → nat_cmp u v ≡ Equal
            same_cmp u v e = grind (arith, e)

    ordered_kept : (xs : List Record) → AreOrdered xs → AreOrdered (records_at xs t)
    unfolding records_at
    ordered_kept [] o = tt
    ordered_kept (x ∷ xs) o = elim (case_of (x.tid == t)) [
      | inl of ↦ rw of (all_kept (goes_before x) xs o.0, ordered_kept xs o.1)
      | inr off ↦ rw off (ordered_kept xs o.1)
    ]
      where
        all_kept : (f : Record → Bool) (xs : List Record) → list_all f xs ≡ true → list_all f (filter (λ r. r.tid == t) xs) ≡ true
        all_kept f [] e = refl
        all_kept f (y ∷ ys) e = elim (case_of (y.tid == t)) [
          | inl of ↦ rw (of, first_part (f y) (list_all f ys) e) (all_kept f ys (second_part (f y) (list_all f ys) e))
          | inr off ↦ rw off (all_kept f ys (second_part (f y) (list_all f ys) e))
        ]

    -- the rows from the Tid and 84 to the Tid and 85 are those of the step, in the order of their places
    pub step-rows : (found : List PageRow) → AreWithin (to_be_bytes w64 t ++ 84 ∷ []) (to_be_bytes w64 t ++ 85 ∷ []) (map by_step rs) found → found ≡ map by_step (records_at rs t)
    step-rows found f = rising-same found (map by_step (records_at rs t)) f.rise (rises_on (records_at rs t) (λ r is. kept_of t rs r is) (ordered_kept rs h.rise))
        (λ y is.
        let inside = f.inside y is in
        let r = from_map by_step rs y inside.0 in
        let a : t ≤ r.0.tid = order_le t r.0.tid (ap is_le (sym (not_below r.0 r.1)) ∙ ap (λ (z : PageRow). is_le (text_cmp (to_be_bytes w64 t ++ 84 ∷ []) z.key)) r.2 ∙ inside.1) in
        let b : r.0.tid ≤ t = order_le r.0.tid t (ap is_le (sym (not_above r.0 r.1)) ∙ ap (λ (z : PageRow). is_le (text_cmp z.key (to_be_bytes w64 t ++ 85 ∷ []))) r.2 ∙ inside.2) in
        subst (λ z. IsAmong z (map by_step (records_at rs t))) r.2 (to_map by_step (records_at rs t) r.0 (of_kept t rs r.0 r.1 (omega (arith, a, b)))))
        (λ y is.
        let r = from_map by_step (records_at rs t) y is in
        let kept = kept_of t rs r.0 r.1 in
        let x : is_le (text_cmp (to_be_bytes w64 t ++ 84 ∷ []) (by_step r.0).key) ≡ true = ap is_le (not_below r.0 kept.0) ∙ ap (λ u. is_le (ordering_then (nat_cmp t u) Less)) kept.1 ∙ self_le t in
        let z : is_le (text_cmp (by_step r.0).key (to_be_bytes w64 t ++ 85 ∷ [])) ≡ true = ap is_le (not_above r.0 kept.0) ∙ ap (λ u. is_le (ordering_then (nat_cmp u t) Less)) kept.1 ∙ self_le t in
        subst (λ w. IsAmong w found) r.2 (f.all (by_step r.0) (to_map by_step rs r.0 kept.0) x z))
