-- What walks cost, by hops.
use Rattle.std.proofs.Common.{arith, ◌≡◌, ◌≤◌, ◌<◌, ◌+◌, ◌*◌, ◌-◌, ◌∙◌, ◌&&◌, ap, sym, refl, subst, max, ℕ, zero, suc, List, [], ◌∷◌, ◌++◌, Bool, true, false, length, filter, Option, Some, None, nat_le, inl, inr}
use Rattle.std.specs.Prelude.{if◌then◌else◌, nat_lt, cond}
use Rattle.std.proofs.lemmas.List.{length-append}
use Rattle.std.proofs.lemmas.List.Elements.{filter-append}
use Rattle.std.proofs.Math.Nat.{mul-le-mul_left, mul-le-mul_right, add-mul, mul-add, mul_assoc}
use Rattle.cp_model.specs.Place.{Path, in_target}
use Rattle.cp_model.specs.Past.{Event, copied, lost}
use Rattle.cp_model.specs.declared.answer.Segment.{Segment}
use Rattle.cp_model.specs.declared.effect.Effect.TheVariants.{Same as same, New as made, From as from}
use Rattle.cp_model.specs.declared.kind.Kind.{Kind}
use Rattle.cp_model.specs.declared.kind.Kind.TheVariants as kind
use Rattle.cp_model.specs.declared.record.Record.{Record}
use Rattle.cp_model.specs.Leaps.{Readings, last, lost_at, losts, before, leap, leap_back}
use Rattle.cp_model.specs.Records.{reads, loses}
use Rattle.cp_model.specs.Rows.{Reading, left, gone}
use Rattle.cp_store.specs.Costs.{Cost, has_row, one_if, rows_within, steps_passed, fan, own_looks, change_cost}
use Rattle.cp_query.specs.Bounds.{since_of, leg_cost, is_lost}
use Rattle.cp_query.specs.Following.{NewestChange}
use Rattle.cp_query.specs.Hops.{hops, goes_on_with, walk_cost, greatest_along, greatest_of}
use Rattle.cp_store.proofs.RowsTold.{newest-told}
use Rattle.cp_query.proofs.Adding.{trace_by, fewer-if, earlier-tests, fewer-within, last-or-before, look-ups-add-up, legs-add-up}

-- ---- the cost of a walk

module _ (look : NewestChange) where
  on_le : (f g : ℕ → Path → ℕ) → ((t : ℕ) (p : Path) → f t p ≤ g t p) → (o : Option (ℕ × Reading)) → goes_on_with f o ≤ goes_on_with g o
  on_le f g less None = omega arith
  on_le f g less (Some (u, left same)) = omega arith
  on_le f g less (Some (u, left made)) = omega arith
  on_le f g less (Some (u, left (from q))) = let h = less (u - 1) q.path in elim (in_target q) as (λ b. (if b then f (u - 1) q.path else 0) ≤ (if b then g (u - 1) q.path else 0)) [ true ↦ h | false ↦ omega arith ]
  on_le f g less (Some (u, gone)) = omega arith

  -- less at each leg is less in all
  walk_le : (x y : ℕ → Path → ℕ) → ((t : ℕ) (p : Path) → x t p ≤ y t p) → (n t : ℕ) (p : Path) → walk_cost look x n t p ≤ walk_cost look y n t p
  walk_le x y less zero t p = omega arith
  walk_le x y less (suc n) t p =
      let here = less t p in
      let on = on_le (walk_cost look x n) (walk_cost look y n) (walk_le x y less n) (look t p) in
      omega (arith, here, on)

  on_sum : (f x y : ℕ → Path → ℕ) → ((t : ℕ) (p : Path) → f t p ≡ x t p + y t p) → (o : Option (ℕ × Reading)) → goes_on_with f o ≡ goes_on_with x o + goes_on_with y o
  on_sum f x y sum None = refl
  on_sum f x y sum (Some (u, left same)) = refl
  on_sum f x y sum (Some (u, left made)) = refl
  on_sum f x y sum (Some (u, left (from q))) =
      let h = sum (u - 1) q.path in
      elim (in_target q) as (λ b. (if b then f (u - 1) q.path else 0) ≡ (if b then x (u - 1) q.path else 0) + (if b then y (u - 1) q.path else 0)) [ true ↦ h | false ↦ refl ]
  on_sum f x y sum (Some (u, gone)) = refl

  -- two costs add up apart
  walk_sum : (x y : ℕ → Path → ℕ) (n t : ℕ) (p : Path) → walk_cost look (λ u q. x u q + y u q) n t p ≡ walk_cost look x n t p + walk_cost look y n t p
  walk_sum x y zero t p = refl
  walk_sum x y (suc n) t p =
      let on = on_sum (walk_cost look (λ u q. x u q + y u q) n) (walk_cost look x n) (walk_cost look y n) (walk_sum x y n) (look t p) in
      omega (arith, on)

  on_times : (s : ℕ) (f x : ℕ → Path → ℕ) → ((t : ℕ) (p : Path) → f t p ≡ x t p * s) → (o : Option (ℕ × Reading)) → goes_on_with f o ≡ goes_on_with x o * s
  on_times s f x times None = omega arith
  on_times s f x times (Some (u, left same)) = omega arith
  on_times s f x times (Some (u, left made)) = omega arith
  on_times s f x times (Some (u, left (from q))) =
      let h = times (u - 1) q.path in
      elim (in_target q) as (λ b. (if b then f (u - 1) q.path else 0) ≡ (if b then x (u - 1) q.path else 0) * s) [ true ↦ h | false ↦ omega arith ]
  on_times s f x times (Some (u, gone)) = omega arith

  -- the same cost at each leg
  walk_times : (s n t : ℕ) (p : Path) → walk_cost look (λ u q. s) n t p ≡ walk_cost look (λ u q. 1) n t p * s
  walk_times s zero t p = omega arith
  walk_times s (suc n) t p =
      let on = on_times s (walk_cost look (λ u q. s) n) (walk_cost look (λ u q. 1) n) (walk_times s n) (look t p) in
      let split = add-mul 1 (goes_on_with (walk_cost look (λ u q. 1) n) (look t p)) s in
      omega (arith, on, split)

-- ---- the dearest place

along_le : (f : Path → ℕ) (d l : ℕ) → ((q : Path) → f q ≤ (length q + d) * l) → (ss : List Segment) → greatest_along f ss ≤ (greatest_along (λ q. length q) ss + d) * l
along_le f d l less [] = omega arith
along_le f d l less (s ∷ ss) =
    let here = less s.loc.path in
    let on = along_le f d l less ss in
    let rest = greatest_along (λ q. length q) ss in
    let a : (length s.loc.path + d) * l ≤ (max (length s.loc.path) rest + d) * l = mul-le-mul_right l (omega arith) in
    let b : (rest + d) * l ≤ (max (length s.loc.path) rest + d) * l = mul-le-mul_right l (omega arith) in
    omega (arith, here, on, a, b)

-- ---- look-ups

fan_le : (k : Kind) (q : Path) → fan k q ≤ length q + 1
fan_le kind.N q = omega arith
fan_le kind.T q = omega arith
fan_le kind.H q = omega arith
fan_le kind.HT q = omega arith

module _ (k : Kind) (rs : List Record) (c : Cost) (n t : ℕ) (p : Path) where
  -- the look-ups of the newest changes
  pub look-ups : walk_cost (last (reads k rs)) (change_cost k rs c) n t p ≤ hops (has_row k rs) (trace_by (last (reads k rs)) n t p) * ((greatest_of (λ q. length q) (trace_by (last (reads k rs)) n t p) + 1) * c.look)
  look-ups =
      let tr = trace_by (last (reads k rs)) n t p in
      let all = look-ups-add-up (last (reads k rs)) (has_row k rs) (λ q. fan k q * c.look) n t p in
      let dear = along_le (λ q. fan k q * c.look) 1 c.look (λ q. mul-le-mul_right c.look (fan_le k q)) tr.segments in
      let more : hops (has_row k rs) tr * greatest_of (λ q. fan k q * c.look) tr ≤ hops (has_row k rs) tr * ((greatest_of (λ q. length q) tr + 1) * c.look) = mul-le-mul_left (hops (has_row k rs) tr) dear in
      omega (arith, all, more)

-- ---- look-ups of losses

-- a look for the place's own removal besides, where the kind keeps each row and the place isn't the root
abbrev own_fan : Kind → Path → ℕ
own_fan kind.N [] = 0
own_fan kind.N (a ∷ p) = 1
own_fan kind.T [] = 0
own_fan kind.T (a ∷ p) = 1
own_fan kind.H p = 0
own_fan kind.HT p = 0

both_fans : (k : Kind) (q : Path) → fan k q + own_fan k q ≤ length q + 1
both_fans kind.N [] = omega arith
both_fans kind.N (a ∷ q) = omega arith
both_fans kind.T [] = omega arith
both_fans kind.T (a ∷ q) = omega arith
both_fans kind.H q = omega arith
both_fans kind.HT q = omega arith

first_tests : (u v : ℕ) → v ≤ u → nat_le (suc u) v ≡ false
first_tests u v h = grind arith

own_tests : (u : ℕ) → nat_le u u ≡ true
own_tests u = grind arith

at_first : (has : ℕ → Bool) (u t : ℕ) → t < suc u → rows_within has (suc u) t ≡ 0
at_first has u zero h = refl
at_first has u (suc t) h = let i = at_first has u t (omega (arith, h)) in rw (first_tests u (suc t) (omega (arith, h))) (omega (arith, i))

-- where the step u has a row, one more is within from there
one_more : (has : ℕ → Bool) (u t : ℕ) → 0 < u → u ≤ t → has u ≡ true → suc (rows_within has (suc u) t) ≤ rows_within has u t
one_more has u zero some few is = absurd (omega (arith, some, few))
one_more has u (suc t) some few is = elim (last-or-before u t few) [
  | inl before ↦
      let i = one_more has u t some before is in
      let h = fewer-if (nat_le (suc u) (suc t)) (nat_le u (suc t)) (has (suc t)) (earlier-tests u (suc u) (suc t) (omega arith)) in
      omega (arith, i, h)
  | inr last ↦
      let none : rows_within has (suc u) (suc t) ≡ 0 = at_first has u (suc t) (omega (arith, last)) in
      let test : nat_le u (suc t) ≡ true = ap (nat_le u) (sym last) ∙ own_tests u in
      let told : has (suc t) ≡ true = subst (λ j. has j ≡ true) last is in
      let one : one_if (nat_le u (suc t) && has (suc t)) ≡ 1 = rw (test, told) refl in
      omega (arith, none, one)
]

module _ (k : Kind) (rs : List Record) (t : ℕ) (p : Path) where
  -- the steps that a look for the place's own removal passes are no more than those of the look-up before it
  own_le : (o : Option (ℕ × Reading)) → last (reads k rs) t p ≡ o → suc (rows_within (has_row k rs p) (suc (since_of o)) t) ≤ steps_passed (has_row k rs) t p o
  own_le None e = let h = fewer-within (has_row k rs p) 0 1 t (omega arith) in omega (arith, h)
  own_le (Some c) e = let is = newest-told k rs t p c e in one_more (has_row k rs p) c.0 t is.0 is.1 is.2

own_looks_le : (k : Kind) (rs : List Record) (t : ℕ) (p : Path) → own_looks k rs (suc (since_of (last (reads k rs) t p))) t p ≤ steps_passed (has_row k rs) t p (last (reads k rs) t p) * own_fan k p
own_looks_le kind.N rs t [] = omega arith
own_looks_le kind.N rs t (a ∷ p) = let h = own_le kind.N rs t (a ∷ p) (last (reads kind.N rs) t (a ∷ p)) refl in omega (arith, h)
own_looks_le kind.T rs t [] = omega arith
own_looks_le kind.T rs t (a ∷ p) = let h = own_le kind.T rs t (a ∷ p) (last (reads kind.T rs) t (a ∷ p)) refl in omega (arith, h)
own_looks_le kind.H rs t p = omega arith
own_looks_le kind.HT rs t p = omega arith

-- ---- the losses that are found

-- the losses of a leg
abbrev lost_leg : List Record → (ℕ → Path → Option (ℕ × Reading)) → ℕ → Path → ℕ
lost_leg rs look t p = length (losts (loses rs) (since_of (look t p)) t p)

leg_parts : (m f o l r x w : ℕ) → o ≤ m * w → m * (f * l) + (o * l + (l + r + x)) ≤ m * ((f + w) * l) + (l + r) + x
leg_parts m f o l r x w h =
    let a : o * l ≤ (m * w) * l = mul-le-mul_right l h in
    let b : (f + w) * l ≡ f * l + w * l = add-mul f w l in
    let c : m * (f * l + w * l) ≡ m * (f * l) + m * (w * l) = mul-add m (f * l) (w * l) in
    let d : (m * w) * l ≡ m * (w * l) = mul_assoc m w l in
    rw b (omega (arith, a, c, d))

leg_le : (k : Kind) (rs : List Record) (c : Cost) (t : ℕ) (p : Path) → leg_cost k rs c t p ≤ steps_passed (has_row k rs) t p (last (reads k rs) t p) * ((fan k p + own_fan k p) * c.look) + (c.look + c.runs) + lost_leg rs (last (reads k rs)) t p
leg_le k rs c t p =
    leg_parts (steps_passed (has_row k rs) t p (last (reads k rs) t p)) (fan k p) (own_looks k rs (suc (since_of (last (reads k rs) t p))) t p) c.look c.runs (lost_leg rs (last (reads k rs)) t p) (own_fan k p) (own_looks_le k rs t p)

-- the number of losses among events
abbrev losses_in : List Event → ℕ
losses_in es = length (filter is_lost es)

joined : (es fs : List Event) → losses_in (es ++ fs) ≡ losses_in es + losses_in fs
joined es fs = ap length (filter-append is_lost es fs) ∙ length-append (filter is_lost es) (filter is_lost fs)

lost_alone : (L : ℕ → Path → Bool) (t : ℕ) (p : Path) → losses_in (lost_at L t p) ≡ length (lost_at L t p)
lost_alone L t p = elim (L t p) as (λ b. losses_in (if b then lost t ∷ [] else []) ≡ length (if b then lost t ∷ [] else [])) [ true ↦ refl | false ↦ refl ]

-- all losses are losses
all_lost : (L : ℕ → Path → Bool) (v t : ℕ) (p : Path) → losses_in (losts L v t p) ≡ length (losts L v t p)
unfolding losts
all_lost L v zero p = refl
all_lost L v (suc t) p = elim (nat_lt v (suc t)) as (λ b. losses_in (cond b (losts L v t p ++ lost_at L (suc t) p) []) ≡ length (cond b (losts L v t p ++ lost_at L (suc t) p) [])) [
  | true ↦ joined (losts L v t p) (lost_at L (suc t) p) ∙ (let a = all_lost L v t p in let b = lost_alone L (suc t) p in let c = length-append (losts L v t p) (lost_at L (suc t) p) in omega (arith, a, b, c))
  | false ↦ refl
]

module _ (E : Readings) (L : ℕ → Path → Bool) where
  abbrev leg_losses : ℕ → Path → ℕ
  leg_losses t p = length (losts L (since_of (last E t p)) t p)

  in_before : (n u : ℕ) (p : Path) (e : Reading) → ((v : ℕ) (q : Path) → losses_in (leap_back E L n v q) ≡ walk_cost (last E) leg_losses n v q)
      → losses_in (before (leap_back E L n) u p e) ≡ goes_on_with (walk_cost (last E) leg_losses n) (Some (u, e))
  unfolding before
  in_before n u p (left same) on = refl
  in_before n u p (left made) on = refl
  in_before n u p (left (from q)) on =
      let prev = leap_back E L n (u - 1) q.path in
      let h = joined prev (copied u q ∷ []) in
      let i = on (u - 1) q.path in
      elim (in_target q) as (λ b. losses_in (if b then prev ++ copied u q ∷ [] else copied u q ∷ []) ≡ (if b then walk_cost (last E) leg_losses n (u - 1) q.path else 0)) [ true ↦ omega (arith, h, i) | false ↦ refl ]
  in_before n u p gone on = refl

  in_leap : (n t : ℕ) (p : Path) (o : Option (ℕ × Reading)) → ((v : ℕ) (q : Path) → losses_in (leap_back E L n v q) ≡ walk_cost (last E) leg_losses n v q)
      → losses_in (leap (leap_back E L n) L t p o) ≡ length (losts L (since_of o) t p) + goes_on_with (walk_cost (last E) leg_losses n) o
  unfolding leap
  in_leap n t p None on = let a = all_lost L 0 t p in omega (arith, a)
  in_leap n t p (Some c) on =
      let a = all_lost L c.0 t p in
      let b = in_before n c.0 p c.1 on in
      let d = joined (before (leap_back E L n) c.0 p c.1) (losts L c.0 t p) in
      omega (arith, a, b, d)

  -- the losses along a walk are those of the past
  losses-along : (n t : ℕ) (p : Path) → losses_in (leap_back E L n t p) ≡ walk_cost (last E) leg_losses n t p
  unfolding leap_back
  losses-along zero t p = refl
  losses-along (suc n) t p = in_leap n t p (last E t p) (losses-along n)

-- ---- in all

whole : (h d l r x w : ℕ) → w ≤ h * ((d + 1) * l) + h * (l + r) + x → w ≤ h * ((d + 2) * (l + r)) + x
whole h d l r x w all =
    let a : (d + 1) * l ≤ (d + 1) * (l + r) = mul-le-mul_left (d + 1) (omega arith) in
    let b : h * ((d + 1) * l) ≤ h * ((d + 1) * (l + r)) = mul-le-mul_left h a in
    let c : h * ((d + 1) * (l + r) + (l + r)) ≡ h * ((d + 1) * (l + r)) + h * (l + r) = mul-add h ((d + 1) * (l + r)) (l + r) in
    let e : (d + 1 + 1) * (l + r) ≡ (d + 1) * (l + r) + 1 * (l + r) = add-mul (d + 1) 1 (l + r) in
    let f : d + 1 + 1 ≡ d + 2 = omega arith in
    let g : (d + 2) * (l + r) ≡ (d + 1) * (l + r) + (l + r) = ap (λ n. n * (l + r)) (sym f) ∙ e ∙ (omega arith) in
    rw g (omega (arith, all, b, c))

module _ (k : Kind) (rs : List Record) (c : Cost) (n t : ℕ) (p : Path) where
  -- the look-ups of the newest changes and of the losses
  pub all-looks : walk_cost (last (reads k rs)) (leg_cost k rs c) n t p
      ≤ hops (has_row k rs) (trace_by (last (reads k rs)) n t p) * ((greatest_of (λ q. length q) (trace_by (last (reads k rs)) n t p) + 2) * (c.look + c.runs)) + losses_in (leap_back (reads k rs) (loses rs) n t p)
  all-looks =
      let look = last (reads k rs) in
      let told = has_row k rs in
      let tr = trace_by look n t p in
      let f : Path → ℕ = λ q. (fan k q + own_fan k q) * c.look in
      let one : ℕ → Path → ℕ = λ u q. steps_passed told u q (look u q) * f q in
      let two : ℕ → Path → ℕ = λ u q. c.look + c.runs in
      let three : ℕ → Path → ℕ = λ u q. lost_leg rs look u q in
      let parts = walk_le look (leg_cost k rs c) (λ u q. one u q + two u q + three u q) (leg_le k rs c) n t p in
      let apart = walk_sum look (λ u q. one u q + two u q) three n t p in
      let apart_too = walk_sum look one two n t p in
      let first = look-ups-add-up look told f n t p in
      let dear = along_le f 1 c.look (λ q. mul-le-mul_right c.look (both_fans k q)) tr.segments in
      let more : hops told tr * greatest_of f tr ≤ hops told tr * ((greatest_of (λ q. length q) tr + 1) * c.look) = mul-le-mul_left (hops told tr) dear in
      let times = walk_times look (c.look + c.runs) n t p in
      let legs = legs-add-up look told n t p (newest-told k rs) in
      let second : walk_cost look (λ u q. 1) n t p * (c.look + c.runs) ≤ hops told tr * (c.look + c.runs) = mul-le-mul_right (c.look + c.runs) legs in
      let third = losses-along (reads k rs) (loses rs) n t p in
      whole (hops told tr) (greatest_of (λ q. length q) tr) c.look c.runs (losses_in (leap_back (reads k rs) (loses rs) n t p)) (walk_cost look (leg_cost k rs c) n t p)
      (omega (arith, parts, apart, apart_too, first, more, times, second, third))
