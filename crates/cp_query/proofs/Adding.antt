-- The look-ups of a walk add up.
use Rattle.std.proofs.Common.{arith, ◌≡◌, ◌≤◌, ◌<◌, ◌+◌, ◌-◌, ◌*◌, ◌&&◌, ◌⊎◌, inl, inr, refl, subst, max, ℕ, zero, suc, Bool, true, false, Option, Some, None, nat_le}
use Rattle.std.proofs.Math.Nat.{mul-le-mul_left, mul-le-mul_right, add-mul}
use Rattle.cp_model.specs.Place.{Path, in_target}
use Rattle.cp_model.specs.declared.effect.Effect.TheVariants.{Same as same, New as made, From as from}
use Rattle.cp_model.specs.Rows.{Reading, left, gone}
use Rattle.cp_query.specs.Following.{NewestChange, follow_back, change_then}
use Rattle.cp_model.specs.Answers.{trace_from_events}
use Rattle.cp_model.specs.declared.answer.Trace.{Trace}
use Rattle.cp_store.specs.Costs.{Told, one_if, rows_within, steps_passed}
use Rattle.cp_store.proofs.RowsTold.{case_of}
use Rattle.cp_query.specs.Hops.{rows_along, hops, goes_on_with, walk_cost, greatest_of}

-- each newest change is of a step up to the version, and that step has a row that counts for the place
abbrev pub IsTold : NewestChange → Told → Type 0
IsTold look told = (t : ℕ) (p : Path) (c : ℕ × Reading) → look t p ≡ Some c → (0 < c.0) × (c.0 ≤ t) × (told p c.0 ≡ true)

-- the trace that following the changes gives
abbrev pub trace_by : NewestChange → ℕ → ℕ → Path → Trace
trace_by look n t p = trace_from_events p t (follow_back look n t p)

-- ---- the steps within

pub fewer-if : (x y b : Bool) → (x ≡ true → y ≡ true) → one_if (x && b) ≤ one_if (y && b)
fewer-if true y b h = rw (h refl) (omega arith)
fewer-if false true true h = omega arith
fewer-if false true false h = omega arith
fewer-if false false b h = omega arith

pub earlier-tests : (low high t : ℕ) → low ≤ high → nat_le high t ≡ true → nat_le low t ≡ true
earlier-tests low high t le h = grind (arith, le, h)

-- fewer steps are within where the first is later
pub fewer-within : (has : ℕ → Bool) (low high t : ℕ) → low ≤ high → rows_within has high t ≤ rows_within has low t
fewer-within has low high zero le = omega arith
fewer-within has low high (suc t) le =
    let h = fewer-if (nat_le high (suc t)) (nat_le low (suc t)) (has (suc t)) (earlier-tests low high (suc t) le) in
    let i = fewer-within has low high t le in
    omega (arith, h, i)

pub last-or-before : (u t : ℕ) → u ≤ suc t → (u ≤ t) ⊎ (u ≡ suc t)
last-or-before u t le = grind arith

-- the products of one leg, and of the legs before it
one_leg : (m x f : ℕ) → m ≤ suc x → m * f + 0 ≤ suc (x + 0) * max f 0
one_leg m x f le =
    let h : m * f ≤ suc x * f = mul-le-mul_right f le in
    let s : max f 0 ≡ f = omega arith in
    let z : suc (x + 0) ≡ suc x = omega arith in
    rw (s, z) (omega (arith, h))

two_legs : (m k f g rest : ℕ) → rest ≤ suc k * g → m * f + rest ≤ suc (m + k) * max f g
two_legs m k f g rest h =
    let a : m * f ≤ m * max f g = mul-le-mul_left m (omega arith) in
    let b : suc k * g ≤ suc k * max f g = mul-le-mul_left (suc k) (omega arith) in
    let c : (m + suc k) * max f g ≡ m * max f g + suc k * max f g = add-mul m (suc k) (max f g) in
    let d : suc (m + k) ≡ m + suc k = omega arith in
    rw d (omega (arith, a, b, c, h))

module _ (look : NewestChange) (told : Told) (f : Path → ℕ) where
  abbrev pub leg_cost : ℕ → Path → ℕ
  leg_cost u q = steps_passed told u q (look u q) * f q

  abbrev pub Adds : ℕ → ℕ → Path → Type 0
  Adds n t p = walk_cost look leg_cost n t p ≤ hops told (trace_by look n t p) * greatest_of f (trace_by look n t p)

  -- after a change, by what it tells
  adds_by : (n t : ℕ) (p : Path) → ((u : ℕ) (q : Path) → Adds n u q) → (o : Option (ℕ × Reading))
      → steps_passed told t p o * f p + goes_on_with (walk_cost look leg_cost n) o
      ≤ hops told (trace_from_events p t (change_then (follow_back look n) o)) * greatest_of f (trace_from_events p t (change_then (follow_back look n) o))
  adds_by n t p on None = one_leg (suc (rows_within (told p) 0 t)) (rows_within (told p) 0 t) (f p) (omega arith)
  adds_by n t p on (Some (u, left same)) = let fewer = fewer-within (told p) 0 u t (omega arith) in one_leg (rows_within (told p) u t) (rows_within (told p) 0 t) (f p) (omega (arith, fewer))
  adds_by n t p on (Some (u, left made)) = one_leg (rows_within (told p) u t) (rows_within (told p) u t) (f p) (omega arith)
  adds_by n t p on (Some (u, left (from q))) = elim (case_of (in_target q)) [
    | inl here ↦ rw here (two_legs (rows_within (told p) u t) (rows_along told (trace_by look n (u - 1) q.path).segments) (f p) (greatest_of f (trace_by look n (u - 1) q.path)) (walk_cost look leg_cost n (u - 1) q.path) (on (u - 1) q.path))
    | inr away ↦ rw away (one_leg (rows_within (told p) u t) (rows_within (told p) u t) (f p) (omega arith))
  ]
  adds_by n t p on (Some (u, gone)) = let fewer = fewer-within (told p) 0 u t (omega arith) in one_leg (rows_within (told p) u t) (rows_within (told p) 0 t) (f p) (omega (arith, fewer))

  adds : (n t : ℕ) (p : Path) → Adds n t p
  unfolding follow_back
  adds zero t p = omega arith
  adds (suc n) t p = adds_by n t p (adds n) (look t p)

-- where a look-up at a place costs f of it for each step that it passes, the walk costs the hops, each at the dearest place
pub look-ups-add-up : (look : NewestChange) (told : Told) (f : Path → ℕ) (n t : ℕ) (p : Path)
    → walk_cost look (λ u q. steps_passed told u q (look u q) * f q) n t p ≤ hops told (trace_by look n t p) * greatest_of f (trace_by look n t p)
look-ups-add-up look told f n t p = adds look told f n t p

-- a step that tells is one of those within
one_within : (has : ℕ → Bool) (u t : ℕ) → 0 < u → u ≤ t → has u ≡ true → 1 ≤ rows_within has u t
one_within has u zero some few tells = absurd (omega (arith, some, few))
one_within has u (suc t) some few tells = elim (last-or-before u t few) [
  | inl before ↦ let h = one_within has u t some before tells in omega (arith, h)
  | inr last ↦ let h : nat_le u (suc t) ≡ true = grind (arith, few) in let g : has (suc t) ≡ true = subst (λ j. has j ≡ true) last tells in rw (h, g) (omega arith)
]

module _ (look : NewestChange) (told : Told) (is : IsTold look told) where
  legs_by : (n t : ℕ) (p : Path) → ((u : ℕ) (q : Path) → walk_cost look (λ _ _. 1) n u q ≤ hops told (trace_by look n u q)) → (o : Option (ℕ × Reading)) → look t p ≡ o
      → 1 + goes_on_with (walk_cost look (λ _ _. 1) n) o ≤ hops told (trace_from_events p t (change_then (follow_back look n) o))
  legs_by n t p on None found = omega arith
  legs_by n t p on (Some (u, left same)) found = omega arith
  legs_by n t p on (Some (u, left made)) found = omega arith
  legs_by n t p on (Some (u, left (from q))) found = elim (case_of (in_target q)) [
    | inl here ↦ let told_here = is t p (u, left (from q)) found in let one = one_within (told p) u t told_here.0 told_here.1 told_here.2 in let h = on (u - 1) q.path in rw here (omega (arith, one, h))
    | inr away ↦ rw away (omega arith)
  ]
  legs_by n t p on (Some (u, gone)) found = omega arith

  legs : (n t : ℕ) (p : Path) → walk_cost look (λ _ _. 1) n t p ≤ hops told (trace_by look n t p)
  unfolding follow_back
  legs zero t p = omega arith
  legs (suc n) t p = legs_by n t p (legs n) (look t p) refl

-- there are no more legs than hops
pub legs-add-up : (look : NewestChange) (told : Told) (n t : ℕ) (p : Path) → IsTold look told → walk_cost look (λ u q. 1) n t p ≤ hops told (trace_by look n t p)
legs-add-up look told n t p is = legs look told is n t p
