-- Runs of the scan over words put together, and checks of finitely many bytes.
use Rattle.std.proofs.Common.{◌≡◌, ℕ, zero, suc, ◌+◌, ◌<◌, ◌≤◌, List, [], ◌∷◌, ◌++◌, Bool, true, false, ◌&&◌, ◌||◌, nat_lt, not, length, take, get_or, refl, ap, sym, ◌∙◌, arith, cond, Option, Some, None, subst}
use Rattle.std.proofs.lemmas.Bool.{and_parts, ltb-true, ltb-false}
use Rattle.std.proofs.lemmas.List.{take_more}
use Rattle.std.specs.Option.{option_map, option_and_then}
use Rattle.cp_path.specs.Spelling.{is_trigger, has_trigger}
use Rattle.cp_spelling.specs.Scan.{part_step, step, scan_over}
use Rattle.cp_spelling.proofs.ScanLemmas.{part_run}
use Rattle.cp_spelling.specs.declared.scan.Part.{Part}
use Rattle.cp_spelling.specs.declared.scan.Spot.{Spot}

pub run-append : (d : Bool) (s : Spot) (v w : List ℕ) → scan_over d s (v ++ w) ≡ option_and_then (λ t. scan_over d t w) (scan_over d s v)
run-append d s [] w = refl
run-append d s (x ∷ v) w =
    elim (step d s x) as (λ o. option_and_then (λ t. scan_over d t (v ++ w)) o ≡ option_and_then (λ t. scan_over d t w) (option_and_then (λ t. scan_over d t v) o)) [ None ↦ refl | Some t ↦ run-append d t v w ]

pub part_run-append : (d : Bool) (s : Part) (v w : List ℕ) → part_run d s (v ++ w) ≡ option_and_then (λ t. part_run d t w) (part_run d s v)
part_run-append d s [] w = refl
part_run-append d s (x ∷ v) w =
    elim (part_step d s x) as (λ o. option_and_then (λ t. part_run d t (v ++ w)) o ≡ option_and_then (λ t. part_run d t w) (option_and_then (λ t. part_run d t v) o)) [ None ↦ refl | Some t ↦ part_run-append d t v w ]

pub run_on : (d : Bool) (s t : Spot) (v w : List ℕ) → scan_over d s v ≡ Some t → scan_over d s (v ++ w) ≡ scan_over d t w
run_on d s t v w e = run-append d s v w ∙ ap (λ o. option_and_then (λ u. scan_over d u w) o) e

pub part_run_on : (d : Bool) (s t : Part) (v w : List ℕ) → part_run d s v ≡ Some t → part_run d s (v ++ w) ≡ part_run d t w
part_run_on d s t v w e = part_run-append d s v w ∙ ap (λ o. option_and_then (λ u. part_run d u w) o) e

pub run_one : (d : Bool) (t : Spot) (x : ℕ) → scan_over d t (x ∷ []) ≡ step d t x
run_one d t x = elim (step d t x) as (λ o. option_and_then (λ u. Some u) o ≡ o) [ None ↦ refl | Some u ↦ refl ]

pub part_run_one : (d : Bool) (t : Part) (x : ℕ) → part_run d t (x ∷ []) ≡ part_step d t x
part_run_one d t x = elim (part_step d t x) as (λ o. option_and_then (λ u. Some u) o ≡ o) [ None ↦ refl | Some u ↦ refl ]

pub run_more : (d : Bool) (s t u : Spot) (v : List ℕ) (x : ℕ) → scan_over d s v ≡ Some t → step d t x ≡ Some u → scan_over d s (v ++ x ∷ []) ≡ Some u
run_more d s t u v x e h = run_on d s t v (x ∷ []) e ∙ run_one d t x ∙ h

pub part_more : (d : Bool) (s t u : Part) (v : List ℕ) (x : ℕ) → part_run d s v ≡ Some t → part_step d t x ≡ Some u → part_run d s (v ++ x ∷ []) ≡ Some u
part_more d s t u v x e h = part_run_on d s t v (x ∷ []) e ∙ part_run_one d t x ∙ h

pub next_part : (d : Bool) (s : Part) (u : Part) (x : ℕ) (w : List ℕ) → part_run d s (x ∷ w) ≡ Some u → (t : Part) × (part_step d s x ≡ Some t) × (part_run d t w ≡ Some u)
next_part d s u x w e = by (part_step d s x) refl
  where
    by : (o : Option Part) → part_step d s x ≡ o → (t : Part) × (part_step d s x ≡ Some t) × (part_run d t w ≡ Some u)
    by None h = let bad : None ≡ Some u = sym (ap (λ o. option_and_then (λ t. part_run d t w) o) h) ∙ e in absurd (cc)
    by (Some t) h = (t, h, sym (ap (λ o. option_and_then (λ t. part_run d t w) o) h) ∙ e)

pub next_spot : (d : Bool) (s u : Spot) (x : ℕ) (w : List ℕ) → scan_over d s (x ∷ w) ≡ Some u → (t : Spot) × (step d s x ≡ Some t) × (scan_over d t w ≡ Some u)
next_spot d s u x w e = by (step d s x) refl
  where
    by : (o : Option Spot) → step d s x ≡ o → (t : Spot) × (step d s x ≡ Some t) × (scan_over d t w ≡ Some u)
    by None h = let bad : None ≡ Some u = sym (ap (λ o. option_and_then (λ t. scan_over d t w) o) h) ∙ e in absurd (cc)
    by (Some t) h = (t, h, sym (ap (λ o. option_and_then (λ t. scan_over d t w) o) h) ∙ e)

pub or_assoc : (a b c : Bool) → ((a || b) || c) ≡ (a || (b || c))
or_assoc true b c = refl
or_assoc false b c = refl

pub or_false : (a : Bool) → (a || false) ≡ a
or_false true = refl
or_false false = refl

pub trigger-append : (v w : List ℕ) → has_trigger (v ++ w) ≡ (has_trigger v || has_trigger w)
trigger-append [] w = refl
trigger-append (x ∷ v) w = ap (λ b. is_trigger x || b) (trigger-append v w) ∙ sym (or_assoc (is_trigger x) (has_trigger v) (has_trigger w))

pub trigger_more : (v : List ℕ) (x : ℕ) → has_trigger (v ++ x ∷ []) ≡ (has_trigger v || is_trigger x)
trigger_more v x = trigger-append v (x ∷ []) ∙ ap (λ b. has_trigger v || b) (or_false (is_trigger x))

pub if_split : {P : Type 0} (b : Bool) (m n : Option Spot) (u : Spot) → cond b m n ≡ Some u → (b ≡ true → m ≡ Some u → P) → (b ≡ false → n ≡ Some u → P) → P
if_split true m n u h f g = f refl h
if_split false m n u h f g = g refl h

pub map_split : (f : Part → Spot) (o : Option Part) (u : Spot) → option_map f o ≡ Some u → (q : Part) × (o ≡ Some q) × (f q ≡ u)
map_split f None u h = absurd (cc)
map_split f (Some q) u h = (q, refl, cc)

-- a test of each number below n
abbrev pub all_below : (ℕ → Bool) → ℕ → Bool
all_below p zero = true
all_below p (suc n) = p n && all_below p n

below_last : (p : ℕ → Bool) (n k : ℕ) → k < suc n → p n ≡ true → (k < n → p k ≡ true) → (b : Bool) → nat_lt k n ≡ b → p k ≡ true
below_last p n k h last front true g = front (ltb-true k n g)
below_last p n k h last front false g = let far : n ≤ k = ltb-false k n g in let same : n ≡ k = omega arith in subst (λ m. p m ≡ true) same last

pub below : (p : ℕ → Bool) (n : ℕ) → all_below p n ≡ true → (k : ℕ) → k < n → p k ≡ true
below p zero e k h = absurd (omega arith)
below p (suc n) e k h =
    let both = and_parts (p n) (all_below p n) e in
    below_last p n k h both.0 (λ l. below p n both.1 k l) (nat_lt k n) refl

-- what a test of two parts says where the first is true
pub when : (b c : Bool) → (not b || c) ≡ true → b ≡ true → c ≡ true
when true c h e = h
when false c h e = cc

pub scan_step : (d : Bool) (s t u : Spot) (w : List ℕ) (i : ℕ) → i < length w → scan_over d s (take i w) ≡ Some t → step d t (get_or w i 0) ≡ Some u → scan_over d s (take (i + 1) w) ≡ Some u
scan_step d s t u w i h e g = ap (scan_over d s) (take_more w i 0 h) ∙ run_more d s t u (take i w) (get_or w i 0) e g
