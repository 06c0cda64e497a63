-- The newest change of a place, from step to step.
use Rattle.std.proofs.Common.{ℕ, suc, zero, ◌-◌, ◌<◌, ◌≤◌, ◌≡◌, true, false, refl, ap, ◌∙◌, arith}
use Rattle.std.specs.Prelude.{nat_lt, if◌then◌else◌}
use Rattle.std.proofs.lemmas.Bool.Decides.{nat_tests}
use Rattle.std.specs.declared.option.Option.TheVariants.{None, Some}
use Rattle.cp_model.specs.Place.{Path}
use Rattle.cp_model.specs.declared.effect.Effect.TheVariants.{Same as same}
use Rattle.cp_model.specs.Rows.{Reading, left}
use Rattle.cp_model.specs.Leaps.{Readings, tells_same, last}

-- no step has Tid 0
pub last-zero : (E : Readings) (p : Path) → last E 0 p ≡ None
unfolding last
last-zero E p = refl

-- effects that agree at p have the same newest change
pub last-agree : (E F : Readings) (t : ℕ) (p : Path) → ((u : ℕ) → E u p ≡ F u p) → last E t p ≡ last F t p
unfolding last
last-agree E F zero p h = refl
last-agree E F (suc t) p h =
    ap (λ e. if tells_same e then last E t p else Some (suc t, e)) (h (suc t))
    ∙ ap (λ o. if tells_same (F (suc t) p) then o else Some (suc t, F (suc t) p)) (last-agree E F t p h)

-- unchanged steps are passed over
pub last-over : (E : Readings) (v t : ℕ) (p : Path) → v ≤ t → ((u : ℕ) → v < u → u ≤ t → E u p ≡ left same) → last E t p ≡ last E v p
unfolding last
last-over E v zero p le h = let z : zero ≡ v = omega (arith, le) in ap (λ u. last E u p) z
last-over E v (suc t) p le h =
    elim (nat_lt v (suc t)) as (λ b. nat_lt v (suc t) ≡ b → last E (suc t) p ≡ last E v p) [
      | true ↦ λ n.
          let k : v < suc t = grind (arith, nat_tests) in
          ap (λ e. if tells_same e then last E t p else Some (suc t, e)) (h (suc t) k (omega arith)) ∙ last-over E v t p (omega (arith, k)) (λ u a b. h u a (omega (arith, b)))
      | false ↦ λ n. let k : suc t ≤ v = grind (arith, nat_tests) in let e : suc t ≡ v = omega (arith, k, le) in ap (λ u. last E u p) e
    ] refl

-- a step with another effect is the newest change
pub last-change : (E : Readings) (u : ℕ) (p : Path) (e : Reading) → 0 < u → E u p ≡ e → tells_same e ≡ false → last E u p ≡ Some (u, e)
unfolding last
last-change E zero p e z h n = absurd (omega (arith, z))
last-change E (suc u) p e z h n = ap (λ d. if tells_same d then last E u p else Some (suc u, d)) h ∙ ap (λ b. if b then last E u p else Some (suc u, e)) n

-- below an unchanged step
pub last-same : (E : Readings) (u : ℕ) (p : Path) → 0 < u → E u p ≡ left same → last E u p ≡ last E (u - 1) p
unfolding last
last-same E zero p z h = absurd (omega (arith, z))
last-same E (suc u) p z h = ap (λ d. if tells_same d then last E u p else Some (suc u, d)) h ∙ ap (λ v. last E v p) (let g : u ≡ suc u - 1 = omega arith in g)
