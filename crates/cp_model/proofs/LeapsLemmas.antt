-- Going from change to change gives the walk over every step.
use Rattle.std.specs.Prelude.{ℕ, suc, zero, ◌-◌, ◌<◌, ◌≤◌, ◌≡◌, Bool, true, false, cond, List, [], ◌∷◌, ◌++◌, refl, nat_lt, if◌then◌else◌}
use Rattle.std.proofs.Common.{sym, ap, ◌∙◌, append_assoc, arith}
use Rattle.std.proofs.lemmas.Bool.Decides.{nat_tests}
use Rattle.std.specs.declared.option.Option.{Option}
use Rattle.std.specs.declared.option.Option.TheVariants.{None, Some}
use Rattle.cp_model.specs.Place.{Path, in_target}
use Rattle.cp_model.specs.Past.{Event, copied}
use Rattle.cp_model.specs.Rows.{same, made, from, Reading, left, gone}
use Rattle.cp_model.proofs.Walk.{walk_on, walked}
use Rattle.cp_model.specs.Leaps.{Readings, tells_same, last, lost_at, losts, before, leap, leap_back}

append_nil : {A : Type 0} (xs : List A) → xs ++ [] ≡ xs
append_nil [] = refl
append_nil (x ∷ xs) = ap (λ ys. x ∷ ys) (append_nil xs)

told-same : (d : Reading) → tells_same d ≡ true → d ≡ left same
told-same (left same) e = refl
told-same (left made) e = absurd (cc)
told-same (left (from q)) e = absurd (cc)
told-same gone e = absurd (cc)

-- what the newest change says
unfoldable pub Says : Readings → ℕ → Path → Option (ℕ × Reading) → Type 0
Says E t p None = (v : ℕ) → 0 < v → v ≤ t → E v p ≡ left same
Says E t p (Some c) = (0 < c.0) × (c.0 ≤ t) × (c.1 ≡ E c.0 p) × (tells_same c.1 ≡ false) × ((v : ℕ) → c.0 < v → v ≤ t → E v p ≡ left same)

-- the newest change is what it says
pub last-says : (E : Readings) (t : ℕ) (p : Path) → Says E t p (last E t p)
unfolding last Says
last-says E zero p = λ v a b. absurd (omega arith)
last-says E (suc t) p =
    elim (tells_same (E (suc t) p)) as (λ b. tells_same (E (suc t) p) ≡ b → Says E (suc t) p (if b then last E t p else Some (suc t, E (suc t) p))) [
      | true ↦ λ h. more (last E t p) (told-same _ h) (last-says E t p)
      | false ↦ λ h. (omega arith, omega arith, refl, h, λ v a b. absurd (omega arith))
    ] refl
  where
    at_or_below : (c : ℕ) (v : ℕ) → E (suc t) p ≡ left same → ((v : ℕ) → c < v → v ≤ t → E v p ≡ left same) → (b : Bool) → nat_lt v (suc t) ≡ b → c < v → v ≤ suc t → E v p ≡ left same
    at_or_below c v e h true n a b = h v a (let k : v < suc t = grind (arith, nat_tests) in omega (arith, k))
    at_or_below c v e h false n a b = let k : v ≡ suc t = (let m : suc t ≤ v = grind (arith, nat_tests) in omega (arith, m, b)) in ap (λ u. E u p) k ∙ e

    more : (o : Option (ℕ × Reading)) → E (suc t) p ≡ left same → Says E t p o → Says E (suc t) p o
    more None e h = λ v a b. at_or_below 0 v e h (nat_lt v (suc t)) refl a b
    more (Some c) e h = (h.0, (let k = h.1 in omega (arith, k)), h.2, h.3, λ v a b. at_or_below c.0 v e h.4 (nat_lt v (suc t)) refl a b)

-- over unchanged steps the walk adds the losses
pub walked-over : (E : Readings) (L : ℕ → Path → Bool) (v t : ℕ) (p : Path) → v ≤ t → ((u : ℕ) → v < u → u ≤ t → E u p ≡ left same) → walked E L t p ≡ walked E L v p ++ losts L v t p
unfolding losts
walked-over E L v zero p le h = let z : v ≡ 0 = omega arith in ap (λ u. walked E L u p) (sym z) ∙ sym (append_nil (walked E L v p))
walked-over E L v (suc t) p le h =
    elim (nat_lt v (suc t)) as (λ b. nat_lt v (suc t) ≡ b → walked E L (suc t) p ≡ walked E L v p ++ cond b (losts L v t p ++ lost_at L (suc t) p) []) [
      | true ↦ λ n.
          let k : v < suc t = grind (arith, nat_tests) in
          ap (walk_on (walked E L t) (suc t) p (L (suc t) p)) (h (suc t) k (omega arith))
          ∙ ap (λ xs. xs ++ lost_at L (suc t) p) (walked-over E L v t p (omega (arith, k)) (λ u a b. h u a (omega (arith, b))))
          ∙ append_assoc (walked E L v p) (losts L v t p) (lost_at L (suc t) p)
      | false ↦ λ n.
          let k : suc t ≤ v = grind (arith, nat_tests) in
          let e : suc t ≡ v = omega (arith, k, le) in
          ap (λ u. walked E L u p) e ∙ sym (append_nil (walked E L v p))
    ] refl

before-walk : (E : Readings) (L : ℕ → Path → Bool) (prev : ℕ → Path → List Event) (u : ℕ) (p : Path) (e : Reading) → tells_same e ≡ false →
    ((q : Path) → prev (suc u - 1) q ≡ walked E L u q) → before prev (suc u) p e ≡ walk_on (walked E L u) (suc u) p (L (suc u) p) e
unfolding before
before-walk E L prev u p (left same) n h = absurd (cc)
before-walk E L prev u p (left made) n h = refl
before-walk E L prev u p (left (from q)) n h = ap (λ xs. if in_target q then xs ++ copied (suc u) q ∷ [] else copied (suc u) q ∷ []) (h q.path)
before-walk E L prev u p gone n h = refl

-- going from change to change is the walk over every step
pub leaped-walked : (E : Readings) (L : ℕ → Path → Bool) (n t : ℕ) (p : Path) → t < n → leap_back E L n t p ≡ walked E L t p
unfolding leap_back leap Says
leaped-walked E L zero t p h = absurd (omega arith)
leaped-walked E L (suc n) t p h = by_last (last E t p) (last-says E t p) (λ u q le. leaped-walked E L n u q le)
  where
    from_change : (c : ℕ) (e : Reading) (u : ℕ) → c ≡ suc u → c ≤ t → e ≡ E c p → tells_same e ≡ false → ((v : ℕ) → c < v → v ≤ t → E v p ≡ left same) →
        ((u : ℕ) (q : Path) → u < n → leap_back E L n u q ≡ walked E L u q) → before (leap_back E L n) c p e ++ losts L c t p ≡ walked E L t p
    from_change c e u k le at apart between ih =
        ap (λ d. before (leap_back E L n) d p e ++ losts L c t p) k
        ∙ ap (λ xs. xs ++ losts L c t p) (before-walk E L (leap_back E L n) u p e apart (λ q. let z : suc u - 1 ≡ u = omega arith in ap (λ v. leap_back E L n v q) z ∙ ih u q (omega (arith, k, le, h)))
        ∙ ap (walk_on (walked E L u) (suc u) p (L (suc u) p)) (at ∙ ap (λ d. E d p) k)
        ∙ ap (λ d. walked E L d p) (sym k))
        ∙ sym (walked-over E L c t p le between)

    by_last : (o : Option (ℕ × Reading)) → Says E t p o → ((u : ℕ) (q : Path) → u < n → leap_back E L n u q ≡ walked E L u q) → leap (leap_back E L n) L t p o ≡ walked E L t p
    by_last None s ih = sym (walked-over E L 0 t p (omega arith) s)
    by_last (Some c) s ih = let pos : 0 < c.0 = s.0 in from_change c.0 c.1 (c.0 - 1) (omega (arith, pos)) s.1 s.2 s.3 s.4 ih
