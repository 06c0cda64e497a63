-- A step that has no row which counts for a place reads the same there.
use Rattle.std.proofs.Common.{arith, ◌≡◌, ◌≤◌, ◌<◌, ◌∙◌, ◌⊎◌, inl, inr, ◌==◌, ◌&&◌, ap, sym, refl, subst, ℕ, zero, suc, List, [], ◌∷◌, ◌++◌, Bool, true, false, true≢false, Option, Some, None, nat_eq}
use Rattle.std.specs.List.{list_any}
use Rattle.cp_path.specs.Place.{starts_with, path_eq}
use Rattle.cp_path.proofs.Same.{path_eq-same}
use Rattle.cp_model.specs.Place.{Label, Path, nearest, label_eq}
use Rattle.cp_model.specs.Keyed.{look}
use Rattle.cp_model.specs.Rows.{Reading, left, read_nearest}
use Rattle.cp_model.specs.Leaps.{last, tells_same}
use Rattle.cp_model.specs.Records.{reads, rows_at}
use Rattle.cp_model.specs.declared.effect.Effect.TheVariants.{Same as same}
use Rattle.cp_model.specs.declared.kind.Kind.{Kind}
use Rattle.cp_model.specs.declared.kind.Kind.TheVariants as kind
use Rattle.cp_model.specs.declared.record.Record.{Record}
use Rattle.cp_store.specs.Costs.{has_row}

-- a test, by its two answers
pub case_of : (b : Bool) → (b ≡ true) ⊎ (b ≡ false)
case_of true = inl refl
case_of false = inr refl

-- a label is equal to itself
pub itself : (a : Label) → label_eq a a ≡ true
itself [] = refl
itself (x ∷ a) = let h : nat_eq x x ≡ true = grind arith in rw h (itself a)

some_is : {X : Type 0} (x y : X) → Some x ≡ Some y → x ≡ y
some_is x y h = cc

-- where no row of the step is of the place, none is found
none_found : (rs : List Record) (q : Path) (t : ℕ) → list_any (λ r. (r.tid == t) && path_eq q r.loc.path) rs ≡ false → look q (rows_at rs t) ≡ None
unfolding rows_at
none_found [] q t h = refl
none_found (r ∷ rs) q t h = elim (case_of (r.tid == t)) [
  | inl of ↦ elim (case_of (path_eq q r.loc.path)) [
    | inl here ↦ absurd (true≢false (rw (of, here) at h))
    | inr off ↦ rw (of, off) (none_found rs q t (rw (of, off) at h))
  ]
  | inr other ↦ rw other (none_found rs q t (rw other at h))
]

-- a path begins with the front of it
begins : (q s : Path) → starts_with (q ++ s) q ≡ true
begins [] s = refl
begins (a ∷ q) s = rw (itself a) (begins q s)

-- what fails for all fails where less is asked
fewer : (f g : Record → Bool) (rs : List Record) → ((r : Record) → g r ≡ true → f r ≡ true) → list_any f rs ≡ false → list_any g rs ≡ false
fewer f g [] less h = refl
fewer f g (r ∷ rs) less h = elim (case_of (g r)) [
  | inl is ↦ absurd (true≢false (rw (less r is) at h))
  | inr off ↦ elim (case_of (f r)) [
    | inl is ↦ absurd (true≢false (rw is at h))
    | inr no_f ↦ rw off (fewer f g rs less (rw no_f at h))
  ]
]

-- a row of a place above counts for the place
counted : (p q s : Path) (t : ℕ) (r : Record) → p ≡ q ++ s → ((r.tid == t) && path_eq q r.loc.path) ≡ true → ((r.tid == t) && starts_with p r.loc.path) ≡ true
counted p q s t r is h = elim (case_of (r.tid == t)) [
  | inl of ↦ let same : q ≡ r.loc.path = path_eq-same q r.loc.path (rw of at h) in rw of (subst (λ x. starts_with p x ≡ true) same (subst (λ x. starts_with x q ≡ true) (sym is) (begins q s)))
  | inr other ↦ absurd (true≢false (sym (rw other at h)))
]

-- no prefix has anything
none_near : {X : Type 0} (f : Path → Option X) (p : Path) → ((q s : Path) → p ≡ q ++ s → f q ≡ None) → nearest f p ≡ None
none_near f [] none = rw (none [] [] refl)
none_near f (a ∷ p) none = rw (none_near (λ r. f (a ∷ r)) p (λ q s e. none (a ∷ q) s (ap (λ l. a ∷ l) e)), none [] (a ∷ p) refl)

-- a step without a row that counts for the place says that it is the same
pub reads-same : (k : Kind) (rs : List Record) (t : ℕ) (p : Path) → has_row k rs p t ≡ false → reads k rs t p ≡ left same
reads-same kind.N rs t p h = rw (none_found rs p t h)
reads-same kind.T rs t p h = rw (none_found rs p t h)
reads-same kind.H rs t p h = ap read_nearest (none_near (λ r. look r (rows_at rs t)) p (λ q s e. none_found rs q t (fewer _ _ rs (λ r g. counted p q s t r e g) h)))
reads-same kind.HT rs t p h = ap read_nearest (none_near (λ r. look r (rows_at rs t)) p (λ q s e. none_found rs q t (fewer _ _ rs (λ r g. counted p q s t r e g) h)))

-- the newest change up to t is of a step from 1 to t that has such a row
pub newest-told : (k : Kind) (rs : List Record) (t : ℕ) (p : Path) (c : ℕ × Reading) → last (reads k rs) t p ≡ Some c → (0 < c.0) × (c.0 ≤ t) × (has_row k rs p c.0 ≡ true)
unfolding last
newest-told k rs zero p c h = cc
newest-told k rs (suc t) p c h = elim (case_of (tells_same (reads k rs (suc t) p))) [
  | inl same_here ↦ let on = newest-told k rs t p c (rw same_here at h) in (on.0, omega (arith, on.1), on.2)
  | inr changed ↦
      let is : suc t ≡ c.0 = ap (λ x. x.0) (some_is (suc t, reads k rs (suc t) p) c (rw changed at h)) in
      elim (case_of (has_row k rs p (suc t))) [
        | inl told ↦ (omega (arith, is), omega (arith, is), subst (λ u. has_row k rs p u ≡ true) is told)
        | inr quiet ↦ absurd (true≢false (sym (ap tells_same (reads-same k rs (suc t) p quiet)) ∙ changed))
      ]
]
