-- The number of steps that a look-up passes.
use Rattle.std.proofs.Common.{arith, ◌≡◌, ◌≤◌, ◌<◌, ◌+◌, ◌-◌, ◌⊎◌, inl, inr, refl, subst, ℕ, zero, suc, Bool, true, List, Option, Some, None, nat_le, length}
use Rattle.cp_model.specs.Place.{Path}
use Rattle.cp_model.specs.Rows.{Reading}
use Rattle.cp_model.specs.Leaps.{last}
use Rattle.cp_model.specs.Records.{reads}
use Rattle.cp_model.specs.declared.kind.Kind.{Kind}
use Rattle.cp_model.specs.declared.kind.Kind.TheVariants as kind
use Rattle.cp_model.specs.declared.record.Record.{Record}
use Rattle.cp_store.specs.Costs.{rows_within, steps_passed, has_row, fan}
use Rattle.cp_paged.specs.Newest.{first_depth}
use Rattle.cp_store.proofs.RowsTold.{newest-told}

last_or_before : (u t : ℕ) → u ≤ suc t → (u ≤ t) ⊎ (u ≡ suc t)
last_or_before u t le = grind arith

-- a step that has a row is passed, and the steps before it are fewer
pub within_more : (has : ℕ → Bool) (low u t : ℕ) → 0 < u → low ≤ u → u ≤ t → has u ≡ true → suc (rows_within has low (u - 1)) ≤ rows_within has low t
within_more has low u zero some from few tells = absurd (omega (arith, some, few))
within_more has low u (suc t) some from few tells = elim (last_or_before u t few) [
  | inl before ↦ let h = within_more has low u t some from before tells in omega (arith, h)
  | inr last ↦
      let h : nat_le low (suc t) ≡ true = grind (arith, from, last) in
      let g : has (suc t) ≡ true = subst (λ j. has j ≡ true) last tells in
      let back : u - 1 ≡ t = omega (arith, last) in
      rw (h, g, back) (omega arith)
]

-- more steps pass no fewer
pub within_up : (has : ℕ → Bool) (low v t : ℕ) → v ≤ t → rows_within has low v ≤ rows_within has low t
within_up has low v zero le = let z : v ≡ 0 = omega (arith, le) in rw z (omega arith)
within_up has low v (suc t) le = elim (last_or_before v t le) [
  | inl before ↦ let h = within_up has low v t before in omega (arith, h)
  | inr last ↦ rw last (omega arith)
]

module _ (k : Kind) (rs : List Record) (p : Path) where
  passes : (t : ℕ) (o : Option (ℕ × Reading)) → last (reads k rs) t p ≡ o → 1 ≤ steps_passed (has_row k rs) t p o
  passes t None e = omega arith
  passes t (Some c) e =
      let told = newest-told k rs t p c e in
      let h = within_more (has_row k rs p) c.0 c.0 t told.0 (omega arith) told.1 told.2 in
      omega (arith, h)

  -- a step at least is passed
  pub passes-one : (t : ℕ) → 1 ≤ steps_passed (has_row k rs) t p (last (reads k rs) t p)
  passes-one t = passes t (last (reads k rs) t p) refl

  passes_more : (u t : ℕ) (o : Option (ℕ × Reading)) → last (reads k rs) (u - 1) p ≡ o → 0 < u → u ≤ t → has_row k rs p u ≡ true → suc (steps_passed (has_row k rs) (u - 1) p o) ≤ steps_passed (has_row k rs) t p o
  passes_more u t None e some le tells = let h = within_more (has_row k rs p) 0 u t some (omega arith) le tells in omega (arith, h)
  passes_more u t (Some c) e some le tells =
      let told = newest-told k rs (u - 1) p c e in
      let below = told.1 in
      let h = within_more (has_row k rs p) c.0 u t some (omega (arith, below)) le tells in
      omega (arith, h)

  -- where a step changed nothing, one more is passed than from there on
  pub passes-on : (u t : ℕ) → last (reads k rs) (u - 1) p ≡ last (reads k rs) t p → 0 < u → u ≤ t → has_row k rs p u ≡ true
      → suc (steps_passed (has_row k rs) (u - 1) p (last (reads k rs) (u - 1) p)) ≤ steps_passed (has_row k rs) t p (last (reads k rs) t p)
  passes-on u t e some le tells = rw e (passes_more u t (last (reads k rs) t p) e some le tells)

-- the number of prefixes whose rows count
pub fan-is : (k : Kind) (p : Path) → length p + 1 - first_depth k p ≡ fan k p
fan-is kind.N p = omega arith
fan-is kind.T p = omega arith
fan-is kind.H p = omega arith
fan-is kind.HT p = omega arith
