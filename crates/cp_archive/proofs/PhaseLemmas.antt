-- What the newest phase of a path says.
use Rattle.std.proofs.Common.{ℕ, suc, zero, ◌-◌, ◌<◌, ◌≤◌, ◌≡◌, true, false, refl, sym, ap, ◌∙◌, arith, get_or, leb, leb-true, leb-false}
use Rattle.std.specs.Prelude.{List, [], ◌∷◌, length, fold, nat_lt, if◌then◌else◌}
use Rattle.std.specs.List.{AllByRecursion, slice_index_or}
use Rattle.std.specs.List.Sorted.{IsNonDecreasingBy, IsPartitionPoint}
use Rattle.std.proofs.lemmas.Bool.Decides.{nat_tests}
use Rattle.std.specs.declared.option.Option.{Option}
use Rattle.std.specs.declared.option.Option.TheVariants.{None}
use Rattle.cp_model.specs.declared.row.Content.{Content}
use Rattle.cp_archive.specs.declared.phase.Phase.{Phase}
use Rattle.cp_archive.specs.Phases.{then_phase, content_at, IsRising}

no_earlier : (x : Phase) (xs : List Phase) (k : ℕ) (d : Phase) → AllByRecursion (λ y. x.since ≤ y.since) xs → k < length xs → x.since ≤ (get_or xs k d).since
no_earlier x [] k d h l = absurd (omega (arith, l))
no_earlier x (y ∷ xs) zero d h l = h.0
no_earlier x (y ∷ xs) (suc k) d h l = no_earlier x xs k d h.1 (omega (arith, l))

-- the versions of rising phases don't fall
pub rising-order : (xs : List Phase) → IsRising xs → IsNonDecreasingBy (λ (x : Phase). x.since) xs
rising-order [] h i j d le lt = absurd (omega (arith, lt))
rising-order (x ∷ xs) h zero zero d le lt = omega arith
rising-order (x ∷ xs) h zero (suc j) d le lt = no_earlier x xs j d h.0 (omega (arith, lt))
rising-order (x ∷ xs) h (suc i) zero d le lt = absurd (omega (arith, le))
rising-order (x ∷ xs) h (suc i) (suc j) d le lt = rising-order xs h.1 i j d (omega (arith, le)) (omega (arith, lt))

-- a phase of a later version says nothing
pub later-phase : (t : ℕ) (o : Option Content) (x : Phase) → t < x.since → then_phase t o x ≡ o
later-phase t o x l = let b : nat_lt t x.since ≡ true = grind (arith, nat_tests, l) in ap (λ b. if b then o else x.content) b

-- one that has begun says what it has
pub begun-phase : (t : ℕ) (o : Option Content) (x : Phase) → x.since ≤ t → then_phase t o x ≡ x.content
begun-phase t o x l = let b : nat_lt t x.since ≡ false = grind (arith, nat_tests, l) in ap (λ b. if b then o else x.content) b

later_all : (t : ℕ) (o : Option Content) (xs : List Phase) → ((k : ℕ) (d : Phase) → k < length xs → t < (get_or xs k d).since) → fold (then_phase t) o xs ≡ o
later_all t o [] h = refl
later_all t o (x ∷ xs) h = ap (λ c. fold (then_phase t) c xs) (later-phase t o x (h zero x (omega arith))) ∙ later_all t o xs (λ k d l. h (suc k) d (omega (arith, l)))

newest_at : (t n : ℕ) (d : Phase) (o : Option Content) (xs : List Phase) → n < length xs → (get_or xs n d).since ≤ t → ((k : ℕ) (e : Phase) → n < k → k < length xs → t < (get_or xs k e).since)
    → fold (then_phase t) o xs ≡ (get_or xs n d).content
newest_at t n d o [] l h f = absurd (omega (arith, l))
newest_at t zero d o (x ∷ xs) l h f = later_all t (then_phase t o x) xs (λ k e m. f (suc k) e (omega arith) (omega (arith, m))) ∙ begun-phase t o x h
newest_at t (suc n) d o (x ∷ xs) l h f = newest_at t n d (then_phase t o x) xs (omega (arith, l)) h (λ k e m b. f (suc k) e (omega (arith, m)) (omega (arith, b)))

abbrev pub IsCountUpto : List Phase → ℕ → ℕ → Type 0
IsCountUpto xs t n = IsPartitionPoint (λ (x : Phase). leb x.since t ≡ true) (λ (x : Phase). leb x.since t ≡ false) xs n

-- the phase in front of those after t is the newest
pub newest-some : (xs : List Phase) (t n : ℕ) (d : Phase) → IsCountUpto xs t n → n ≤ length xs → 0 < n → (slice_index_or xs (n - 1) d).content ≡ content_at xs t
unfolding content_at
newest-some xs t n d f le some =
    sym (newest_at t (n - 1) d None xs (omega (arith, le, some)) (leb-true _ t (f.0 (n - 1) d (omega arith) (omega (arith, some))))
    (λ k e l m. leb-false _ t (f.1 k e (omega (arith, l, some)) m)))

-- where all are after t, none is
pub newest-none : (xs : List Phase) (t n : ℕ) → IsCountUpto xs t n → n ≡ 0 → content_at xs t ≡ None
unfolding content_at
newest-none xs t n f z = later_all t None xs (λ k e l. leb-false _ t (f.1 k e (omega (arith, z)) l))

-- a path without phases has no content
pub no-phase : (t : ℕ) → content_at [] t ≡ None
unfolding content_at
no-phase t = refl
