-- What look-ups in runs read.
use Rattle.std.proofs.Common.{arith, ℕ, zero, suc, ◌+◌, ◌*◌, ◌^◌, ◌≡◌, ◌≤◌, ◌<◌, ◌==◌, inl, inr, true, false, sym, subst, List, [], ◌∷◌, length}
use Rattle.std.specs.Prelude.{max, nat_le, Result}
use Rattle.std.specs.List.{AllByRecursion}
use Rattle.std.proofs.lemmas.Bool.Decides.{nat_tests}
use Rattle.std.proofs.Math.Nat.{mul-le-mul_right}
use Rattle.cp_run.specs.Looks.{Looks, pages_read, after_looks, is_among}
use Rattle.cp_run.specs.Sets.{IsWithinLogs, of_order}
use Rattle.cp_run.specs.declared.look.TheConstants.{PAGES_KEPT}
use Rattle.cp_run.specs.declared.fault.RunFault.{RunFault}
use Rattle.cp_run.specs.declared.run.Run.{Run}
use Rattle.cp_store.proofs.RowsTold.{case_of}
use Rattle.cp_paged.specs.Stored.{log_from, log_up, most_pages, runs_asked}

-- ---- the logarithm

power_above : (k : ℕ) → suc k ≤ 2 ^ k
power_above zero = omega arith
power_above (suc k) = let h = power_above k in omega (arith, h)

log_from_fits : (k n more : ℕ) → k ≤ 2 ^ (n + more) → k ≤ 2 ^ log_from k n more
log_from_fits k n zero fits = subst (λ m. k ≤ 2 ^ m) (omega arith) fits
log_from_fits k n (suc more) fits = elim (case_of (nat_le k (2 ^ n))) [
  | inl here ↦ rw here (grind (arith, nat_tests))
  | inr later ↦ rw later (log_from_fits k (suc n) more (subst (λ m. k ≤ 2 ^ m) (omega arith) fits))
]

pub log_fits : (k : ℕ) → k ≤ 2 ^ log_up k
log_fits k = log_from_fits k 0 k (subst (λ m. k ≤ 2 ^ m) zero_more (let h = power_above k in omega (arith, h)))
  where
    zero_more : k ≡ 0 + k
    zero_more = omega arith

-- ---- the runs

all_fit : (m o : ℕ) (runs : List Run) → most_pages runs ≤ m → AllByRecursion (λ r. r.pages ≤ m) (of_order o runs)
all_fit m o [] few = tt
all_fit m o (r ∷ runs) few = elim (case_of (r.order == o)) [
  | inl same ↦ rw same (omega (arith, few), all_fit m o runs (omega (arith, few)))
  | inr other ↦ rw other (all_fit m o runs (omega (arith, few)))
]

-- no run of an order has more pages than 2 to the power of the logarithm
pub pages_fit : (o : ℕ) (runs : List Run) → AllByRecursion (λ r. r.pages ≤ 2 ^ log_up (most_pages runs)) (of_order o runs)
pages_fit o runs = all_fit (2 ^ log_up (most_pages runs)) o runs (log_fits (most_pages runs))

-- a key is looked for by place in so many runs
pub looks_by_place : (runs : List Run) (n : ℕ) → length (of_order 0 runs) * n ≤ runs_asked runs * n
looks_by_place runs n = mul-le-mul_right n (let m = runs_asked runs in omega arith)

pub looks_by_loser : (runs : List Run) (n : ℕ) → length (of_order 2 runs) * (3 + n) ≤ runs_asked runs * (2 + n) + runs_asked runs
looks_by_loser runs n =
    let more = mul-le-mul_right (3 + n) (by_loser_few) in
    omega (arith, more, three (runs_asked runs) n)
  where
    by_loser_few : length (of_order 2 runs) ≤ runs_asked runs
    by_loser_few = omega arith

    three : (r n : ℕ) → r * (3 + n) ≡ r * (2 + n) + r
    three zero n = omega arith
    three (suc r) n = let h = three r n in omega (arith, h)

-- ---- the looks

read_few : (n : ℕ) (ps kept : List ℕ) → length (pages_read n ps kept) ≤ length ps
read_few n [] kept = omega arith
read_few n (p ∷ ps) kept = let h = read_few n ps kept in elim (case_of (is_among p (after_looks n ps kept))) [
  | inl had ↦ rw had (omega (arith, h))
  | inr new ↦ rw new (omega (arith, h))
]

-- so many looks read no more pages
pub read_within : {T : Type 0} (MaySo : ℕ → Type 0) (kept now : List ℕ) (reads later most : ℕ) (result : Result T RunFault)
    → Looks PAGES_KEPT MaySo kept now reads later result → ((looks : ℕ) → MaySo looks → looks ≤ most) → later ≤ reads + most
read_within MaySo kept now reads later most result looks few =
    let l = looks.looked.count in
    let m = few (length looks.pages) looks.few in
    let r = read_few PAGES_KEPT looks.pages kept in
    omega (arith, l, m, r)
