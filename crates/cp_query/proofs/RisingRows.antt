-- Rows of which each comes after the last one rise; and of rows that rise none is passed over.
use Rattle.std.specs.Prelude.{ℕ, suc, zero, ◌+◌, ◌-◌, ◌<◌, ◌≤◌, ◌≡◌, ◌==◌, ◌&&◌, Bool, true, false, List, [], ◌∷◌, ◌++◌, fold, filter, length, nat_lt, refl, if◌then◌else◌}
use Rattle.std.proofs.Common.{sym, ap, subst, ◌∙◌, arith, append_assoc, inl, inr, ◌⊎◌}
use Rattle.std.proofs.lemmas.Bool.Decides.{nat_tests}
use Rattle.std.proofs.lemmas.List.{append-nil}
use Rattle.std.proofs.lemmas.List.Sums.{fold-append}
use Rattle.std.specs.List.{list_all, slice_get}
use Rattle.std.specs.declared.option.Option.TheVariants.{None, Some}
use Rattle.cp_model.specs.Place.{in_target}
use Rattle.cp_model.specs.Tree.{Tree}
use Rattle.cp_model.specs.History.{State}
use Rattle.cp_model.specs.Answers.{records}
use Rattle.cp_model.specs.declared.kind.Kind.{Kind}
use Rattle.cp_model.specs.declared.record.Record.{Record}
use Rattle.cp_model.specs.Changes.{goes_before, records_at, rises, is_between}
use Rattle.cp_model.proofs.Passing.{and_true, and_both}
use Rattle.cp_model.proofs.Rising.{records-rise}
use Rattle.cp_query.specs.Asked.{IsCommitted}
use Rattle.cp_query.specs.Kept.{records_upto}
use Rattle.cp_query.specs.Rows.{comes_next, with_next}
use Rattle.cp_query.proofs.Stepwise.{asked-step, asked-all, none-after}

-- ---- parts of rows that rise

rises-tail : (r : Record) (rs : List Record) → rises (r ∷ rs) ≡ true → rises rs ≡ true
rises-tail r [] h = refl
rises-tail r (s ∷ rs) h = (and_true (goes_before r s) (rises (s ∷ rs)) h).1

rises-front : (rs qs : List Record) → rises (rs ++ qs) ≡ true → rises rs ≡ true
rises-front [] qs h = refl
rises-front (r ∷ []) qs h = refl
rises-front (r ∷ s ∷ rs) qs h = let b = and_true (goes_before r s) (rises (s ∷ (rs ++ qs))) h in and_both (goes_before r s) (rises (s ∷ rs)) b.0 (rises-front (s ∷ rs) qs b.1)

rises-back : (rs qs : List Record) → rises (rs ++ qs) ≡ true → rises qs ≡ true
rises-back [] qs h = h
rises-back (r ∷ rs) qs h = rises-back rs qs (rises-tail r (rs ++ qs) h)

-- ---- one row more

rises-next : (rs : List Record) (next : Record) → rises rs ≡ true → comes_next rs next ≡ true → rises (rs ++ next ∷ []) ≡ true
rises-next [] next h c = refl
rises-next (r ∷ []) next h c = and_both (goes_before r next) true c refl
rises-next (r ∷ s ∷ rs) next h c = let b = and_true (goes_before r s) (rises (s ∷ rs)) h in and_both (goes_before r s) (rises (s ∷ (rs ++ next ∷ []))) b.0 (rises-next (s ∷ rs) next b.1 c)

next-comes : (rs : List Record) (next : Record) (qs : List Record) → rises (rs ++ next ∷ qs) ≡ true → comes_next rs next ≡ true
next-comes [] next qs h = refl
next-comes (r ∷ []) next qs h = (and_true (goes_before r next) (rises (next ∷ qs)) h).0
next-comes (r ∷ s ∷ rs) next qs h = next-comes (s ∷ rs) next qs (and_true (goes_before r s) (rises (s ∷ (rs ++ next ∷ qs))) h).1

rises-with : (rs : List Record) (next : Record) → rises rs ≡ true → rises (with_next rs next) ≡ true
rises-with rs next h =
    elim (comes_next rs next) as (λ b. comes_next rs next ≡ b → rises (if b then rs ++ next ∷ [] else rs) ≡ true) [
      | true ↦ λ c. rises-next rs next h c
      | false ↦ λ _. h
    ] refl

-- ---- many rows

-- what is taken of any rows rises
pub taken-rise : (rs qs : List Record) → rises rs ≡ true → rises (fold with_next rs qs) ≡ true
taken-rise rs [] h = h
taken-rise rs (q ∷ qs) h = taken-rise (with_next rs q) qs (rises-with rs q h)

-- of rows that rise all are taken
taken-all : (rs qs : List Record) → rises (rs ++ qs) ≡ true → fold with_next rs qs ≡ rs ++ qs
taken-all rs [] h = sym (append-nil rs)
taken-all rs (q ∷ qs) h =
    let step : rs ++ q ∷ qs ≡ (rs ++ q ∷ []) ++ qs = sym (append_assoc rs (q ∷ []) qs) in
    ap (λ b. fold with_next (if b then rs ++ q ∷ [] else rs) qs) (next-comes rs q qs h)
    ∙ taken-all (rs ++ q ∷ []) qs (ap rises (sym step) ∙ h)
    ∙ sym step

-- the rows of one step more
pub taken-more : (rs : List Record) (n : ℕ) (old new : List Record) → old ≡ fold with_next [] (records_upto rs n) → new ≡ fold with_next old (records_at rs (n + 1)) → new ≡ fold with_next [] (records_upto rs (n + 1))
unfolding records_upto
taken-more rs n old new o h =
    let e : n + 1 ≡ suc n = omega arith in
    h ∙ ap (λ xs. fold with_next xs (records_at rs (n + 1))) o
    ∙ sym (fold-append with_next [] (records_upto rs n) (records_at rs (n + 1)))
    ∙ ap (λ t. fold with_next [] (records_upto rs n ++ records_at rs t)) e
    ∙ ap (λ t. fold with_next [] (records_upto rs t)) (sym e)

-- before the first step
pub taken-none : (rs items : List Record) → items ≡ [] → items ≡ fold with_next [] (records_upto rs 0)
unfolding records_upto
taken-none rs items e = e

-- ---- the last row

-- what comes after the last row
pub next-last : (rs : List Record) (r next : Record) → slice_get rs (length rs - 1) ≡ Some r → comes_next rs next ≡ goes_before r next
next-last [] r next h = absurd (cc)
next-last (x ∷ []) r next h = let e : x ≡ r = cc in ap (λ y. goes_before y next) e
next-last (x ∷ y ∷ rs) r next h =
    let e : length (x ∷ y ∷ rs) - 1 ≡ suc (length (y ∷ rs) - 1) = omega arith in
    next-last (y ∷ rs) r next (ap (slice_get (x ∷ y ∷ rs)) (sym e) ∙ h)

-- without a last row all do
pub next-first : (rs : List Record) (next : Record) → slice_get rs (length rs - 1) ≡ None → comes_next rs next ≡ true
next-first [] next h = refl
next-first (x ∷ []) next h = absurd (cc)
next-first (x ∷ y ∷ rs) next h =
    let e : length (x ∷ y ∷ rs) - 1 ≡ suc (length (y ∷ rs) - 1) = omega arith in
    next-first (y ∷ rs) next (ap (slice_get (x ∷ y ∷ rs)) (sym e) ∙ h)

-- ---- the rows of a history

upto-rise : (rs : List Record) (n m : ℕ) → m ≤ n → rises (records_upto rs n) ≡ true → rises (records_upto rs m) ≡ true
unfolding records_upto
upto-rise rs zero m l h = let e : zero ≡ m = omega (arith, l) in subst (λ k. rises (records_upto rs k) ≡ true) e h
upto-rise rs (suc n) m l h =
    elim (nat_lt m (suc n)) as (λ b. nat_lt m (suc n) ≡ b → rises (records_upto rs m) ≡ true) [
      | true ↦ λ e. upto-rise rs n m (let k : m < suc n = grind (arith, nat_tests) in omega (arith, k)) (rises-front (records_upto rs n) (records_at rs (suc n)) h)
      | false ↦ λ e. (let k : suc n ≡ m = (let j : suc n ≤ m = grind (arith, nat_tests) in omega (arith, j, l)) in subst (λ i. rises (records_upto rs i) ≡ true) k h)
    ] refl

no-first : (rs : List Record) (n : ℕ) → list_all (is_between 0 n) rs ≡ true → records_at rs 0 ≡ []
unfolding records_at
no-first [] n h = refl
no-first (r ∷ rs) n h =
    let b = and_true (is_between 0 n r) (list_all (is_between 0 n) rs) h in
    let c = and_true (in_target r.loc && nat_lt 0 r.tid) (nat_lt r.tid (n + 1)) b.0 in
    let later : nat_lt 0 r.tid ≡ true = (and_true (in_target r.loc) (nat_lt 0 r.tid) c.0).1 in
    let other : (r.tid == 0) ≡ false = grind (arith, nat_tests) in
    ap (λ (x : Bool). if x then r ∷ filter (λ (s : Record). s.tid == 0) rs else filter (λ (s : Record). s.tid == 0) rs) other ∙ no-first rs n b.1

-- the rows of a step within those of all
step-rise : (rs : List Record) (n u : ℕ) → u < n → rises (records_upto rs n) ≡ true → rises (records_at rs (suc u)) ≡ true
unfolding records_upto
step-rise rs n u l h = rises-back (records_upto rs u) (records_at rs (suc u)) (upto-rise rs n (suc u) l h)

module _ (k : Kind) (n : ℕ) (rs : List Record) (t : Tree) (s : State) (c : IsCommitted k n rs t s) where
  all-rise : rises (records_upto rs n) ≡ true
  all-rise = ap rises (asked-all k n rs t s c) ∙ (records-rise c.history s c.legal c.replayed).rise

  at-rise : (u : ℕ) → rises (records_at rs u) ≡ true
  at-rise zero = ap rises (no-first rs s.now (ap (list_all (is_between 0 s.now)) (sym c.rows) ∙ (records-rise c.history s c.legal c.replayed).between))
  at-rise (suc u) =
      elim (nat_lt u n) as (λ b. nat_lt u n ≡ b → rises (records_at rs (suc u)) ≡ true) [
        | true ↦ λ e. step-rise rs n u (grind (arith, nat_tests)) all-rise
        | false ↦ λ e. ap rises (none-after k n rs t s c (suc u) (let j : n ≤ u = grind (arith, nat_tests) in omega (arith, j)))
      ] refl

  -- the records of one step are taken as they are
  pub taken-step : (u : ℕ) → fold with_next [] (records_at rs u) ≡ records s (Some u)
  taken-step u = taken-all [] (records_at rs u) (at-rise u) ∙ asked-step k n rs t s c u

  -- and those of all steps
  pub taken-records : fold with_next [] (records_upto rs n) ≡ records s None
  taken-records = taken-all [] (records_upto rs n) all-rise ∙ asked-all k n rs t s c
