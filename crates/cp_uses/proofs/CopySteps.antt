-- The steps of copies among rows, and those after one of them.
use Rattle.std.specs.Prelude.{ℕ, zero, suc, ◌+◌, ◌≡◌, ◌≤◌, ◌<◌, ◌==◌, ◌&&◌, ◌||◌, Bool, true, false, cond, List, [], ◌∷◌, ◌++◌, length, filter, drop, nat_lt, refl, if◌then◌else◌}
use Rattle.std.proofs.Common.{sym, ap, subst, ◌∙◌, arith, append_assoc, length-append, get_or, leb, leb-true, leb-false}
use Rattle.std.specs.List.{slice_get, AllByRecursion, AllWithin}
use Rattle.std.specs.List.Sorted.{IsNonDecreasingBy, IsPartitionPoint}
use Rattle.std.proofs.lemmas.Bool.{and_parts}
use Rattle.std.proofs.lemmas.Option.{same_Some}
use Rattle.std.proofs.lemmas.Bool.Decides.{nat_tests}
use Rattle.std.specs.Option.{unwrap_or}
use Rattle.std.specs.Ordering.{is_lt}
use Rattle.cp_model.specs.Place.{path_cmp}
use Rattle.std.specs.declared.option.Option.TheVariants.{None, Some}
use Rattle.cp_path.specs.Text.{text_eq}
use Rattle.cp_model.specs.Changes.{rises, goes_before}
use Rattle.cp_model.specs.declared.record.Record.{Record}
use Rattle.cp_path.specs.declared.loc.Loc.{Loc}
use Rattle.std.specs.Map.{lookup}
use Rattle.std.specs.Option.{option_map}
use Rattle.std.specs.Prelude.{Result, Ok, Err, OnOk}
use Rattle.cp_store.specs.Index.{Index, is_key, entry_at, steps_at, StepNoted}
use Rattle.cp_store.specs.declared.index.Step.{Step}
use Rattle.cp_uses.specs.Sources.{source_key, source_of}
use Rattle.cp_uses.specs.Index.{has_key, has_source, copies_by, copy_steps, AreCopiesOf, AreStepsOf}

abbrev pub at_row : Record → ℕ → Step
at_row r n = record { tid = r.tid; row = n }

-- ---- one row more

abbrev and_step : Bool → List Step → Step → List Step
and_step b l s = if b then l ++ s ∷ [] else l

put_step : (b : Bool) (s : Step) (l : List Step) (t : Step) → s ∷ and_step b l t ≡ and_step b (s ∷ l) t
put_step true s l t = refl
put_step false s l t = refl

steps-more : (key : List ℕ) (n : ℕ) (rs : List Record) (r : Record) → copy_steps key n (rs ++ r ∷ []) ≡ and_step (has_source key r) (copy_steps key n rs) (at_row r (n + length rs))
steps-more key n [] r = elim (has_source key r) as (λ b. (if b then at_row r n ∷ [] else []) ≡ and_step b [] (at_row r (n + 0))) [ true ↦ (let same : n ≡ n + 0 = omega arith in ap (λ (m : ℕ). at_row r m ∷ []) same) | false ↦ refl ]
steps-more key n (x ∷ rs) r =
    let sum : n + 1 + length rs ≡ n + suc (length rs) = omega arith in
    let more = steps-more key (n + 1) rs r ∙ ap (λ m. and_step (has_source key r) (copy_steps key (n + 1) rs) (at_row r m)) sum in
    elim (has_source key x) as (λ b. (if b then at_row x n ∷ copy_steps key (n + 1) (rs ++ r ∷ []) else copy_steps key (n + 1) (rs ++ r ∷ [])) ≡ and_step (has_source key r) (if b then at_row x n ∷ copy_steps key (n + 1) rs else copy_steps key (n + 1) rs) (at_row r (n + suc (length rs)))) [
      | true ↦ ap (λ (l : List Step). at_row x n ∷ l) more ∙ put_step (has_source key r) (at_row x n) (copy_steps key (n + 1) rs) (at_row r (n + suc (length rs)))
      | false ↦ more
    ]

-- a row that is no copy adds nothing
pub copies-same : (rs : List Record) (r : Record) (m : Index) → None ≡ source_of r → AreCopiesOf rs m → AreCopiesOf (rs ++ r ∷ []) m
copies-same rs r m e h key = h key ∙ sym (steps-more key 0 rs r ∙ ap (λ o. and_step (has_key key o) (copy_steps key 0 rs) (at_row r (0 + length rs))) (sym e))

-- a copy adds its step at the key of its source
pub copies-more : (rs : List Record) (r : Record) (q : Loc) (old new : Index) (key : List ℕ) (n : ℕ) → Some q ≡ source_of r → key ≡ source_key q → n ≡ length rs → StepNoted old new key (at_row r n) → AreCopiesOf rs old → AreCopiesOf (rs ++ r ∷ []) new
copies-more rs r q old new key n e k z noted h other =
    let none_more : 0 + length rs ≡ length rs = omega arith in
    let number : n ≡ 0 + length rs = z ∙ sym none_more in
    ap (λ o. unwrap_or o []) (noted other)
    ∙ by (text_eq other key)
    ∙ ap (λ b. and_step b (steps_at old other) (at_row r n)) (ap (text_eq other) k ∙ ap (has_key other) e)
    ∙ ap (λ l. and_step (has_source other r) l (at_row r n)) (h other)
    ∙ ap (λ m. and_step (has_source other r) (copy_steps other 0 rs) (at_row r m)) number
    ∙ sym (steps-more other 0 rs r)
  where
    by : (b : Bool) → unwrap_or (if b then Some (steps_at old other ++ at_row r n ∷ []) else entry_at old other) [] ≡ and_step b (steps_at old other) (at_row r n)
    by true = refl
    by false = refl

-- ---- the rows of steps

get_at : {X : Type 0} (xs : List X) (y : X) (ys : List X) → slice_get (xs ++ y ∷ ys) (length xs) ≡ Some y
get_at [] y ys = refl
get_at (x ∷ xs) y ys = get_at xs y ys

rows-told : (key : List ℕ) (t n : ℕ) (pre rs : List Record) → n ≡ length pre → AreStepsOf (pre ++ rs) (filter (λ s. nat_lt t s.tid) (copy_steps key n rs)) (copies_by rs key t)
rows-told key t n pre [] e = tt
rows-told key t n pre (r ∷ rs) e =
    let size : n + 1 ≡ length (pre ++ r ∷ []) = (let z : length (pre ++ r ∷ []) ≡ length pre + 1 = length-append pre (r ∷ []) in omega (arith, z, e)) in
    let next : AreStepsOf (pre ++ r ∷ rs) (filter (λ s. nat_lt t s.tid) (copy_steps key (n + 1) rs)) (copies_by rs key t) =
    subst (λ l. AreStepsOf l (filter (λ s. nat_lt t s.tid) (copy_steps key (n + 1) rs)) (copies_by rs key t)) (append_assoc pre (r ∷ []) rs) (rows-told key t (n + 1) (pre ++ r ∷ []) rs size) in
    let here : slice_get (pre ++ r ∷ rs) n ≡ Some r = ap (slice_get (pre ++ r ∷ rs)) e ∙ get_at pre r rs in
    elim (has_source key r) as (λ b. AreStepsOf (pre ++ r ∷ rs) (filter (λ s. nat_lt t s.tid) (if b then at_row r n ∷ copy_steps key (n + 1) rs else copy_steps key (n + 1) rs)) (cond (b && nat_lt t r.tid) (r ∷ copies_by rs key t) (copies_by rs key t))) [
      | false ↦ next
      | true ↦ elim (nat_lt t r.tid) as (λ b. AreStepsOf (pre ++ r ∷ rs) (cond b (at_row r n ∷ filter (λ s. nat_lt t s.tid) (copy_steps key (n + 1) rs)) (filter (λ s. nat_lt t s.tid) (copy_steps key (n + 1) rs))) (cond b (r ∷ copies_by rs key t) (copies_by rs key t))) [
        | true ↦ (here, next)
        | false ↦ next
      ]
    ]

-- the steps after t at a key are those of the copies after t by the key
pub rows-of-steps : (rs : List Record) (key : List ℕ) (t : ℕ) (steps : List Step) → steps ≡ copy_steps key 0 rs → AreStepsOf rs (filter (λ s. nat_lt t s.tid) steps) (copies_by rs key t)
rows-of-steps rs key t steps e = subst (λ l. AreStepsOf rs (filter (λ s. nat_lt t s.tid) l) (copies_by rs key t)) (sym e) (rows-told key t 0 [] rs refl)

-- there are as many
pub steps-length : (rs : List Record) (ss : List Step) (xs : List Record) → AreStepsOf rs ss xs → length ss ≡ length xs
steps-length rs [] [] h = refl
steps-length rs [] (x ∷ xs) h = absurd h
steps-length rs (s ∷ ss) [] h = absurd h
steps-length rs (s ∷ ss) (x ∷ xs) h = ap suc (steps-length rs ss xs h.1)

-- the row of each
step-row : (rs : List Record) (ss : List Step) (xs : List Record) (i : ℕ) (d : Step) → AreStepsOf rs ss xs → i < length ss → (x : Record) × (slice_get rs (get_or ss i d).row ≡ Some x) × (x ≡ get_or xs i x)
step-row rs [] xs i d h l = absurd (omega (arith, l))
step-row rs (t ∷ ss) [] i d h l = absurd h
step-row rs (t ∷ ss) (x ∷ xs) zero d h l = (x, h.0, refl)
step-row rs (t ∷ ss) (x ∷ xs) (suc i) d h l = step-row rs ss xs i d h.1 (omega (arith, l))

got-within : {X : Type 0} (xs : List X) (i : ℕ) (x : X) → slice_get xs i ≡ Some x → i < length xs
got-within [] i x e = absurd (cc)
got-within (y ∷ xs) zero x e = omega arith
got-within (y ∷ xs) (suc i) x e = let l = got-within xs i x e in omega (arith, l)

module _ (rs : List Record) (ss : List Step) (xs : List Record) (i : ℕ) (d : Step) (h : AreStepsOf rs ss xs) (l : i < length ss) where
  -- its number is that of a row
  pub step-within : (get_or ss i d).row < length rs
  step-within = let x = step-row rs ss xs i d h l in got-within rs (get_or ss i d).row x.0 x.1

  -- and the row there is the one in its place
  pub step-is : (r : Record) → slice_get rs (get_or ss i d).row ≡ Some r → r ≡ get_or xs i r
  step-is r f = let x = step-row rs ss xs i d h l in subst (λ y. y ≡ get_or xs i y) (same_Some x.0 r (sym x.1 ∙ f)) x.2

-- ---- order

-- no Tid of these is less than t
abbrev AreFrom : ℕ → List Step → Type 0
AreFrom t steps = AllByRecursion (λ s. t ≤ s.tid) steps

before-le : (r s : Record) → goes_before r s ≡ true → r.tid ≤ s.tid
before-le r s = by (is_lt (path_cmp r.loc.path s.loc.path)) (nat_lt r.tid s.tid) refl
  where
    by : (c b : Bool) → nat_lt r.tid s.tid ≡ b → (b || ((r.tid == s.tid) && c)) ≡ true → r.tid ≤ s.tid
    by c true e h = let l : r.tid < s.tid = grind (arith, nat_tests) in omega (arith, l)
    by c false e h =
        let p = and_parts (r.tid == s.tid) c h in
        let z : (r.tid == s.tid) ≡ true = p.0 in
        let q : r.tid ≡ s.tid = grind (arith, nat_tests) in
        omega (arith, q)

rises-next : (r : Record) (rs : List Record) → rises (r ∷ rs) ≡ true → rises rs ≡ true
rises-next r [] h = refl
rises-next r (s ∷ rs) h = (and_parts (goes_before r s) (rises (s ∷ rs)) h).1

all-from : (key : List ℕ) (n t : ℕ) (r : Record) (rs : List Record) → t ≤ r.tid → rises (r ∷ rs) ≡ true → AreFrom t (copy_steps key n (r ∷ rs))
all-from key n t r [] l h = elim (has_source key r) as (λ b. AreFrom t (if b then at_row r n ∷ [] else [])) [ true ↦ (l, tt) | false ↦ tt ]
all-from key n t r (s ∷ rs) l h =
    let p = and_parts (goes_before r s) (rises (s ∷ rs)) h in
    let le = before-le r s p.0 in
    let rest = all-from key (n + 1) t s rs (omega (arith, l, le)) p.1 in
    elim (has_source key r) as (λ b. AreFrom t (if b then at_row r n ∷ copy_steps key (n + 1) (s ∷ rs) else copy_steps key (n + 1) (s ∷ rs))) [ true ↦ (l, rest) | false ↦ rest ]

from-next : (key : List ℕ) (n : ℕ) (r : Record) (rs : List Record) → rises (r ∷ rs) ≡ true → AreFrom r.tid (copy_steps key n rs)
from-next key n r [] h = tt
from-next key n r (s ∷ rs) h = let p = and_parts (goes_before r s) (rises (s ∷ rs)) h in all-from key n r.tid s rs (before-le r s p.0) p.1

from-at : (t : ℕ) (steps : List Step) (k : ℕ) (d : Step) → AreFrom t steps → k < length steps → t ≤ (get_or steps k d).tid
from-at t [] k d h l = absurd (omega (arith, l))
from-at t (s ∷ steps) zero d h l = h.0
from-at t (s ∷ steps) (suc k) d h l = from-at t steps k d h.1 (omega (arith, l))

order-more : (s : Step) (steps : List Step) → AreFrom s.tid steps → IsNonDecreasingBy (λ s. s.tid) steps → IsNonDecreasingBy (λ s. s.tid) (s ∷ steps)
order-more s steps h o zero zero d le lt = omega arith
order-more s steps h o zero (suc j) d le lt = from-at s.tid steps j d h (omega (arith, lt))
order-more s steps h o (suc i) zero d le lt = absurd (omega (arith, le))
order-more s steps h o (suc i) (suc j) d le lt = o i j d (omega (arith, le)) (omega (arith, lt))

-- the steps of copies among rows in order don't fall
pub steps-order : (key : List ℕ) (n : ℕ) (rs : List Record) → rises rs ≡ true → IsNonDecreasingBy (λ s. s.tid) (copy_steps key n rs)
steps-order key n [] h = λ i j d le lt. absurd (omega (arith, lt))
steps-order key n (r ∷ rs) h =
    let rest = steps-order key (n + 1) rs (rises-next r rs h) in
    elim (has_source key r) as (λ b. IsNonDecreasingBy (λ s. s.tid) (if b then at_row r n ∷ copy_steps key (n + 1) rs else copy_steps key (n + 1) rs)) [
      | true ↦ order-more (at_row r n) (copy_steps key (n + 1) rs) (from-next key (n + 1) r rs h) rest
      | false ↦ rest
    ]

-- ---- rows in order

-- no Tid of these is less than t
abbrev RowsFrom : ℕ → List Record → Type 0
RowsFrom t rows = AllByRecursion (λ r. t ≤ r.tid) rows

rows-all : (p : Record → Bool) (t : ℕ) (r : Record) (rs : List Record) → t ≤ r.tid → rises (r ∷ rs) ≡ true → RowsFrom t (filter p (r ∷ rs))
rows-all p t r [] l h = elim (p r) as (λ b. RowsFrom t (cond b (r ∷ []) [])) [ true ↦ (l, tt) | false ↦ tt ]
rows-all p t r (s ∷ rs) l h =
    let q = and_parts (goes_before r s) (rises (s ∷ rs)) h in
    let le = before-le r s q.0 in
    let rest = rows-all p t s rs (omega (arith, l, le)) q.1 in
    elim (p r) as (λ b. RowsFrom t (cond b (r ∷ filter p (s ∷ rs)) (filter p (s ∷ rs)))) [ true ↦ (l, rest) | false ↦ rest ]

rows-next : (p : Record → Bool) (r : Record) (rs : List Record) → rises (r ∷ rs) ≡ true → RowsFrom r.tid (filter p rs)
rows-next p r [] h = tt
rows-next p r (s ∷ rs) h = let q = and_parts (goes_before r s) (rises (s ∷ rs)) h in rows-all p r.tid s rs (before-le r s q.0) q.1

row-at : (t : ℕ) (rows : List Record) (k : ℕ) (d : Record) → RowsFrom t rows → k < length rows → t ≤ (get_or rows k d).tid
row-at t [] k d h l = absurd (omega (arith, l))
row-at t (r ∷ rows) zero d h l = h.0
row-at t (r ∷ rows) (suc k) d h l = row-at t rows k d h.1 (omega (arith, l))

row-order : (r : Record) (rows : List Record) → RowsFrom r.tid rows → IsNonDecreasingBy (λ r. r.tid) rows → IsNonDecreasingBy (λ r. r.tid) (r ∷ rows)
row-order r rows h o zero zero d le lt = omega arith
row-order r rows h o zero (suc j) d le lt = row-at r.tid rows j d h (omega (arith, lt))
row-order r rows h o (suc i) zero d le lt = absurd (omega (arith, le))
row-order r rows h o (suc i) (suc j) d le lt = o i j d (omega (arith, le)) (omega (arith, lt))

-- of rows in order, those that pass don't fall
pub rows-order : (p : Record → Bool) (rs : List Record) → rises rs ≡ true → IsNonDecreasingBy (λ r. r.tid) (filter p rs)
rows-order p [] h = λ i j d le lt. absurd (omega (arith, lt))
rows-order p (r ∷ rs) h =
    let rest = rows-order p rs (rises-next r rs h) in
    elim (p r) as (λ b. IsNonDecreasingBy (λ r. r.tid) (cond b (r ∷ filter p rs) (filter p rs))) [
      | true ↦ row-order r (filter p rs) (rows-next p r rs h) rest
      | false ↦ rest
    ]

-- what follows those up to t are those after t
pub steps-after : (steps : List Step) (t n : ℕ) → IsPartitionPoint (λ s. leb s.tid t ≡ true) (λ s. leb s.tid t ≡ false) steps n → drop n steps ≡ filter (λ s. nat_lt t s.tid) steps
steps-after [] t zero p = refl
steps-after [] t (suc n) p = refl
steps-after (s ∷ steps) t zero p =
    let l : leb s.tid t ≡ false = p.1 0 s (omega arith) (omega arith) in
    let a : nat_lt t s.tid ≡ true = (let z = leb-false s.tid t l in grind (arith, nat_tests)) in
    let rest : drop 0 steps ≡ filter (λ s. nat_lt t s.tid) steps = steps-after steps t 0 (none steps, λ i d a b. p.1 (suc i) d (omega arith) (omega (arith, b))) in
    ap (λ l. s ∷ l) rest ∙ ap (λ b. cond b (s ∷ filter (λ s. nat_lt t s.tid) steps) (filter (λ s. nat_lt t s.tid) steps)) (sym a)
  where
    none : (xs : List Step) → AllWithin (λ s. leb s.tid t ≡ true) xs 0 0
    none xs i d a b = absurd (omega (arith, b))
steps-after (s ∷ steps) t (suc n) p =
    let l : leb s.tid t ≡ true = p.0 0 s (omega arith) (omega arith) in
    let a : nat_lt t s.tid ≡ false = (let z = leb-true s.tid t l in grind (arith, nat_tests)) in
    steps-after steps t n (λ i d a b. p.0 (suc i) d (omega arith) (omega (arith, b)), λ i d a b. p.1 (suc i) d (omega (arith, a)) (omega (arith, b)))
    ∙ ap (λ b. cond b (s ∷ filter (λ s. nat_lt t s.tid) steps) (filter (λ s. nat_lt t s.tid) steps)) (sym a)

-- ---- the index

-- no rows, no copies
pub no-copies : (m : Index) → m.entries ≡ [] → AreCopiesOf [] m
unfolding entry_at
no-copies m e key = ap (λ es. unwrap_or (option_map (λ v. v.items) (lookup (is_key key) es)) []) e

-- what follows from what holds after Ok holds after Ok
pub on_ok-then : {A E P Q : Type 0} (r : Result A E) → (P → Q) → OnOk r P → OnOk r Q
on_ok-then (Ok x) f h = f h
on_ok-then (Err e) f h = tt
