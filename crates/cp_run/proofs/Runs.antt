-- Run after run of an order.
use Rattle.std.proofs.Common.{arith, ◌≡◌, ◌≤◌, ◌<◌, ◌+◌, ◌*◌, ◌^◌, ◌∙◌, ◌==◌, inl, inr, ap, sym, refl, subst, ℕ, List, [], ◌∷◌, ◌++◌, length, take, drop, get_or, Bool, true, false, take_all, take-append-drop, length-append, add-mul, append-nil, Option, None, Result, Ok, Err, IfOk}
use Rattle.std.specs.List.{AllByRecursion, filter}
use Rattle.std.proofs.lemmas.List.{take_more}
use Rattle.std.proofs.lemmas.List.Concat.{flat_map-append}
use Rattle.cp_page.specs.declared.row.PageRow.{PageRow}
use Rattle.cp_page.proofs.Firsts.{case_of}
use Rattle.cp_run.specs.Answers.{later, IsGreatest}
use Rattle.cp_run.specs.Holding.{run_rows, IsRunOfRows}
use Rattle.cp_run.specs.Looks.{Looks}
use Rattle.cp_run.specs.Searching.{IsWithinLog}
use Rattle.cp_run.specs.Sets.{of_order, runs_rows, AreRunsOfRows, IsWithinLogs, Fits, Fit}
use Rattle.cp_run.specs.declared.fault.RunFault.{RunFault}
use Rattle.cp_run.specs.declared.run.Run.{Run}
use Rattle.cp_run.proofs.Composing.{looks_few, looks_with}
use Rattle.cp_run.proofs.Members.{none_among}
use Rattle.cp_run.proofs.Rising.{greatest_of_both}

module _ {X : Type 0} where
  pub filter_append : (p : X → Bool) (xs ys : List X) → filter p (xs ++ ys) ≡ filter p xs ++ filter p ys
  filter_append p [] ys = refl
  filter_append p (x ∷ xs) ys = elim (case_of (p x)) [
    | inl passes ↦ rw passes (ap (λ l. x ∷ l) (filter_append p xs ys))
    | inr fails ↦ rw fails (filter_append p xs ys)
  ]

  module _ (P : X → Type 0) where
    pub all_left : (xs ys : List X) → AllByRecursion P (xs ++ ys) → AllByRecursion P xs
    all_left [] ys all = tt
    all_left (x ∷ xs) ys all = (all.0, all_left xs ys all.1)

    pub all_right : (xs ys : List X) → AllByRecursion P (xs ++ ys) → AllByRecursion P ys
    all_right [] ys all = all
    all_right (x ∷ xs) ys all = all_right xs ys all.1

    pub all_both : (xs ys : List X) → AllByRecursion P xs → AllByRecursion P ys → AllByRecursion P (xs ++ ys)
    all_both [] ys one two = two
    all_both (x ∷ xs) ys one two = (one.0, all_both xs ys one.1 two)

    pub all_at : (xs : List X) (i : ℕ) (d : X) → i < length xs → AllByRecursion P xs → P (get_or xs i d)
    all_at xs i d l all =
        let split = all_right (take i xs) (get_or xs i d ∷ []) (subst (AllByRecursion P) (take_more xs i d l) (all_left (take (i + 1) xs) (drop (i + 1) xs) (subst (AllByRecursion P) (sym (take-append-drop (i + 1) xs)) all))) in
        split.0

module _ (order : ℕ) where
  -- a run is of the order, or isn't
  pub of_this : (r : Run) → (r.order == order) ≡ true → of_order order (r ∷ []) ≡ r ∷ []
  of_this r is = rw is

  pub of_other : (r : Run) → (r.order == order) ≡ false → of_order order (r ∷ []) ≡ []
  of_other r is = rw is

  module _ (runs : List Run) (i : ℕ) (d : Run) (l : i < length runs) where
    -- one run more
    pub next_of : of_order order (take (i + 1) runs) ≡ of_order order (take i runs) ++ of_order order (get_or runs i d ∷ [])
    next_of = ap (of_order order) (take_more runs i d l) ∙ filter_append (λ r. r.order == order) (take i runs) (get_or runs i d ∷ [])

    -- this run, those before it and those after it
    pub parts_of : of_order order runs ≡ (of_order order (take i runs) ++ of_order order (get_or runs i d ∷ [])) ++ of_order order (drop (i + 1) runs)
    parts_of =
        ap (of_order order) (sym (take-append-drop (i + 1) runs))
        ∙ filter_append (λ r. r.order == order) (take (i + 1) runs) (drop (i + 1) runs)
        ∙ ap (λ l. l ++ of_order order (drop (i + 1) runs)) next_of

-- ---- looks

pub within_logs : (xs ys : List Run) (a b : ℕ) → IsWithinLogs xs a → IsWithinLogs ys b → IsWithinLogs (xs ++ ys) (b + a)
within_logs xs ys a b one two n small =
    let f = one n (all_left (λ r. r.pages ≤ 2 ^ n) xs ys small) in
    let g = two n (all_right (λ r. r.pages ≤ 2 ^ n) xs ys small) in
    let both : length (xs ++ ys) * (2 + n) ≡ length xs * (2 + n) + length ys * (2 + n) = ap (λ k. k * (2 + n)) (length-append xs ys) ∙ add-mul (length xs) (length ys) (2 + n) in
    omega (arith, f, g, both)

pub within_more : (xs ys : List Run) (a : ℕ) → IsWithinLogs xs a → IsWithinLogs (xs ++ ys) a
within_more xs ys a one n small =
    let f = one n (all_left (λ r. r.pages ≤ 2 ^ n) xs ys small) in
    let both : length (xs ++ ys) * (2 + n) ≡ length xs * (2 + n) + length ys * (2 + n) = ap (λ k. k * (2 + n)) (length-append xs ys) ∙ add-mul (length xs) (length ys) (2 + n) in
    omega (arith, f, both)

pub within_one : (order : ℕ) (r : Run) (looks : ℕ) → (r.order == order) ≡ true → IsWithinLog 2 r.pages looks → IsWithinLogs (of_order order (r ∷ [])) looks
within_one order r looks is few = subst (λ l. IsWithinLogs l looks) (sym (of_this order r is)) (λ n small. let f = few n small.0 in omega (arith, f))

pub within_none : (runs : List Run) → IsWithinLogs runs 0
within_none runs n small = omega arith

module _ (order : ℕ) (runs : List Run) (i : ℕ) (d : Run) (l : i < length runs) where
  pub with_next : (a b : ℕ) → IsWithinLogs (of_order order (take i runs)) a → IsWithinLogs (of_order order (get_or runs i d ∷ [])) b → IsWithinLogs (of_order order (take (i + 1) runs)) (b + a)
  with_next a b one two = subst (λ (l : List Run). IsWithinLogs l (b + a)) (sym (next_of order runs i d l)) (within_logs (of_order order (take i runs)) (of_order order (get_or runs i d ∷ [])) a b one two)

  pub with_last : (a b : ℕ) → IsWithinLogs (of_order order (take i runs)) a → IsWithinLogs (of_order order (get_or runs i d ∷ [])) b → IsWithinLogs (of_order order runs) (b + a)
  with_last a b one two =
      subst (λ (l : List Run). IsWithinLogs l (b + a)) (sym (parts_of order runs i d l))
      (within_more (of_order order (take i runs) ++ of_order order (get_or runs i d ∷ [])) (of_order order (drop (i + 1) runs)) (b + a)
      (within_logs (of_order order (take i runs)) (of_order order (get_or runs i d ∷ [])) a b one two))

-- ---- rows

-- no row is the greatest of none
pub none_greatest : (content key : List ℕ) (runs : List Run) → runs ≡ [] → IsGreatest key (runs_rows content runs) None
none_greatest content key [] none = λ r h. absurd (none_among [] r refl h)
none_greatest content key (x ∷ runs) none = cc

-- the greatest of a run's rows is that of the run alone
pub one_greatest : (content key : List ℕ) (runs : List Run) (r : Run) (o : Option PageRow) → runs ≡ r ∷ [] → (IsRunOfRows content r → IsGreatest key (run_rows content r) o) → AreRunsOfRows content runs → IsGreatest key (runs_rows content runs) o
one_greatest content key runs r o is greatest are =
    let each : AreRunsOfRows content (r ∷ []) = subst (AreRunsOfRows content) is are in
    let rows : runs_rows content runs ≡ run_rows content r = ap (runs_rows content) is ∙ append-nil (run_rows content r) in
    subst (λ (l : List PageRow). IsGreatest key l o) (sym rows) (greatest each.0)

-- the best row after one run more
pub row_next : (content now key : List ℕ) (order : ℕ) (runs : List Run) (i : ℕ) (d : Run) (best found after : Option PageRow) → now ≡ content → i < length runs
    → (AreRunsOfRows content (of_order order (take i runs)) → IsGreatest key (runs_rows content (of_order order (take i runs))) best)
    → (AreRunsOfRows now (of_order order (get_or runs i d ∷ [])) → IsGreatest key (runs_rows now (of_order order (get_or runs i d ∷ []))) found)
    → after ≡ later best found
    → AreRunsOfRows content (of_order order (take (i + 1) runs)) → IsGreatest key (runs_rows content (of_order order (take (i + 1) runs))) after
row_next content now key order runs i d best found after same l before here is are =
    let xs = of_order order (take i runs) in
    let ys = of_order order (get_or runs i d ∷ []) in
    let next = next_of order runs i d l in
    let all : AreRunsOfRows content (xs ++ ys) = subst (AreRunsOfRows content) next are in
    let one = before (all_left (IsRunOfRows content) xs ys all) in
    let two = subst (λ f. IsGreatest key (runs_rows f ys) found) same (here (subst (λ f. AreRunsOfRows f ys) (sym same) (all_right (IsRunOfRows content) xs ys all))) in
    let both = greatest_of_both key (runs_rows content xs) (runs_rows content ys) best found one two in
    let rows : runs_rows content (of_order order (take (i + 1) runs)) ≡ runs_rows content xs ++ runs_rows content ys = ap (runs_rows content) next ∙ flat_map-append (run_rows content) xs ys in
    subst (λ (l : List PageRow). IsGreatest key l after) (sym rows) (subst (IsGreatest key (runs_rows content xs ++ runs_rows content ys)) (sym is) both)

-- after the last run these are all
pub all_taken : (order : ℕ) (runs : List Run) (i : ℕ) → length runs ≤ i → of_order order (take i runs) ≡ of_order order runs
all_taken order runs i l = ap (of_order order) (take_all i runs l)

pub fits_at : (runs : List Run) (i : ℕ) (d : Run) → i < length runs → Fit runs → Fits (get_or runs i d)
fits_at runs i d l fit = all_at Fits runs i d l fit

pub row_end : (content key : List ℕ) (order : ℕ) (runs : List Run) (i : ℕ) (best : Option PageRow) → length runs ≤ i
    → (AreRunsOfRows content (of_order order (take i runs)) → IsGreatest key (runs_rows content (of_order order (take i runs))) best)
    → AreRunsOfRows content (of_order order runs) → IsGreatest key (runs_rows content (of_order order runs)) best
row_end content key order runs i best l before =
    subst (λ (rs : List Run). AreRunsOfRows content rs → IsGreatest key (runs_rows content rs) best) (all_taken order runs i l) before

pub looks_end : {T U E : Type 0} (order : ℕ) (runs : List Run) (i n r t : ℕ) (a c : List ℕ) (x : T) (y : U) → length runs ≤ i
    → Looks {T = T} {E = E} n (IsWithinLogs (of_order order (take i runs))) a c r t (Ok x) → Looks {T = U} {E = E} n (IsWithinLogs (of_order order runs)) a c r t (Ok y)
looks_end order runs i n r t a c x y l before =
    looks_with (IsWithinLogs (of_order order runs)) n r t a c x y
    (looks_few (IsWithinLogs (of_order order (take i runs))) (IsWithinLogs (of_order order runs)) n r t a c (Ok x) (λ k few. subst (λ (rs : List Run). IsWithinLogs rs k) (all_taken order runs i l) few) before)

pub fit_more : (runs : List Run) (i : ℕ) (d : Run) → i < length runs → Fit (take i runs) → Fits (get_or runs i d) → Fit (take (i + 1) runs)
fit_more runs i d l before here = subst Fit (sym (take_more runs i d l)) (all_both Fits (take i runs) (get_or runs i d ∷ []) before (here, tt))

pub fit_all : (runs : List Run) (i : ℕ) → length runs ≤ i → Fit (take i runs) → Fit runs
fit_all runs i l before = subst Fit (take_all i runs l) before

-- what a run answers is what the list of this run alone does
pub one_greatest_of : (content key : List ℕ) (runs : List Run) (r : Run) (result : Result (Option PageRow) RunFault) → runs ≡ r ∷ [] → (IsRunOfRows content r → IfOk result (IsGreatest key (run_rows content r))) → AreRunsOfRows content runs
    → IfOk result (IsGreatest key (runs_rows content runs))
one_greatest_of content key runs r (Ok o) is greatest are = one_greatest content key runs r o is greatest are
one_greatest_of content key runs r (Err e) is greatest are = tt
