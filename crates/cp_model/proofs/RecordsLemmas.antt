-- The records of a history as the rows of its steps.
use Rattle.std.specs.Prelude.{ℕ, ◌+◌, ◌<◌, ◌≤◌, ◌≡◌, ◌==◌, Bool, true, false, List, [], ◌∷◌, ◌++◌, refl, if◌then◌else◌}
use Rattle.std.proofs.Common.{ap, ◌∙◌, arith}
use Rattle.std.proofs.lemmas.List.{append-nil}
use Rattle.std.proofs.lemmas.List.Elements.{filter_map-append}
use Rattle.std.proofs.lemmas.Bool.Decides.{nat_tests}
use Rattle.std.specs.List.{filter_map, cons_option}
use Rattle.std.specs.declared.option.Option.TheVariants.{None, Some}
use Rattle.cp_model.specs.declared.record.Record.{Record}
use Rattle.cp_model.specs.Place.{Path}
use Rattle.cp_model.specs.Rows.{Mark, I, C, D, K}
use Rattle.cp_model.specs.History.{record_of, with_tid}
use Rattle.cp_model.specs.Records.{row_in_step, rows_at}

itself_eq : (t : ℕ) → (t == t) ≡ true
itself_eq t = grind (arith, nat_tests)

not_below : (t u : ℕ) → t < u → (u == t) ≡ false
not_below t u h = grind (arith, nat_tests)

not_above : (t u : ℕ) → t < u → (t == u) ≡ false
not_above t u h = grind (arith, nat_tests)

row_by : (b : Bool) (t : ℕ) (p : Path) (m : Mark) → (t == t) ≡ b → row_in_step t (record_of t p m) ≡ (if b then Some (p, m) else None)
row_by b t p I e = ap (λ c. if c then Some (p, I) else None) e
row_by b t p (C q) e = ap (λ c. if c then Some (p, C q) else None) e
row_by b t p D e = ap (λ c. if c then Some (p, D) else None) e
row_by b t p K e = ap (λ c. if c then Some (p, K) else None) e

row_other : (t u : ℕ) (p : Path) (m : Mark) → (u == t) ≡ false → row_in_step t (record_of u p m) ≡ None
row_other t u p I e = ap (λ c. if c then Some (p, I) else None) e
row_other t u p (C q) e = ap (λ c. if c then Some (p, C q) else None) e
row_other t u p D e = ap (λ c. if c then Some (p, D) else None) e
row_other t u p K e = ap (λ c. if c then Some (p, K) else None) e

-- the records of a step are its rows
pub rows_at-own : (t : ℕ) (rows : List (Path × Mark)) → rows_at (with_tid t rows) t ≡ rows
unfolding rows_at
rows_at-own t [] = refl
rows_at-own t (r ∷ rows) =
    ap (λ o. cons_option o (filter_map (row_in_step t) (with_tid t rows))) (row_by true t r.0 r.1 (itself_eq t)) ∙ ap (λ rs. r ∷ rs) (rows_at-own t rows)

-- the records of another step are none of its rows
pub rows_at-other : (t u : ℕ) (rows : List (Path × Mark)) → (u == t) ≡ false → rows_at (with_tid u rows) t ≡ []
unfolding rows_at
rows_at-other t u [] e = refl
rows_at-other t u (r ∷ rows) e =
    ap (λ o. cons_option o (filter_map (row_in_step t) (with_tid u rows))) (row_other t u r.0 r.1 e) ∙ rows_at-other t u rows e

-- the rows of a step among more records
pub rows_at-append : (rs qs : List Record) (t : ℕ) → rows_at (rs ++ qs) t ≡ rows_at rs t ++ rows_at qs t
unfolding rows_at
rows_at-append rs qs t = filter_map-append (row_in_step t) rs qs

-- records of a later step change no rows of the steps before
pub rows_before : (rs : List Record) (n : ℕ) (rows : List (Path × Mark)) (t : ℕ) → t ≤ n → rows_at (rs ++ with_tid (n + 1) rows) t ≡ rows_at rs t
rows_before rs n rows t h =
    rows_at-append rs (with_tid (n + 1) rows) t ∙ ap (λ xs. rows_at rs t ++ xs) (rows_at-other t (n + 1) rows (not_below t (n + 1) (omega arith))) ∙ append-nil (rows_at rs t)

-- the records of a new step are its rows
pub rows_now : (rs : List Record) (n : ℕ) (rows : List (Path × Mark)) → rows_at rs (n + 1) ≡ [] → rows_at (rs ++ with_tid (n + 1) rows) (n + 1) ≡ rows
rows_now rs n rows h = rows_at-append rs (with_tid (n + 1) rows) (n + 1) ∙ ap (λ xs. xs ++ rows_at (with_tid (n + 1) rows) (n + 1)) h ∙ rows_at-own (n + 1) rows

-- no records are of a step to come
pub rows_after : (rs : List Record) (n : ℕ) (rows : List (Path × Mark)) (t : ℕ) → n + 1 < t → rows_at rs t ≡ [] → rows_at (rs ++ with_tid (n + 1) rows) t ≡ []
rows_after rs n rows t h e =
    rows_at-append rs (with_tid (n + 1) rows) t ∙ ap (λ xs. xs ++ rows_at (with_tid (n + 1) rows) t) e ∙ rows_at-other t (n + 1) rows (not_above (n + 1) t h)
