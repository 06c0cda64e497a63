-- The records of rows by step, one after another.
use Rattle.std.proofs.Common.{arith, ℕ, suc, zero, ◌+◌, ◌<◌, ◌≤◌, ◌≡◌, ◌∙◌, ap, sym, refl, subst, List, [], ◌∷◌, ◌++◌, map, length, take, get_or}
use Rattle.std.specs.List.{AllByRecursion}
use Rattle.cp_format.specs.Spelled.{IsSpelled}
use Rattle.cp_model.specs.declared.record.Record.{Record}
use Rattle.cp_page.specs.Orders.{by_step}
use Rattle.cp_page.specs.declared.row.PageRow.{PageRow}

at_next : (rs : List Record) (i : ℕ) (row : PageRow) → AllByRecursion IsSpelled rs → i < length (map by_step rs) → row ≡ get_or (map by_step rs) i row → (r : Record) × IsSpelled r × (by_step r ≡ row) × (take (suc i) rs ≡ take i rs ++ r ∷ [])
at_next [] i row all in_range e = absurd (omega (arith, in_range))
at_next (r ∷ rs) zero row all in_range e = (r, all.0, sym e, refl)
at_next (r ∷ rs) (suc i) row all in_range e = let on = at_next rs i row all.1 (omega (arith, in_range)) e in (on.0, on.1, on.2, ap (λ l. r ∷ l) on.3)

-- the next row is of the next record
pub record-next : (rows : List PageRow) (rs : List Record) (i : ℕ) (row : PageRow) → rows ≡ map by_step rs → AllByRecursion IsSpelled rs → i < length rows → row ≡ get_or rows i row
    → (r : Record) × IsSpelled r × (by_step r ≡ row) × (take (i + 1) rs ≡ take i rs ++ r ∷ [])
record-next rows rs i row is all in_range e =
    let on = at_next rs i row all (subst (λ l. i < length l) is in_range) (subst (λ l. row ≡ get_or l i row) is e) in
    let s : i + 1 ≡ suc i = omega arith in
    (on.0, on.1, on.2, ap (λ n. take n rs) s ∙ on.3)

take_all : (rs : List Record) (i : ℕ) → length (map by_step rs) ≤ i → take i rs ≡ rs
take_all [] zero le = refl
take_all [] (suc i) le = refl
take_all (r ∷ rs) zero le = absurd (omega (arith, le))
take_all (r ∷ rs) (suc i) le = ap (λ l. r ∷ l) (take_all rs i (omega (arith, le)))

-- at the end all records are there
pub records-all : (rows : List PageRow) (rs : List Record) (i : ℕ) (items : List Record) → rows ≡ map by_step rs → length rows ≤ i → items ≡ take i rs → items ≡ rs
records-all rows rs i items is le e = e ∙ take_all rs i (subst (λ l. length l ≤ i) is le)
