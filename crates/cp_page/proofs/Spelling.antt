-- What is spelled is read.
use Rattle.std.proofs.Common.{arith, ◌≡◌, ◌/◌, ◌%◌, ◌∙◌, ◌==◌, ap, refl, ℕ, zero, suc, List, [], ◌∷◌, ◌++◌, append_assoc, true, false, length, replicate, length-append, Option, Some, None, nat_lt}
use Rattle.std.proofs.lemmas.List.{take_at, drop_at}
use Rattle.std.specs.List.{list_all}
use Rattle.std.specs.Option.{option_map}
use Rattle.cp_page.specs.Keys.{number_at}
use Rattle.cp_page.specs.Rows.{row_of, take_counted, value_after, take_row, is_after, row_on, and_rows, rows_from, rows_of}
use Rattle.cp_page.specs.Spelled.{counted, row_bytes, rows_bytes, RiseAfter, ReadsWhatIsSpelled}
use Rattle.cp_page.specs.declared.row.PageRow.{PageRow}

pub number_read : (n : ℕ) (rest : List ℕ) → number_at (n / 256 ∷ n % 256 ∷ rest) 0 ≡ n
number_read n rest = omega arith

not_short : (n : ℕ) → nat_lt (suc (suc n)) 2 ≡ false
not_short n = grind arith

enough : (b rest : List ℕ) → nat_lt (length (b ++ rest)) (length b) ≡ false
enough b rest = let h = length-append b rest in grind (arith, h)

counted_read : (b rest : List ℕ) → take_counted (counted b ++ rest) ≡ Some (b, rest)
counted_read b rest = rw (not_short (length (b ++ rest)), number_read (length b) (b ++ rest), enough b rest, take_at b rest (length b) refl, drop_at b rest (length b) refl)

row_read : (r : PageRow) (rest : List ℕ) → take_row (row_bytes r ++ rest) ≡ Some (r, rest)
row_read r rest =
    ap take_row (append_assoc (counted r.key) (counted r.value) rest)
    ∙ ap value_after (counted_read r.key (counted r.value ++ rest))
    ∙ ap (option_map (λ v. (row_of r.key v.0, v.1))) (counted_read r.value rest)

on_row : (on : Option (List ℕ) → List ℕ → Option (List PageRow)) (before : Option (List ℕ)) (r : PageRow) (rest : List ℕ) → is_after before r.key ≡ true → row_on on before (Some (r, rest)) ≡ and_rows r (on (Some r.key) rest)
on_row on before r rest rises = rw rises

zeros_read : (n : ℕ) → list_all (λ b. b == 0) (replicate n 0) ≡ true
zeros_read zero = refl
zeros_read (suc n) = zeros_read n

rows_read : (rows : List PageRow) (before : Option (List ℕ)) (zeros : ℕ) → RiseAfter before rows → rows_from (length rows) before (rows_bytes rows ++ replicate zeros 0) ≡ Some rows
unfolding rows_from
rows_read [] before zeros rise = rw (zeros_read zeros)
rows_read (r ∷ rs) before zeros rise =
    ap (λ l. row_on (rows_from (length rs)) before (take_row l)) (append_assoc (row_bytes r) (rows_bytes rs) (replicate zeros 0))
    ∙ ap (row_on (rows_from (length rs)) before) (row_read r (rows_bytes rs ++ replicate zeros 0))
    ∙ on_row (rows_from (length rs)) before r (rows_bytes rs ++ replicate zeros 0) rise.0
    ∙ ap (and_rows r) (rows_read rs (Some r.key) zeros rise.1)

pub reads_what_is_spelled : ReadsWhatIsSpelled
unfolding rows_of
reads_what_is_spelled rows zeros rise = rw (number_read (length rows) (rows_bytes rows ++ replicate zeros 0)) (rows_read rows None zeros rise)
