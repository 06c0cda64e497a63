-- Tids that are taken of rows, one after another.
use Rattle.std.proofs.Common.{arith, ℕ, suc, zero, ◌+◌, ◌^◌, ◌<◌, ◌≤◌, ◌≡◌, ◌∙◌, true, false, true≢false, ap, sym, refl, subst, List, [], ◌∷◌, ◌++◌, map, length, take, get_or}
use Rattle.std.proofs.lemmas.Bool.Decides.{nat_tests}
use Rattle.std.proofs.lemmas.List.{map-append}
use Rattle.cp_path.specs.declared.loc.Loc.{Loc}
use Rattle.cp_page.specs.Orders.{place_tid}
use Rattle.cp_page.specs.declared.row.PageRow.{PageRow}
use Rattle.cp_store.specs.Lost.{is_within}
use Rattle.cp_paged.specs.Keyed.{AreTidsAt, IsOneMore, IsTidAt}
use Rattle.cp_paged.proofs.TidsBehind.{one-tid}

is_in : (low high t : ℕ) → low < t → t ≤ high → is_within low high t ≡ true
is_in low high t a b = grind (arith, nat_tests)

-- a Tid that isn't within isn't that of the row
pub none-outside : (q : Loc) (low high : ℕ) (row : PageRow) (t : ℕ) → t < 2 ^ 64 → IsTidAt q low high row → row.key ≡ place_tid q t → is_within low high t ≡ false → ⊥
none-outside q low high row t small at key off =
    let same = one-tid row.key q at.tid t at.small small at.key key in
    true≢false (sym (subst (λ u. is_within low high u ≡ true) same (is_in low high at.tid at.after at.upto)) ∙ off)

at_next : (q : Loc) (low high : ℕ) (rows : List PageRow) (i : ℕ) (row : PageRow) → AreTidsAt q low high rows → i < length rows → row ≡ get_or rows i row → IsTidAt q low high row × (take (suc i) rows ≡ take i rows ++ row ∷ [])
at_next q low high [] i row are lt e = absurd (omega (arith, lt))
at_next q low high (r ∷ rows) zero row are lt e = (subst (IsTidAt q low high) (sym e) are.0, ap (λ x. x ∷ []) (sym e))
at_next q low high (r ∷ rows) (suc i) row are lt e = let on = at_next q low high rows i row are.1 (omega (arith, lt)) e in (on.0, ap (λ l. r ∷ l) on.1)

-- one row more
pub one-listed : (q : Loc) (low high : ℕ) (rows : List PageRow) (i : ℕ) (row : PageRow) (old new : List ℕ) → AreTidsAt q low high rows → i < length rows → row ≡ get_or rows i row → map (λ r. r.key) (take i rows) ≡ map (place_tid q) old
    → (IsTidAt q low high row → IsOneMore q row.key old new) → map (λ r. r.key) (take (i + 1) rows) ≡ map (place_tid q) new
one-listed q low high rows i row old new are lt e before more =
    let next = at_next q low high rows i row are lt e in
    let one = more next.0 in
    let s : i + 1 ≡ suc i = omega arith in
    ap (λ n. map (λ (r : PageRow). r.key) (take n rows)) s ∙ ap (map (λ (r : PageRow). r.key)) next.1 ∙ map-append (λ (r : PageRow). r.key) (take i rows) (row ∷ [])
    ∙ ap (λ l. l ++ row.key ∷ []) before ∙ ap (λ k. map (place_tid q) old ++ k ∷ []) one.key_is ∙ sym (map-append (place_tid q) old (one.tid ∷ [])) ∙ ap (map (place_tid q)) (sym one.new_is)

take_all : (rows : List PageRow) (i : ℕ) → length rows ≤ i → take i rows ≡ rows
take_all [] zero le = refl
take_all [] (suc i) le = refl
take_all (r ∷ rows) zero le = absurd (omega (arith, le))
take_all (r ∷ rows) (suc i) le = ap (λ l. r ∷ l) (take_all rows i (omega (arith, le)))

-- at the end all rows are there
pub all-listed : (q : Loc) (rows : List PageRow) (i : ℕ) (items : List ℕ) → length rows ≤ i → map (λ r. r.key) (take i rows) ≡ map (place_tid q) items → map (λ r. r.key) rows ≡ map (place_tid q) items
all-listed q rows i items le e = ap (map (λ (r : PageRow). r.key)) (sym (take_all rows i le)) ∙ e
