-- The losses that are taken of the rows which are found.
use Rattle.std.proofs.Common.{arith, ℕ, ◌+◌, ◌^◌, ◌<◌, ◌≤◌, ◌≡◌, ◌∙◌, inl, inr, ap, sym, refl, subst, Bool, true, false, List, [], ◌∷◌, map, length}
use Rattle.std.proofs.lemmas.Bool.Decides.{nat_tests}
use Rattle.std.specs.Prelude.{◌&&◌}
use Rattle.std.specs.List.{AllByRecursion, filter_map, list_all}
use Rattle.cp_path.specs.declared.loc.Loc.{Loc}
use Rattle.cp_model.specs.Leaps.{losts}
use Rattle.cp_model.specs.Place.{Path, at_target}
use Rattle.cp_model.specs.declared.kind.Kind.{Kind}
use Rattle.cp_model.specs.declared.record.Record.{Record}
use Rattle.cp_page.specs.Orders.{place_tid}
use Rattle.cp_page.specs.declared.row.PageRow.{PageRow}
use Rattle.cp_store.specs.Costs.{Cost}
use Rattle.cp_store.specs.Lost.{is_within}
use Rattle.cp_paged.specs.Held.{PagesHold, loser_row}
use Rattle.cp_paged.specs.Keyed.{AreTidsAt, IsTidAt}
use Rattle.cp_paged.specs.Listing.{Lists, survives}
use Rattle.cp_run.specs.Answers.{IsBetween}
use Rattle.cp_page.specs.Ranges.{rows_between}
use Rattle.cp_paged.proofs.Among.{IsAmong, AreWithin, within-of}
use Rattle.cp_paged.proofs.ByLoser.{lost-form, lost-listed}
use Rattle.cp_paged.proofs.Few.{few-lost}

nothing_within : (low high t : ℕ) → high ≤ low → is_within low high t ≡ false
nothing_within low high t le = grind (arith, nat_tests)

-- there is none in a range without steps
pub none-lost : (rs : List Record) (p : Path) (low high : ℕ) → high ≤ low → (ts : List ℕ) → ts ≡ [] → Lists (survives rs p) low high ts
none-lost rs p low high le ts none = subst (Lists (survives rs p) low high) (sym none) (record { rise = tt; all = λ t. sym (ap (λ b. b && survives rs p t) (nothing_within low high t le)) })

at_most : (low high t : ℕ) → high < 2 ^ 64 → is_within low high t ≡ true → t < 2 ^ 64
at_most low high t fits e = grind (arith, nat_tests, fits)

-- Tids that lie within are small
pub small-of : (low high : ℕ) → high < 2 ^ 64 → (ts : List ℕ) → list_all (is_within low high) ts ≡ true → (t : ℕ) → IsAmong t ts → t < 2 ^ 64
small-of low high fits [] all t is = absurd is
small-of low high fits (u ∷ ts) all t (inl same) = subst (λ x. x < 2 ^ 64) same (at_most low high u fits (first (is_within low high u) (list_all (is_within low high) ts) all))
  where
    first : (a b : Bool) → (a && b) ≡ true → a ≡ true
    first true b e = refl
    first false b e = absurd (cc)
small-of low high fits (u ∷ ts) all t (inr is) = small-of low high fits ts (second (is_within low high u) (list_all (is_within low high) ts) all) t is
  where
    second : (a b : Bool) → (a && b) ≡ true → b ≡ true
    second true b e = e
    second false b e = absurd (cc)

-- the same of the same rows
pub keys-of : (q : Loc) (low high : ℕ) (rows found : List PageRow) (ts : List ℕ) → rows ≡ found → (AreTidsAt q low high rows → map (λ r. r.key) rows ≡ map (place_tid q) ts) → AreTidsAt q low high found → map (λ r. r.key) found ≡ map (place_tid q) ts
keys-of q low high rows found ts same h = subst (λ l. AreTidsAt q low high l → map (λ (r : PageRow). r.key) l ≡ map (place_tid q) ts) same h

each : (P : PageRow → Type 0) (rows : List PageRow) → ((y : PageRow) → IsAmong y rows → P y) → AllByRecursion P rows
each P [] f = tt
each P (y ∷ rows) f = (f y (inl_refl y rows), each P rows (λ z is. f z (later y z rows is)))
  where
    inl_refl : (y : PageRow) (rows : List PageRow) → IsAmong y (y ∷ rows)
    inl_refl y rows = inl refl

    later : (y z : PageRow) (rows : List PageRow) → IsAmong z rows → IsAmong z (y ∷ rows)
    later y z rows is = inr is

module _ (k : Kind) (upto : ℕ) (stored : ℕ → List PageRow) (rs : List Record) (hold : PagesHold k upto stored rs) (p : Path) (low high : ℕ) (order : low < high) (fits : high < 2 ^ 64) (from to : List ℕ) (from_is : from ≡ place_tid (at_target p) (low + 1)) (to_is : to ≡ place_tid (at_target p) high) where
  module _ (found : List PageRow) (g : IsBetween from to (stored 2) found) where
    within : AreWithin (place_tid (at_target p) (low + 1)) (place_tid (at_target p) high) (filter_map (loser_row rs) rs) found
    within = within-of (place_tid (at_target p) (low + 1)) (place_tid (at_target p) high) (stored 2) (filter_map (loser_row rs) rs) found (hold.each 2 (omega arith)) (subst (λ x. IsBetween x (place_tid (at_target p) high) (stored 2) found) from_is (subst (λ x. IsBetween from x (stored 2) found) to_is g))

    tid_at : (y : PageRow) → IsAmong y found → IsTidAt (at_target p) low high y
    tid_at y is = let f = lost-form k upto rs hold.held p low high order fits found within y is in record { tid = f.0; small = f.1; key = f.2; after = f.3; upto = f.4 }

    -- the Tids of the rows that are found
    pub lost-found : (ts : List ℕ) → ((t : ℕ) → IsAmong t ts → t < 2 ^ 64) → (AreTidsAt (at_target p) low high found → map (λ r. r.key) found ≡ map (place_tid (at_target p)) ts) → Lists (survives rs p) low high ts
    lost-found ts small keys = lost-listed k upto rs hold.held p low high order fits found within ts small (keys (each (IsTidAt (at_target p) low high) found tid_at))

  -- what finding them reads
  pub lost-read : (c : Cost) (a b : ℕ) → b ≤ a + (c.look + c.runs + length (rows_between from to (stored 2))) → b ≤ a + (c.look + c.runs + length (losts (λ t p. survives rs p t) low high p))
  lost-read c a b read =
      let few = few-lost k upto stored rs hold p low high order fits in
      let same : length (rows_between from to (stored 2)) ≡ length (rows_between (place_tid (at_target p) (low + 1)) (place_tid (at_target p) high) (stored 2)) = ap (λ x. length (rows_between x to (stored 2))) from_is ∙ ap (λ x. length (rows_between (place_tid (at_target p) (low + 1)) x (stored 2))) to_is in
      omega (arith, read, few, same)
