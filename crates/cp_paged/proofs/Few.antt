-- Rows whose keys differ are no more than the Tids of their keys.
use Rattle.std.proofs.Common.{arith, ℕ, suc, zero, ◌+◌, ◌^◌, ◌<◌, ◌≤◌, ◌≡◌, ◌⊎◌, inl, inr, Bool, true, false, true≢false, refl, sym, ap, subst, ◌∙◌, List, [], ◌∷◌, ◌++◌, map, length}
use Rattle.std.proofs.lemmas.Bool.Decides.{nat_tests}
use Rattle.std.specs.Prelude.{◌==◌, ◌&&◌, nat_lt, if◌then◌else◌}
use Rattle.std.specs.List.{AllByRecursion, IsDistinct, filter_map}
use Rattle.std.specs.Cmp.Lexicographic.{bytes_decides}
use Rattle.std.specs.Ordering.{is_le}
use Rattle.cp_path.specs.Text.{text_cmp, text_eq}
use Rattle.cp_model.specs.Answers.{tid_of}
use Rattle.cp_model.specs.Leaps.{losts, lost_at as event_at}
use Rattle.cp_model.specs.Past.{Event}
use Rattle.cp_model.specs.Place.{Path, at_target}
use Rattle.cp_model.specs.declared.kind.Kind.{Kind}
use Rattle.cp_model.specs.declared.record.Record.{Record}
use Rattle.cp_page.specs.Orders.{place_tid}
use Rattle.cp_page.specs.declared.row.PageRow.{PageRow}
use Rattle.cp_store.proofs.RowsTold.{case_of}
use Rattle.cp_paged.specs.Held.{HasEachOnce, PagesHold, loser_row}
use Rattle.cp_paged.specs.Listing.{survives}
use Rattle.cp_page.specs.Ranges.{rows_between}
use Rattle.cp_paged.proofs.Among.{IsAmong, among, contained, of_filter, distinct-between}
use Rattle.cp_paged.proofs.ByLoser.{loss-form}

-- ---- lists

is_number : (u t : ℕ) → (u == t) ≡ true → u ≡ t
is_number u t e = grind (arith, nat_tests)

abbrev without : ℕ → List ℕ → List ℕ
without t [] = []
without t (u ∷ ts) = if u == t then ts else u ∷ without t ts

one_less : (t : ℕ) (ts : List ℕ) → IsAmong t ts → suc (length (without t ts)) ≤ length ts
one_less t [] is = absurd is
one_less t (u ∷ ts) is = elim (case_of (u == t)) [
  | inl same ↦ rw same (omega arith)
  | inr other ↦ rw other (let h = one_less t ts (by_head other is) in omega (arith, h))
]
  where
    self : (n : ℕ) → (n == n) ≡ true
    self n = grind (arith, nat_tests)

    by_head : (u == t) ≡ false → (u ≡ t) ⊎ IsAmong t ts → IsAmong t ts
    by_head other (inl same) = absurd (true≢false (sym (self t) ∙ ap (λ n. n == t) (sym same) ∙ other))
    by_head other (inr is) = is

others_stay : (t v : ℕ) (ts : List ℕ) → IsAmong v ts → (v ≡ t → ⊥) → IsAmong v (without t ts)
others_stay t v [] is off = is
others_stay t v (u ∷ ts) is off = elim (case_of (u == t)) [
  | inl same ↦ rw same (by_head (is_number u t same) is)
  | inr other ↦ rw other (by_rest (λ k. others_stay t v ts k off) is)
]
  where
    by_head : u ≡ t → (u ≡ v) ⊎ IsAmong v ts → IsAmong v ts
    by_head same (inl e) = absurd (off (sym e ∙ same))
    by_head same (inr is) = is

    by_rest : (IsAmong v ts → IsAmong v (without t ts)) → (u ≡ v) ⊎ IsAmong v ts → (u ≡ v) ⊎ IsAmong v (without t ts)
    by_rest more (inl e) = inl e
    by_rest more (inr is) = inr (more is)

differs : (k : List ℕ) (rows : List PageRow) (y : PageRow) → AllByRecursion (λ x. text_eq k x ≡ false) (map (λ r. r.key) rows) → IsAmong y rows → text_eq k y.key ≡ false
differs k [] y all is = absurd is
differs k (r ∷ rows) y all (inl same) = subst (λ (x : PageRow). text_eq k x.key ≡ false) same all.0
differs k (r ∷ rows) y all (inr is) = differs k rows y all.1 is

no-more : (K : ℕ → List ℕ) (rows : List PageRow) (ts : List ℕ) → IsDistinct text_eq (map (λ r. r.key) rows) → ((y : PageRow) → IsAmong y rows → (t : ℕ) × IsAmong t ts × (y.key ≡ K t)) → length rows ≤ length ts
unfolding IsDistinct
no-more K [] ts d f = omega arith
no-more K (r ∷ rows) ts d f =
    let t = f r (inl refl) in
    let less = one_less t.0 ts t.1 in
    let rest = no-more K rows (without t.0 ts) d.1 (λ y is.
    let v = f y (inr is) in
    (v.0, others_stay t.0 v.0 ts v.1 (λ e. true≢false (sym ((bytes_decides r.key y.key).1 (t.2 ∙ ap K (sym e) ∙ sym v.2)) ∙ differs r.key rows y d.0 is)), v.2)) in
    omega (arith, less, rest)

-- ---- losses

in_first : (xs ys : List ℕ) (t : ℕ) → IsAmong t xs → IsAmong t (xs ++ ys)
in_first [] ys t is = absurd is
in_first (x ∷ xs) ys t (inl same) = inl same
in_first (x ∷ xs) ys t (inr is) = inr (in_first xs ys t is)

in_second : (xs ys : List ℕ) (t : ℕ) → IsAmong t ys → IsAmong t (xs ++ ys)
in_second [] ys t is = is
in_second (x ∷ xs) ys t is = inr (in_second xs ys t is)

tids_append : (es fs : List Event) → map tid_of (es ++ fs) ≡ map tid_of es ++ map tid_of fs
tids_append [] fs = refl
tids_append (e ∷ es) fs = ap (λ ts. tid_of e ∷ ts) (tids_append es fs)

before_or_last : (t h : ℕ) → t ≤ suc h → (t ≤ h) ⊎ (suc h ≡ t)
before_or_last t h le = grind arith

listed : (L : ℕ → Path → Bool) (p : Path) (low high t : ℕ) → low < t → t ≤ high → L t p ≡ true → IsAmong t (map tid_of (losts L low high p))
unfolding losts
listed L p low zero t a b e = absurd (omega (arith, a, b))
listed L p low (suc h) t a b e =
    let within : nat_lt low (suc h) ≡ true = grind (arith, nat_tests, a, b) in
    rw (within, tids_append (losts L low h p) (event_at L (suc h) p)) (by_case (λ before. listed L p low h t a before e) (before_or_last t h b))
  where
    by_case : (t ≤ h → IsAmong t (map tid_of (losts L low h p))) → (t ≤ h) ⊎ (suc h ≡ t) → IsAmong t (map tid_of (losts L low h p) ++ map tid_of (event_at L (suc h) p))
    by_case more (inl before) = in_first (map tid_of (losts L low h p)) (map tid_of (event_at L (suc h) p)) t (more before)
    by_case more (inr last) =
        let here : L (suc h) p ≡ true = subst (λ u. L u p ≡ true) (sym last) e in
        in_second (map tid_of (losts L low h p)) (map tid_of (event_at L (suc h) p)) t (rw here (inl last))

tids_length : (es : List Event) → length (map tid_of es) ≡ length es
tids_length [] = refl
tids_length (e ∷ es) = ap suc (tids_length es)

-- the rows between the keys are no more than the losses of steps that left the place
pub few-lost : (k : Kind) (upto : ℕ) (stored : ℕ → List PageRow) (rs : List Record) → PagesHold k upto stored rs → (p : Path) (low high : ℕ) → low < high → high < 2 ^ 64
    → length (rows_between (place_tid (at_target p) (low + 1)) (place_tid (at_target p) high) (stored 2)) ≤ length (losts (λ t p. survives rs p t) low high p)
few-lost k upto stored rs hold p low high order fits =
    let each : HasEachOnce (stored 2) (filter_map (loser_row rs) rs) = hold.each 2 (omega arith) in
    let from = place_tid (at_target p) (low + 1) in
    let to = place_tid (at_target p) high in
    let few = no-more (place_tid (at_target p)) (rows_between from to (stored 2)) (map tid_of (losts (λ t p. survives rs p t) low high p)) (distinct-between from to (stored 2) each.once) (λ y is.
    let both = of_filter (λ r. is_le (text_cmp from r.key) && is_le (text_cmp r.key to)) (stored 2) y is in
    let form = loss-form k upto rs hold.held p low high order fits y (among y (filter_map (loser_row rs) rs) (each.no_other y (contained y (stored 2) both.0))) (first (is_le (text_cmp from y.key)) (is_le (text_cmp y.key to)) both.1) (second (is_le (text_cmp from y.key)) (is_le (text_cmp y.key to)) both.1) in
    (form.0, listed (λ t p. survives rs p t) p low high form.0 form.3 form.4 form.5, form.2)) in
    let size = tids_length (losts (λ t p. survives rs p t) low high p) in
    omega (arith, few, size)
  where
    first : (a b : Bool) → (a && b) ≡ true → a ≡ true
    first true b e = refl
    first false b e = absurd (cc)

    second : (a b : Bool) → (a && b) ≡ true → b ≡ true
    second true b e = e
    second false b e = absurd (cc)
