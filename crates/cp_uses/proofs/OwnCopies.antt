-- A copy of the place itself brings its data to the row's place, unless the place is over a limit.
use Rattle.std.specs.Prelude.{ℕ, zero, suc, ◌-◌, ◌≡◌, ◌<◌, ◌==◌, ◌&&◌, ◌||◌, Bool, true, false, cond, not, List, [], ◌∷◌, refl, nat_lt, if◌then◌else◌}
use Rattle.std.proofs.Common.{sym, ap, ◌∙◌, arith}
use Rattle.std.specs.List.{slice_get, filter_map, cons_option}
use Rattle.std.specs.Option.{unwrap_or}
use Rattle.std.proofs.lemmas.Bool.{and_parts}
use Rattle.std.proofs.lemmas.Option.{none-some, same_Some}
use Rattle.std.proofs.lemmas.Bool.Decides.{nat_tests}
use Rattle.std.specs.declared.cmp.Ordering.{Ordering}
use Rattle.std.specs.declared.cmp.Ordering.TheVariants.{Less, Equal, Greater}
use Rattle.std.specs.Ordering.{is_lt, is_eq, ordering_reverse}
use Rattle.std.specs.declared.option.Option.{Option}
use Rattle.std.specs.declared.option.Option.TheVariants.{None, Some}
use Rattle.cp_path.specs.declared.loc.Loc.{Loc}
use Rattle.cp_path.specs.Place.{moved_place}
use Rattle.cp_path.specs.PathOrder.{path_total, path_ties, path_eq_equiv}
use Rattle.cp_path.proofs.Same.{place_eq-same}
use Rattle.cp_model.specs.Place.{Path, path_eq, path_cmp, in_target, or_else, with_rest, nearest, below_place, over_limit, option_map}
use Rattle.cp_model.specs.Changes.{goes_before, rises}
use Rattle.cp_model.specs.Keyed.{look}
use Rattle.cp_model.specs.declared.effect.Effect.TheVariants.{Same as same, From as from}
use Rattle.cp_model.specs.declared.record.RowMark.{RowMark as Mark}
use Rattle.cp_model.specs.declared.record.RowMark.TheVariants.{Made as I, Copied as C, Gone as D, Kept as K}
use Rattle.cp_model.specs.Rows.{left, read_nearest, from_if_within}
use Rattle.cp_model.specs.Records.{mark_by, row_in_step, rows_at, reads}
use Rattle.cp_model.specs.declared.kind.Kind.{Kind}
use Rattle.cp_model.specs.declared.kind.Kind.TheVariants as kind
use Rattle.cp_model.specs.declared.record.Record.{Record}
use Rattle.cp_model.proofs.Strips.{strip-itself}
use Rattle.cp_uses.specs.declared.reached.Reached.{Reached}
use Rattle.cp_uses.specs.Carrying.{goes_along, if_within, landing_at, landing}
use Rattle.cp_uses.specs.Onward.{came}
use Rattle.cp_uses.specs.Sources.{is_place, is_copy_of, source_by}
use Rattle.cp_uses.proofs.Arrived.{came-is, is-came}
use Rattle.cp_uses.proofs.Carried.{same-place}

-- ---- a row among those that rise

first_trans : (a b c : ℕ) (x y z : Bool) → (x ≡ true → y ≡ true → z ≡ true) → (nat_lt a b || ((a == b) && x)) ≡ true → (nat_lt b c || ((b == c) && y)) ≡ true → (nat_lt a c || ((a == c) && z)) ≡ true
first_trans a b c true true true i h g = grind (arith, nat_tests)
first_trans a b c true true false i h g = absurd (let f = i refl refl in cc)
first_trans a b c true false z i h g = grind (arith, nat_tests)
first_trans a b c false y z i h g = grind (arith, nat_tests)

is_less : (o : Ordering) → is_lt o ≡ true → o ≡ Less
is_less Less h = refl
is_less Equal h = absurd (cc)
is_less Greater h = absurd (cc)

before-trans : (r s t : Record) → goes_before r s ≡ true → goes_before s t ≡ true → goes_before r t ≡ true
before-trans r s t h g =
    first_trans r.tid s.tid t.tid (is_lt (path_cmp r.loc.path s.loc.path)) (is_lt (path_cmp s.loc.path t.loc.path)) (is_lt (path_cmp r.loc.path t.loc.path))
    (λ x y. ap is_lt (path_total.trans r.loc.path s.loc.path t.loc.path (is_less _ x) (is_less _ y))) h g

-- the first goes before each other
first-before : (x : Record) (rs : List Record) (i : ℕ) (r : Record) → rises (x ∷ rs) ≡ true → slice_get rs i ≡ Some r → goes_before x r ≡ true
first-before x [] i r h e = absurd (none-some r e)
first-before x (y ∷ rs) zero r h e = ap (goes_before x) (sym (same_Some y r e)) ∙ (and_parts (goes_before x y) (rises (y ∷ rs)) h).0
first-before x (y ∷ rs) (suc i) r h e =
    let p = and_parts (goes_before x y) (rises (y ∷ rs)) h in
    before-trans x y r p.0 (first-before y rs i r p.1 e)

rises-rest : (x : Record) (rs : List Record) → rises (x ∷ rs) ≡ true → rises rs ≡ true
rises-rest x [] h = refl
rises-rest x (y ∷ rs) h = (and_parts (goes_before x y) (rises (y ∷ rs)) h).1

-- what goes before a row of its step is of another place
other-place : (x r : Record) → goes_before x r ≡ true → (x.tid == r.tid) ≡ true → path_eq r.loc.path x.loc.path ≡ false
other-place x r h t =
    let l : is_lt (path_cmp x.loc.path r.loc.path) ≡ true = by x.tid r.tid (is_lt (path_cmp x.loc.path r.loc.path)) h t in
    path_ties r.loc.path x.loc.path ∙ ap is_eq (path_total.antisymm r.loc.path x.loc.path ∙ ap ordering_reverse (is_less _ l))
  where
    by : (a b : ℕ) (l : Bool) → (nat_lt a b || ((a == b) && l)) ≡ true → (a == b) ≡ true → l ≡ true
    by a b true h t = refl
    by a b false h t = absurd (let z : nat_lt a b ≡ false = grind (arith, nat_tests, t) in let w : (nat_lt a b || ((a == b) && false)) ≡ false = ap (λ c. c || ((a == b) && false)) z ∙ ap (λ c. c && false) t in cc)

eq_itself : (n : ℕ) → (n == n) ≡ true
eq_itself n = grind (arith, nat_tests)

-- a row is what is found at its place among those of its step
own-row : (rs : List Record) (i : ℕ) (r : Record) → rises rs ≡ true → slice_get rs i ≡ Some r → look r.loc.path (rows_at rs r.tid) ≡ Some (mark_by r.op r.src)
unfolding rows_at
own-row [] i r h e = absurd (none-some r e)
own-row (x ∷ rs) zero r h e =
    ap (λ (y : Record). look r.loc.path (cons_option (row_in_step r.tid y) (filter_map (row_in_step r.tid) rs))) (same_Some x r e)
    ∙ ap (λ b. look r.loc.path (cons_option (if b then Some (r.loc.path, mark_by r.op r.src) else None) (filter_map (row_in_step r.tid) rs))) (eq_itself r.tid)
    ∙ ap (λ b. cond b (Some (mark_by r.op r.src)) (look r.loc.path (filter_map (row_in_step r.tid) rs))) (path_eq_equiv.refl r.loc.path)
own-row (x ∷ rs) (suc i) r h e =
    elim (x.tid == r.tid) as (λ b. (x.tid == r.tid) ≡ b → look r.loc.path (cons_option (if b then Some (x.loc.path, mark_by x.op x.src) else None) (filter_map (row_in_step r.tid) rs)) ≡ Some (mark_by r.op r.src)) [
      | true ↦ λ t. ap (λ b. cond b (Some (mark_by x.op x.src)) (look r.loc.path (filter_map (row_in_step r.tid) rs))) (other-place x r (first-before x rs i r h e) t) ∙ own-row rs i r (rises-rest x rs h) e
      | false ↦ λ _. own-row rs i r (rises-rest x rs h) e
    ] refl

-- ---- what it reads as

nearest-own : {X : Type 0} (f : Path → Option X) (p : Path) (x : X) → f p ≡ Some x → nearest f p ≡ Some (x, [])
nearest-own f [] x e = ap (λ o. with_rest o []) e
nearest-own f (a ∷ p) x e = ap (λ o. or_else o (with_rest (f []) (a ∷ p))) (nearest-own (λ r. f (a ∷ r)) p x e)

read-own : (k : Kind) (rs : List Record) (t : ℕ) (p : Path) (q : Loc) → look p (rows_at rs t) ≡ Some (C q) → reads k rs t p ≡ left (from_if_within q)
read-own kind.N rs t p q e = ap (λ o. read_nearest (option_map (λ m. (m, [])) o)) e ∙ ap (λ d. left (from_if_within d)) (same-place q)
read-own kind.T rs t p q e = ap (λ o. read_nearest (option_map (λ m. (m, [])) o)) e ∙ ap (λ d. left (from_if_within d)) (same-place q)
read-own kind.H rs t p q e = ap read_nearest (nearest-own (λ r. look r (rows_at rs t)) p (C q) e) ∙ ap (λ d. left (from_if_within d)) (same-place q)
read-own kind.HT rs t p q e = ap read_nearest (nearest-own (λ r. look r (rows_at rs t)) p (C q) e) ∙ ap (λ d. left (from_if_within d)) (same-place q)

-- ---- where it takes the place

moved-own : (c at : Loc) → moved_place c c at ≡ at
moved-own c at = ap (λ o. below_place at (unwrap_or o [])) (strip-itself c.path) ∙ same-place at

module _ (k : Kind) (r : Record) (c p : Loc) where
  landed-by : (m : Mark) → is_place c (source_by m) ≡ true → landing_at k r.loc m c ≡ Some p → (m ≡ C c) × (p ≡ r.loc) × (in_target p ≡ true)
  landed-by I h e = absurd (cc)
  landed-by (C q) h e =
      let same : c ≡ q = place_eq-same c q h in
      let w = within (in_target r.loc) (goes_along k q c) (moved_place c q r.loc) refl e in
      let at : p ≡ r.loc = sym w.0 ∙ ap (λ d. moved_place c d r.loc) (sym same) ∙ moved-own c r.loc in
      (ap C (sym same), at, ap in_target at ∙ w.1)
    where
      inside : (x : Loc) (b : Bool) → (if b then None else Some x) ≡ Some p → x ≡ p
      inside x true e = absurd (none-some p e)
      inside x false e = same_Some x p e

      within : (b d : Bool) (x : Loc) → in_target r.loc ≡ b → (if b && d then if_within x else None) ≡ Some p → (x ≡ p) × (in_target r.loc ≡ true)
      within true true x i e = (inside x (over_limit x) e, i)
      within true false x i e = absurd (none-some p e)
      within false d x i e = absurd (none-some p e)
  landed-by D h e = absurd (cc)
  landed-by K h e = absurd (cc)

  -- it came there, unless it was over a limit
  pub own-came : (rs : List Record) (i : ℕ) (y : Reached) → rises rs ≡ true → slice_get rs i ≡ Some r → is_copy_of c r ≡ true → landing k r c ≡ Some p → y.place ≡ p → y.tid ≡ r.tid → 0 < y.tid → came k rs y c ≡ not (over_limit c)
  own-came rs i y h e own lands at is later =
      let l = landed-by (mark_by r.op r.src) own lands in
      let place : y.place ≡ r.loc = at ∙ l.1 in
      let target : in_target y.place ≡ true = ap in_target at ∙ l.2 in
      let read : reads k rs y.tid y.place.path ≡ left (from_if_within c) = ap (λ t. reads k rs t y.place.path) is ∙ ap (λ (q : Loc). reads k rs r.tid q.path) place ∙ read-own k rs r.tid r.loc.path c (own-row rs i r h e ∙ ap Some l.0) in
      by (over_limit c) (came k rs y c) refl refl target read
    where
      by : (b d : Bool) → over_limit c ≡ b → came k rs y c ≡ d → in_target y.place ≡ true → reads k rs y.tid y.place.path ≡ left (if b then same else from c) → d ≡ not b
      by true false o w t z = refl
      by true true o w t z = let f = came-is k rs y c t w in let g : left same ≡ left (from c) = sym z ∙ f in absurd (cc)
      by false d o w t z = sym w ∙ is-came k rs y c (y.tid - 1) (omega (arith, later)) t z
