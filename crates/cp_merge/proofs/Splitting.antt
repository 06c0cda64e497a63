-- Old and new records in each order.
use Rattle.std.proofs.Common.{arith, ◌≡◌, ◌≤◌, ◌<◌, ◌+◌, ◌^◌, ◌==◌, ◌∙◌, ◌&&◌, ap, sym, refl, subst, ⊎_elim, ℕ, zero, suc, Bool, true, false, List, [], ◌∷◌, ◌++◌, append-nil, map, take, drop, length, length-append, nat_lt, Option, Some, None}
use Rattle.std.specs.Prelude.{if◌then◌else◌}
use Rattle.std.specs.List.{filter_map, cons_option, list_all, Contains}
use Rattle.std.specs.Int.{to_be_bytes, from_be_bytes, w64}
use Rattle.std.proofs.lemmas.List.{map-append, take_at, drop_at}
use Rattle.std.proofs.lemmas.List.Elements.{filter_map-append}
use Rattle.std.proofs.lemmas.Nat.{from_be_bytes-to_be_bytes_8}
use Rattle.cp_model.proofs.RecordsLemmas.{rows_at-append}
use Rattle.cp_model.specs.Changes.{is_between}
use Rattle.cp_model.specs.Keyed.{look}
use Rattle.cp_model.specs.Place.{Path, at_target, parent, in_target}
use Rattle.cp_model.specs.Records.{is_D, mark_by, row_in_step, rows_at}
use Rattle.cp_model.specs.declared.record.Record.{Record}
use Rattle.cp_page.specs.Cuts.{all_rows}
use Rattle.cp_page.specs.Orders.{by_loser, by_place, by_step}
use Rattle.cp_page.specs.PlaceKeys.{place_key}
use Rattle.cp_page.specs.declared.row.PageRow.{PageRow}
use Rattle.cp_paged.specs.Held.{loser_at, loser_row, rows_in_order, HasEachOnce}
use Rattle.cp_paged.specs.Listing.{is_gone}
use Rattle.cp_paged.specs.Newest.{mark_of_row}
use Rattle.cp_merge.proofs.Holding.{new_runs_hold_each, merged_runs_hold_each}
use Rattle.cp_merge.proofs.Keys.{in_cons, in_none, at_first, after_first}
use Rattle.cp_merge.specs.Merging.{AreApart}
use Rattle.cp_merge.specs.Orders.{AreOldAndNew, OrdersSplit, EachOrderHolds}

-- ---- the steps of records

all_of : (p : Record → Bool) (rs : List Record) → list_all p rs ≡ true → (r : Record) → Contains rs r → p r ≡ true
all_of p [] h r i = absurd (in_none r i)
all_of p (q ∷ rs) h r i = let both : (p q ≡ true) × (list_all p rs ≡ true) = two (p q) (list_all p rs) h in
    ⊎_elim (λ e. subst (λ s. p s ≡ true) e both.0) (λ on. all_of p rs both.1 r on) (in_cons q rs r i)
  where
    two : (a b : Bool) → (a && b) ≡ true → (a ≡ true) × (b ≡ true)
    two true b h = (refl, h)
    two false b h = cc

steps_of : (t a b : Bool) → (t && a && b) ≡ true → (a ≡ true) × (b ≡ true)
steps_of true true true h = (refl, refl)
steps_of true true false h = cc
steps_of true false b h = cc
steps_of false a b h = cc

below : (m n : ℕ) → nat_lt m n ≡ true → m < n
below m n h = grind (arith, h)

pub steps : (low high : ℕ) (r : Record) → is_between low high r ≡ true → (low < r.tid) × (r.tid ≤ high)
steps low high r h =
    let two = steps_of (in_target r.loc) (nat_lt low r.tid) (nat_lt r.tid (high + 1)) h in
    let less = below r.tid (high + 1) two.1 in
    (below low r.tid two.0, omega (arith, less))

differs : (s t : ℕ) → (s ≡ t → ⊥) → (s == t) ≡ false
differs s t f = grind (arith, f)

-- ---- the rows of places that lost a child: records of another step say nothing of a place in this one

none_at : (rs : List Record) (t : ℕ) → ((r : Record) → Contains rs r → r.tid ≡ t → ⊥) → rows_at rs t ≡ []
unfolding rows_at
none_at [] t none = refl
none_at (r ∷ rs) t none =
    let other = differs r.tid t (none r (at_first r rs)) in
    ap (λ b. cons_option (if b then Some (r.loc.path, mark_by r.op r.src) else None) (filter_map (row_in_step t) rs)) other
    ∙ none_at rs t (λ s i. none s (after_first r rs s i))

left_marks : (old new : List Record) (t : ℕ) → ((r : Record) → Contains new r → r.tid ≡ t → ⊥) → (p : Path) → mark_of_row (old ++ new) p t ≡ mark_of_row old p t
unfolding mark_of_row
left_marks old new t none p = ap (look p) (rows_at-append old new t ∙ ap (λ l. rows_at old t ++ l) (none_at new t none) ∙ append-nil (rows_at old t))

right_marks : (old new : List Record) (t : ℕ) → ((r : Record) → Contains old r → r.tid ≡ t → ⊥) → (p : Path) → mark_of_row (old ++ new) p t ≡ mark_of_row new p t
unfolding mark_of_row
right_marks old new t none p = ap (look p) (rows_at-append old new t ∙ ap (λ l. l ++ rows_at new t) (none_at old t none))

losers_same : (rs qs : List Record) (t : ℕ) (o : Option Path) → ((p : Path) → mark_of_row rs p t ≡ mark_of_row qs p t) → loser_at rs t o ≡ loser_at qs t o
losers_same rs qs t None same = refl
losers_same rs qs t (Some p) same = ap (λ m. if is_gone m then None else Some (by_loser (at_target p, t))) (same p)

filter_same : (f g : Record → Option PageRow) (rs : List Record) → ((r : Record) → Contains rs r → f r ≡ g r) → filter_map f rs ≡ filter_map g rs
filter_same f g [] same = refl
filter_same f g (r ∷ rs) same =
    ap (λ o. cons_option o (filter_map f rs)) (same r (at_first r rs)) ∙ ap (cons_option (g r)) (filter_same f g rs (λ s i. same s (after_first r rs s i)))

module _ (upto last : ℕ) (old new : List Record) (are : AreOldAndNew upto last old new) where
  old_step : (r : Record) → Contains old r → r.tid ≤ upto
  old_step r i = (steps 0 upto r (all_of (is_between 0 upto) old are.early r i)).1

  new_step : (r : Record) → Contains new r → (upto < r.tid) × (r.tid ≤ last)
  new_step r i = steps upto last r (all_of (is_between upto last) new are.late r i)

  pub old_fits : (r : Record) → Contains old r → r.tid < 2 ^ 64
  old_fits r i = let a = old_step r i in let b = are.rise in let c = are.fits in omega (arith, a, b, c)

  pub new_fits : (r : Record) → Contains new r → r.tid < 2 ^ 64
  new_fits r i = let a = (new_step r i).1 in let c = are.fits in omega (arith, a, c)

  pub steps_apart : (r s : Record) → Contains old r → Contains new s → r.tid ≡ s.tid → ⊥
  steps_apart r s i j same = let a = old_step r i in let b = (new_step s j).0 in omega (arith, a, b, same)

  loser_old : (r : Record) → Contains old r → loser_row (old ++ new) r ≡ loser_row old r
  loser_old r i = ap (λ l. if is_D (mark_by r.op r.src) then l else None)
      (losers_same (old ++ new) old r.tid (parent r.loc.path) (left_marks old new r.tid (λ s j e. steps_apart r s i j (sym e))))

  loser_new : (r : Record) → Contains new r → loser_row (old ++ new) r ≡ loser_row new r
  loser_new r i = ap (λ l. if is_D (mark_by r.op r.src) then l else None)
      (losers_same (old ++ new) new r.tid (parent r.loc.path) (right_marks old new r.tid (λ s j e. steps_apart s r j i e)))

  pub split : (o : ℕ) → rows_in_order o (old ++ new) ≡ rows_in_order o old ++ rows_in_order o new
  split zero = map-append by_place old new
  split (suc zero) = map-append by_step old new
  split (suc (suc n)) = filter_map-append (loser_row (old ++ new)) old new
      ∙ ap (λ l. l ++ filter_map (loser_row (old ++ new)) new) (filter_same (loser_row (old ++ new)) (loser_row old) old loser_old)
      ∙ ap (λ l. filter_map (loser_row old) old ++ l) (filter_same (loser_row (old ++ new)) (loser_row new) new loser_new)

pub orders_split : OrdersSplit
orders_split o upto last old new are = split upto last old new are o

-- ---- keys tell the step

tid_back : (t u : ℕ) → t < 2 ^ 64 → u < 2 ^ 64 → to_be_bytes w64 t ≡ to_be_bytes w64 u → t ≡ u
tid_back t u a b is = sym (from_be_bytes-to_be_bytes_8 t a) ∙ ap (from_be_bytes w64) is ∙ from_be_bytes-to_be_bytes_8 u b

back_same : (k m s t : List ℕ) → length s ≡ length t → k ++ s ≡ m ++ t → s ≡ t
back_same k m s t long is =
    let a = length-append k s in
    let b = length-append m t in
    let c = ap length is in
    let size : length m ≡ length k = omega (arith, a, b, c, long) in
    sym (drop_at k s (length k) refl) ∙ ap (drop (length k)) is ∙ drop_at m t (length k) size

front_same : (s t k m : List ℕ) → length s ≡ length t → s ++ k ≡ t ++ m → s ≡ t
front_same s t k m long is = sym (take_at s k (length s) refl) ∙ ap (take (length s)) is ∙ take_at t m (length s) (sym long)

-- the key of an order with this Tid
abbrev pub HasTid : ℕ → List ℕ → ℕ → Type 0
HasTid zero key t = (k : List ℕ) × (key ≡ k ++ to_be_bytes w64 t)
HasTid (suc zero) key t = (k : List ℕ) × (key ≡ to_be_bytes w64 t ++ k)
HasTid (suc (suc n)) key t = (k : List ℕ) × (key ≡ k ++ to_be_bytes w64 t)

tids_same : (o : ℕ) (key : List ℕ) (t u : ℕ) → t < 2 ^ 64 → u < 2 ^ 64 → HasTid o key t → HasTid o key u → t ≡ u
tids_same zero key t u a b f g = tid_back t u a b (back_same f.0 g.0 (to_be_bytes w64 t) (to_be_bytes w64 u) refl (sym f.1 ∙ g.1))
tids_same (suc zero) key t u a b f g = tid_back t u a b (front_same (to_be_bytes w64 t) (to_be_bytes w64 u) f.0 g.0 refl (sym f.1 ∙ g.1))
tids_same (suc (suc n)) key t u a b f g = tid_back t u a b (back_same f.0 g.0 (to_be_bytes w64 t) (to_be_bytes w64 u) refl (sym f.1 ∙ g.1))

of_map : (f : Record → PageRow) (rs : List Record) (x : PageRow) → Contains (map f rs) x → (r : Record) × Contains rs r × (f r ≡ x)
of_map f [] x h = absurd (in_none x h)
of_map f (r ∷ rs) x h = ⊎_elim (λ is. (r, at_first r rs, is)) (λ on. let a = of_map f rs x on in (a.0, after_first r rs a.0 a.1, a.2)) (in_cons (f r) (map f rs) x h)

later_of : (f : Record → Option PageRow) (r : Record) (rs : List Record) (x : PageRow) → ((s : Record) × Contains rs s × (f s ≡ Some x)) → (s : Record) × Contains (r ∷ rs) s × (f s ≡ Some x)
later_of f r rs x a = (a.0, after_first r rs a.0 a.1, a.2)

first_of : (f : Record → Option PageRow) (r : Record) (rs : List Record) (x : PageRow) → (Contains (filter_map f rs) x → (s : Record) × Contains rs s × (f s ≡ Some x)) → (o : Option PageRow) → f r ≡ o → Contains (cons_option o (filter_map f rs)) x → (s : Record) × Contains (r ∷ rs) s × (f s ≡ Some x)
first_of f r rs x on None is h = later_of f r rs x (on h)
first_of f r rs x on (Some y) is h = ⊎_elim (λ e. (r, at_first r rs, is ∙ ap Some e)) (λ g. later_of f r rs x (on g)) (in_cons y (filter_map f rs) x h)

of_filter : (f : Record → Option PageRow) (rs : List Record) (x : PageRow) → Contains (filter_map f rs) x → (r : Record) × Contains rs r × (f r ≡ Some x)
of_filter f [] x h = absurd (in_none x h)
of_filter f (r ∷ rs) x h = first_of f r rs x (of_filter f rs x) (f r) refl h

some_is : (x y : PageRow) → Some x ≡ Some y → x ≡ y
some_is x y h = cc

loser_on : (b : Bool) (p : Path) (t : ℕ) (x : PageRow) → (if b then None else Some (by_loser (at_target p, t))) ≡ Some x → (k : List ℕ) × (x.key ≡ k ++ to_be_bytes w64 t)
loser_on true p t x h = cc
loser_on false p t x h = (place_key (at_target p), ap (λ y. y.key) (sym (some_is (by_loser (at_target p, t)) x h)))

loser_tid : (rs : List Record) (t : ℕ) (o : Option Path) (x : PageRow) → loser_at rs t o ≡ Some x → (k : List ℕ) × (x.key ≡ k ++ to_be_bytes w64 t)
loser_tid rs t None x h = cc
loser_tid rs t (Some p) x h = loser_on (is_gone (mark_of_row rs p t)) p t x h

loses_tid : (b : Bool) (rs : List Record) (t : ℕ) (o : Option Path) (x : PageRow) → (if b then loser_at rs t o else None) ≡ Some x → (k : List ℕ) × (x.key ≡ k ++ to_be_bytes w64 t)
loses_tid true rs t o x h = loser_tid rs t o x h
loses_tid false rs t o x h = cc

tells : (o : ℕ) (rs : List Record) (x : PageRow) → Contains (rows_in_order o rs) x → (r : Record) × Contains rs r × HasTid o x.key r.tid
tells zero rs x h = let a = of_map by_place rs x h in (a.0, a.1, (place_key a.0.loc, ap (λ y. y.key) (sym a.2)))
tells (suc zero) rs x h = let a = of_map by_step rs x h in (a.0, a.1, (place_key a.0.loc, ap (λ y. y.key) (sym a.2)))
tells (suc (suc n)) rs x h =
    let a = of_filter (loser_row rs) rs x h in
    (a.0, a.1, loses_tid (is_D (mark_by a.0.op a.0.src)) rs a.0.tid (parent a.0.loc.path) x a.2)

apart : (o upto last : ℕ) (old new : List Record) → AreOldAndNew upto last old new → AreApart (rows_in_order o old) (rows_in_order o new)
apart o upto last old new are x y hx hy is =
    let a = tells o old x hx in
    let b = tells o new y hy in
    steps_apart upto last old new are a.0 b.0 a.1 b.1
    (tids_same o x.key a.0.tid b.0.tid (old_fits upto last old new are a.0 a.1) (new_fits upto last old new are b.0 b.1) a.2
    (subst (λ k. HasTid o k b.0.tid) (sym is) b.2))

pub each_order_holds : EachOrderHolds
each_order_holds o upto last old new runs extra are has is =
    let keys : AreApart (all_rows runs) extra = λ x y hx hy e. apart o upto last old new are x y (has.no_other x hx) (is.no_other y hy) e in
    let same = orders_split o upto last old new are in
    record {
      more = subst (HasEachOnce (all_rows (runs ++ extra ∷ []))) (sym same) (new_runs_hold_each runs extra (rows_in_order o old) (rows_in_order o new) has is keys);
      merged = λ rows merge. subst (HasEachOnce rows) (sym same) (merged_runs_hold_each runs extra rows (rows_in_order o old) (rows_in_order o new) has is keys merge);
    }
