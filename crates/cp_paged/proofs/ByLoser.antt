-- The losses of a place, by the rows of the order by losing parent.
use Rattle.std.proofs.Common.{ℕ, ◌+◌, ◌^◌, ◌<◌, ◌≤◌, ◌≡◌, inl, inr, Bool, true, false, true≢false, not, refl, sym, ap, subst, ◌∙◌, arith, List, [], ◌∷◌, ◌++◌, map, Ordering, Less, Equal, Greater, nat_cmp}
use Rattle.std.proofs.lemmas.Bool.Decides.{nat_tests}
use Rattle.std.specs.Prelude.{◌==◌, ◌&&◌, ◌||◌, if◌then◌else◌}
use Rattle.std.specs.Cmp.{both_ways}
use Rattle.std.specs.List.{list_all, list_any, filter_map, cons_option, AllByRecursion}
use Rattle.std.specs.Ordering.{is_le, is_lt, ordering_then, ordering_reverse}
use Rattle.std.specs.declared.option.Option.{Option}
use Rattle.std.specs.declared.option.Option.TheVariants.{None, Some}
use Rattle.cp_path.specs.PathOrder.{path_total}
use Rattle.cp_path.specs.Text.{text_cmp}
use Rattle.cp_path.proofs.Same.{path_same}
use Rattle.cp_page.specs.Orders.{place_tid, by_loser}
use Rattle.cp_page.specs.declared.row.PageRow.{PageRow}
use Rattle.cp_model.specs.Past.{is_child, one_label}
use Rattle.cp_model.specs.Place.{Label, Path, path_cmp, at_target, parent, option_map}
use Rattle.cp_model.specs.Records.{is_D, rows_at, mark_by, loses}
use Rattle.cp_model.specs.declared.kind.Kind.{Kind}
use Rattle.cp_model.specs.declared.record.Record.{Record}
use Rattle.cp_model.specs.declared.record.RowMark.{RowMark as Mark}
use Rattle.cp_model.proofs.Losses.{child_is}
use Rattle.cp_model.proofs.Strips.{strip-append, parent-snoc}
use Rattle.cp_store.specs.Lost.{is_within, AreRisingTids}
use Rattle.cp_paged.specs.Held.{loser_at, loser_row, AreHeldRows}
use Rattle.cp_paged.specs.Listing.{is_tid, is_gone, survives, Lists}
use Rattle.cp_paged.specs.Newest.{mark_of_row}
use Rattle.cp_store.proofs.RowsTold.{case_of}
use Rattle.cp_paged.proofs.TidKeys.{keys-order}
use Rattle.cp_paged.proofs.Among.{IsAmong, RiseByKey, AreWithin}
use Rattle.cp_paged.proofs.ByPlace.{is_small}

-- ---- lists

from_filter : (f : Record → Option PageRow) (xs : List Record) (y : PageRow) → IsAmong y (filter_map f xs) → (r : Record) × IsAmong r xs × (f r ≡ Some y)
from_filter f [] y is = absurd is
from_filter f (x ∷ xs) y is = by_head (λ k. from_filter f xs y k) (f x) refl is
  where
    by_head : (IsAmong y (filter_map f xs) → (r : Record) × IsAmong r xs × (f r ≡ Some y)) → (o : Option PageRow) → f x ≡ o → IsAmong y (cons_option o (filter_map f xs)) → (r : Record) × IsAmong r (x ∷ xs) × (f r ≡ Some y)
    by_head more None e is = let on = more is in (on.0, inr on.1, on.2)
    by_head more (Some z) e (inl same) = (x, inl refl, e ∙ ap Some same)
    by_head more (Some z) e (inr is) = let on = more is in (on.0, inr on.1, on.2)

to_filter : (f : Record → Option PageRow) (xs : List Record) (r : Record) (y : PageRow) → IsAmong r xs → f r ≡ Some y → IsAmong y (filter_map f xs)
to_filter f [] r y is e = is
to_filter f (x ∷ xs) r y (inl same) e = rw (ap f same ∙ e) (inl refl)
to_filter f (x ∷ xs) r y (inr is) e = by_head (f x) (to_filter f xs r y is e)
  where
    by_head : (o : Option PageRow) → IsAmong y (filter_map f xs) → IsAmong y (cons_option o (filter_map f xs))
    by_head None is = is
    by_head (Some z) is = inr is

from_map : {X Y : Type 0} (f : X → Y) (xs : List X) (y : Y) → IsAmong y (map f xs) → (x : X) × IsAmong x xs × (f x ≡ y)
from_map f [] y is = absurd is
from_map f (x ∷ xs) y (inl same) = (x, inl refl, same)
from_map f (x ∷ xs) y (inr is) = let on = from_map f xs y is in (on.0, inr on.1, on.2)

to_map : {X Y : Type 0} (f : X → Y) (xs : List X) (x : X) → IsAmong x xs → IsAmong (f x) (map f xs)
to_map f [] x is = is
to_map f (y ∷ xs) x (inl same) = inl (ap f same)
to_map f (y ∷ xs) x (inr is) = inr (to_map f xs x is)

number_same : (u t : ℕ) → (u == t) ≡ true → u ≡ t
number_same u t e = grind (arith, nat_tests)

number_self : (t : ℕ) → (t == t) ≡ true
number_self t = grind (arith, nat_tests)

tid_among : (t : ℕ) (ts : List ℕ) → is_tid t ts ≡ true → IsAmong t ts
tid_among t [] e = absurd (cc)
tid_among t (u ∷ ts) e = elim (case_of (u == t)) [
  | inl same ↦ inl (number_same u t same)
  | inr other ↦ inr (tid_among t ts (rw other at e))
]

among_tid : (t : ℕ) (ts : List ℕ) → IsAmong t ts → is_tid t ts ≡ true
among_tid t [] is = absurd is
among_tid t (u ∷ ts) (inl same) = ap (λ b. b || is_tid t ts) (subst (λ x. (x == t) ≡ true) (sym same) (number_self t))
among_tid t (u ∷ ts) (inr is) = ap (λ b. (u == t) || b) (among_tid t ts is) ∙ or_true (u == t)
  where
    or_true : (b : Bool) → (b || true) ≡ true
    or_true true = refl
    or_true false = refl

-- ---- the place above

some_path : (a b : Path) → Some a ≡ Some b → a ≡ b
some_path a b e = cc

above_is : (q p : Path) → parent q ≡ Some p → (a : Label) × (q ≡ p ++ a ∷ [])
above_is [] p e = absurd (cc)
above_is (a ∷ []) p e = (a, ap (λ r. r ++ a ∷ []) (some_path [] p e))
above_is (a ∷ b ∷ q) p e = by_rest (λ r h. above_is (b ∷ q) r h) (parent (b ∷ q)) refl e
  where
    by_rest : ((r : Path) → parent (b ∷ q) ≡ Some r → (c : Label) × (b ∷ q ≡ r ++ c ∷ [])) → (o : Option Path) → parent (b ∷ q) ≡ o → option_map (λ r. a ∷ r) o ≡ Some p → (c : Label) × (a ∷ b ∷ q ≡ p ++ c ∷ [])
    by_rest more None h e = absurd (cc)
    by_rest more (Some r) h e = let on = more r h in (on.0, ap (λ l. a ∷ l) on.1 ∙ ap (λ l. l ++ on.0 ∷ []) (some_path (a ∷ r) p e))

is_above : (p q : Path) → parent q ≡ Some p → is_child p q ≡ true
is_above p q e = let a = above_is q p e in ap (is_child p) a.1 ∙ ap one_label (strip-append p (a.0 ∷ []))

has_above : (p q : Path) → is_child p q ≡ true → parent q ≡ Some p
has_above p q e = let a = child_is p q e in ap parent a.1 ∙ parent-snoc p a.0

-- ---- records that say a child is gone

first_part : (a b : Bool) → (a && b) ≡ true → a ≡ true
first_part true b e = refl
first_part false b e = absurd (cc)

second_part : (a b : Bool) → (a && b) ≡ true → b ≡ true
second_part true b e = e
second_part false b e = absurd (cc)

not_true : (b : Bool) → not b ≡ true → b ≡ false
not_true true e = absurd (cc)
not_true false e = refl

any_said : (g : Path × Mark → Bool) (rs : List Record) (r : Record) → IsAmong r rs → g (r.loc.path, mark_by r.op r.src) ≡ true → list_any g (rows_at rs r.tid) ≡ true
unfolding rows_at
any_said g [] r is e = absurd is
any_said g (x ∷ rs) r (inl same) e = subst (λ y. list_any g (rows_at (x ∷ rs) y.tid) ≡ true) same (rw (number_self x.tid, subst (λ y. g (y.loc.path, mark_by y.op y.src) ≡ true) (sym same) e) refl)
any_said g (x ∷ rs) r (inr is) e = elim (case_of (x.tid == r.tid)) [
  | inl of ↦ rw (of, any_said g rs r is e) (or_true (g (x.loc.path, mark_by x.op x.src)))
  | inr off ↦ rw off (any_said g rs r is e)
]
  where
    or_true : (b : Bool) → (b || true) ≡ true
    or_true true = refl
    or_true false = refl

said_any : (g : Path × Mark → Bool) (rs : List Record) (t : ℕ) → list_any g (rows_at rs t) ≡ true → (r : Record) × IsAmong r rs × (r.tid ≡ t) × (g (r.loc.path, mark_by r.op r.src) ≡ true)
unfolding rows_at
said_any g [] t e = absurd (cc)
said_any g (x ∷ rs) t e = elim (case_of (x.tid == t)) [
  | inl of ↦ elim (case_of (g (x.loc.path, mark_by x.op x.src))) [
    | inl here ↦ (x, inl refl, number_same x.tid t of, here)
    | inr off ↦ let on = said_any g rs t (rw (of, off) at e) in (on.0, inr on.1, on.2, on.3)
  ]
  | inr other ↦ let on = said_any g rs t (rw other at e) in (on.0, inr on.1, on.2, on.3)
]

module _ (rs : List Record) where
  some_row : (a b : PageRow) → Some a ≡ Some b → a ≡ b
  some_row a b e = cc

  loser_is : (t : ℕ) (b : Bool) (o : Option Path) (y : PageRow) → (if b then loser_at rs t o else None) ≡ Some y → (b ≡ true) × ((p : Path) × (o ≡ Some p) × (is_gone (mark_of_row rs p t) ≡ false) × ((by_loser (at_target p, t)) ≡ y))
  loser_is t false o y e = absurd (cc)
  loser_is t true None y e = absurd (cc)
  loser_is t true (Some p) y e = elim (case_of (is_gone (mark_of_row rs p t))) [
    | inl gone ↦ absurd (none_some y (rw gone at e))
    | inr stays ↦ (refl, (p, refl, stays, some_row (by_loser (at_target p, t)) y (rw stays at e)))
  ]
    where
      none_some : (y : PageRow) → None ≡ Some y → ⊥
      none_some y e = cc

  -- a row of the order is of a place that a step left, and that lost a child
  row_says : (y : PageRow) → IsAmong y (filter_map (loser_row rs) rs) → (p : Path) × (r : Record) × IsAmong r rs × ((by_loser (at_target p, r.tid)) ≡ y) × (survives rs p r.tid ≡ true)
  row_says y is =
      let r = from_filter (loser_row rs) rs y is in
      let l = loser_is r.0.tid (is_D (mark_by r.0.op r.0.src)) (parent r.0.loc.path) y r.2 in
      let p = l.1.0 in
      let lost : loses rs r.0.tid p ≡ true = any_said (λ x. is_child p x.0 && is_D x.1) rs r.0 r.1 (rw (is_above p r.0.loc.path l.1.1, l.0) refl) in
      (p, r.0, r.1, l.1.3, rw (lost, l.1.2) refl)

  -- and each such place has one
  says_row : (p : Path) (t : ℕ) → survives rs p t ≡ true → IsAmong (by_loser (at_target p, t)) (filter_map (loser_row rs) rs)
  says_row p t e =
      let r = said_any (λ x. is_child p x.0 && is_D x.1) rs t (first_part (loses rs t p) (not (is_gone (mark_of_row rs p t))) e) in
      let child = first_part (is_child p r.0.loc.path) (is_D (mark_by r.0.op r.0.src)) r.3 in
      let d = second_part (is_child p r.0.loc.path) (is_D (mark_by r.0.op r.0.src)) r.3 in
      let stays : is_gone (mark_of_row rs p t) ≡ false = not_true (is_gone (mark_of_row rs p t)) (second_part (loses rs t p) (not (is_gone (mark_of_row rs p t))) e) in
      to_filter (loser_row rs) rs r.0 (by_loser (at_target p, t)) r.1
      (ap (λ b. if b then loser_at rs r.0.tid (parent r.0.loc.path) else None) d ∙ ap (loser_at rs r.0.tid) (has_above p r.0.loc.path child) ∙ ap (λ u. loser_at rs u (Some p)) r.2 ∙ ap (λ b. if b then None else Some (by_loser (at_target p, t))) stays)

-- ---- keys

key-same : (p q : Path) (u v : ℕ) → u < 2 ^ 64 → v < 2 ^ 64 → place_tid (at_target p) u ≡ place_tid (at_target q) v → (p ≡ q) × (u ≡ v)
key-same p q u v a b e =
    let cmp : ordering_then (path_cmp p q) (nat_cmp u v) ≡ Equal = sym (keys-order p q u v a b) ∙ ap (λ x. text_cmp x (place_tid (at_target q) v)) e ∙ keys-order q q v v b b ∙ ap (λ o. ordering_then o (nat_cmp v v)) (self_path q) ∙ self_cmp v in
    let both = parts (path_cmp p q) (nat_cmp u v) cmp in
    (path_same p q both.0, equal_is u v both.1)
  where
    self_path : (p : Path) → path_cmp p p ≡ Equal
    self_path p = by_order (path_cmp p p) (path_total.antisymm p p)
      where
        by_order : (o : Ordering) → o ≡ ordering_reverse o → o ≡ Equal
        by_order Less e = absurd (cc)
        by_order Equal e = refl
        by_order Greater e = absurd (cc)

    self_cmp : (u : ℕ) → nat_cmp u u ≡ Equal
    self_cmp u = grind arith

    equal_is : (x y : ℕ) → nat_cmp x y ≡ Equal → x ≡ y
    equal_is x y e = grind arith

    parts : (a b : Ordering) → ordering_then a b ≡ Equal → (a ≡ Equal) × (b ≡ Equal)
    parts Equal b e = (refl, e)
    parts Less b e = absurd (cc)
    parts Greater b e = absurd (cc)

path_self : (p : Path) → path_cmp p p ≡ Equal
path_self p = by_order (path_cmp p p) (path_total.antisymm p p)
  where
    by_order : (o : Ordering) → o ≡ ordering_reverse o → o ≡ Equal
    by_order Less e = absurd (cc)
    by_order Equal e = refl
    by_order Greater e = absurd (cc)

-- at one place keys compare as Tids
tids_of : (p : Path) (u v : ℕ) → u < 2 ^ 64 → v < 2 ^ 64 → text_cmp (place_tid (at_target p) u) (place_tid (at_target p) v) ≡ nat_cmp u v
tids_of p u v a b = keys-order p p u v a b ∙ ap (λ o. ordering_then o (nat_cmp u v)) (path_self p)

le_of : (x y : ℕ) → is_le (nat_cmp x y) ≡ true → x ≤ y
le_of x y e = grind arith

of_le : (x y : ℕ) → x ≤ y → is_le (nat_cmp x y) ≡ true
of_le x y e = grind arith

lt_of : (x y : ℕ) → is_lt (nat_cmp x y) ≡ true → x < y
lt_of x y e = grind arith

within_is : (low high t : ℕ) → is_within low high t ≡ true → (low < t) × (t ≤ high)
within_is low high t h = (grind (arith, nat_tests), grind (arith, nat_tests))

is_in : (low high t : ℕ) → low < t → t ≤ high → is_within low high t ≡ true
is_in low high t a b = grind (arith, nat_tests)

module _ (k : Kind) (upto : ℕ) (rs : List Record) (h : AreHeldRows k upto rs) (p : Path) (low high : ℕ) (order : low < high) (fits : high < 2 ^ 64) where
  between_paths : (q : Path) (a b : Ordering) → is_le (ordering_then (path_cmp p q) a) ≡ true → is_le (ordering_then (path_cmp q p) b) ≡ true → path_cmp p q ≡ Equal
  between_paths q a b x y = by_order (path_cmp p q) (path_cmp q p) (path_total.antisymm q p) x y
    where
      by_order : (o n : Ordering) → n ≡ ordering_reverse o → is_le (ordering_then o a) ≡ true → is_le (ordering_then n b) ≡ true → o ≡ Equal
      by_order Equal n e x y = refl
      by_order Greater n e x y = absurd (cc)
      by_order Less n e x y = absurd (true≢false (sym y ∙ ap (λ n. is_le (ordering_then n b)) e))

  -- each row of the order between the keys is of the place, in a step that it survived with a loss
  pub loss-form : (y : PageRow) → IsAmong y (filter_map (loser_row rs) rs) → is_le (text_cmp (place_tid (at_target p) (low + 1)) y.key) ≡ true → is_le (text_cmp y.key (place_tid (at_target p) high)) ≡ true
      → (t : ℕ) × (t < 2 ^ 64) × (y.key ≡ place_tid (at_target p) t) × (low < t) × (t ≤ high) × (survives rs p t ≡ true)
  loss-form y is above below =
      let says = row_says rs y is in
      let q = says.0 in
      let r = says.1 in
      let small = is_small k upto rs h r says.2 in
      let key : place_tid (at_target q) r.tid ≡ y.key = ap (λ (x : PageRow). x.key) says.3 in
      let a = ap is_le (sym (keys-order p q (low + 1) r.tid (omega (arith, order, fits)) small) ∙ ap (text_cmp (place_tid (at_target p) (low + 1))) key) ∙ above in
      let b = ap is_le (sym (keys-order q p r.tid high small fits) ∙ ap (λ x. text_cmp x (place_tid (at_target p) high)) key) ∙ below in
      let path : p ≡ q = path_same p q (between_paths q (nat_cmp (low + 1) r.tid) (nat_cmp r.tid high) a b) in
      let mine : y.key ≡ place_tid (at_target p) r.tid = sym key ∙ ap (λ x. place_tid (at_target x) r.tid) (sym path) in
      let a2 : low + 1 ≤ r.tid = le_of (low + 1) r.tid (ap is_le (sym (tids_of p (low + 1) r.tid (omega (arith, order, fits)) small) ∙ ap (text_cmp (place_tid (at_target p) (low + 1))) (sym mine)) ∙ above) in
      let b2 : r.tid ≤ high = le_of r.tid high (ap is_le (sym (tids_of p r.tid high small fits) ∙ ap (λ x. text_cmp x (place_tid (at_target p) high)) (sym mine)) ∙ below) in
      (r.tid, small, mine, omega (arith, a2), b2, subst (λ x. survives rs x r.tid ≡ true) (sym path) says.4)

module _ (k : Kind) (upto : ℕ) (rs : List Record) (h : AreHeldRows k upto rs) (p : Path) (low high : ℕ) (order : low < high) (fits : high < 2 ^ 64) (found : List PageRow) (f : AreWithin (place_tid (at_target p) (low + 1)) (place_tid (at_target p) high) (filter_map (loser_row rs) rs) found) where
  -- and so is each row that is found
  pub lost-form : (y : PageRow) → IsAmong y found → (t : ℕ) × (t < 2 ^ 64) × (y.key ≡ place_tid (at_target p) t) × (low < t) × (t ≤ high) × (survives rs p t ≡ true)
  lost-form y is = let inside = f.inside y is in loss-form k upto rs h p low high order fits y inside.0 inside.1 inside.2

  module _ (ts : List ℕ) (small : (t : ℕ) → IsAmong t ts → t < 2 ^ 64) (keys : map (λ (y : PageRow). y.key) found ≡ map (place_tid (at_target p)) ts) where
    listed_here : (t : ℕ) → is_tid t ts ≡ true → (is_within low high t && survives rs p t) ≡ true
    listed_here t e =
        let among = tid_among t ts e in
        let y = from_map (λ (y : PageRow). y.key) found (place_tid (at_target p) t) (subst (IsAmong (place_tid (at_target p) t)) (sym keys) (to_map (place_tid (at_target p)) ts t among)) in
        let form = lost-form y.0 y.1 in
        let same = key-same p p form.0 t form.1 (small t among) (sym form.2 ∙ y.2) in
        subst (λ u. (is_within low high u && survives rs p u) ≡ true) same.1 (rw (is_in low high form.0 form.3 form.4, form.5) refl)

    here_listed : (t : ℕ) → (is_within low high t && survives rs p t) ≡ true → is_tid t ts ≡ true
    here_listed t e =
        let w = within_is low high t (first_part (is_within low high t) (survives rs p t) e) in
        let up = w.1 in
        let down = w.0 in
        let t_small : t < 2 ^ 64 = omega (arith, up, fits) in
        let row = says_row rs p t (second_part (is_within low high t) (survives rs p t) e) in
        let among = f.all (by_loser (at_target p, t)) row (ap is_le (tids_of p (low + 1) t (omega (arith, order, fits)) t_small) ∙ of_le (low + 1) t (omega (arith, down))) (ap is_le (tids_of p t high t_small fits) ∙ of_le t high up) in
        let u = from_map (place_tid (at_target p)) ts (place_tid (at_target p) t) (subst (IsAmong (place_tid (at_target p) t)) keys (to_map (λ (y : PageRow). y.key) found (by_loser (at_target p, t)) among)) in
        let same = key-same p p u.0 t (small u.0 u.1) t_small u.2 in
        among_tid t ts (subst (λ x. IsAmong x ts) same.1 u.1)

  key_of_all : (a : List ℕ) (ys : List PageRow) → list_all (λ s. is_lt (text_cmp a s.key)) ys ≡ true → list_all (λ s. is_lt (text_cmp a s)) (map (λ (y : PageRow). y.key) ys) ≡ true
  key_of_all a [] e = refl
  key_of_all a (y ∷ ys) e = elim (case_of (is_lt (text_cmp a y.key))) [
    | inl is ↦ rw is (key_of_all a ys (second_part (is_lt (text_cmp a y.key)) (list_all (λ s. is_lt (text_cmp a s.key)) ys) e))
    | inr off ↦ absurd (true≢false (sym (first_part (is_lt (text_cmp a y.key)) (list_all (λ s. is_lt (text_cmp a s.key)) ys) e) ∙ off))
  ]

  all_more : (t : ℕ) (us : List ℕ) → t < 2 ^ 64 → ((u : ℕ) → IsAmong u us → u < 2 ^ 64) → list_all (λ s. is_lt (text_cmp (place_tid (at_target p) t) s)) (map (place_tid (at_target p)) us) ≡ true → AllByRecursion (λ u. t < u) us
  all_more t [] a b e = tt
  all_more t (u ∷ us) a b e =
      let first = first_part (is_lt (text_cmp (place_tid (at_target p) t) (place_tid (at_target p) u))) (list_all (λ s. is_lt (text_cmp (place_tid (at_target p) t) s)) (map (place_tid (at_target p)) us)) e in
      let rest = second_part (is_lt (text_cmp (place_tid (at_target p) t) (place_tid (at_target p) u))) (list_all (λ s. is_lt (text_cmp (place_tid (at_target p) t) s)) (map (place_tid (at_target p)) us)) e in
      (lt_of t u (ap is_lt (sym (tids_of p t u a (b u (inl refl)))) ∙ first), all_more t us a (λ v is. b v (inr is)) rest)

  rising : (ys : List PageRow) (us : List ℕ) → RiseByKey ys → map (λ (y : PageRow). y.key) ys ≡ map (place_tid (at_target p)) us → ((u : ℕ) → IsAmong u us → u < 2 ^ 64) → AreRisingTids us
  rising ys [] r e b = tt
  rising [] (u ∷ us) r e b = absurd (cc)
  rising (y ∷ ys) (u ∷ us) r e b =
      let head : y.key ≡ place_tid (at_target p) u = cc in
      let tail : map (λ (y : PageRow). y.key) ys ≡ map (place_tid (at_target p)) us = cc in
      let above = subst (λ a. list_all (λ s. is_lt (text_cmp a s)) (map (place_tid (at_target p)) us) ≡ true) head (subst (λ l. list_all (λ s. is_lt (text_cmp y.key s)) l ≡ true) tail (key_of_all y.key ys r.0)) in
      (all_more u us (b u (inl refl)) (λ v is. b v (inr is)) above, rising ys us r.1 tail (λ v is. b v (inr is)))

  -- the Tids of the rows that are found are the losses of steps that left the place
  pub lost-listed : (ts : List ℕ) → ((t : ℕ) → IsAmong t ts → t < 2 ^ 64) → map (λ (y : PageRow). y.key) found ≡ map (place_tid (at_target p)) ts → Lists (survives rs p) low high ts
  lost-listed ts small keys = record {
    rise = rising found ts f.rise keys small;
    all = λ t. both_ways (is_tid t ts) (is_within low high t && survives rs p t) (listed_here ts small keys t) (here_listed ts small keys t);
  }
