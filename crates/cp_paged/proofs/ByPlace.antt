-- The newest row of a place, by the greatest row of the order by place.
use Rattle.std.proofs.Common.{ℕ, ◌+◌, ◌^◌, ◌<◌, ◌≤◌, ◌≡◌, inl, inr, Bool, true, false, true≢false, refl, sym, ap, subst, ◌∙◌, arith, List, [], ◌∷◌, map, Ordering, Less, Equal, Greater, nat_cmp}
use Rattle.std.proofs.lemmas.Bool.Decides.{nat_tests}
use Rattle.std.specs.Prelude.{◌==◌, ◌&&◌, ◌||◌, nat_lt}
use Rattle.std.specs.List.{list_all}
use Rattle.std.specs.Ordering.{is_le, is_lt, ordering_then, ordering_reverse}
use Rattle.std.specs.declared.option.Option.{Option}
use Rattle.std.specs.declared.option.Option.TheVariants.{None, Some}
use Rattle.cp_path.specs.PathOrder.{path_eq_equiv, path_total}
use Rattle.cp_path.specs.Text.{target, text_cmp}
use Rattle.cp_path.proofs.Same.{path_same, path_eq-same, text_eq-same}
use Rattle.cp_page.specs.Orders.{place_tid, by_place}
use Rattle.cp_page.specs.declared.row.PageRow.{PageRow}
use Rattle.cp_format.specs.Spelled.{IsSpelled}
use Rattle.cp_model.specs.Changes.{goes_before, is_between}
use Rattle.cp_model.specs.Keyed.{look}
use Rattle.cp_model.specs.Place.{Path, path_cmp, path_eq, at_target, in_target}
use Rattle.cp_model.specs.Records.{rows_at, mark_by}
use Rattle.cp_model.specs.declared.kind.Kind.{Kind}
use Rattle.cp_model.specs.declared.record.Record.{Record}
use Rattle.cp_model.specs.declared.record.RowMark.{RowMark as Mark}
use Rattle.cp_store.specs.Rows.{AreOrdered}
use Rattle.cp_paged.specs.Held.{AreHeldRows}
use Rattle.cp_paged.specs.Newest.{mark_of_row, IsNewestRow}
use Rattle.cp_paged.proofs.Among.{IsAmong, IsTop, of_all}
use Rattle.cp_store.proofs.RowsTold.{case_of}
use Rattle.cp_paged.proofs.TidKeys.{keys-order}

-- ---- records and what they say

first_part : (a b : Bool) → (a && b) ≡ true → a ≡ true
first_part true b e = refl
first_part false b e = absurd (cc)

second_part : (a b : Bool) → (a && b) ≡ true → b ≡ true
second_part true b e = e
second_part false b e = absurd (cc)

one_passes : (f : Record → Bool) (rs : List Record) (r : Record) → list_all f rs ≡ true → IsAmong r rs → f r ≡ true
one_passes f [] r h is = absurd is
one_passes f (x ∷ rs) r h (inl same) = subst (λ y. f y ≡ true) same (first_part (f x) (list_all f rs) h)
one_passes f (x ∷ rs) r h (inr is) = one_passes f rs r (second_part (f x) (list_all f rs) h) is

number_self : (t : ℕ) → (t == t) ≡ true
number_self t = grind (arith, nat_tests)

number_same : (u t : ℕ) → (u == t) ≡ true → u ≡ t
number_same u t e = grind (arith, nat_tests)

never_before_self : (p : Path) → is_lt (path_cmp p p) ≡ false
never_before_self p = by_order (path_cmp p p) (path_total.antisymm p p)
  where
    by_order : (o : Ordering) → o ≡ ordering_reverse o → is_lt o ≡ false
    by_order Less e = absurd (cc)
    by_order Equal e = refl
    by_order Greater e = refl

-- a record before another is of another step or place
apart : (x r : Record) → goes_before x r ≡ true → (x.tid == r.tid) ≡ true → path_eq r.loc.path x.loc.path ≡ false
apart x r before same = elim (case_of (path_eq r.loc.path x.loc.path)) [
  | inr off ↦ off
  | inl here ↦
      let tids : x.tid ≡ r.tid = number_same x.tid r.tid same in
      let paths : r.loc.path ≡ x.loc.path = path_eq-same r.loc.path x.loc.path here in
      let no_less : nat_lt x.tid r.tid ≡ false = grind (arith, nat_tests, tids) in
      let no_before : is_lt (path_cmp x.loc.path r.loc.path) ≡ false = subst (λ q. is_lt (path_cmp x.loc.path q) ≡ false) (sym paths) (never_before_self x.loc.path) in
      absurd (true≢false (sym before ∙ ap (λ b. b || (x.tid == r.tid) && is_lt (path_cmp x.loc.path r.loc.path)) no_less ∙ ap (λ b. (x.tid == r.tid) && b) no_before ∙ never (x.tid == r.tid)))
]
  where
    never : (b : Bool) → (b && false) ≡ false
    never true = refl
    never false = refl

-- the step's row of a record's place is that record's
pub said-by : (rs : List Record) (r : Record) → AreOrdered rs → IsAmong r rs → mark_of_row rs r.loc.path r.tid ≡ Some (mark_by r.op r.src)
unfolding mark_of_row rows_at
said-by [] r h is = absurd is
said-by (x ∷ rs) r h (inl same) = subst (λ y. look y.loc.path (rows_at (x ∷ rs) y.tid) ≡ Some (mark_by y.op y.src)) same (rw (number_self x.tid, path_eq_equiv.refl x.loc.path) refl)
said-by (x ∷ rs) r h (inr is) = elim (case_of (x.tid == r.tid)) [
  | inl of ↦ rw (of, apart x r (one_passes (goes_before x) rs r h.0 is) of) (said-by rs r h.1 is)
  | inr off ↦ rw off (said-by rs r h.1 is)
]

some_is : (a b : Mark) → Some a ≡ Some b → a ≡ b
some_is a b e = cc

-- where a row is found, a record says it
pub record-of : (rs : List Record) (p : Path) (u : ℕ) (m : Mark) → mark_of_row rs p u ≡ Some m → (r : Record) × IsAmong r rs × (r.loc.path ≡ p) × (r.tid ≡ u)
unfolding mark_of_row rows_at
record-of [] p u m e = absurd (cc)
record-of (x ∷ rs) p u m e = elim (case_of (x.tid == u)) [
  | inl of ↦ elim (case_of (path_eq p x.loc.path)) [
    | inl here ↦ (x, inl refl, sym (path_eq-same p x.loc.path here), number_same x.tid u of)
    | inr off ↦ let on = record-of rs p u m (rw (of, off) at e) in (on.0, inr on.1, on.2, on.3)
  ]
  | inr other ↦ let on = record-of rs p u m (rw other at e) in (on.0, inr on.1, on.2, on.3)
]

-- ---- keys

module _ (k : Kind) (upto : ℕ) (rs : List Record) (h : AreHeldRows k upto rs) where
  three_parts : (a b c : Bool) → (a && b && c) ≡ true → (a ≡ true) × (c ≡ true)
  three_parts true true c e = (refl, e)
  three_parts true false c e = absurd (cc)
  three_parts false b c e = absurd (cc)

  pub is_of_target : (r : Record) → IsAmong r rs → r.loc ≡ at_target r.loc.path
  is_of_target r is =
      let passes = one_passes (is_between 0 upto) rs r h.between is in
      let parts = three_parts (in_target r.loc) (nat_lt 0 r.tid) (nat_lt r.tid (upto + 1)) passes in
      let db : r.loc.db ≡ target = text_eq-same r.loc.db target parts.0 in
      λ i. record { db = db i; path = r.loc.path }

  pub is_small : (r : Record) → IsAmong r rs → r.tid < 2 ^ 64
  is_small r is =
      let passes = one_passes (is_between 0 upto) rs r h.between is in
      let parts = three_parts (in_target r.loc) (nat_lt 0 r.tid) (nat_lt r.tid (upto + 1)) passes in
      let less : r.tid ≤ upto = at_most r.tid parts.1 in
      let fits = h.fits in
      omega (arith, less, fits)
    where
      at_most : (t : ℕ) → nat_lt t (upto + 1) ≡ true → t ≤ upto
      at_most t e = grind (arith, nat_tests)

  key_is : (r : Record) → IsAmong r rs → (by_place r).key ≡ place_tid (at_target r.loc.path) r.tid
  key_is r is = ap (λ q. place_tid q r.tid) (is_of_target r is)

  -- the key of a record against that of a place and a step
  key_cmp : (r : Record) → IsAmong r rs → (p : Path) (t : ℕ) → t < 2 ^ 64 → text_cmp (by_place r).key (place_tid (at_target p) t) ≡ ordering_then (path_cmp r.loc.path p) (nat_cmp r.tid t)
  key_cmp r is p t fits = ap (λ x. text_cmp x (place_tid (at_target p) t)) (key_is r is) ∙ keys-order r.loc.path p r.tid t (is_small r is) fits

  among_map : (f : Record → PageRow) (xs : List Record) (r : Record) → IsAmong r xs → IsAmong (f r) (map f xs)
  among_map f [] r is = is
  among_map f (x ∷ xs) r (inl same) = inl (ap f same)
  among_map f (x ∷ xs) r (inr is) = inr (among_map f xs r is)

  from_map : (f : Record → PageRow) (xs : List Record) (y : PageRow) → IsAmong y (map f xs) → (r : Record) × IsAmong r xs × (f r ≡ y)
  from_map f [] y is = absurd is
  from_map f (x ∷ xs) y (inl same) = (x, inl refl, same)
  from_map f (x ∷ xs) y (inr is) = let on = from_map f xs y is in (on.0, inr on.1, on.2)

  same_cmp : (p : Path) → path_cmp p p ≡ Equal
  same_cmp p = by_order (path_cmp p p) (path_total.antisymm p p)
    where
      by_order : (o : Ordering) → o ≡ ordering_reverse o → o ≡ Equal
      by_order Less e = absurd (cc)
      by_order Equal e = refl
      by_order Greater e = absurd (cc)

  le_is : (x y : ℕ) → is_le (nat_cmp x y) ≡ true → x ≤ y
  le_is x y e = grind arith

  is_le_of : (x y : ℕ) → x ≤ y → is_le (nat_cmp x y) ≡ true
  is_le_of x y e = grind arith

  module _ (p : Path) (t : ℕ) (fits : t < 2 ^ 64) where
    -- a record of the place, of a step up to t, has no greater key
    below : (r : Record) → IsAmong r rs → r.loc.path ≡ p → r.tid ≤ t → is_le (text_cmp (by_place r).key (place_tid (at_target p) t)) ≡ true
    below r is path le =
        ap is_le (key_cmp r is p t fits ∙ ap (λ q. ordering_then (path_cmp q p) (nat_cmp r.tid t)) path ∙ ap (λ o. ordering_then o (nat_cmp r.tid t)) (same_cmp p)) ∙ is_le_of r.tid t le

    some_row : (o : Option Mark) → ((m : Mark) → o ≡ Some m → ⊥) → o ≡ None
    some_row None h = refl
    some_row (Some m) h = absurd (h m refl)

    -- where no key is up to it, there is no row
    pub none-newest : IsTop (place_tid (at_target p) t) (map by_place rs) None → IsNewestRow rs p t None
    unfolding IsTop IsNewestRow
    none-newest g u le = some_row (mark_of_row rs p u) (λ m e.
        let r = record-of rs p u m e in
        let size = r.3 in
        true≢false (sym (below r.0 r.1 r.2 (omega (arith, size, le))) ∙ g (by_place r.0) (among_map by_place rs r.0 r.1)))

    between_paths : (q : Path) (a b : Ordering) → is_le (ordering_then (path_cmp p q) a) ≡ true → is_le (ordering_then (path_cmp q p) b) ≡ true → path_cmp p q ≡ Equal
    between_paths q a b x y = by_order (path_cmp p q) (path_cmp q p) (path_total.antisymm q p) x y
      where
        by_order : (o n : Ordering) → n ≡ ordering_reverse o → is_le (ordering_then o a) ≡ true → is_le (ordering_then n b) ≡ true → o ≡ Equal
        by_order Equal n e x y = refl
        by_order Greater n e x y = absurd (cc)
        by_order Less n e x y = absurd (true≢false (sym y ∙ ap (λ n. is_le (ordering_then n b)) e))

    module _ (f : PageRow) (g : IsTop (place_tid (at_target p) t) (map by_place rs) (Some f)) where
      found : (r : Record) × IsAmong r rs × (by_place r ≡ f)
      unfolding IsTop
      found = from_map by_place rs f g.0

      found_le : is_le (ordering_then (path_cmp found.0.loc.path p) (nat_cmp found.0.tid t)) ≡ true
      unfolding IsTop
      found_le = ap is_le (sym (key_cmp found.0 found.1 p t fits)) ∙ ap (λ (y : PageRow). is_le (text_cmp y.key (place_tid (at_target p) t))) found.2 ∙ g.1

      -- a record of the place up to t has no greater key than what is found
      against : (r : Record) → IsAmong r rs → r.loc.path ≡ p → r.tid ≤ t → is_le (ordering_then (path_cmp p found.0.loc.path) (nat_cmp r.tid found.0.tid)) ≡ true
      unfolding IsTop
      against r is path le =
          ap is_le (sym (key_cmp r is found.0.loc.path found.0.tid (is_small found.0 found.1) ∙ ap (λ q. ordering_then (path_cmp q found.0.loc.path) (nat_cmp r.tid found.0.tid)) path))
          ∙ ap (λ x. is_le (text_cmp (by_place r).key x)) (sym (key_is found.0 found.1) ∙ ap (λ (y : PageRow). y.key) found.2)
          ∙ g.2 (by_place r) (among_map by_place rs r is) (below r is path le)

      -- the row that is found is of another place: then there is none
      pub other-newest : ((u : ℕ) → u < 2 ^ 64 → f.key ≡ place_tid (at_target p) u → ⊥) → IsNewestRow rs p t None
      unfolding IsNewestRow
      other-newest off u le = some_row (mark_of_row rs p u) (λ m e.
          let r = record-of rs p u m e in
          let size = r.3 in
          let same : path_cmp p found.0.loc.path ≡ Equal = between_paths found.0.loc.path _ _ (against r.0 r.1 r.2 (omega (arith, size, le))) found_le in
          let path : p ≡ found.0.loc.path = path_same p found.0.loc.path same in
          off found.0.tid (is_small found.0 found.1) (ap (λ (y : PageRow). y.key) (sym found.2) ∙ key_is found.0 found.1 ∙ ap (λ q. place_tid (at_target q) found.0.tid) (sym path)))

      -- the row that is found is of the place: it is the newest
      pub this-newest : (u : ℕ) → u < 2 ^ 64 → f.key ≡ place_tid (at_target p) u → IsNewestRow rs p t (Some (record { tid = u; row = f }))
      unfolding IsNewestRow
      this-newest u small e =
          let r = found.0 in
          let keys : place_tid (at_target r.loc.path) r.tid ≡ place_tid (at_target p) u = sym (key_is r found.1) ∙ ap (λ (y : PageRow). y.key) found.2 ∙ e in
          let cmp : ordering_then (path_cmp r.loc.path p) (nat_cmp r.tid u) ≡ Equal = sym (keys-order r.loc.path p r.tid u (is_small r found.1) small) ∙ ap (λ x. text_cmp x (place_tid (at_target p) u)) keys ∙ keys-order p p u u small small ∙ ap (λ o. ordering_then o (nat_cmp u u)) (same_cmp p) ∙ self_cmp u in
          let both = parts (path_cmp r.loc.path p) (nat_cmp r.tid u) cmp in
          let path : r.loc.path ≡ p = path_same r.loc.path p both.0 in
          let tid : r.tid ≡ u = equal_is r.tid u both.1 in
          let le : r.tid ≤ t = le_is r.tid t (sym (ap (λ o. is_le (ordering_then o (nat_cmp r.tid t))) both.0) ∙ found_le) in (
            omega (arith, le, tid),
            record {
              mark = mark_by r.op r.src;
              says = record { said = r; spelled = of_all IsSpelled rs h.spelled r found.1; row_is = found.2; mark_is = refl };
              there = subst (λ q. mark_of_row rs q u ≡ Some (mark_by r.op r.src)) path (subst (λ v. mark_of_row rs r.loc.path v ≡ Some (mark_by r.op r.src)) tid (said-by rs r h.rise found.1));
            },
            λ w more few. some_row (mark_of_row rs p w) (λ m is.
                let s = record-of rs p w m is in
                let size = s.3 in
                let le2 = against s.0 s.1 s.2 (omega (arith, size, few)) in
                let le3 : s.0.tid ≤ r.tid = le_is s.0.tid r.tid (sym (ap (λ q. is_le (ordering_then (path_cmp p q) (nat_cmp s.0.tid r.tid))) path ∙ ap (λ o. is_le (ordering_then o (nat_cmp s.0.tid r.tid))) (same_cmp p)) ∙ le2) in
                absurd (omega (arith, le3, size, more, tid))),
          )
        where
          self_cmp : (u : ℕ) → nat_cmp u u ≡ Equal
          self_cmp u = grind arith

          equal_is : (x y : ℕ) → nat_cmp x y ≡ Equal → x ≡ y
          equal_is x y e = grind arith

          parts : (a b : Ordering) → ordering_then a b ≡ Equal → (a ≡ Equal) × (b ≡ Equal)
          parts Equal b e = (refl, e)
          parts Less b e = absurd (cc)
          parts Greater b e = absurd (cc)
