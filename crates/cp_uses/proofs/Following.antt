-- Copies that were followed, one after another.
use Rattle.std.specs.Prelude.{ℕ, zero, suc, ◌+◌, ◌-◌, ◌≡◌, ◌≤◌, ◌<◌, ◌⊎◌, ◌&&◌, Bool, true, false, cond, List, [], ◌∷◌, ◌++◌, length, take, refl, nat_lt, Result, OnOk, if◌then◌else◌}
use Rattle.std.proofs.Common.{sym, ap, subst, ◌∙◌, arith, get_or, inl, inr}
use Rattle.std.specs.List.{list_all, slice_get}
use Rattle.std.specs.List.Sorted.{IsNonDecreasingBy}
use Rattle.std.proofs.lemmas.Bool.{and_parts}
use Rattle.std.proofs.lemmas.Bool.Decides.{nat_tests}
use Rattle.std.proofs.lemmas.Option.{same_Some, none-some}
use Rattle.std.specs.declared.option.Option.{Option}
use Rattle.std.specs.declared.option.Option.TheVariants.{None, Some}
use Rattle.cp_path.specs.declared.loc.Loc.{Loc}
use Rattle.cp_model.specs.Place.{Label, in_target}
use Rattle.cp_model.specs.Changes.{is_between, AreNext}
use Rattle.cp_model.specs.declared.kind.Kind.{Kind}
use Rattle.cp_model.specs.declared.kind.Kind.TheVariants as kind
use Rattle.cp_model.specs.declared.record.Record.{Record}
use Rattle.cp_store.specs.Calls.{Asked}
use Rattle.cp_store.specs.Counts.{store_in, counted}
use Rattle.cp_store.specs.declared.counted.Counted.{Counted}
use Rattle.cp_store.specs.declared.store.ProvStore.{Ghosts}
use Rattle.cp_uses.specs.declared.reached.Reached.{Reached}
use Rattle.cp_uses.specs.Index.{has_source, copies_by}
use Rattle.cp_uses.specs.Onward.{onward}
use Rattle.cp_uses.specs.InTime.{calls_to_follow, calls_for_copies, has_late, late_sources}
use Rattle.cp_uses.specs.Following.{Progress, Follows, IsKept, Spreads}
use Rattle.cp_uses.specs.Sources.{source_key, sources, places_above, copies_after}
use Rattle.cp_uses.specs.Stays.{is_over, IsKnown}
use Rattle.cp_uses.proofs.Adding.{row-more, cut-rest, part-more}
use Rattle.cp_uses.proofs.Costs.{one_if, calls-more, copies-append, late-rest, sources-more}
use Rattle.cp_uses.proofs.Keys.{copies-by}
use Rattle.cp_uses.proofs.Spread.{front_at, places-more}
use Rattle.cp_uses.proofs.Staying.{onward-none, rest-none}

passing : (rs : List Record) (key : List ℕ) (t i : ℕ) (d : Record) → i < length (copies_by rs key t) → nat_lt t (get_or (copies_by rs key t) i d).tid ≡ true
passing [] key t i d l = absurd (omega (arith, l))
passing (r ∷ rs) key t i d l = by (has_source key r && nat_lt t r.tid) refl i (λ i l. passing rs key t i d l) l
  where
    by : (b : Bool) → (has_source key r && nat_lt t r.tid) ≡ b → (i : ℕ) → ((j : ℕ) → j < length (copies_by rs key t) → nat_lt t (get_or (copies_by rs key t) j d).tid ≡ true) → i < length (cond b (r ∷ copies_by rs key t) (copies_by rs key t)) → nat_lt t (get_or (cond b (r ∷ copies_by rs key t) (copies_by rs key t)) i d).tid ≡ true
    by true h zero f l = (and_parts (has_source key r) (nat_lt t r.tid) h).1
    by true h (suc i) f l = f i (omega (arith, l))
    by false h i f l = f i l

-- a copy by key is of a later step
pub copy-later : (rs : List Record) (key : List ℕ) (t i : ℕ) (d : Record) → i < length (copies_by rs key t) → t < (get_or (copies_by rs key t) i d).tid
copy-later rs key t i d l = let z = passing rs key t i d l in grind (arith, nat_tests, z)

-- a row that is kept is of a step up to the last
pub kept-upto : (last : ℕ) (rs : List Record) (i : ℕ) (r : Record) → AreNext 0 last rs → slice_get rs i ≡ Some r → r.tid ≤ last
kept-upto last rs i r n e = upper (get rs i e n.between)
  where
    get : (rs : List Record) (i : ℕ) → slice_get rs i ≡ Some r → list_all (is_between 0 last) rs ≡ true → is_between 0 last r ≡ true
    get [] i e h = absurd (none-some r e)
    get (x ∷ rs) zero e h = ap (is_between 0 last) (sym (same_Some x r e)) ∙ (and_parts (is_between 0 last x) (list_all (is_between 0 last) rs) h).0
    get (x ∷ rs) (suc i) e h = get rs i e (and_parts (is_between 0 last x) (list_all (is_between 0 last) rs) h).1

    upper : is_between 0 last r ≡ true → r.tid ≤ last
    upper h = let l = (and_parts (in_target r.loc && nat_lt 0 r.tid) (nat_lt r.tid (last + 1)) h).1 in grind (arith, nat_tests, l)

-- what a store keeps, it keeps when it was asked
pub kept-on : {P : Type 0} (p : Ghosts P) (a b : Counted P) (rs : List Record) → Asked (counted p) a b → IsKept p (store_in a) rs → IsKept p (store_in b) rs
kept-on p a b rs h kept = record { keeps = h.rows rs kept.keeps; next = subst (λ n. AreNext 0 n rs) (sym h.last) kept.next }

-- what has changed by a version has by a later one
over-later : (v w : ℕ) (o : Option ℕ) → v ≤ w → is_over v o ≡ true → is_over w o ≡ true
over-later v w None l h = absurd (cc)
over-later v w (Some u) l h = grind (arith, nat_tests, l, h)

module _ (k : Kind) (rs : List Record) (x : Reached) where
  -- ---- the copies of a source

  pub spreads-none : (last : ℕ) (old : Progress) → IsKnown k rs x old.stay → Spreads k rs x [] 0 last old old
  spreads-none last old h = record { found = refl; known = h; over = λ l. absurd (omega (arith, l)); kept = λ o. o; calls = omega arith }

  module _ (rows : List Record) (i : ℕ) (r : Record) (last : ℕ) (old mid new : Progress) (b : Bool) (is : r ≡ get_or rows i r) (l : i < length rows) (h : Spreads k rs x (take i rows) 0 last old mid) (f : Follows k rs x r b mid new) where
    pub spreads-more : b ≡ true → Spreads k rs x (take (i + 1) rows) 0 last old new
    spreads-more e = record {
      found = row-more (onward k rs x) rows i r old.found mid.found new.found l is h.found f.found;
      known = f.tells.known;
      over = λ l. absurd (omega (arith, l));
      kept = λ o. ap (is_over last) (f.tells.same e) ∙ h.kept o;
      calls =
          let one : (if b then calls_to_follow x r else 1) ≡ calls_to_follow x r = ap (λ d. if d then calls_to_follow x r else 1) e in
          let all = calls-more k rs x rows i r l is (sym f.tells.stands ∙ e) in
          let a = h.calls in
          let c = f.tells.calls in
          omega (arith, one, all, a, c);
    }

    pub spreads-late : IsNonDecreasingBy (λ r. r.tid) rows → b ≡ false → r.tid ≤ last → Spreads k rs x rows (one_if (has_late k rs x rows)) last old new
    spreads-late o e upto =
        let late = sym f.tells.stands ∙ e in
        let over = over-later (r.tid - 1) last new.stay.changed (omega (arith, upto)) (f.tells.over e) in
        let rest = late-rest k rs x rows i r o is l late in
        record {
          found = cut-rest (onward k rs x) rows i r old.found mid.found new.found (rest-none k rs x rows i r o is l late) (onward-none k rs x r late) h.found f.found;
          known = f.tells.known;
          over = λ _. over;
          kept = λ _. over;
          calls =
              let one : (if b then calls_to_follow x r else 1) ≡ 1 = ap (λ d. if d then calls_to_follow x r else 1) e in
              let had : one_if (has_late k rs x rows) ≡ 1 = ap one_if rest.0 in
              let all = rest.1 in
              let a = h.calls in
              let c = f.tells.calls in
              omega (arith, one, had, all, a, c);
        }

  -- none of them came too late
  pub spreads-all : (rows : List Record) (i last : ℕ) (old new : Progress) → take i rows ≡ rows → has_late k rs x (take i rows) ≡ false → Spreads k rs x (take i rows) 0 last old new → Spreads k rs x rows (one_if (has_late k rs x rows)) last old new
  spreads-all rows i last old new e l h =
      let none : 0 ≡ one_if (has_late k rs x rows) = sym (ap one_if (ap (has_late k rs x) (sym e) ∙ l)) in
      subst (λ late. Spreads k rs x rows late last old new) none (subst (λ l. Spreads k rs x l 0 last old new) e h)

  -- ---- source after source

  pub spreads-then : (xs ys zs : List Record) (a b last : ℕ) (old mid new : Progress) → zs ≡ xs ++ ys → Spreads k rs x xs a last old mid → Spreads k rs x ys b last mid new → Spreads k rs x zs (a + b) last old new
  spreads-then xs ys zs a b last old mid new e f g = record {
    found = part-more (onward k rs x) xs ys zs old.found mid.found new.found e f.found g.found;
    known = g.known;
    over = λ l. by b (λ l. g.over l) (λ l. g.kept (f.over l)) l;
    kept = λ o. g.kept (f.kept o);
    calls =
        let all = ap (calls_for_copies k rs x) e ∙ copies-append k rs x xs ys in
        let c = f.calls in
        let d = g.calls in
        omega (arith, all, c, d);
  }
    where
      by : (b : ℕ) → (0 < b → is_over last new.stay.changed ≡ true) → (0 < a → is_over last new.stay.changed ≡ true) → 0 < a + b → is_over last new.stay.changed ≡ true
      by zero h j l = j (omega (arith, l))
      by (suc b) h j l = h (omega arith)

  -- ---- by keys and kinds

  late-by : (key : List ℕ) (q : Loc) → key ≡ source_key q → one_if (has_late k rs x (copies_by rs key x.tid)) ≡ one_if (has_late k rs x (copies_after rs q x.tid))
  late-by key q e = ap (λ l. one_if (has_late k rs x (copies_by rs l x.tid))) e ∙ ap (λ l. one_if (has_late k rs x l)) (copies-by rs q x.tid)

  one-late : (q : Loc) → one_if (has_late k rs x (copies_after rs q x.tid)) ≡ late_sources k rs x (q ∷ [])
  one-late q = sym (sources-more k rs x [] q ∙ (let z : 0 + one_if (has_late k rs x (copies_after rs q x.tid)) ≡ one_if (has_late k rs x (copies_after rs q x.tid)) = omega arith in z))

  pub root-late : (c : Loc) (key : List ℕ) → key ≡ source_key (front_at c 0) → one_if (has_late k rs x (copies_by rs key x.tid)) ≡ late_sources k rs x (places_above (front_at c 0))
  root-late c key e = late-by key (front_at c 0) e ∙ one-late (front_at c 0)

  pub more-late : (c : Loc) (i : ℕ) (a : Label) (key : List ℕ) → i < length c.path → a ≡ get_or c.path i a → key ≡ source_key (front_at c (i + 1)) →
      late_sources k rs x (places_above (front_at c i)) + one_if (has_late k rs x (copies_by rs key x.tid)) ≡ late_sources k rs x (places_above (front_at c (i + 1)))
  more-late c i a key b is e =
      ap (λ n. late_sources k rs x (places_above (front_at c i)) + n) (late-by key (front_at c (i + 1)) e)
      ∙ sym (ap (late_sources k rs x) (places-more c i a b is) ∙ sources-more k rs x (places_above (front_at c i)) (front_at c (i + 1)))

  pub own-late : (key : List ℕ) → (k ≡ kind.N) ⊎ (k ≡ kind.T) → key ≡ source_key x.place → one_if (has_late k rs x (copies_by rs key x.tid)) ≡ late_sources k rs x (sources k x.place)
  own-late key h e = late-by key x.place e ∙ one-late x.place ∙ by h
    where
      by : (k ≡ kind.N) ⊎ (k ≡ kind.T) → late_sources k rs x (x.place ∷ []) ≡ late_sources k rs x (sources k x.place)
      by (inl d) = sym (ap (λ j. late_sources k rs x (sources j x.place)) d)
      by (inr d) = sym (ap (λ j. late_sources k rs x (sources j x.place)) d)

  pub above-late : (k ≡ kind.H) ⊎ (k ≡ kind.HT) → late_sources k rs x (places_above x.place) ≡ late_sources k rs x (sources k x.place)
  above-late (inl d) = sym (ap (λ j. late_sources k rs x (sources j x.place)) d)
  above-late (inr d) = sym (ap (λ j. late_sources k rs x (sources j x.place)) d)

  -- the same of what a call gives
  pub spreads-as : {T E : Type 0} (result : Result T E) (xs ys : List Record) (a b last : ℕ) (old new : Progress) → xs ≡ ys → a ≡ b → OnOk result (Spreads k rs x xs a last old new) → OnOk result (Spreads k rs x ys b last old new)
  spreads-as result xs ys a b last old new e f h = subst (λ l. OnOk result (Spreads k rs x l b last old new)) e (subst (λ c. OnOk result (Spreads k rs x xs c last old new)) f h)

  -- the same rows, and as many sources
  pub spreads-same : (xs ys : List Record) (a b last : ℕ) (old new : Progress) → xs ≡ ys → a ≡ b → Spreads k rs x xs a last old new → Spreads k rs x ys b last old new
  spreads-same xs ys a b last old new e f h = subst (λ l. Spreads k rs x l b last old new) e (subst (λ c. Spreads k rs x xs c last old new) f h)

  -- up to the last step of the store, which stays when it was asked
  pub last-on : (rows : List Record) (late last now : ℕ) (old new : Progress) → now ≡ last → Spreads k rs x rows late now old new → Spreads k rs x rows late last old new
  last-on rows late last now old new e h = subst (λ l. Spreads k rs x rows late l old new) e h
