-- Rows up to a step, and others after it.
use Rattle.std.proofs.Common.{ℕ, suc, zero, ◌+◌, ◌<◌, ◌≤◌, ◌≡◌, ◌⊎◌, inl, inr, Bool, true, false, refl, sym, ap, subst, ◌∙◌, arith, List, [], ◌∷◌, ◌++◌, nat_le}
use Rattle.std.proofs.lemmas.Bool.Decides.{nat_tests}
use Rattle.std.proofs.lemmas.List.{append-nil}
use Rattle.std.proofs.lemmas.List.Elements.{filter_map-append, filter-append}
use Rattle.std.proofs.lemmas.List.Folds.{list_any-append}
use Rattle.std.specs.Prelude.{◌==◌, ◌&&◌, ◌||◌, nat_lt, if◌then◌else◌}
use Rattle.std.specs.List.{list_all, list_any}
use Rattle.std.specs.declared.option.Option.{Option}
use Rattle.std.specs.declared.option.Option.TheVariants.{None, Some}
use Rattle.cp_model.specs.Place.{Path, or_else}
use Rattle.cp_model.specs.Keyed.{look}
use Rattle.cp_model.specs.Rows.{Reading}
use Rattle.cp_model.specs.History.{read_rows}
use Rattle.cp_model.specs.Changes.{records_at}
use Rattle.cp_model.specs.Leaps.{tells_same, last}
use Rattle.cp_model.specs.Records.{rows_at, row_in_step, reads, loses}
use Rattle.cp_model.specs.declared.kind.Kind.{Kind}
use Rattle.cp_model.specs.declared.record.Record.{Record}
use Rattle.cp_model.proofs.NewestLemmas.{last-zero, last-over}
use Rattle.std.proofs.Common.{min}
use Rattle.std.specs.Prelude.{◌*◌}
use Rattle.std.proofs.Math.Nat.{mul-le-mul_right}
use Rattle.cp_store.specs.Costs.{Cost, has_row, counts_for, rows_within, one_if, steps_passed, fan, change_cost}
use Rattle.cp_store.proofs.RowsTold.{reads-same}
use Rattle.cp_paged.proofs.Passed.{within_up}

-- ---- steps that have rows

fewer_if : (w a b : Bool) → (a ≡ true → b ≡ true) → one_if (w && a) ≤ one_if (w && b)
fewer_if true true b h = rw (h refl) (omega arith)
fewer_if true false b h = omega arith
fewer_if false a b h = omega arith

within_test : (f g : ℕ → Bool) (low t : ℕ) → ((u : ℕ) → f u ≡ true → g u ≡ true) → rows_within f low t ≤ rows_within g low t
within_test f g low zero h = omega arith
within_test f g low (suc t) h = let a = within_test f g low t h in let b = fewer_if (nat_le low (suc t)) (f (suc t)) (g (suc t)) (h (suc t)) in omega (arith, a, b)

pub within_both : (f g : ℕ → Bool) (low v t : ℕ) → ((u : ℕ) → f u ≡ true → g u ≡ true) → v ≤ t → rows_within f low v ≤ rows_within g low t
within_both f g low v t h le = let a = within_test f g low v h in let b = within_up g low v t le in omega (arith, a, b)

-- ---- rows of a step that has none

first_part : (a b : Bool) → (a && b) ≡ true → a ≡ true
first_part true b e = refl
first_part false b e = absurd (cc)

second_part : (a b : Bool) → (a && b) ≡ true → b ≡ true
second_part true b e = e
second_part false b e = absurd (cc)

none_of : (f : Record → Bool) (rs : List Record) (t : ℕ) → list_all f rs ≡ true → ((r : Record) → f r ≡ true → (r.tid == t) ≡ false) → rows_at rs t ≡ []
unfolding rows_at
none_of f [] t h off = refl
none_of f (r ∷ rs) t h off = rw (off r (first_part (f r) (list_all f rs) h)) (none_of f rs t (second_part (f r) (list_all f rs) h) off)

none_kept : (f : Record → Bool) (rs : List Record) (t : ℕ) → list_all f rs ≡ true → ((r : Record) → f r ≡ true → (r.tid == t) ≡ false) → records_at rs t ≡ []
unfolding records_at
none_kept f [] t h off = refl
none_kept f (r ∷ rs) t h off = rw (off r (first_part (f r) (list_all f rs) h)) (none_kept f rs t (second_part (f r) (list_all f rs) h) off)

up_to : (upto t u : ℕ) → nat_lt u (upto + 1) ≡ true → upto < t → (u == t) ≡ false
up_to upto t u h less = grind (arith, nat_tests)

after : (upto t u : ℕ) → nat_lt upto u ≡ true → t ≤ upto → (u == t) ≡ false
after upto t u h le = grind (arith, nat_tests)

module _ (on ta : List Record) (upto : ℕ) (before : list_all (λ r. nat_lt r.tid (upto + 1)) on ≡ true) (behind : list_all (λ r. nat_lt upto r.tid) ta ≡ true) where
  both : (t : ℕ) → rows_at (on ++ ta) t ≡ rows_at on t ++ rows_at ta t
  unfolding rows_at
  both t = filter_map-append (row_in_step t) on ta

  pub rows-low : (t : ℕ) → t ≤ upto → rows_at (on ++ ta) t ≡ rows_at on t
  rows-low t le = both t ∙ ap (λ l. rows_at on t ++ l) (none_of (λ r. nat_lt upto r.tid) ta t behind (λ r h. after upto t r.tid h le)) ∙ append-nil (rows_at on t)

  pub rows-high : (t : ℕ) → upto < t → rows_at (on ++ ta) t ≡ rows_at ta t
  rows-high t more = both t ∙ ap (λ l. l ++ rows_at ta t) (none_of (λ r. nat_lt r.tid (upto + 1)) on t before (λ r h. up_to upto t r.tid h more))

  both_kept : (t : ℕ) → records_at (on ++ ta) t ≡ records_at on t ++ records_at ta t
  unfolding records_at
  both_kept t = filter-append (λ r. r.tid == t) on ta

  -- the rows of a step are those of one part
  pub records-low : (t : ℕ) → t ≤ upto → records_at (on ++ ta) t ≡ records_at on t
  records-low t le = both_kept t ∙ ap (λ l. records_at on t ++ l) (none_kept (λ r. nat_lt upto r.tid) ta t behind (λ r h. after upto t r.tid h le)) ∙ append-nil (records_at on t)

  pub records-high : (t : ℕ) → upto < t → records_at (on ++ ta) t ≡ records_at ta t
  records-high t more = both_kept t ∙ ap (λ l. l ++ records_at ta t) (none_kept (λ r. nat_lt r.tid (upto + 1)) on t before (λ r h. up_to upto t r.tid h more))

  pub loses-low : (t : ℕ) (p : Path) → t ≤ upto → loses (on ++ ta) t p ≡ loses on t p
  loses-low t p le = ap (list_any _) (rows-low t le)

  pub loses-high : (t : ℕ) (p : Path) → upto < t → loses (on ++ ta) t p ≡ loses ta t p
  loses-high t p more = ap (list_any _) (rows-high t more)

  module _ (k : Kind) (p : Path) where
    pub reads-low : (t : ℕ) → t ≤ upto → reads k (on ++ ta) t p ≡ reads k on t p
    reads-low t le = ap (λ rows. read_rows k (λ r. look r rows) p) (rows-low t le)

    pub reads-high : (t : ℕ) → upto < t → reads k (on ++ ta) t p ≡ reads k ta t p
    reads-high t more = ap (λ rows. read_rows k (λ r. look r rows) p) (rows-high t more)

    no_row : (t : ℕ) → t ≤ upto → has_row k ta p t ≡ false
    no_row t le = along ta behind
      where
        along : (rs : List Record) → list_all (λ r. nat_lt upto r.tid) rs ≡ true → has_row k rs p t ≡ false
        along [] h = refl
        along (r ∷ rs) h = rw (after upto t r.tid (first_part (nat_lt upto r.tid) (list_all (λ r. nat_lt upto r.tid) rs) h) le) (along rs (second_part (nat_lt upto r.tid) (list_all (λ r. nat_lt upto r.tid) rs) h))

    -- the newest change up to a step of the first part
    pub last-low : (t : ℕ) → t ≤ upto → last (reads k (on ++ ta)) t p ≡ last (reads k on) t p
    unfolding last
    last-low zero le = refl
    last-low (suc t) le = rw (reads-low (suc t) le, last-low t (omega (arith, le))) refl

    tail_none : last (reads k ta) upto p ≡ None
    tail_none = last-over (reads k ta) 0 upto p (omega arith) (λ u pos le. reads-same k ta u p (no_row u le)) ∙ last-zero (reads k ta) p

    -- and after it: that of the other part, or else the newest of the first
    pub last-high : (t : ℕ) → upto ≤ t → last (reads k (on ++ ta)) t p ≡ or_else (last (reads k ta) t p) (last (reads k on) upto p)
    unfolding last
    last-high t le = by_cases t (at_or_after t le)
      where
        at_or_after : (t : ℕ) → upto ≤ t → (upto ≡ t) ⊎ (upto < t)
        at_or_after t le = grind (arith, le)

        further : (a b : Option (ℕ × Reading)) (e : Reading) (u : ℕ) → (if tells_same e then or_else a b else Some (u, e)) ≡ or_else (if tells_same e then a else Some (u, e)) b
        further a b e u = elim (tells_same e) as (λ x. (if x then or_else a b else Some (u, e)) ≡ or_else (if x then a else Some (u, e)) b) [ true ↦ refl | false ↦ refl ]

        by_cases : (t : ℕ) → (upto ≡ t) ⊎ (upto < t) → last (reads k (on ++ ta)) t p ≡ or_else (last (reads k ta) t p) (last (reads k on) upto p)
        by_cases t (inl here) = subst (λ u. last (reads k (on ++ ta)) u p ≡ or_else (last (reads k ta) u p) (last (reads k on) upto p)) here (last-low upto (omega arith) ∙ sym (ap (λ o. or_else o (last (reads k on) upto p)) tail_none))
        by_cases zero (inr more) = absurd (omega (arith, more))
        by_cases (suc t) (inr more) =
            ap (λ e. if tells_same e then last (reads k (on ++ ta)) t p else Some (suc t, e)) (reads-high (suc t) more)
            ∙ ap (λ o. if tells_same (reads k ta (suc t) p) then o else Some (suc t, reads k ta (suc t) p)) (by_cases t (at_or_after t (omega (arith, more))))
            ∙ further (last (reads k ta) t p) (last (reads k on) upto p) (reads k ta (suc t) p) (suc t)

    -- a row that the first part has, both have
    pub has-more : (t : ℕ) → has_row k on p t ≡ true → has_row k (on ++ ta) p t ≡ true
    has-more t h = list_any-append (λ r. (r.tid == t) && counts_for k p r.loc.path) on ta ∙ ap (λ b. b || has_row k ta p t) h

    tail_silent : (t : ℕ) → t ≤ upto → last (reads k ta) t p ≡ None
    tail_silent t le = last-over (reads k ta) 0 t p (omega arith) (λ u pos few. reads-same k ta u p (no_row u (omega (arith, le, few)))) ∙ last-zero (reads k ta) p

    -- at any step
    pub last-any : (t : ℕ) → last (reads k (on ++ ta)) t p ≡ or_else (last (reads k ta) t p) (last (reads k on) (min t upto) p)
    last-any t = by_case (below_or t)
      where
        below_or : (t : ℕ) → (t ≤ upto) ⊎ (upto ≤ t)
        below_or t = grind arith

        by_case : (t ≤ upto) ⊎ (upto ≤ t) → last (reads k (on ++ ta)) t p ≡ or_else (last (reads k ta) t p) (last (reads k on) (min t upto) p)
        by_case (inl le) = let m : t ≡ min t upto = omega (arith, le) in last-low t le ∙ ap (λ u. last (reads k on) u p) m ∙ sym (ap (λ o. or_else o (last (reads k on) (min t upto) p)) (tail_silent t le))
        by_case (inr le) = let m : upto ≡ min t upto = omega (arith, le) in last-high t le ∙ ap (λ u. or_else (last (reads k ta) t p) (last (reads k on) u p)) m

    -- where the other part has no change, the first part's newest is the newest
    pub last-rest : (t : ℕ) → last (reads k ta) t p ≡ None → last (reads k on) (min t upto) p ≡ last (reads k (on ++ ta)) t p
    last-rest t e = sym (last-any t ∙ ap (λ o. or_else o (last (reads k on) (min t upto) p)) e)

    steps_more : (v t : ℕ) (o : Option (ℕ × Reading)) → v ≤ t → steps_passed (has_row k on) v p o ≤ steps_passed (has_row k (on ++ ta)) t p o
    steps_more v t None le = let h = within_both (has_row k on p) (has_row k (on ++ ta) p) 0 v t has-more le in omega (arith, h)
    steps_more v t (Some c) le = within_both (has_row k on p) (has_row k (on ++ ta) p) c.0 v t has-more le

    -- and costs no more than that of both
    pub cost-rest : (c : Cost) (t a b : ℕ) → last (reads k ta) t p ≡ None → b ≤ a + change_cost k on c (min t upto) p → b ≤ a + change_cost k (on ++ ta) c t p
    cost-rest c t a b e h =
        let same_last = last-rest t e in
        let m = steps_more (min t upto) t (last (reads k (on ++ ta)) t p) (omega arith) in
        let h2 : b ≤ a + steps_passed (has_row k on) (min t upto) p (last (reads k (on ++ ta)) t p) * (fan k p * c.look) = subst (λ o. b ≤ a + steps_passed (has_row k on) (min t upto) p o * (fan k p * c.look)) same_last h in
        let n = mul-le-mul_right (fan k p * c.look) m in
        omega (arith, h2, n)
