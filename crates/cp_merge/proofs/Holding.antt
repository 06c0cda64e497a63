-- Rows that are held each once, in one run more or merged.
use Rattle.std.proofs.Common.{◌≡◌, ◌∙◌, ⊎_elim, ap, sym, subst, false, List, None, [], ◌∷◌, ◌++◌, append_assoc, append-nil}
use Rattle.std.specs.List.{Contains, AllByRecursion, IsDistinct}
use Rattle.std.proofs.lemmas.List.Elements.{Contains-append_left, Contains-append_right, Contains-append_cases}
use Rattle.cp_page.specs.declared.row.PageRow.{PageRow}
use Rattle.cp_page.specs.Cuts.{all_rows}
use Rattle.cp_paged.specs.Held.{HasEachOnce}
use Rattle.cp_merge.specs.Merging.{AreApart, NewRunsHoldEach, MergesHoldEach, MergedRunsHoldEach}
use Rattle.cp_merge.proofs.Keys.{has_key_of, keys_distinct, rows_distinct, at_first, after_first, all_in, apart_eq, rise_distinct, one_of_key}

all_append : {X : Type 0} (P : X → Type 0) (xs ys : List X) → AllByRecursion P xs → AllByRecursion P ys → AllByRecursion P (xs ++ ys)
all_append P [] ys a b = b
all_append P (x ∷ xs) ys a b = (a.0, all_append P xs ys a.1 b)

distinct_append : (xs ys : List PageRow) → IsDistinct has_key_of xs → IsDistinct has_key_of ys → AreApart xs ys → IsDistinct has_key_of (xs ++ ys)
unfolding IsDistinct
distinct_append [] ys a b apart = b
distinct_append (x ∷ xs) ys a b apart = (
  all_append (λ y. has_key_of x y ≡ false) xs ys a.0 (all_in (λ y. has_key_of x y ≡ false) ys (λ y h. apart_eq x.key y.key (apart x y (at_first x xs) h))),
  distinct_append xs ys a.1 b (λ p q hp hq. apart p q (after_first x xs p hp) hq),
)

pub each_more : (stored wanted more extra : List PageRow) → HasEachOnce stored wanted → HasEachOnce more extra → AreApart stored more → HasEachOnce (stored ++ more) (wanted ++ extra)
each_more stored wanted more extra old new apart = record {
  once = keys_distinct (stored ++ more) (distinct_append stored more (rows_distinct stored old.once) (rows_distinct more new.once) apart);
  no_other = λ r in_all. ⊎_elim (λ a. Contains-append_left wanted extra r (old.no_other r a)) (λ b. Contains-append_right wanted extra r (new.no_other r b)) (Contains-append_cases stored more r in_all);
  each = λ r in_all. ⊎_elim (λ a. Contains-append_left stored more r (old.each r a)) (λ b. Contains-append_right stored more r (new.each r b)) (Contains-append_cases wanted extra r in_all);
}

pub all_more : (runs : List (List PageRow)) (extra : List PageRow) → all_rows (runs ++ extra ∷ []) ≡ all_rows runs ++ extra
all_more [] extra = append-nil extra
all_more (rows ∷ runs) extra = ap (λ l. rows ++ l) (all_more runs extra) ∙ sym (append_assoc rows (all_rows runs) extra)

pub new_runs_hold_each : NewRunsHoldEach
new_runs_hold_each runs extra old new has is apart = subst (λ rows. HasEachOnce rows (old ++ new)) (sym (all_more runs extra)) (each_more (all_rows runs) old extra new has is apart)

pub merges_hold_each : MergesHoldEach
merges_hold_each lists rows wanted merge has = record {
  once = keys_distinct rows (rise_distinct None rows merge.rise);
  no_other = λ r h. has.no_other r (merge.of_lists r h);
  each = λ r h.
      let of_list = has.each r h in
      let kept = merge.each r of_list in
      subst (Contains rows) (one_of_key (all_rows lists) (rows_distinct (all_rows lists) has.once) kept.0 r (merge.of_lists kept.0 kept.1) of_list kept.2) kept.1;
}

pub merged_runs_hold_each : MergedRunsHoldEach
merged_runs_hold_each runs extra rows old new has is apart merge = merges_hold_each (runs ++ extra ∷ []) rows (old ++ new) merge (new_runs_hold_each runs extra old new has is apart)
