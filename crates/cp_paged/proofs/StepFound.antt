-- The rows of a step that are taken of the rows which are found.
use Rattle.std.proofs.Common.{arith, ℕ, ◌^◌, ◌<◌, ◌≡◌, inl, inr, ap, sym, refl, subst, List, [], ◌∷◌, ◌++◌, map}
use Rattle.std.specs.Prelude.{◌==◌, ◌&&◌, ◌||◌}
use Rattle.std.specs.Int.{to_be_bytes, w64}
use Rattle.std.specs.List.{AllByRecursion, Contains, list_any}
use Rattle.cp_format.specs.Spelled.{IsSpelled}
use Rattle.cp_model.specs.Changes.{records_at}
use Rattle.cp_model.specs.Past.{is_child}
use Rattle.cp_model.specs.Place.{Path}
use Rattle.cp_model.specs.Records.{is_D, loses, mark_by, rows_at}
use Rattle.cp_model.specs.declared.kind.Kind.{Kind}
use Rattle.cp_model.specs.declared.record.Record.{Record}
use Rattle.cp_page.specs.Orders.{by_place, by_step}
use Rattle.cp_page.specs.declared.row.PageRow.{PageRow}
use Rattle.cp_store.proofs.RowsTold.{case_of}
use Rattle.cp_paged.specs.Held.{HasEachOnce, PagesHold}
use Rattle.cp_run.specs.Answers.{IsBetween}
use Rattle.cp_paged.proofs.Among.{IsAmong, among, contained, within-of}
use Rattle.cp_paged.proofs.ByStep.{step-rows}

-- of spelled records those of a step are spelled
pub some-spelled : (rs : List Record) (t : ℕ) → AllByRecursion IsSpelled rs → AllByRecursion IsSpelled (records_at rs t)
unfolding records_at
some-spelled [] t all = tt
some-spelled (r ∷ rs) t all = elim (case_of (r.tid == t)) [
  | inl of ↦ rw of (all.0, some-spelled rs t all.1)
  | inr off ↦ rw off (some-spelled rs t all.1)
]

module _ (k : Kind) (upto : ℕ) (stored : ℕ → List PageRow) (rs : List Record) (hold : PagesHold k upto stored rs) where
  -- the rows of the order by step from the Tid and T to the Tid and U
  pub step-found : (t : ℕ) → t < 2 ^ 64 → (from to : List ℕ) → from ≡ to_be_bytes w64 t ++ 84 ∷ [] → to ≡ to_be_bytes w64 t ++ 85 ∷ [] → (found : List PageRow) → IsBetween from to (stored 1) found → found ≡ map by_step (records_at rs t)
  step-found t fits from to from_is to_is found g =
      step-rows k upto rs hold.held t fits found (within-of (to_be_bytes w64 t ++ 84 ∷ []) (to_be_bytes w64 t ++ 85 ∷ []) (stored 1) (map by_step rs) found (hold.each 1 (omega arith)) (subst (λ x. IsBetween x (to_be_bytes w64 t ++ 85 ∷ []) (stored 1) found) from_is (subst (λ x. IsBetween from x (stored 1) found) to_is g)))

  -- where there are no rows, there are no records
  pub no-records : stored 0 ≡ [] → rs ≡ []
  no-records none = by_list rs refl
    where
      each : HasEachOnce (stored 0) (map by_place rs)
      each = hold.each 0 (omega arith)

      by_list : (xs : List Record) → rs ≡ xs → rs ≡ []
      by_list [] e = e
      by_list (x ∷ xs) e = absurd (among (by_place x) [] (subst (λ l. Contains l (by_place x)) none (each.each (by_place x) (contained (by_place x) (map by_place rs) (subst (λ l. IsAmong (by_place x) (map by_place l)) (sym e) (inl refl))))))

-- a step took a child of the place away, where one of its records says so
pub loses-by : (rs : List Record) (t : ℕ) (p : Path) → list_any (λ r. is_child p r.loc.path && is_D (mark_by r.op r.src)) (records_at rs t) ≡ loses rs t p
unfolding records_at rows_at
loses-by [] t p = refl
loses-by (r ∷ rs) t p = elim (case_of (r.tid == t)) [
  | inl of ↦ rw of (ap (λ b. (is_child p r.loc.path && is_D (mark_by r.op r.src)) || b) (loses-by rs t p))
  | inr off ↦ rw off (loses-by rs t p)
]
