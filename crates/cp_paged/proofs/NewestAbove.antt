-- The newest change of a place, by the newest row of it or of a place above it.
use Rattle.std.proofs.Common.{ℕ, ◌+◌, ◌-◌, ◌<◌, ◌≤◌, ◌≡◌, false, refl, sym, ap, subst, ◌∙◌, take, drop, length, arith}
use Rattle.std.specs.Prelude.{List, [], ◌∷◌}
use Rattle.std.specs.declared.option.Option.{Option}
use Rattle.std.specs.declared.option.Option.TheVariants.{None, Some}
use Rattle.cp_model.specs.Place.{Path}
use Rattle.cp_model.specs.Keyed.{look}
use Rattle.cp_model.specs.Rows.{left, read_mark, read_nearest, read_full}
use Rattle.cp_model.specs.Leaps.{tells_same, last}
use Rattle.cp_model.specs.Records.{rows_at, reads}
use Rattle.cp_model.specs.declared.kind.Kind.{Kind}
use Rattle.cp_model.specs.declared.kind.Kind.TheVariants as kind
use Rattle.cp_model.specs.declared.effect.Effect.TheVariants.{Same as same}
use Rattle.cp_model.specs.declared.record.Record.{Record}
use Rattle.cp_model.specs.declared.record.RowMark.{RowMark as Mark}
use Rattle.cp_model.specs.Changes.{reading_of_what}
use Rattle.cp_model.specs.declared.change.What.{What}
use Rattle.cp_model.specs.declared.change.What.TheVariants.{New, From, Gone}
use Rattle.cp_model.proofs.NewestLemmas.{last-zero, last-over, last-change, last-same}
use Rattle.cp_paged.specs.Marks.{Says}
use Rattle.cp_store.specs.Told.{reading_if}
use Rattle.cp_paged.specs.Newest.{mark_of_row, first_depth, IsNewestAbove}
use Rattle.cp_paged.specs.declared.newest.Above.{Above}
use Rattle.cp_paged.proofs.Nearest.{nearest-silent, nearest-longest}

pub full_take : (p : Path) → take (length p) p ≡ p
full_take [] = refl
full_take (a ∷ p) = ap (λ q. a ∷ q) (full_take p)

full_drop : (p : Path) → drop (length p) p ≡ []
full_drop [] = refl
full_drop (a ∷ p) = full_drop p

module _ (rs : List Record) (p : Path) where
  -- a step without a row at any prefix that counts left the place the same
  pub reads-silent : (k : Kind) (u : ℕ) → ((n : ℕ) → first_depth k p ≤ n → n ≤ length p → mark_of_row rs (take n p) u ≡ None) → reads k rs u p ≡ left same
  unfolding mark_of_row
  reads-silent kind.N u h = let e = subst (λ q. look q (rows_at rs u) ≡ None) (full_take p) (h (length p) (omega arith) (omega arith)) in rw e refl
  reads-silent kind.T u h = let e = subst (λ q. look q (rows_at rs u) ≡ None) (full_take p) (h (length p) (omega arith) (omega arith)) in rw e refl
  reads-silent kind.H u h = ap read_nearest (nearest-silent (λ r. look r (rows_at rs u)) p (λ n le. h n (omega arith) le))
  reads-silent kind.HT u h = ap read_nearest (nearest-silent (λ r. look r (rows_at rs u)) p (λ n le. h n (omega arith) le))

  own_tells : (u n : ℕ) (m : Mark) → length p ≤ n → n ≤ length p → look (take n p) (rows_at rs u) ≡ Some m → read_full (λ r. look r (rows_at rs u)) p ≡ read_mark m (drop n p)
  own_tells u n m more less at =
      let same_depth : n ≡ length p = omega (arith, more, less) in
      let whole : take n p ≡ p = ap (λ i. take i p) same_depth ∙ full_take p in
      let none : drop n p ≡ [] = ap (λ i. drop i p) same_depth ∙ full_drop p in
      let e = subst (λ q. look q (rows_at rs u) ≡ Some m) whole at in
      rw (e, none) refl

  -- of a step the row of the longest prefix tells
  pub reads-longest : (k : Kind) (u n : ℕ) (m : Mark) → first_depth k p ≤ n → n ≤ length p → mark_of_row rs (take n p) u ≡ Some m → ((i : ℕ) → n < i → i ≤ length p → mark_of_row rs (take i p) u ≡ None) → reads k rs u p ≡ read_mark m (drop n p)
  unfolding mark_of_row
  reads-longest kind.N u n m from le at h = own_tells u n m from le at
  reads-longest kind.T u n m from le at h = own_tells u n m from le at
  reads-longest kind.H u n m from le at h = ap read_nearest (nearest-longest (λ r. look r (rows_at rs u)) p n m le at h)
  reads-longest kind.HT u n m from le at h = ap read_nearest (nearest-longest (λ r. look r (rows_at rs u)) p n m le at h)

  module _ (k : Kind) (t : ℕ) where
    -- where no prefix has a row, nothing has changed
    pub above_none : IsNewestAbove rs p (first_depth k p) (length p + 1) t None → last (reads k rs) t p ≡ None
    unfolding IsNewestAbove
    above_none h = last-over (reads k rs) 0 t p (omega arith) (λ u pos le. reads-silent k u (λ n from few. h u n le from (omega (arith, few)))) ∙ last-zero (reads k rs) p

    module _ (a : Above) (h : IsNewestAbove rs p (first_depth k p) (length p + 1) t (Some a)) where
      -- the steps after it left the place the same
      over : last (reads k rs) t p ≡ last (reads k rs) a.told.tid p
      unfolding IsNewestAbove
      over = last-over (reads k rs) a.told.tid t p h.0 (λ u more le. reads-silent k u (λ n from few. h.5 u n more le from (omega (arith, few))))

      -- the newest is no step
      pub above_zero : a.told.tid ≡ 0 → last (reads k rs) t p ≡ None
      above_zero z = over ∙ ap (λ v. last (reads k rs) v p) z ∙ last-zero (reads k rs) p

      module _ (w : Option What) (is : (m : Mark) → Says a.told.row m → reading_if w ≡ read_mark m (drop a.depth p)) (pos : 0 < a.told.tid) where
        -- what the newest row tells
        tells : reads k rs a.told.tid p ≡ reading_if w
        unfolding IsNewestAbove
        tells =
            let deep = h.2 in
            let at = h.3 in
            reads-longest k a.told.tid a.depth at.mark h.1 (omega (arith, deep)) at.there (λ n more few. h.4 n more (omega (arith, few))) ∙ sym (is at.mark at.says)

        differs : (v : What) → tells_same (reading_of_what v) ≡ false
        differs New = refl
        differs (From q) = refl
        differs Gone = refl

        -- what it has done is the newest change
        pub above_change : (v : What) → w ≡ Some v → last (reads k rs) t p ≡ Some (a.told.tid, reading_of_what v)
        above_change v e = over ∙ last-change (reads k rs) a.told.tid p (reading_of_what v) pos (tells ∙ ap reading_if e) (differs v)

        -- where it has done nothing, the search goes on below
        pub above_same : w ≡ None → last (reads k rs) (a.told.tid - 1) p ≡ last (reads k rs) t p
        above_same e = sym (over ∙ last-same (reads k rs) a.told.tid p pos (tells ∙ ap reading_if e))

-- what is found, of the prefixes that count in the kind
pub as-above : (rs : List Record) (p : Path) (k l : Kind) (first n t : ℕ) (o found : Option Above) → first ≡ first_depth l p → l ≡ k → o ≡ found → IsNewestAbove rs p first n t o → IsNewestAbove rs p (first_depth k p) n t found
as-above rs p k l first n t o found is kinds same_found h = subst (λ x. IsNewestAbove rs p (first_depth k p) n t x) same_found (subst (λ f. IsNewestAbove rs p f n t o) (is ∙ ap (λ x. first_depth x p) kinds) h)
