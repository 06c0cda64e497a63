-- The newest row of a place or of those above it, from prefix to prefix.
use Rattle.std.proofs.Common.{ℕ, ◌+◌, ◌<◌, ◌≤◌, ◌≡◌, arith, below_more}
use Rattle.std.specs.Prelude.{List, take}
use Rattle.std.specs.declared.option.Option.{Option}
use Rattle.std.specs.declared.option.Option.TheVariants.{None, Some}
use Rattle.cp_model.specs.Place.{Path}
use Rattle.cp_model.specs.declared.record.Record.{Record}
use Rattle.cp_paged.specs.Newest.{mark_of_row, IsNewestRow, IsNewestAbove}
use Rattle.cp_paged.specs.declared.places.PlaceRow.{PlaceRow}
use Rattle.cp_paged.specs.declared.newest.Above.{Above}

module _ (rs : List Record) (p : Path) (first t : ℕ) where
  -- of no prefix
  pub above-start : IsNewestAbove rs p first first t None
  unfolding IsNewestAbove
  above-start = λ u k le more few. absurd (omega (arith, more, few))

  module _ (n : ℕ) (deep : first ≤ n) where
    -- one prefix more, without a row up to t
    pub above-silent : (best : Option Above) → IsNewestAbove rs p first n t best → IsNewestRow rs (take n p) t None → IsNewestAbove rs p first (n + 1) t best
    unfolding IsNewestAbove IsNewestRow
    above-silent None h s = λ u k le from few. below_more (λ k. first ≤ k → mark_of_row rs (take k p) u ≡ None) n (λ k l f. h u k le f l) (λ f. s u le) k few from
    above-silent (Some b) h s = (
      h.0,
      h.1,
      (let l = h.2 in omega (arith, l)),
      h.3,
      λ k more few. below_more (λ k. b.depth < k → mark_of_row rs (take k p) b.told.tid ≡ None) n (λ k l m. h.4 k m l) (λ _. s b.told.tid h.0) k few more,
      λ u k more le from few. below_more (λ k. first ≤ k → mark_of_row rs (take k p) u ≡ None) n (λ k l f. h.5 u k more le f l) (λ f. s u le) k few from,
    )

    module _ (s : PlaceRow) (h : IsNewestRow rs (take n p) t (Some s)) where
      -- one prefix more, whose newest row is an older one
      pub above-older : (b : Above) → s.tid < b.told.tid → IsNewestAbove rs p first n t (Some b) → IsNewestAbove rs p first (n + 1) t (Some b)
      unfolding IsNewestAbove IsNewestRow
      above-older b old g = (
        g.0,
        g.1,
        (let l = g.2 in omega (arith, l)),
        g.3,
        λ k more few. below_more (λ k. b.depth < k → mark_of_row rs (take k p) b.told.tid ≡ None) n (λ k l m. g.4 k m l) (λ _. h.2 b.told.tid old g.0) k few more,
        λ u k more le from few. below_more (λ k. first ≤ k → mark_of_row rs (take k p) u ≡ None) n (λ k l f. g.5 u k more le f l) (λ f. h.2 u (omega (arith, old, more)) le) k few from,
      )

      -- one prefix more, and no prefix before has a newer row
      takes : ((u k : ℕ) → s.tid < u → u ≤ t → first ≤ k → k < n → mark_of_row rs (take k p) u ≡ None) → IsNewestAbove rs p first (n + 1) t (Some (record { told = s; depth = n }))
      unfolding IsNewestAbove IsNewestRow
      takes g = (
        h.0,
        deep,
        omega arith,
        h.1,
        λ k more few. absurd (omega (arith, more, few)),
        λ u k more le from few. below_more (λ k. first ≤ k → mark_of_row rs (take k p) u ≡ None) n (λ k l f. g u k more le f l) (λ f. h.2 u more le) k few from,
      )

      -- the first prefix that has a row
      pub above-first : IsNewestAbove rs p first n t None → IsNewestAbove rs p first (n + 1) t (Some (record { told = s; depth = n }))
      unfolding IsNewestAbove
      above-first g = takes (λ u k more le from few. g u k le from few)

      -- one prefix more, whose newest row is no older one
      pub above-newer : (b : Above) → b.told.tid ≤ s.tid → IsNewestAbove rs p first n t (Some b) → IsNewestAbove rs p first (n + 1) t (Some (record { told = s; depth = n }))
      unfolding IsNewestAbove
      above-newer b new g = takes (λ u k more le from few. g.5 u k (omega (arith, new, more)) le from few)
