-- The losses of a place, from those of the steps that left it and of those that removed it.
use Rattle.std.proofs.Common.{ℕ, suc, ◌+◌, ◌≤◌, ◌≡◌, ◌⊎◌, inl, inr, Bool, true, false, refl, sym, ap, subst, ◌∙◌, arith, not, length, drop, map, List, [], ◌∷◌}
use Rattle.std.specs.Prelude.{◌&&◌, ◌||◌, ◌*◌}
use Rattle.std.specs.List.{list_all}
use Rattle.std.specs.declared.option.Option.{Option}
use Rattle.std.specs.declared.option.Option.TheVariants.{None, Some}
use Rattle.cp_model.specs.Answers.{tid_of}
use Rattle.cp_model.specs.Leaps.{losts}
use Rattle.cp_model.specs.Place.{Path}
use Rattle.cp_model.specs.Records.{is_D, loses, reads}
use Rattle.cp_model.specs.Rows.{left, read_mark}
use Rattle.cp_model.specs.declared.effect.Effect.TheVariants.{Same as same}
use Rattle.cp_model.specs.declared.kind.Kind.{Kind}
use Rattle.cp_model.specs.declared.kind.Kind.TheVariants as kind
use Rattle.cp_model.specs.declared.record.Record.{Record}
use Rattle.cp_model.specs.declared.record.RowMark.{RowMark as Mark}
use Rattle.cp_model.specs.declared.record.RowMark.TheVariants.{Made, Copied, Gone, Kept}
use Rattle.cp_store.specs.Costs.{Cost, IsQuiet, losses_cost, has_row, rows_within, own_looks}
use Rattle.cp_store.specs.Lost.{is_within, AreRisingTids}
use Rattle.cp_paged.specs.Listing.{is_tid, Lists, is_gone, survives, goes_whole, can_go_whole, IsTopmost, NeverGone}
use Rattle.cp_paged.specs.Newest.{mark_of_row, first_depth}
use Rattle.cp_store.proofs.RowsTold.{case_of}
use Rattle.cp_paged.proofs.NewestAbove.{reads-longest, full_take}
use Rattle.cp_paged.proofs.Listed.{losts-agree, tids-are, all_pass, each_passes}

split : (a b : Bool) → ((a && not b) || (a && b)) ≡ a
split true true = refl
split true false = refl
split false b = refl

left_if : (a b : Bool) → (a && b) ≡ false → (a && not b) ≡ a
left_if true true e = absurd (cc)
left_if true false e = refl
left_if false b e = refl

and_never : (a b : Bool) → b ≡ false → (a && b) ≡ false
and_never true b e = e
and_never false b e = refl

and_or : (w a b : Bool) → ((w && a) || (w && b)) ≡ (w && (a || b))
and_or true a b = refl
and_or false a b = refl

module _ (rs : List Record) (p : Path) where
  either : (t : ℕ) → (survives rs p t || goes_whole rs p t) ≡ loses rs t p
  either t = split (loses rs t p) (is_gone (mark_of_row rs p t))

  stays : (t : ℕ) → goes_whole rs p t ≡ false → survives rs p t ≡ loses rs t p
  stays t e = left_if (loses rs t p) (is_gone (mark_of_row rs p t)) e

  -- where no place goes whole
  topmost : (k : Kind) → can_go_whole k p ≡ false → IsTopmost k rs → (t : ℕ) → goes_whole rs p t ≡ false
  topmost k e h t = by_kind k p e h t refl
    where
      at_root : (q : Path) (t : ℕ) → ((t : ℕ) → is_gone (mark_of_row rs [] t) ≡ false) → q ≡ [] → goes_whole rs q t ≡ false
      at_root q t h e = subst (λ q. goes_whole rs q t ≡ false) (sym e) (and_never (loses rs t []) (is_gone (mark_of_row rs [] t)) (h t))

      by_kind : (k : Kind) (q : Path) → can_go_whole k q ≡ false → IsTopmost k rs → (t : ℕ) → q ≡ p → goes_whole rs q t ≡ false
      by_kind kind.N [] e h t is = at_root [] t h refl
      by_kind kind.N (a ∷ q) e h t is = absurd (cc)
      by_kind kind.T [] e h t is = at_root [] t h refl
      by_kind kind.T (a ∷ q) e h t is = absurd (cc)
      by_kind kind.H q e h t is = h q t
      by_kind kind.HT q e h t is = h q t

  -- all losses are those of steps that left the place
  pub lost-all : (k : Kind) (low high : ℕ) (ts : List ℕ) → can_go_whole k p ≡ false → IsTopmost k rs → Lists (survives rs p) low high ts → ts ≡ map tid_of (losts (loses rs) low high p)
  lost-all k low high ts e h is =
      tids-are (λ t q. survives rs q t) p low high ts is
      ∙ ap (map tid_of) (losts-agree (λ t q. survives rs q t) (loses rs) p low high (λ t more few. stays t (topmost k e h t)))

  -- or they and those of steps that removed it
  pub lost-both : (low high : ℕ) (xs ys ts : List ℕ) → Lists (survives rs p) low high xs → ((t : ℕ) → is_tid t ys ≡ (is_within low high t && goes_whole rs p t)) → AreRisingTids ts
      → ((t : ℕ) → is_tid t ts ≡ (is_tid t xs || is_tid t ys)) → ts ≡ map tid_of (losts (loses rs) low high p)
  lost-both low high xs ys ts h k rise all =
      tids-are (loses rs) p low high ts (record {
        rise = rise;
        all = λ t.
            let a = h.all t in
            let b = k t in
            all t ∙ ap (λ x. x || is_tid t ys) a ∙ ap (λ x. (is_within low high t && survives rs p t) || x) b
            ∙ and_or (is_within low high t) (survives rs p t) (goes_whole rs p t) ∙ ap (λ x. is_within low high t && x) (either t);
      })

  gone_reads : (m : Mark) → is_D m ≡ true → read_mark m (drop (length p) p) ≡ left same → ⊥
  gone_reads Made d e = absurd (cc)
  gone_reads (Copied q) d e = absurd (cc)
  gone_reads Gone d e = absurd (cc)
  gone_reads Kept d e = absurd (cc)

  first_le : (k : Kind) → first_depth k p ≤ length p
  first_le kind.N = omega arith
  first_le kind.T = omega arith
  first_le kind.H = omega arith
  first_le kind.HT = omega arith

  -- a step that changed nothing didn't remove the place
  quiet_row : (k : Kind) (t : ℕ) (o : Option Mark) → mark_of_row rs p t ≡ o → reads k rs t p ≡ left same → is_gone o ≡ false
  quiet_row k t None e q = refl
  quiet_row k t (Some m) e q = elim (case_of (is_D m)) [
    | inl is ↦ absurd (gone_reads m is (sym (reads-longest rs p k t (length p) m (first_le k) (omega arith) (subst (λ r. mark_of_row rs r t ≡ Some m) (sym (full_take p)) e) (λ i more few. absurd (omega (arith, more, few)))) ∙ q))
    | inr off ↦ off
  ]

  pub quiet-never : (k : Kind) (low high : ℕ) → IsQuiet k rs low high p → NeverGone rs p low high
  quiet-never k low high h t more few = quiet_row k t (mark_of_row rs p t) refl (h t more few)

  -- then the losses of steps that left it are all
  quiet_all : (low high : ℕ) → NeverGone rs p low high → losts (λ t q. survives rs q t) low high p ≡ losts (loses rs) low high p
  quiet_all low high h = losts-agree (λ t q. survives rs q t) (loses rs) p low high (λ t more few. stays t (and_never (loses rs t p) (is_gone (mark_of_row rs p t)) (h t more few)))

  module _ (k : Kind) (c : Cost) (low high : ℕ) (h : IsQuiet k rs low high p) where
    -- the reads of the losses alone
    pub cost-lost : (a b : ℕ) → b ≤ a + (c.look + c.runs + length (losts (λ t q. survives rs q t) low high p)) → b ≤ a + losses_cost k rs c low high p
    cost-lost a b read =
        let e : length (losts (λ t q. survives rs q t) low high p) ≡ length (losts (loses rs) low high p) = ap length (quiet_all low high (quiet-never k low high h)) in
        omega (arith, read, e)

    own_is : (can_go_whole k p ≡ true) → own_looks k rs (suc low) high p ≡ suc (rows_within (has_row kind.N rs p) (suc low) high)
    own_is e = by_kind k p e
      where
        by_kind : (k : Kind) (q : Path) → can_go_whole k q ≡ true → own_looks k rs (suc low) high q ≡ suc (rows_within (has_row kind.N rs q) (suc low) high)
        by_kind kind.N [] e = absurd (cc)
        by_kind kind.N (a ∷ q) e = refl
        by_kind kind.T [] e = absurd (cc)
        by_kind kind.T (a ∷ q) e = refl
        by_kind kind.H q e = absurd (cc)
        by_kind kind.HT q e = absurd (cc)

    -- and with those of the steps that have a row of the place
    pub cost-both : (a b d : ℕ) → can_go_whole k p ≡ true → b ≤ a + (c.look + c.runs + length (losts (λ t q. survives rs q t) low high p)) → d ≤ b + suc (rows_within (has_row kind.N rs p) (suc low) high) * c.look → d ≤ a + losses_cost k rs c low high p
    cost-both a b d can read more =
        let e : length (losts (λ t q. survives rs q t) low high p) ≡ length (losts (loses rs) low high p) = ap length (quiet_all low high (quiet-never k low high h)) in
        let o = ap (λ n. n * c.look) (own_is can) in
        omega (arith, read, e, more, o)

-- a list of Tids that are of two lists within a range lies there
pub both-within : (low high : ℕ) (xs ys ts : List ℕ) → list_all (is_within low high) xs ≡ true → ((t : ℕ) → is_tid t ys ≡ true → is_within low high t ≡ true) → ((t : ℕ) → is_tid t ts ≡ (is_tid t xs || is_tid t ys)) → list_all (is_within low high) ts ≡ true
both-within low high xs ys ts h k all = all_pass (is_within low high) ts (λ t is. by_case t (one_of (is_tid t xs) (is_tid t ys) (sym (all t) ∙ is)))
  where
    one_of : (a b : Bool) → (a || b) ≡ true → (a ≡ true) ⊎ (b ≡ true)
    one_of true b e = inl refl
    one_of false b e = inr e

    by_case : (t : ℕ) → (is_tid t xs ≡ true) ⊎ (is_tid t ys ≡ true) → is_within low high t ≡ true
    by_case t (inl is) = each_passes (is_within low high) xs h t is
    by_case t (inr is) = k t is

-- a number of looks, by a cost that is the same
pub at_cost : (c d : Cost) → d ≡ c → (now before n : ℕ) → now ≤ before + n * d.look → now ≤ before + n * c.look
at_cost c d e now before n h = subst (λ (x : Cost). now ≤ before + n * x.look) e h
