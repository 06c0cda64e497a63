-- The losses of rows up to a step, and of others after it.
use Rattle.std.proofs.Common.{ℕ, suc, zero, ◌+◌, ◌<◌, ◌≤◌, ◌≡◌, ◌⊎◌, inl, inr, Bool, true, false, refl, sym, ap, subst, ◌∙◌, arith, List, [], ◌∷◌, ◌++◌, map, length, min, max, append_assoc}
use Rattle.std.proofs.Math.Nat.{mul-le-mul_right}
use Rattle.std.proofs.lemmas.Bool.Decides.{nat_tests}
use Rattle.std.proofs.lemmas.List.{append-nil, map-append, length-append}
use Rattle.std.specs.Prelude.{◌==◌, ◌||◌, nat_lt, if◌then◌else◌}
use Rattle.std.specs.List.{list_all}
use Rattle.cp_path.specs.declared.loc.Loc.{Loc}
use Rattle.cp_model.specs.Answers.{tid_of}
use Rattle.cp_model.specs.Below.{losses_at}
use Rattle.cp_model.specs.Leaps.{losts, lost_at}
use Rattle.cp_model.specs.Place.{Path, in_target}
use Rattle.cp_model.specs.Records.{loses}
use Rattle.cp_model.specs.declared.kind.Kind.{Kind}
use Rattle.cp_model.specs.declared.kind.Kind.TheVariants as kind
use Rattle.cp_model.specs.declared.record.Record.{Record}
use Rattle.cp_store.specs.Costs.{Cost, IsQuiet, losses_cost, own_looks, has_row, rows_within}
use Rattle.cp_store.specs.Lost.{is_within}
use Rattle.cp_paged.specs.Listing.{is_tid}
use Rattle.cp_paged.specs.Paged.{PagedRows, KeepsBoth}
use Rattle.cp_store.proofs.RowsTold.{case_of}
use Rattle.cp_paged.proofs.Listed.{losts-agree, all_pass, each_passes}
use Rattle.cp_paged.proofs.Split.{loses-low, loses-high, reads-low, has-more, within_both}

less_is : (a b : ℕ) → nat_lt a b ≡ true → a < b
less_is a b e = grind (arith, nat_tests)

not_less : (a b : ℕ) → nat_lt a b ≡ false → b ≤ a
not_less a b e = grind (arith, nat_tests)

test_less : (a b : ℕ) → a < b → nat_lt a b ≡ true
test_less a b e = grind (arith, nat_tests)

test_not : (a b : ℕ) → b ≤ a → nat_lt a b ≡ false
test_not a b e = grind (arith, nat_tests)

losts_none : (L : ℕ → Path → Bool) (v t : ℕ) (p : Path) → t ≤ v → losts L v t p ≡ []
unfolding losts
losts_none L v zero p le = refl
losts_none L v (suc t) p le = rw (test_not v (suc t) le) refl

at_or_after : (u t : ℕ) → u ≤ t → (u ≡ t) ⊎ (u < t)
at_or_after u t le = grind (arith, le)

either_order : (u t : ℕ) → (t ≤ u) ⊎ (u ≤ t)
either_order u t = grind arith

module _ (on ta : List Record) (upto : ℕ) (before : list_all (λ r. nat_lt r.tid (upto + 1)) on ≡ true) (behind : list_all (λ r. nat_lt upto r.tid) ta ≡ true) (p : Path) (low : ℕ) where
  low_part : (t : ℕ) → t ≤ upto → losts (loses (on ++ ta)) low t p ≡ losts (loses on) low t p
  low_part t le = losts-agree (loses (on ++ ta)) (loses on) p low t (λ u more few. loses-low on ta upto before behind u p (omega (arith, few, le)))

  high_part : (t : ℕ) → (upto ≡ t) ⊎ (upto < t) → losts (loses (on ++ ta)) low t p ≡ losts (loses on) low upto p ++ losts (loses ta) (max low upto) t p
  unfolding losts
  high_part t (inl here) =
      subst (λ t. losts (loses (on ++ ta)) low t p ≡ losts (loses on) low upto p ++ losts (loses ta) (max low upto) t p) here
      (low_part upto (omega arith) ∙ sym (ap (λ l. losts (loses on) low upto p ++ l) (losts_none (loses ta) (max low upto) upto p (omega arith)) ∙ append-nil (losts (loses on) low upto p)))
  high_part zero (inr more) = absurd (omega (arith, more))
  high_part (suc t) (inr more) = elim (case_of (nat_lt low (suc t))) [
    | inl some ↦
        let low_less = less_is low (suc t) some in
        let second : nat_lt (max low upto) (suc t) ≡ true = test_less (max low upto) (suc t) (omega (arith, low_less, more)) in
        let on_t = high_part t (at_or_after upto t (omega (arith, more))) in
        rw (some, second, on_t, loses-high on ta upto before behind (suc t) p more) (append_assoc (losts (loses on) low upto p) (losts (loses ta) (max low upto) t p) (lost_at (loses ta) (suc t) p))
    | inr past ↦
        let low_more = not_less low (suc t) past in
        let second : nat_lt (max low upto) (suc t) ≡ false = test_not (max low upto) (suc t) (omega (arith, low_more)) in
        let first = losts_none (loses on) low upto p (omega (arith, low_more, more)) in
        rw (past, second, first) refl
  ]

  -- the losses are those of one part, and then those of the other
  pub losts-split : (t : ℕ) → losts (loses (on ++ ta)) low t p ≡ losts (loses on) low (min t upto) p ++ losts (loses ta) (max low upto) t p
  losts-split t = by_case (either_order upto t)
    where
      by_case : (t ≤ upto) ⊎ (upto ≤ t) → losts (loses (on ++ ta)) low t p ≡ losts (loses on) low (min t upto) p ++ losts (loses ta) (max low upto) t p
      by_case (inl le) =
          let m : t ≡ min t upto = omega (arith, le) in
          low_part t le ∙ ap (λ u. losts (loses on) low u p) m ∙ sym (ap (λ l. losts (loses on) low (min t upto) p ++ l) (losts_none (loses ta) (max low upto) t p (omega (arith, le))) ∙ append-nil (losts (loses on) low (min t upto) p))
      by_case (inr le) =
          let m : upto ≡ min t upto = omega (arith, le) in
          high_part t (at_or_after upto t le) ∙ ap (λ u. losts (loses on) low u p ++ losts (loses ta) (max low upto) t p) m

  pub quiet-part : (k : Kind) (t : ℕ) → IsQuiet k (on ++ ta) low t p → IsQuiet k on low (min t upto) p
  quiet-part k t h u more few = sym (reads-low on ta upto before behind k p u (omega (arith, few))) ∙ h u more (omega (arith, few))

  own_more : (k : Kind) (q : Path) (f g t : ℕ) → ((k : Kind) → rows_within (has_row k on q) f g ≤ rows_within (has_row k (on ++ ta) q) f t) → own_looks k on f g q ≤ own_looks k (on ++ ta) f t q
  own_more kind.N [] f g t h = omega arith
  own_more kind.N (a ∷ q) f g t h = let x = h kind.N in omega (arith, x)
  own_more kind.T [] f g t h = omega arith
  own_more kind.T (a ∷ q) f g t h = let x = h kind.T in omega (arith, x)
  own_more kind.H q f g t h = omega arith
  own_more kind.HT q f g t h = omega arith

  -- the first part's cost is no more than that of both
  pub cost-part : (k : Kind) (c : Cost) (t a b : ℕ) → b ≤ a + losses_cost k on c low (min t upto) p → b ≤ a + losses_cost k (on ++ ta) c low t p
  cost-part k c t a b read =
      let own = mul-le-mul_right c.look (own_more k p (suc low) (min t upto) t (λ k. within_both (has_row k on p) (has_row k (on ++ ta) p) (suc low) (min t upto) t (has-more on ta upto before behind k p) (omega arith))) in
      let size : length (losts (loses (on ++ ta)) low t p) ≡ length (losts (loses on) low (min t upto) p) + length (losts (loses ta) (max low upto) t p) = ap length (losts-split t) ∙ length-append (losts (loses on) low (min t upto) p) (losts (loses ta) (max low upto) t p) in
      omega (arith, read, own, size)

losses_in : (rs : List Record) (low high : ℕ) (q : Loc) → in_target q ≡ true → losses_at rs low high q ≡ map tid_of (losts (loses rs) low high q.path)
unfolding losses_at
losses_in rs low high q e = ap (λ b. if b then map tid_of (losts (loses rs) low high q.path) else []) e

pub losses-outside : (rs : List Record) (low high : ℕ) (q : Loc) → in_target q ≡ false → [] ≡ losses_at rs low high q
unfolding losses_at
losses-outside rs low high q e = sym (ap (λ b. if b then map tid_of (losts (loses rs) low high q.path) else []) e)

module _ (f : List Record → Type 0) (k : Kind) (s : PagedRows) (rs : List Record) (h : KeepsBoth f k s rs) (low high : ℕ) (q : Loc) where
  -- the losses on pages, and those of the rows in memory
  pub losses-both : (p : Path) (m n : ℕ) (xs ys zs : List ℕ) → in_target q ≡ true → p ≡ q.path → m ≡ min high s.upto → n ≡ max low s.upto → xs ≡ map tid_of (losts (loses h.on) low m p) → ys ≡ losses_at s.tail.rows.list n high q → zs ≡ xs ++ ys → zs ≡ losses_at rs low high q
  losses-both p m n xs ys zs target place is_m is_n first last_ones e =
      let first2 : xs ≡ map tid_of (losts (loses h.on) low (min high s.upto) q.path) = first ∙ ap (λ m. map tid_of (losts (loses h.on) low m p)) is_m ∙ ap (λ p. map tid_of (losts (loses h.on) low (min high s.upto) p)) place in
      let then2 : ys ≡ map tid_of (losts (loses s.tail.rows.list) (max low s.upto) high q.path) = last_ones ∙ losses_in s.tail.rows.list n high q target ∙ ap (λ n. map tid_of (losts (loses s.tail.rows.list) n high q.path)) is_n in
      e ∙ ap (λ l. l ++ ys) first2 ∙ ap (λ l. map tid_of (losts (loses h.on) low (min high s.upto) q.path) ++ l) then2
      ∙ sym (map-append tid_of (losts (loses h.on) low (min high s.upto) q.path) (losts (loses s.tail.rows.list) (max low s.upto) high q.path))
      ∙ sym (ap (map tid_of) (losts-split h.on s.tail.rows.list s.upto h.before h.behind q.path low high))
      ∙ ap (λ l. map tid_of (losts (loses l) low high q.path)) (sym h.all)
      ∙ sym (losses_in rs low high q target)

  pub losses-read : (c : Cost) (p : Path) (m a b : ℕ) → p ≡ q.path → m ≡ min high s.upto → IsQuiet k rs low high q.path → (IsQuiet k h.on low m p → b ≤ a + losses_cost k h.on c low m p) → b ≤ a + losses_cost k rs c low high q.path
  losses-read c p m a b place is_m quiet read =
      let calm : IsQuiet k h.on low (min high s.upto) q.path = quiet-part h.on s.tail.rows.list s.upto h.before h.behind q.path low k high (subst (λ l. IsQuiet k l low high q.path) h.all quiet) in
      let read2 : IsQuiet k h.on low (min high s.upto) q.path → b ≤ a + losses_cost k h.on c low (min high s.upto) q.path = subst (λ m. IsQuiet k h.on low m q.path → b ≤ a + losses_cost k h.on c low m q.path) is_m (subst (λ p. IsQuiet k h.on low m p → b ≤ a + losses_cost k h.on c low m p) place read) in
      subst (λ l. b ≤ a + losses_cost k l c low high q.path) (sym h.all) (cost-part h.on s.tail.rows.list s.upto h.before h.behind q.path low k c high a b (read2 calm))

within_wider : (low high from to t : ℕ) → low ≤ from → to ≤ high → is_within from to t ≡ true → is_within low high t ≡ true
within_wider low high from to t a b h = grind (arith, nat_tests)

any_of_two : (xs ys : List ℕ) (t : ℕ) → is_tid t (xs ++ ys) ≡ true → (is_tid t xs ≡ true) ⊎ (is_tid t ys ≡ true)
any_of_two [] ys t h = inr h
any_of_two (x ∷ xs) ys t h = by_head (x == t) h (any_of_two xs ys t)
  where
    by_head : (b : Bool) → (b || is_tid t (xs ++ ys)) ≡ true → (is_tid t (xs ++ ys) ≡ true → (is_tid t xs ≡ true) ⊎ (is_tid t ys ≡ true)) → ((b || is_tid t xs) ≡ true) ⊎ (is_tid t ys ≡ true)
    by_head true h on = inl refl
    by_head false h on = on h

pub joined-within : (low high u m n : ℕ) (xs ys zs : List ℕ) → m ≡ min high u → n ≡ max low u → list_all (is_within low m) xs ≡ true → list_all (is_within n high) ys ≡ true → zs ≡ xs ++ ys → list_all (is_within low high) zs ≡ true
joined-within low high u m n xs ys zs is_m is_n a b e =
    ap (list_all (is_within low high)) e ∙ all_pass (is_within low high) (xs ++ ys) (λ t h. by_case t (any_of_two xs ys t h))
  where
    by_case : (t : ℕ) → (is_tid t xs ≡ true) ⊎ (is_tid t ys ≡ true) → is_within low high t ≡ true
    by_case t (inl h) = within_wider low high low m t (omega arith) (omega (arith, is_m)) (each_passes (is_within low m) xs a t h)
    by_case t (inr h) = within_wider low high n high t (omega (arith, is_n)) (omega arith) (each_passes (is_within n high) ys b t h)
