-- Parts of a list of entries whose keys rise, and an entry put behind them all.
use Rattle.std.specs.Prelude.{◌≡◌, List, [], ◌∷◌, ◌++◌, refl}
use Rattle.std.proofs.Common.{sym, ap, subst, ◌∙◌, T}
use Rattle.std.specs.declared.cmp.Ordering.{Ordering}
use Rattle.std.specs.declared.cmp.Ordering.TheVariants.{Less, Equal, Greater}
use Rattle.std.specs.Ordering.{is_lt, ordering_reverse}
use Rattle.std.specs.Cmp.{IsTotalOrder}
use Rattle.std.specs.FinMap.Entries.{put, is_sorted, below_all}
use Rattle.cp_model.proofs.Sorted.{parts_of, all_of}

-- what is less is Less
pub less_is : (o : Ordering) → T (is_lt o) → o ≡ Less
less_is Less h = refl
less_is Equal h = absurd h
less_is Greater h = absurd h

module _ {K : Type 0} (R : K → K → Ordering) (total : IsTotalOrder R) where
  -- the order of two keys the other way round
  pub turned : (x y : K) (o : Ordering) → R x y ≡ o → R y x ≡ ordering_reverse o
  turned x y o e = total.antisymm y x ∙ ap ordering_reverse e

  module _ {Y : Type 0} where
    -- a key below all of these is less than that of each
    pub less_mid : (x : K) (l : List (K × Y)) (e : K × Y) (r : List (K × Y)) → T (below_all R x (l ++ e ∷ r)) → R x e.0 ≡ Less
    less_mid x [] e r h = less_is (R x e.0) (parts_of (is_lt (R x e.0)) (below_all R x r) h).0
    less_mid x (y ∷ l) e r h = less_mid x l e r (parts_of (is_lt (R x y.0)) (below_all R x (l ++ e ∷ r)) h).1

    -- what is less than a key is less than all above it
    pub less_all : (x k : K) (r : List (K × Y)) → R x k ≡ Less → T (below_all R k r) → T (below_all R x r)
    less_all x k [] lt h = tt
    less_all x k (y ∷ r) lt h =
        let p = parts_of (is_lt (R k y.0)) (below_all R k r) h in
        all_of _ _ (subst (λ o. T (is_lt o)) (sym (total.trans x k y.0 lt (less_is (R k y.0) p.0))) tt) (less_all x k r lt p.1)

    -- what comes behind all is put at the end
    pub put_end : (l : List (K × Y)) (e : K × Y) (r : List (K × Y)) → T (is_sorted R (l ++ e ∷ r)) → put R e.0 e.1 l ≡ l ++ e ∷ []
    put_end [] e r s = refl
    put_end (y ∷ l) e r s =
        let p = parts_of (below_all R y.0 (l ++ e ∷ r)) (is_sorted R (l ++ e ∷ r)) s in
        rw (turned y.0 e.0 Less (less_mid y.0 l e r p.0)) (ap (λ z. y ∷ z) (put_end l e r p.1))
