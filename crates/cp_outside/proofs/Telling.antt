-- Moments that are told one after another.
use Rattle.std.proofs.Common.{◌≡◌, ℕ, List, [], ◌∷◌, ◌++◌, ◌∙◌, refl, sym, subst}
use Rattle.std.specs.declared.option.Option.{Option}
use Rattle.cp_outside.specs.Moments.{TellsOne, HasTold}

-- none
pub told-none : (a : Option (List ℕ)) → HasTold a a []
told-none a = refl

-- one
pub told-one : (a b : Option (List ℕ)) (m : ℕ) → TellsOne a b m → HasTold a b (m ∷ [])
told-one a b m t = (b, t, refl)

-- some, and then others
pub told-then : (a b c : Option (List ℕ)) (xs ys : List ℕ) → HasTold a b xs → HasTold b c ys → HasTold a c (xs ++ ys)
told-then a b c [] ys h k = subst (λ z. HasTold z c ys) h k
told-then a b c (x ∷ xs) ys h k = (h.0, h.1, told-then h.0 b c xs ys h.2 k)
