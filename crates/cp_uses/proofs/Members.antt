-- Members of lists.
use Rattle.std.specs.Prelude.{ℕ, zero, suc, ◌≡◌, ◌⊎◌, Bool, true, false, cond, List, [], ◌∷◌, ◌++◌, map, filter, refl}
use Rattle.std.proofs.Common.{sym, ap, subst, ◌∙◌, inl, inr}
use Rattle.std.specs.List.{flat_map, slice_get}
use Rattle.std.specs.declared.option.Option.TheVariants.{Some}
use Rattle.std.proofs.lemmas.Option.{same_Some, none-some}

-- it is one of the list
abbrev pub Has : {X : Type 0} → List X → X → Type 0
Has [] x = ⊥
Has (y ∷ ys) x = (y ≡ x) ⊎ Has ys x

module _ {X : Type 0} where
  pub has-got : (xs : List X) (i : ℕ) (x : X) → slice_get xs i ≡ Some x → Has xs x
  has-got [] i x e = absurd (none-some x e)
  has-got (y ∷ xs) zero x e = inl (same_Some y x e)
  has-got (y ∷ xs) (suc i) x e = inr (has-got xs i x e)

  pub has-filtered : (p : X → Bool) (xs : List X) (x : X) → Has xs x → p x ≡ true → Has (filter p xs) x
  has-filtered p [] x h t = absurd h
  has-filtered p (y ∷ xs) x (inl e) t =
      elim (p y) as (λ b. p y ≡ b → Has (cond b (y ∷ filter p xs) (filter p xs)) x) [
        | true ↦ λ _. inl e
        | false ↦ λ n. let k : p y ≡ true = ap p e ∙ t in absurd (cc)
      ] refl
  has-filtered p (y ∷ xs) x (inr h) t =
      elim (p y) as (λ b. Has (cond b (y ∷ filter p xs) (filter p xs)) x) [
        | true ↦ inr (has-filtered p xs x h t)
        | false ↦ has-filtered p xs x h t
      ]

  pub has-left : (xs ys : List X) (x : X) → Has xs x → Has (xs ++ ys) x
  has-left [] ys x h = absurd h
  has-left (z ∷ xs) ys x (inl e) = inl e
  has-left (z ∷ xs) ys x (inr h) = inr (has-left xs ys x h)

  pub has-right : (xs ys : List X) (x : X) → Has ys x → Has (xs ++ ys) x
  has-right [] ys x h = h
  has-right (z ∷ xs) ys x h = inr (has-right xs ys x h)

module _ {X Y : Type 0} where
  pub has-mapped : (f : X → Y) (xs : List X) (x : X) → Has xs x → Has (map f xs) (f x)
  has-mapped f [] x h = absurd h
  has-mapped f (z ∷ xs) x (inl e) = inl (ap f e)
  has-mapped f (z ∷ xs) x (inr h) = inr (has-mapped f xs x h)

  pub has-flat : (f : X → List Y) (xs : List X) (x : X) (y : Y) → Has xs x → Has (f x) y → Has (flat_map f xs) y
  has-flat f [] x y h k = absurd h
  has-flat f (z ∷ xs) x y (inl e) k = has-left (f z) (flat_map f xs) y (subst (λ w. Has (f w) y) (sym e) k)
  has-flat f (z ∷ xs) x y (inr h) k = has-right (f z) (flat_map f xs) y (has-flat f xs x y h k)
