-- What is one of a list, element by element.
use Rattle.std.proofs.Common.{arith, ◌≡◌, ◌⊎◌, inl, inr, List, [], ◌∷◌, Contains}
use Rattle.std.proofs.lemmas.List.Elements.{Contains-append_left, Contains-append_right, Contains-append_cases, Contains-push, Contains-push_cases}

module _ {X : Type 0} where
  pub none_among : (es : List X) (x : X) → es ≡ [] → Contains es x → ⊥
  none_among [] x none h = omega (arith, h.1)
  none_among (e ∷ es) x none h = cc

  pub first_among : (x : X) (xs : List X) → Contains (x ∷ xs) x
  first_among x xs = Contains-append_left (x ∷ []) xs x (Contains-push [] x)

  pub more_among : (x : X) (xs : List X) (y : X) → Contains xs y → Contains (x ∷ xs) y
  more_among x xs y h = Contains-append_right (x ∷ []) xs y h

  -- it is the first, or one of those after it
  pub among_cases : (x : X) (xs : List X) (y : X) → Contains (x ∷ xs) y → (x ≡ y) ⊎ Contains xs y
  among_cases x xs y h = elim (Contains-append_cases (x ∷ []) xs y h) [
    | inl one ↦ elim (Contains-push_cases [] x y one) [
      | inl none ↦ absurd (omega (arith, none.1))
      | inr same ↦ inl same
    ]
    | inr more ↦ inr more
  ]
