-- The desks of several curators, each found by its name.
use Rattle.std.specs.Prelude.{ℕ, ◌≡◌, true, false, List, [], ◌∷◌, refl, if◌then◌else◌}
use Rattle.std.specs.List.{AllByRecursion}
use Rattle.std.proofs.Common.{sym, ap, ◌∙◌}
use Rattle.cp_path.specs.Text.{text_eq}
use Rattle.cp_path.proofs.Same.{text_eq-same}
use Rattle.cp_reply.specs.Session.{Desk, closed, is_closed, desk_of, other_desks, with_desk}

-- a name's desk bears it
pub desk-name : (now : ℕ) (n : List ℕ) (ds : List Desk) → (desk_of now n ds).name ≡ n
desk-name now n [] = refl
desk-name now n (d ∷ ds) =
    elim (text_eq n d.name) as (λ b. text_eq n d.name ≡ b → (if b then d else desk_of now n ds).name ≡ n) [
      | true ↦ λ e. sym (text_eq-same n d.name e)
      | false ↦ λ e. desk-name now n ds
    ] refl

-- without another's desk it has the same
others-desk : (now : ℕ) (n m : List ℕ) (ds : List Desk) → text_eq n m ≡ false → desk_of now n (other_desks m ds) ≡ desk_of now n ds
others-desk now n m [] u = refl
others-desk now n m (d ∷ ds) u =
    elim (text_eq m d.name) as (λ b. text_eq m d.name ≡ b → desk_of now n (if b then other_desks m ds else d ∷ other_desks m ds) ≡ (if text_eq n d.name then d else desk_of now n ds)) [
      | true ↦ λ e. others-desk now n m ds u ∙ sym (ap (λ b. if b then d else desk_of now n ds) (sym (ap (text_eq n) (text_eq-same m d.name e)) ∙ u))
      | false ↦ λ e. ap (λ (x : Desk). if text_eq n d.name then d else x) (others-desk now n m ds u)
    ] refl

-- after another's turn it has the same
pub with-other : (now : ℕ) (n : List ℕ) (d : Desk) (ds : List Desk) → text_eq n d.name ≡ false → desk_of now n (with_desk d ds) ≡ desk_of now n ds
with-other now n d ds u =
    elim (is_closed d.opened) as (λ b. desk_of now n (if b then other_desks d.name ds else d ∷ other_desks d.name ds) ≡ desk_of now n ds) [
      | true ↦ others-desk now n d.name ds u
      | false ↦ ap (λ b. if b then d else desk_of now n (other_desks d.name ds)) u ∙ others-desk now n d.name ds u
    ]

-- after its own turn it has that desk, while its transaction is open
pub with-own : (now : ℕ) (n : List ℕ) (d : Desk) (ds : List Desk) → text_eq n d.name ≡ true → is_closed d.opened ≡ false → desk_of now n (with_desk d ds) ≡ d
with-own now n d ds u o =
    ap (λ b. desk_of now n (if b then other_desks d.name ds else d ∷ other_desks d.name ds)) o
    ∙ ap (λ b. if b then d else desk_of now n (other_desks d.name ds)) u

module _ (P : Desk → Type 0) where
  others-all : (m : List ℕ) (ds : List Desk) → AllByRecursion P ds → AllByRecursion P (other_desks m ds)
  others-all m [] a = tt
  others-all m (d ∷ ds) a =
      elim (text_eq m d.name) as (λ b. AllByRecursion P (if b then other_desks m ds else d ∷ other_desks m ds)) [
        | true ↦ others-all m ds a.1
        | false ↦ (a.0, others-all m ds a.1)
      ]

  -- what holds of all desks, and of the one that is put among them
  pub with-all : (d : Desk) (ds : List Desk) → (is_closed d.opened ≡ false → P d) → AllByRecursion P ds → AllByRecursion P (with_desk d ds)
  with-all d ds p a =
      elim (is_closed d.opened) as (λ b. is_closed d.opened ≡ b → AllByRecursion P (if b then other_desks d.name ds else d ∷ other_desks d.name ds)) [
        | true ↦ λ e. others-all d.name ds a
        | false ↦ λ e. (p e, others-all d.name ds a)
      ] refl

  -- and of the one that a name has
  pub desk-all : (now : ℕ) (n : List ℕ) (ds : List Desk) (Q : Desk → Type 0) → Q (record { name = n; opened = closed; since = now }) → ((d : Desk) → P d → Q d) → AllByRecursion P ds → Q (desk_of now n ds)
  desk-all now n [] Q q f a = q
  desk-all now n (d ∷ ds) Q q f a =
      elim (text_eq n d.name) as (λ b. Q (if b then d else desk_of now n ds)) [
        | true ↦ f d a.0
        | false ↦ desk-all now n ds Q q f a.1
      ]

  pub desks-all : (R : Desk → Type 0) → ((d : Desk) → P d → R d) → (ds : List Desk) → AllByRecursion P ds → AllByRecursion R ds
  desks-all R f [] a = tt
  desks-all R f (d ∷ ds) a = (f d a.0, desks-all R f ds a.1)
