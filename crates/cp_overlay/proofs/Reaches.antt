-- The longest prefix at which an origin is kept is found from the whole path down.
use Rattle.std.proofs.Common.{ℕ, zero, suc, ◌<◌, ◌≡◌, [], ◌∷◌, ◌++◌, refl, sym, ap, ◌∙◌, take, drop, length, arith}
use Rattle.std.specs.declared.option.Option.{Option}
use Rattle.std.specs.declared.option.Option.TheVariants.{None, Some}
use Rattle.cp_model.specs.Place.{Path, or_else, with_rest, nearest}
use Rattle.cp_model.proofs.Strips.{nearest-here, append-nil}

-- what was found, with these labels behind the rest
abbrev pub followed : {X : Type 0} → Path → Option (X × Path) → Option (X × Path)
followed s None = None
followed s (Some e) = Some (e.0, e.1 ++ s)

-- what was found at the first n labels of a path, or else at fewer
unfoldable pub reach : {X : Type 0} → (Path → Option X) → Path → ℕ → Option (X × Path)
reach f p n = followed (drop n p) (nearest f (take n p))

module _ {X : Type 0} where
  -- one label fewer
  pub reach-shorter : (f : Path → Option X) (p : Path) (n : ℕ) → n < length p → f (take (suc n) p) ≡ None → reach f p (suc n) ≡ reach f p n
  unfolding reach
  reach-shorter f [] n h e = absurd (omega arith)
  reach-shorter f (a ∷ p) zero h e = ap (λ o. followed p (or_else (with_rest o []) (with_rest (f []) (a ∷ [])))) e ∙ both (f [])
    where
      both : (o : Option X) → followed p (with_rest o (a ∷ [])) ≡ followed (a ∷ p) (with_rest o [])
      both None = refl
      both (Some x) = refl
  reach-shorter f (a ∷ p) (suc n) h e =
      over (drop (suc n) p) (nearest (λ r. f (a ∷ r)) (take (suc n) p)) (f []) (take (suc n) p)
      ∙ ap (λ o. or_else o (followed (drop (suc n) p) (with_rest (f []) (a ∷ take (suc n) p)))) (reach-shorter (λ r. f (a ∷ r)) p n (omega arith) e)
      ∙ ap (or_else (followed (drop n p) (nearest (λ r. f (a ∷ r)) (take n p)))) (whole (f []) (suc n) ∙ sym (whole (f []) n))
      ∙ sym (over (drop n p) (nearest (λ r. f (a ∷ r)) (take n p)) (f []) (take n p))
    where
      over : (s : Path) (o : Option (X × Path)) (v : Option X) (t : Path) → followed s (or_else o (with_rest v (a ∷ t))) ≡ or_else (followed s o) (followed s (with_rest v (a ∷ t)))
      over s None v t = refl
      over s (Some e) v t = refl

      along : (p : Path) (n : ℕ) → take n p ++ drop n p ≡ p
      along [] zero = refl
      along [] (suc n) = refl
      along (b ∷ p) zero = refl
      along (b ∷ p) (suc n) = ap (λ q. b ∷ q) (along p n)

      whole : (v : Option X) (n : ℕ) → followed (drop n p) (with_rest v (a ∷ take n p)) ≡ with_rest v (a ∷ p)
      whole None n = refl
      whole (Some x) n = ap (λ q. Some (x, a ∷ q)) (along p n)

  -- something at the first n labels
  pub reach-found : (f : Path → Option X) (p : Path) (n : ℕ) (x : X) → f (take n p) ≡ Some x → reach f p n ≡ Some (x, drop n p)
  unfolding reach
  reach-found f p n x e = ap (followed (drop n p)) (nearest-here f (take n p) x e)

  -- all labels
  pub reach-whole : (f : Path → Option X) (p : Path) → reach f p (length p) ≡ nearest f p
  unfolding reach
  reach-whole f p = ap (λ q. followed (drop (length p) p) (nearest f q)) (all p) ∙ ap (λ s. followed s (nearest f p)) (none p) ∙ behind (nearest f p)
    where
      all : (p : Path) → take (length p) p ≡ p
      all [] = refl
      all (a ∷ p) = ap (λ q. a ∷ q) (all p)

      none : (p : Path) → drop (length p) p ≡ []
      none [] = refl
      none (a ∷ p) = none p

      behind : (o : Option (X × Path)) → followed [] o ≡ o
      behind None = refl
      behind (Some e) = ap (λ s. Some (e.0, s)) (append-nil e.1)

  -- nothing at the root
  pub reach-none : (f : Path → Option X) (p : Path) → f [] ≡ None → reach f p zero ≡ None
  unfolding reach
  reach-none f p e = ap (λ o. followed p (with_rest o [])) e
