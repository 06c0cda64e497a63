-- Each operation leaves what is kept sparse.
use Rattle.std.proofs.Common.{◌≡◌, true, false, [], ◌∷◌, ◌++◌, refl, sym, ap, subst, ◌∙◌, append_assoc}
use Rattle.std.specs.Prelude.{is_some}
use Rattle.std.specs.declared.option.Option.TheVariants.{None, Some}
use Rattle.cp_path.proofs.Same.{path_eq-same}
use Rattle.cp_path.specs.PathOrder.{path_eq_equiv}
use Rattle.cp_model.specs.Place.{Path, Label, path_eq, strip}
use Rattle.cp_model.specs.Laws.{at_rest_or}
use Rattle.cp_model.specs.declared.origin.Origin.{Origin}
use Rattle.cp_model.proofs.Strips.{strip_is, append-nil, path_ind}
use Rattle.cp_overlay.specs.Kept.{Origins, carry, origin_at, put_below, but, IsGiven, IsSparse}
use Rattle.cp_overlay.proofs.OriginLemmas.{alone, nothing, taken, taken_below, at_below, not_below, origin-aside, origin-taken, origin-ext, but_carried, given_top}

-- what is kept is sparse where none of it is given
sparse_is : (f : Origins) → ((r : Path) → IsGiven f r → ⊥) → IsSparse f
sparse_is f h = record {
  root = λ e. h [] (e ∙ ap (λ o. Some o) (sym (given_top f)));
  below = λ p l o e c. h (p ++ l ∷ []) (e ∙ ap (λ o. Some o) (sym c ∙ sym (but_carried f p l)));
}

-- what is sparse isn't given
pub sparse_own : (f : Origins) → IsSparse f → (r : Path) → IsGiven f r → ⊥
sparse_own f s = path_ind (λ r. IsGiven f r → ⊥) (λ e. s.root (e ∙ ap (λ o. Some o) (given_top f))) (λ r a _ e. s.below r a (origin_at (but (r ++ a ∷ []) f) (r ++ a ∷ [])) e (sym (but_carried f r a)))

-- where the places above have the same origins, a place is given the same
pub given_same : (f g : Origins) → ((r : Path) → origin_at g r ≡ origin_at f r) → (r : Path) → origin_at (but r g) r ≡ origin_at (but r f) r
given_same f g h = path_ind (λ r. origin_at (but r g) r ≡ origin_at (but r f) r)
    (given_top g ∙ sym (given_top f))
    (λ r a _. but_carried g r a ∙ ap (λ o. carry o (a ∷ [])) (h r) ∙ sym (but_carried f r a))

-- origins that are kept alike are as sparse
pub sparse_ext : (f g : Origins) → ((r : Path) → g r ≡ f r) → IsSparse f → IsSparse g
sparse_ext f g h s = sparse_is g (λ r e. sparse_own f s r (sym (h r) ∙ e ∙ ap (λ o. Some o) (given_same f g (origin-ext g f h) r)))

-- nothing kept is sparse
pub sparse_none : (f : Origins) → ((r : Path) → f r ≡ None) → IsSparse f
sparse_none f h = sparse_is f (λ r e. absurd (cc (sym (h r) ∙ e)))

-- what isn't kept isn't given
pub none_given_up : (f : Origins) (p : Path) → f p ≡ None → IsGiven f p → ⊥
none_given_up f p h e = cc (sym h ∙ e)

some_is : (f : Origins) (r : Path) (o : Origin) → f r ≡ Some o → is_some (f r) ≡ true
some_is f r o e = ap is_some e

-- where all is sparse but at p, and what is given there is given up, all is sparse
pub sparse_settled : (f g : Origins) (p : Path) → ((r : Path) → origin_at g r ≡ origin_at f r) → ((r : Path) → is_some (g r) ≡ true → g r ≡ f r) → (IsGiven g p → ⊥) → ((r : Path) → path_eq r p ≡ false → IsGiven f r → ⊥) → IsSparse g
sparse_settled f g p same fewer settled aside = sparse_is g own
  where
    own : (r : Path) → IsGiven g r → ⊥
    own r e = elim (path_eq r p) as (λ b. path_eq r p ≡ b → ⊥) [
      | true ↦ λ t. settled (subst (IsGiven g) (path_eq-same r p t) e)
      | false ↦ λ n. aside r n (sym (fewer r (some_is g r _ e)) ∙ e ∙ ap (λ o. Some o) (given_same f g same r))
    ] refl

module _ (p : Path) (h f f' : Origins) (is : (r : Path) → f' r ≡ put_below p h f r) (s : IsSparse f) where
  given_aside : (r : Path) → strip p r ≡ None → origin_at (but r f') r ≡ origin_at (but r f) r
  given_aside r = path_ind (λ r. strip p r ≡ None → origin_at (but r f') r ≡ origin_at (but r f) r)
      (λ _. given_top f' ∙ sym (given_top f))
      (λ r a _ n. but_carried f' r a ∙ ap (λ o. carry o (a ∷ [])) (origin-aside p h f f' is r (not_below p (r ++ a ∷ []) r (a ∷ []) n refl)) ∙ sym (but_carried f r a))
      r

  kept_aside : (r : Path) → strip p r ≡ None → f' r ≡ f r
  unfolding put_below
  kept_aside r n = is r ∙ ap (λ o. at_rest_or o h (f r)) n

  -- after a change at and below p all is sparse but at p, if it is so below
  pub sparse_put : ((t : Path) (a : Label) → IsGiven f' (p ++ (t ++ a ∷ [])) → ⊥) → (r : Path) → path_eq r p ≡ false → IsGiven f' r → ⊥
  sparse_put below r n e = elim (strip p r) as (λ o. strip p r ≡ o → ⊥) [
    | None ↦ λ k. sparse_own f s r (sym (kept_aside r k) ∙ e ∙ ap (λ o. Some o) (given_aside r k))
    | Some t ↦ λ k. under t (strip_is p r t k)
  ] refl
    where
      under : (t : Path) → r ≡ p ++ t → ⊥
      under = path_ind (λ t. r ≡ p ++ t → ⊥)
          (λ k. absurd (cc (sym (path_eq_equiv.refl p) ∙ ap (λ q. path_eq q p) (sym (k ∙ append-nil p)) ∙ n)))
          (λ t a _ k. below t a (subst (IsGiven f') k e))

alone_none : (x : Origin) (t : Path) (a : Label) → alone x (t ++ a ∷ []) ≡ None
alone_none x [] a = refl
alone_none x (b ∷ t) a = refl

-- one origin at p, and none below
pub sparse_alone : (p : Path) (x : Origin) (f f' : Origins) → ((r : Path) → f' r ≡ put_below p (alone x) f r) → IsSparse f → (r : Path) → path_eq r p ≡ false → IsGiven f' r → ⊥
sparse_alone p x f f' is s = sparse_put p (alone x) f f' is s (λ t a e. absurd (cc (sym (at_below p (alone x) f f' is (t ++ a ∷ []) ∙ alone_none x t a) ∙ e)))

-- what a copy takes along
pub sparse_taken : (p q : Path) (f f' : Origins) → ((r : Path) → f' r ≡ put_below p (taken f q) f r) → IsSparse f → (r : Path) → path_eq r p ≡ false → IsGiven f' r → ⊥
sparse_taken p q f f' is s = sparse_put p (taken f q) f f' is s below
  where
    given : (t : Path) (a : Label) → origin_at (but (p ++ (t ++ a ∷ [])) f') (p ++ (t ++ a ∷ [])) ≡ origin_at (but (q ++ (t ++ a ∷ [])) f) (q ++ (t ++ a ∷ []))
    given t a =
        ap (λ k. origin_at (but k f') k) (sym (append_assoc p t (a ∷ [])))
        ∙ but_carried f' (p ++ t) a
        ∙ ap (λ o. carry o (a ∷ [])) (origin-taken p q f f' is t)
        ∙ sym (but_carried f (q ++ t) a)
        ∙ ap (λ k. origin_at (but k f) k) (append_assoc q t (a ∷ []))

    below : (t : Path) (a : Label) → IsGiven f' (p ++ (t ++ a ∷ [])) → ⊥
    below t a e = sparse_own f s (q ++ (t ++ a ∷ [])) (sym (at_below p (taken f q) f f' is (t ++ a ∷ []) ∙ taken_below f q t a) ∙ e ∙ ap (λ o. Some o) (given t a))

-- nothing at and below p
pub sparse_nothing : (p : Path) (f f' : Origins) → ((r : Path) → f' r ≡ put_below p nothing f r) → IsSparse f → IsSparse f'
sparse_nothing p f f' is s = sparse_is f' own
  where
    none : (t : Path) → f' (p ++ t) ≡ None
    none t = at_below p nothing f f' is t

    aside : (r : Path) → path_eq r p ≡ false → IsGiven f' r → ⊥
    aside = sparse_put p nothing f f' is s (λ t a e. absurd (cc (sym (none (t ++ a ∷ [])) ∙ e)))

    own : (r : Path) → IsGiven f' r → ⊥
    own r e = elim (path_eq r p) as (λ b. path_eq r p ≡ b → ⊥) [
      | true ↦ λ t. absurd (cc (sym (ap f' (path_eq-same r p t ∙ sym (append-nil p)) ∙ none []) ∙ e))
      | false ↦ λ n. aside r n e
    ] refl
