-- The effect of a carried origin.
use Rattle.std.specs.Prelude.{ℕ, ◌≡◌, Bool, true, false, ◌&&◌, ◌||◌, ◌++◌, take, drop, if◌then◌else◌, refl}
use Rattle.std.proofs.Common.{sym, ap, ◌∙◌}
use Rattle.std.proofs.lemmas.List.{append_cancel_right, take-append-drop}
use Rattle.std.specs.declared.option.Option.TheVariants.{None, Some}
use Rattle.cp_path.specs.declared.loc.Loc.{Loc}
use Rattle.cp_path.proofs.Same.{path_eq-same, place_eq-refl, place_eq-same}
use Rattle.cp_path.specs.PathOrder.{path_eq_equiv}
use Rattle.cp_model.specs.declared.origin.Origin.{Origin}
use Rattle.cp_model.specs.declared.origin.Origin.TheVariants.{New as new, Was as was}
use Rattle.cp_model.specs.declared.effect.Effect.{Effect}
use Rattle.cp_model.specs.declared.effect.Effect.TheVariants.{Same as same, New as made, From as from}
use Rattle.cp_model.specs.Place.{Path, path_eq, label_eq, target, place_eq, at_target, below_place, over_limit, nearest, option_map}
use Rattle.cp_model.specs.Keyed as keyed
use Rattle.cp_model.specs.Tree.{Tree}
use Rattle.cp_model.specs.Step.{Worked, Working}
use Rattle.cp_model.specs.Rows.{effect, effect_at}
use Rattle.cp_model.specs.Rows.{limited}
use Rattle.cp_overlay.specs.Kept.{Kept, Origins, origin_by, origin_at, Fits, IsWorking, Stands}

-- behind both the same follows
pub same-suffix : (a b s : Path) → path_eq (a ++ s) (b ++ s) ≡ path_eq a b
same-suffix a b s =
    elim (path_eq a b) as (λ c. path_eq a b ≡ c → path_eq (a ++ s) (b ++ s) ≡ c) [
      | true ↦ λ e. ap (λ k. path_eq (a ++ s) (k ++ s)) (sym (path_eq-same a b e)) ∙ path_eq_equiv.refl (a ++ s)
      | false ↦ λ e. elim (path_eq (a ++ s) (b ++ s)) as (λ d. path_eq (a ++ s) (b ++ s) ≡ d → d ≡ false) [
        | false ↦ λ _. refl
        | true ↦ λ h. sym (path_eq_equiv.refl a) ∙ ap (path_eq a) (append_cancel_right a b s (path_eq-same (a ++ s) (b ++ s) h)) ∙ e
      ] refl
    ] refl

-- a place carried down is the place there where it is the place above
pub carried-own : (q : Loc) (p : Path) (n : ℕ) → place_eq (below_place q (drop n p)) (at_target p) ≡ place_eq q (at_target (take n p))
carried-own q p n =
    ap (λ r. place_eq (below_place q (drop n p)) (at_target r)) (sym (take-append-drop n p))
    ∙ ap (λ b. label_eq q.db target && b) (same-suffix q.path (take n p) (drop n p))

-- a place that carries itself is the same
pub effect-itself : (p : Path) → effect p (was (at_target p)) ≡ same
effect-itself p = ap (λ b. if b then same else from (at_target p)) (place_eq-refl (at_target p))

-- only a place that carries itself is the same
pub effect-same : (p : Path) (o : Origin) → effect p o ≡ same → o ≡ was (at_target p)
effect-same p new e = absurd (cc)
effect-same p (was q) e =
    elim (place_eq q (at_target p)) as (λ b. place_eq q (at_target p) ≡ b → (if b then same else from q) ≡ same → was q ≡ was (at_target p)) [
      | true ↦ λ h _. ap was (place_eq-same q (at_target p) h)
      | false ↦ λ _ e. absurd (cc)
    ] refl e

-- ---- the effect by what is kept nearest

-- with nothing kept, nothing has changed
pub told-none : (f : Origins) (p : Path) → nearest f p ≡ None → same ≡ limited (effect p (origin_at f p))
unfolding origin_at
told-none f p n = sym (ap (λ o. limited (effect p (origin_by p o))) n ∙ ap limited (effect-itself p))

-- below what is new all is new
pub told-new : (f : Origins) (p s : Path) → nearest f p ≡ Some (new, s) → made ≡ limited (effect p (origin_at f p))
unfolding origin_at
told-new f p s n = sym (ap (λ o. limited (effect p (origin_by p o))) n)

module _ (f : Origins) (p : Path) (q : Loc) (n : ℕ) (near : nearest f p ≡ Some (was q, drop n p)) where
  -- the origin is that place, carried down
  carried : origin_at f p ≡ was (below_place q (drop n p))
  unfolding origin_at
  carried = ap (origin_by p) near

  -- and so is the effect, unless it is the place itself
  is_from : (b : Bool) → place_eq q (at_target (take n p)) ≡ b → effect p (origin_at f p) ≡ (if b then same else from (below_place q (drop n p)))
  is_from b e = ap (effect p) carried ∙ ap (λ b. if b then same else from (below_place q (drop n p))) (carried-own q p n ∙ e)

  -- a place that has come back to itself, or would be over a limit, is the same
  pub told-same : (place_eq q (at_target (take n p)) || over_limit (below_place q (drop n p))) ≡ true → same ≡ limited (effect p (origin_at f p))
  told-same h = sym (ap limited (is_from (place_eq q (at_target (take n p))) refl) ∙ by (place_eq q (at_target (take n p))) (over_limit (below_place q (drop n p))) refl h)
    where
      by : (b c : Bool) → over_limit (below_place q (drop n p)) ≡ c → (b || c) ≡ true → limited (if b then same else from (below_place q (drop n p))) ≡ same
      by true c e h = refl
      by false true e h = ap (λ c. if c then same else from (below_place q (drop n p))) e
      by false false e h = absurd (cc)

  -- else it is from the place carried down
  pub told-from : (place_eq q (at_target (take n p)) || over_limit (below_place q (drop n p))) ≡ false → (r : Loc) → r ≡ below_place q (drop n p) → from r ≡ limited (effect p (origin_at f p))
  told-from h r e = ap from e ∙ sym (ap limited (is_from (place_eq q (at_target (take n p))) refl) ∙ by (place_eq q (at_target (take n p))) (over_limit (below_place q (drop n p))) refl h)
    where
      by : (b c : Bool) → over_limit (below_place q (drop n p)) ≡ c → (b || c) ≡ false → limited (if b then same else from (below_place q (drop n p))) ≡ from (below_place q (drop n p))
      by true c e h = absurd (cc)
      by false true e h = absurd (cc)
      by false false e h = ap (λ c. if c then same else from (below_place q (drop n p))) e

-- ---- the effect of the step

-- an origin within the limits has an effect within them
pub limited-fits : (p : Path) (o : Origin) → Fits o → limited (effect p o) ≡ effect p o
limited-fits p new h = refl
limited-fits p (was q) h = by (place_eq q (at_target p))
  where
    by : (b : Bool) → limited (if b then same else from q) ≡ (if b then same else from q)
    by true = refl
    by false = ap (λ c. if c then same else from q) h

-- what has an effect is there, and has it by its origin
pub effect_of : (w : Working) (p : Path) (e : Effect) → effect_at w p ≡ Some e → (x : Worked) × (keyed.get w p ≡ Some x) × (e ≡ effect p x.origin)
effect_of w p e h =
    elim (keyed.get w p) as (λ o. option_map (λ x. effect p x.origin) o ≡ Some e → (x : Worked) × (o ≡ Some x) × (e ≡ effect p x.origin)) [
      | None ↦ λ h. absurd (cc)
      | Some x ↦ λ h. (x, refl, cc)
    ] h

module _ (k : Kept) (t : Tree) (w : Working) (ok : IsWorking w) (st : Stands k t w) where
  -- at a place that is there what is kept gives the step's effect
  pub effect-there : (p : Path) (x : Worked) → keyed.get w p ≡ Some x → limited (effect p (origin_at k.origins p)) ≡ effect p x.origin
  effect-there p x h = ap (λ o. limited (effect p o)) (st.origins p x h) ∙ limited-fits p x.origin (ok.fits p x h)

  -- what is kept gives the step's effect where there is one
  pub effect-kept : (p : Path) (e : Effect) → effect_at w p ≡ Some e → limited (effect p (origin_at k.origins p)) ≡ e
  effect-kept p e h = let x = effect_of w p e h in effect-there p x.0 x.1 ∙ sym x.2

-- ---- what the code finds

-- what was found nearest by these labels
pub near-labels : (f : Origins) (p l : Path) (o x : Origin) (n : ℕ) → l ≡ p → nearest f l ≡ Some (o, drop n l) → o ≡ x → nearest f p ≡ Some (x, drop n p)
near-labels f p l o x n i h e = ap (nearest f) (sym i) ∙ h ∙ ap (λ o. Some (o, drop n l)) e ∙ ap (λ l. Some (x, drop n l)) i

-- the test of the labels in front as one of the place
pub own-labels : (p l front : Path) (q : Loc) (n : ℕ) (b : Bool) → l ≡ p → b ≡ place_eq q (at_target front) → front ≡ take n l → b ≡ place_eq q (at_target (take n p))
own-labels p l front q n b i h e = h ∙ ap (λ s. place_eq q (at_target s)) (e ∙ ap (take n) i)

-- and so with the limits
pub over-labels : (p l rest : Path) (q : Loc) (n : ℕ) (b : Bool) → l ≡ p → b ≡ over_limit (below_place q rest) → rest ≡ drop n l → b ≡ over_limit (below_place q (drop n p))
over-labels p l rest q n b i h e = h ∙ ap (λ s. over_limit (below_place q s)) (e ∙ ap (drop n) i)

-- one of two tests
pub either-first : (b x y : Bool) → b ≡ x → b ≡ true → (x || y) ≡ true
either-first true x y e h = ap (λ z. z || y) (sym e)
either-first false x y e h = absurd (cc)

-- and the other one
pub either-second : (c x y : Bool) → c ≡ y → c ≡ true → (x || y) ≡ true
either-second c true y e h = refl
either-second c false y e h = sym e ∙ h

-- neither of both
pub neither : (b c x y : Bool) → b ≡ x → b ≡ false → c ≡ y → c ≡ false → (x || y) ≡ false
neither b c true y e h f g = absurd (cc)
neither b c false y e h f g = sym f ∙ g
