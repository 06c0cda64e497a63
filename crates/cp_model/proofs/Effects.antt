-- The effects of a step that is done: where they lead, and that its rows give them.
use Rattle.std.specs.Prelude.{ℕ, ◌≡◌, Bool, true, false, ◌&&◌, List, refl, if◌then◌else◌}
use Rattle.std.proofs.Common.{sym, ap, subst, ◌∙◌}
use Rattle.std.specs.List.{list_any}
use Rattle.std.specs.declared.option.Option.TheVariants.{None, Some}
use Rattle.cp_path.specs.declared.loc.Loc.{Loc}
use Rattle.cp_model.specs.declared.kind.Kind.{Kind}
use Rattle.cp_model.specs.declared.kind.Kind.TheVariants as kind
use Rattle.cp_model.specs.declared.op.Op.{Op}
use Rattle.cp_model.specs.Place.{Path, in_target, at_target, over_limit, place_eq, option_map}
use Rattle.cp_path.proofs.Same.{place_eq-same}
use Rattle.cp_model.specs.Keyed as keyed
use Rattle.cp_model.specs.Keyed.{look}
use Rattle.cp_model.specs.Subtrees.{is_there}
use Rattle.cp_model.specs.Tree.{Tree, Source, IsTree}
use Rattle.cp_model.specs.Step.{Origin, new, was, Worked, Working, done, step}
use Rattle.cp_model.specs.Past.{AgedTree, tree_of, loses_child, is_child}
use Rattle.cp_model.specs.Rows.{Effect, same, from, left, effect, effect_at, limited}
use Rattle.cp_model.specs.History.{AreWritten, rows_of, read_rows}
use Rattle.cp_model.proofs.Kept.{closed-step}
use Rattle.cp_model.specs.Laws.{AreSources, Every, IsOrigin, Sound}
use Rattle.cp_model.proofs.Histories.{trees-sources}
use Rattle.cp_model.proofs.Origins.{sound-step}
use Rattle.cp_model.proofs.Reading.{IsWorking, read-full_rows, read-reduced_rows}
use Rattle.cp_model.specs.Records.{is_D}
use Rattle.cp_model.proofs.Losses.{losses-full_rows, losses-reduced_rows, loses-tree}

-- what has an effect carries an origin that gives it
pub effect_of : (w : Working) (p : Path) (e : Effect) → effect_at w p ≡ Some e → (x : Worked) × (keyed.get w p ≡ Some x) × (e ≡ effect p x.origin)
effect_of w p e h =
    elim (keyed.get w p) as (λ o. option_map (λ x. effect p x.origin) o ≡ Some e → (x : Worked) × (o ≡ Some x) × (e ≡ effect p x.origin)) [
      | None ↦ λ h. absurd (cc)
      | Some x ↦ λ h. (x, refl, cc)
    ] h

-- a place that is the same carries itself
pub effect-same : (p : Path) (o : Origin) → effect p o ≡ same → o ≡ was (at_target p)
effect-same p new e = absurd (cc)
effect-same p (was q) e =
    elim (place_eq q (at_target p)) as (λ b. place_eq q (at_target p) ≡ b → (if b then same else from q) ≡ same → was q ≡ was (at_target p)) [
      | true ↦ λ h _. ap was (place_eq-same q (at_target p) h)
      | false ↦ λ _ e. absurd (cc)
    ] refl e

-- a place that is from another carries it
pub effect-from : (p : Path) (o : Origin) (q : Loc) → effect p o ≡ from q → o ≡ was q
effect-from p new q e = absurd (cc)
effect-from p (was r) q e =
    elim (place_eq r (at_target p)) as (λ b. (if b then same else from r) ≡ from q → was r ≡ was q) [
      | true ↦ λ e. absurd (cc)
      | false ↦ λ e. let k : r ≡ q = cc in ap was k
    ] e

module _ (t : Tree) (ss : List Source) (w : Working) (h : Every (Sound ss t) w) where
  -- the effect of an origin within the limits is within them
  pub effect-limited : (p : Path) (e : Effect) → effect_at w p ≡ Some e → limited e ≡ e
  effect-limited p e i =
      let x = effect_of w p e i in
      ap limited x.2 ∙ fits (x.0).origin (h p x.0 x.1) ∙ sym x.2
    where
      by : (q : Loc) → over_limit q ≡ false → (b : Bool) → limited (if b then same else from q) ≡ (if b then same else from q)
      by q f true = refl
      by q f false = ap (λ b. if b then same else from q) f

      fits : (o : Origin) → Sound ss t o → limited (effect p o) ≡ effect p o
      fits new s = refl
      fits (was q) s = by q s.fits (place_eq q (at_target p))

  -- a place that is the same was there
  pub same-there : (p : Path) → effect_at w p ≡ Some same → is_there t p ≡ true
  same-there p i =
      let x = effect_of w p same i in
      let s : Sound ss t (was (at_target p)) = subst (Sound ss t) (effect-same p (x.0).origin (sym x.2)) (h p x.0 x.1) in
      s.in_tree refl

  -- a place that is from another carries a place that the tree or a source has
  pub from-origin : (p : Path) (q : Loc) → effect_at w p ≡ Some (from q) → IsOrigin ss t q
  from-origin p q i =
      let x = effect_of w p (from q) i in
      subst (Sound ss t) (effect-from p (x.0).origin q (sym x.2)) (h p x.0 x.1)

  -- a place that is from one of the tree is from one that was there
  pub from-there : (p : Path) (q : Loc) → effect_at w p ≡ Some (from q) → in_target q ≡ true → is_there t q.path ≡ true
  from-there p q i c = (from-origin p q i).in_tree c

-- a step that is done ends with a working tree whose rows can be read
pub working-step : (t : Tree) (ss : List Source) (ops : List Op) (k : ℕ) (w : Working) → IsTree t → AreSources ss → AreWritten ops → step t ss ops ≡ done k w → IsWorking w
working-step t ss ops k w h s a e = record {
  closed = closed-step t ss ops k w h (trees-sources ss s) a e;
  fits = effect-limited t ss w (sound-step t ss ops k w h s e);
}

-- in every kind the rows of a step give at each place of its working tree the effect
pub read-rows_of : (k : Kind) (a : Tree) (w : Working) → IsWorking w → (p : Path) (e : Effect) → effect_at w p ≡ Some e → read_rows k (λ r. look r (rows_of k a w)) p ≡ left e
read-rows_of kind.N a w ok p e h = read-full_rows a w p e h (ok.fits p e h)
read-rows_of kind.T a w ok p e h = read-full_rows a w p e h (ok.fits p e h)
read-rows_of kind.H a w ok p e h = read-reduced_rows a w ok p e h
read-rows_of kind.HT a w ok p e h = read-reduced_rows a w ok p e h

-- in every kind a place that is the same lost a child where a child's row says that it is gone
pub losses-rows_of : (k : Kind) (a : AgedTree) (w : Working) (p : Path) → effect_at w p ≡ Some same → list_any (λ r. is_child p r.0 && is_D r.1) (rows_of k (tree_of a) w) ≡ loses_child a w p
losses-rows_of kind.N a w p h = losses-full_rows (tree_of a) w p h ∙ loses-tree a w p
losses-rows_of kind.T a w p h = losses-full_rows (tree_of a) w p h ∙ loses-tree a w p
losses-rows_of kind.H a w p h = losses-reduced_rows (tree_of a) w p h ∙ loses-tree a w p
losses-rows_of kind.HT a w p h = losses-reduced_rows (tree_of a) w p h ∙ loses-tree a w p
