-- The rows of a step by what is kept.
use Rattle.std.specs.Prelude.{◌≡◌, Bool, true, false, not, List, [], ◌∷◌, ◌++◌, is_some, if◌then◌else◌, refl}
use Rattle.std.proofs.Common.{sym, ap, ◌∙◌, append_assoc}
use Rattle.std.specs.declared.option.Option.{Option}
use Rattle.std.specs.declared.option.Option.TheVariants.{None, Some}
use Rattle.cp_model.specs.declared.effect.Effect.{Effect}
use Rattle.cp_model.specs.declared.effect.Effect.TheVariants.{Same as same, New as made, From as from}
use Rattle.cp_model.specs.declared.record.RowMark.{RowMark as Mark}
use Rattle.cp_model.specs.declared.record.RowMark.TheVariants.{Gone as D}
use Rattle.cp_model.specs.Place.{Path, Label, child, option_map, or_else, with_rest, nearest}
use Rattle.cp_model.specs.Closed.{Closed}
use Rattle.cp_model.specs.Keyed as keyed
use Rattle.cp_model.specs.Keyed.{look}
use Rattle.cp_model.specs.Subtrees.{is_there}
use Rattle.cp_model.specs.Tree.{Tree, IsTree}
use Rattle.cp_model.specs.Step.{Working, contents}
use Rattle.cp_model.specs.Rows.{effect, effect_at, full_mark, is_same, nearest_is_same, same_above, lost_below_same, full_here, full_rows}
use Rattle.cp_model.proofs.Contents.{there-contents}
use Rattle.cp_model.proofs.Kept.{closed-tree}
use Rattle.cp_model.proofs.Marks.{find-full_rows}
use Rattle.cp_model.proofs.Lookups.{or_none}
use Rattle.cp_model.proofs.Passing.{and_true, and_both}
use Rattle.cp_model.proofs.Reading.{effect_there}
use Rattle.cp_model.specs.Rows.{limited}
use Rattle.cp_model.proofs.Strips.{append-nil, path_ind, nearest-snoc, nearest-here, nearest-below, further}
use Rattle.std.specs.Map.{keys_of}
use Rattle.std.specs.List.Sorted.{IsStrictlySortedBy}
use Rattle.cp_model.specs.Place.{path_cmp}
use Rattle.cp_overlay.specs.Kept.{Kept, origin_at, IsWorking, Stands}
use Rattle.cp_overlay.specs.Net.{mark_kept, noted, is_lost, IsLoss, LossesNoted}
use Rattle.cp_overlay.proofs.EffectLemmas.{effect-same, effect-there, effect_of}
use Rattle.cp_overlay.proofs.Marking.{sorted-keys, sorted-full_rows, same_rows}
use Rattle.cp_overlay.proofs.Noting.{none-below}
use Rattle.cp_overlay.proofs.OriginLemmas.{nearest_none}

-- ---- where a row says gone

-- what isn't there has no effect
pub no_effect : (w : Working) (p : Path) → is_there w p ≡ false → effect_at w p ≡ None
no_effect w p h = elim (keyed.get w p) as (λ o. is_some o ≡ false → option_map (λ x. effect p x.origin) o ≡ None) [ None ↦ λ _. refl | Some x ↦ λ h. absurd (cc) ] h

-- what has no effect isn't there
not_there : (w : Working) (p : Path) → effect_at w p ≡ None → is_there w p ≡ false
not_there w p h = elim (keyed.get w p) as (λ o. option_map (λ x. effect p x.origin) o ≡ None → is_some o ≡ false) [ None ↦ λ _. refl | Some x ↦ λ h. absurd (cc) ] h

-- an effect that is the same by the test is the same
pub is_same-same : (e : Effect) → is_same e ≡ true → e ≡ same
is_same-same same h = refl
is_same-same made h = absurd (cc)
is_same-same (from q) h = absurd (cc)

not_true : (b : Bool) → not b ≡ true → b ≡ false
not_true true h = absurd (cc)
not_true false h = refl

-- a label further down the nearest effect is what it is
passes : (l : Label) (o : Option (Effect × Path)) → nearest_is_same (further (l ∷ []) o) ≡ nearest_is_same o
passes l None = refl
passes l (Some e) = refl

module _ (k : Kept) (a b : Tree) (w : Working) (ok : IsWorking w) (st : Stands k a w) (same_tree : contents w ≡ b) where
  -- the tree after the step has the places of the working tree
  pub there : (p : Path) → is_there b p ≡ is_there w p
  there p = ap (λ t. is_there t p) (sym same_tree) ∙ there-contents w p

  -- above a place that isn't there is what is above its parent
  pub above_step : (r : Path) (l : Label) → is_there w (r ++ l ∷ []) ≡ false → same_above w (r ++ l ∷ []) ≡ same_above w r
  above_step r l n =
      ap nearest_is_same (nearest-snoc (effect_at w) r l ∙ ap (λ o. or_else (with_rest o []) (further (l ∷ []) (nearest (effect_at w) r))) (no_effect w (r ++ l ∷ []) n))
      ∙ passes l (nearest (effect_at w) r)

  -- a child that is gone below one that is the same is kept as lost
  pub lost_child : (r : Path) (l : Label) → effect_at w r ≡ Some same → is_there a (r ++ l ∷ []) ≡ true → is_there w (r ++ l ∷ []) ≡ false → (k.lost r l ≡ true) × (is_lost k b r l ≡ true)
  unfolding is_lost
  lost_child r l h i n =
      let x = effect_of w r same h in
      let e : effect r (origin_at k.origins r) ≡ same = ap (effect r) (st.origins r x.0 x.1) ∙ sym x.2 in
      let here : is_there w r ≡ true = ap is_some x.1 in (
        st.lost r r l here (effect-same r (origin_at k.origins r) e) i n,
        and_both _ _ (and_both _ _ (there r ∙ here) (ap not (there (r ++ l ∷ []) ∙ n))) (ap (λ d. is_same (limited d)) e),
      )

  -- a place that is gone, with what is left above it the same, is a loss
  loss-above : Closed (keyed.get a) → (p : Path) → is_there a p ≡ true → is_there w p ≡ false → same_above w p ≡ true → IsLoss k a b p
  loss-above ca p i n u = let d = lost_above p i n u in record { parent = d.0; label = d.1; rest = d.2; place = d.3; kept = d.4; gone = d.5; was = i }
    where
      lost_above : (p : Path) → is_there a p ≡ true → is_there w p ≡ false → same_above w p ≡ true → (r : Path) × (l : Label) × (s : Path) × (p ≡ r ++ l ∷ s) × (k.lost r l ≡ true) × (is_lost k b r l ≡ true)
      lost_above = path_ind (λ p. is_there a p ≡ true → is_there w p ≡ false → same_above w p ≡ true → (r : Path) × (l : Label) × (s : Path) × (p ≡ r ++ l ∷ s) × (k.lost r l ≡ true) × (is_lost k b r l ≡ true))
          (λ i n u. absurd (cc ok.closed.root))
          (λ r l ih i n u.
          let v : same_above w r ≡ true = sym (above_step r l n) ∙ u in
          elim (effect_at w r) as (λ o. effect_at w r ≡ o → (q : Path) × (m : Label) × (s : Path) × (r ++ l ∷ [] ≡ q ++ m ∷ s) × (k.lost q m ≡ true) × (is_lost k b q m ≡ true)) [
            | Some e ↦ λ h.
                let z : e ≡ same = is_same-same e (sym (ap nearest_is_same (nearest-here (effect_at w) r e h)) ∙ v) in
                let y = lost_child r l (h ∙ ap Some z) i n in
                (r, l, [], refl, y.0, y.1)
            | None ↦ λ h.
                let d = ih (ca.parents r l i) (not_there w r h) v in
                (d.0, d.1, d.2 ++ l ∷ [], ap (λ q. q ++ l ∷ []) d.3 ∙ append_assoc d.0 (d.1 ∷ d.2) (l ∷ []), d.4, d.5)
          ] refl)

  -- ---- what is lost

  module _ (r : Path) (x : IsLoss k a b r) where
    -- that place is there, the child is not, and what is kept says that the place is the same
    pub lost_parts : (is_there w x.parent ≡ true) × (is_there w (child x.parent x.label) ≡ false) × (is_same (limited (effect x.parent (origin_at k.origins x.parent))) ≡ true)
    unfolding is_lost
    lost_parts =
        let p = and_true _ _ x.gone in
        let q = and_true _ _ p.0 in
        (sym (there x.parent) ∙ q.0, sym (there (child x.parent x.label)) ∙ not_true _ q.1, p.1)

    -- nothing is there with it
    gone_below : (s : Path) → is_there w (x.parent ++ x.label ∷ s) ≡ false
    gone_below s = ap (is_there w) (sym (append_assoc x.parent (x.label ∷ []) s)) ∙ none-below (keyed.get w) ok.closed (child x.parent x.label) s lost_parts.1

    -- it isn't there
    pub loss-gone : is_there w r ≡ false
    loss-gone = ap (is_there w) x.place ∙ gone_below x.rest

    -- the place that lost it is the same
    parent_same : effect_at w x.parent ≡ Some same
    parent_same =
        let e = effect_there w x.parent lost_parts.0 in
        let y = effect_of w x.parent e.0 e.1 in
        e.1 ∙ ap Some (y.2 ∙ sym (effect-there k a w ok st x.parent y.0 y.1) ∙ is_same-same _ lost_parts.2)

    -- what is left above it is the same
    loss-same : same_above w r ≡ true
    loss-same =
        ap (λ q. nearest_is_same (nearest (effect_at w) q)) x.place
        ∙ ap nearest_is_same (nearest-below (effect_at w) x.parent (x.label ∷ x.rest) same parent_same
        ∙ ap (λ o. or_else o (with_rest (effect_at w (x.parent ++ [])) (x.label ∷ x.rest))) (nearest_none (λ s. effect_at w (x.parent ++ x.label ∷ s)) x.rest (λ s. no_effect w (x.parent ++ x.label ∷ s) (gone_below s)))
        ∙ ap (λ o. with_rest o (x.label ∷ x.rest)) (ap (effect_at w) (append-nil x.parent) ∙ parent_same))

    -- so its row says gone
    pub loss-lost : lost_below_same a w r ≡ true
    loss-lost = and_both _ _ x.was loss-same

  -- ---- each place

  -- what is noted at a place is the step's row there
  here : IsTree a → (r : Path) (changed lost : Option Mark) → changed ≡ noted (is_there b r) (mark_kept k r) None → (IsLoss k a b r → lost ≡ Some D) → ((IsLoss k a b r → ⊥) → lost ≡ changed) → lost ≡ full_here a w r
  unfolding full_here mark_kept
  here ta r changed lost c g o =
      elim (keyed.get w r) as (λ v. keyed.get w r ≡ v → lost ≡ elim (option_map (λ x. effect r x.origin) v) [ Some e ↦ full_mark e | None ↦ if lost_below_same a w r then Some D else None ]) [
        | Some x ↦ λ e.
            let i : is_there w r ≡ true = ap is_some e in
            o (λ l. absurd (cc (loss-gone r l))) ∙ c ∙ ap (λ b. noted b (mark_kept k r) None) (there r ∙ i) ∙ or_none (mark_kept k r) ∙ ap full_mark (effect-there k a w ok st r x e)
        | None ↦ λ e.
            let n : is_there w r ≡ false = ap is_some e in
            elim (lost_below_same a w r) as (λ b. lost_below_same a w r ≡ b → lost ≡ (if b then Some D else None)) [
              | true ↦ λ h. let p = and_true _ _ h in g (loss-above (closed-tree a ta.rooted) r p.0 n p.1)
              | false ↦ λ h. o (λ l. absurd (cc (loss-lost r l))) ∙ c ∙ ap (λ b. noted b (mark_kept k r) None) (there r ∙ n)
            ] refl
      ] refl

-- what is noted of a step, in order, is its full rows
pub net-rows : (k : Kept) (a b : Tree) (w : Working) (none changed all : List (Path × Mark)) → IsWorking w → Stands k a w → contents w ≡ b → IsTree a → none ≡ [] →
    ((r : Path) → look r changed ≡ noted (is_there b r) (mark_kept k r) (look r none)) → LossesNoted k a b changed all → IsStrictlySortedBy path_cmp (keys_of all) → all ≡ full_rows a w
net-rows k a b w none changed all ok st same_tree ta n c l s =
    same_rows all (full_rows a w) (sorted-keys all s) (sorted-full_rows a w) (λ r.
    here k a b w ok st same_tree ta r (look r changed) (look r all) (c r ∙ ap (λ es. noted (is_there b r) (mark_kept k r) (look r es)) n) (l.gone r) (l.others r)
    ∙ sym (find-full_rows a w r))
