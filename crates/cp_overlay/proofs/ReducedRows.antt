-- The reduced rows of a step by what is kept.
use Rattle.std.specs.Prelude.{◌≡◌, Bool, true, false, ◌&&◌, List, [], ◌∷◌, ◌++◌, is_some, if◌then◌else◌, refl}
use Rattle.std.proofs.Common.{sym, ap, ◌∙◌}
use Rattle.std.specs.declared.option.Option.{Option}
use Rattle.std.specs.declared.option.Option.TheVariants.{None, Some}
use Rattle.std.specs.Map.{keys_of}
use Rattle.std.specs.List.Sorted.{IsStrictlySortedBy}
use Rattle.cp_path.proofs.Same.{place_eq-refl}
use Rattle.cp_model.specs.declared.origin.Origin.{Origin}
use Rattle.cp_model.specs.declared.origin.Origin.TheVariants.{New as new, Was as was}
use Rattle.cp_model.specs.declared.effect.Effect.{Effect}
use Rattle.cp_model.specs.declared.effect.Effect.TheVariants.{Same as same, New as made, From as from}
use Rattle.cp_model.specs.declared.record.RowMark.{RowMark as Mark}
use Rattle.cp_model.specs.declared.record.RowMark.TheVariants.{Gone as D}
use Rattle.cp_model.specs.Place.{Path, Label, path_cmp, label_eq, target, place_eq, at_target, below_place, option_map, with_rest, parent}
use Rattle.cp_model.specs.Keyed as keyed
use Rattle.cp_model.specs.Keyed.{look}
use Rattle.cp_model.specs.Subtrees.{is_there}
use Rattle.cp_model.specs.Tree.{Tree, IsTree}
use Rattle.cp_model.specs.Step.{Worked, Working, contents}
use Rattle.cp_model.specs.Rows.{effect, gives, effect_at, effect_eq, or_same, effect_given, reduced_mark, reduced_rows, is_same, nearest_is_same, lost_below_same, parent_there, reduced_here}
use Rattle.cp_model.proofs.Effects.{effect-from}
use Rattle.cp_model.proofs.Lookups.{or_none}
use Rattle.cp_model.proofs.Marks.{find-reduced_rows}
use Rattle.cp_model.proofs.Passing.{and_true, and_both}
use Rattle.cp_model.proofs.Reading.{given-snoc, effect_eq-same, effect_there, wanted_here, reduced_at}
use Rattle.cp_model.proofs.Strips.{path_ind, nearest-here, parent-snoc}
use Rattle.cp_overlay.specs.Kept.{Kept, Origins, carry, origin_at, but, IsSparse, IsWorking, Stands}
use Rattle.cp_overlay.specs.Net.{noted, is_short, top_mark, IsLoss, IsLostChild, ChildrenNoted}
use Rattle.cp_overlay.proofs.EffectLemmas.{same-suffix, effect-itself, effect-same, effect_of}
use Rattle.cp_overlay.proofs.Marking.{sorted-keys, sorted-reduced_rows, same_rows}
use Rattle.cp_overlay.proofs.Netting.{there, no_effect, is_same-same, above_step, lost_child, loss-gone, loss-lost, lost_parts}
use Rattle.cp_overlay.proofs.Noting.{noted-none, few-labels}
use Rattle.cp_overlay.proofs.OriginLemmas.{own_or, origin-snoc, origin-own, origin_none, given_top, but_carried}
use Rattle.cp_overlay.proofs.OriginRows.{short}
use Rattle.cp_overlay.proofs.SparseLemmas.{sparse_own}

-- ---- the effect of an origin

-- what is carried one label down has the effect that the one above gives
effect-carried : (r : Path) (l : Label) (o : Origin) → effect (r ++ l ∷ []) (carry o (l ∷ [])) ≡ gives (effect r o) l
effect-carried r l new = refl
effect-carried r l (was q) =
    ap (λ b. if label_eq q.db target && b then same else from (below_place q (l ∷ []))) (same-suffix q.path r (l ∷ []))
    ∙ elim (place_eq q (at_target r)) as (λ b. (if b then same else from (below_place q (l ∷ []))) ≡ gives (if b then same else from q) l) [ true ↦ refl | false ↦ refl ]

-- only what is new has that effect
effect-made : (p : Path) (o : Origin) → effect p o ≡ made → o ≡ new
effect-made p new e = refl
effect-made p (was q) e =
    elim (place_eq q (at_target p)) as (λ b. (if b then same else from q) ≡ made → was q ≡ new) [
      | true ↦ λ e. absurd (cc)
      | false ↦ λ e. absurd (cc)
    ] e

-- origins with one effect at a place are the same
effect-tells : (p : Path) (o u : Origin) (e : Effect) → effect p o ≡ e → effect p u ≡ e → o ≡ u
effect-tells p o u same h k = effect-same p o h ∙ sym (effect-same p u k)
effect-tells p o u made h k = effect-made p o h ∙ sym (effect-made p u k)
effect-tells p o u (from q) h k = effect-from p o q h ∙ sym (effect-from p u q k)

-- ---- the row of an effect where another is given

-- none where it is the same
wanted-given : (e : Effect) → wanted_here e e ≡ None
unfolding wanted_here
wanted-given e = ap (λ b. if b then None else Some (reduced_mark e)) (itself e)
  where
    itself : (e : Effect) → effect_eq e e ≡ true
    itself same = refl
    itself made = refl
    itself (from q) = place_eq-refl q

-- its own where it is another
wanted-other : (e g : Effect) → (e ≡ g → ⊥) → wanted_here e g ≡ Some (reduced_mark e)
unfolding wanted_here
wanted-other e g n =
    elim (effect_eq e g) as (λ b. effect_eq e g ≡ b → (if b then None else Some (reduced_mark e)) ≡ Some (reduced_mark e)) [
      | true ↦ λ h. absurd (n (effect_eq-same e g h))
      | false ↦ λ _. refl
    ] refl

-- an origin of its own, or else one that is given
abbrev own_or_given : Option Origin → Origin → Origin
own_or_given None u = u
own_or_given (Some o) u = o

-- a place that keeps an origin has the origin's row where that isn't given, and one that keeps none has no row
wanted-kept : (p : Path) (o u : Origin) (v : Option Origin) → o ≡ own_or_given v u → (v ≡ Some u → ⊥) → wanted_here (effect p o) (effect p u) ≡ option_map (λ y. reduced_mark (effect p y)) v
wanted-kept p o u None e n = ap (λ y. wanted_here (effect p y) (effect p u)) e ∙ wanted-given (effect p u)
wanted-kept p o u (Some y) e n =
    ap (λ y. wanted_here (effect p y) (effect p u)) e
    ∙ wanted-other (effect p y) (effect p u) (λ h. n (ap Some (effect-tells p y u (effect p u) h refl)))

-- ---- what is kept and what is given

-- a place has the origin that it keeps, or else what it is given
kept-or-given : (f : Origins) (r : Path) → origin_at f r ≡ own_or_given (f r) (origin_at (but r f) r)
kept-or-given f = path_ind (λ r. origin_at f r ≡ own_or_given (f r) (origin_at (but r f) r))
    (elim (f []) as (λ v. f [] ≡ v → origin_at f [] ≡ own_or_given v (origin_at (but [] f) [])) [
      | None ↦ λ e. origin_none f [] (ap (λ o. with_rest o []) e) ∙ sym (given_top f)
      | Some y ↦ λ e. origin-own f [] y e
    ] refl)
    (λ r l _. elim (f (r ++ l ∷ [])) as (λ v. f (r ++ l ∷ []) ≡ v → origin_at f (r ++ l ∷ []) ≡ own_or_given v (origin_at (but (r ++ l ∷ []) f) (r ++ l ∷ []))) [
      | None ↦ λ e. origin-snoc f r l ∙ ap (λ v. own_or v (origin_at f r) l) e ∙ sym (but_carried f r l)
      | Some y ↦ λ e. origin-own f (r ++ l ∷ []) y e
    ] refl)

module _ (k : Kept) (a b : Tree) (w : Working) (ok : IsWorking w) (st : Stands k a w) (same_tree : contents w ≡ b) where
  -- the effect that a place is given is that of the origin that it would have if it kept none
  given_effect : (r : Path) → is_there w r ≡ true → effect_given w r ≡ effect r (origin_at (but r k.origins) r)
  given_effect = path_ind (λ r. is_there w r ≡ true → effect_given w r ≡ effect r (origin_at (but r k.origins) r))
      (λ _. sym (ap (effect []) (given_top k.origins) ∙ effect-itself []))
      (λ r l _ h.
      let e = effect_there w r (ok.closed.parents r l h) in
      let x = effect_of w r e.0 e.1 in
      given-snoc w r l
      ∙ ap (λ o. gives (or_same o) l) e.1
      ∙ ap (λ d. gives d l) (x.2 ∙ ap (effect r) (sym (st.origins r x.0 x.1)))
      ∙ sym (effect-carried r l (origin_at k.origins r))
      ∙ ap (effect (r ++ l ∷ [])) (sym (but_carried k.origins r l)))

  -- ---- where a place is there

  -- its row is by the origin that is kept of it, if one is
  row_there : IsSparse k.origins → (r : Path) (x : Worked) → keyed.get w r ≡ Some x → look r (reduced_rows a w) ≡ top_mark k r
  unfolding top_mark
  row_there sp r x e =
      let u = origin_at (but r k.origins) r in
      reduced_at a w r (effect r x.origin) (effect r u) (ap (option_map (λ x. effect r x.origin)) e) (given_effect r (ap is_some e))
      ∙ wanted-kept r x.origin u (k.origins r) (sym (st.origins r x e) ∙ kept-or-given k.origins r) (sparse_own k.origins sp r)

  -- ---- where none is

  -- no origin is kept
  top_none : (r : Path) → is_there w r ≡ false → top_mark k r ≡ None
  unfolding top_mark
  top_none r n =
      elim (k.origins r) as (λ v. k.origins r ≡ v → option_map (λ o. reduced_mark (effect r o)) v ≡ None) [
        | None ↦ λ _. refl
        | Some o ↦ λ e. let i = st.there r (ap is_some e) in absurd (cc)
      ] refl

  -- the row says gone where the parent is left and the same
  row_gone : (r : Path) → is_there w r ≡ false → (q : Bool) → (lost_below_same a w r && parent_there w (parent r)) ≡ q → look r (reduced_rows a w) ≡ (if q then Some D else None)
  unfolding reduced_here
  row_gone r n q h =
      find-reduced_rows a w r
      ∙ ap (λ o. elim o [ Some e ↦ if effect_eq e (effect_given w r) then None else Some (reduced_mark e) | None ↦ if lost_below_same a w r && parent_there w (parent r) then Some D else None ]) (no_effect w r n)
      ∙ ap (λ q. if q then Some D else None) h

  -- such a place is a lost child
  row-child : (r : Path) → is_there w r ≡ false → (lost_below_same a w r && parent_there w (parent r)) ≡ true → IsLostChild k a b r
  row-child = path_ind (λ r. is_there w r ≡ false → (lost_below_same a w r && parent_there w (parent r)) ≡ true → IsLostChild k a b r)
      (λ n h. let f : false ≡ true = (and_true (lost_below_same a w []) false h).1 in absurd (cc))
      (λ r l _ n h.
      let q = and_true _ _ h in
      let p = and_true _ _ q.0 in
      let i : is_there w r ≡ true = sym (ap (parent_there w) (parent-snoc r l)) ∙ q.1 in
      let e = effect_there w r i in
      let v : is_same e.0 ≡ true = sym (ap nearest_is_same (nearest-here (effect_at w) r e.0 e.1)) ∙ sym (above_step k a b w ok st same_tree r l n) ∙ p.1 in
      let d = lost_child k a b w ok st same_tree r l (e.1 ∙ ap Some (is_same-same e.0 v)) p.0 n in
      record { parent = r; label = l; place = refl; kept = d.0; gone = d.1; was = p.0 })

  module _ (r : Path) (x : IsLostChild k a b r) where
    -- a lost child is lost
    child_loss : IsLoss k a b r
    child_loss = record { parent = x.parent; label = x.label; rest = []; place = x.place; kept = x.kept; gone = x.gone; was = x.was }

    -- it isn't there
    child-gone : is_there w r ≡ false
    child-gone = loss-gone k a b w ok st same_tree r child_loss

    -- and its parent is left and the same
    child-row : (lost_below_same a w r && parent_there w (parent r)) ≡ true
    unfolding child_loss
    child-row =
        and_both _ _ (loss-lost k a b w ok st same_tree r child_loss)
        (ap (λ q. parent_there w (parent q)) x.place ∙ ap (parent_there w) (parent-snoc x.parent x.label) ∙ (lost_parts k a b w ok st same_tree r child_loss).0)

  -- ---- each place

  -- what is noted at a place is the step's row there
  here : IsSparse k.origins → IsTree b → (r : Path) (changed lost : Option Mark) → changed ≡ noted (is_short r) (top_mark k r) None → (IsLostChild k a b r → lost ≡ Some D) → ((IsLostChild k a b r → ⊥) → lost ≡ changed) → lost ≡ look r (reduced_rows a w)
  here sp tb r changed lost c g o =
      elim (keyed.get w r) as (λ v. keyed.get w r ≡ v → lost ≡ look r (reduced_rows a w)) [
        | Some x ↦ λ e.
            let i : is_there w r ≡ true = ap is_some e in
            o (λ l. absurd (cc (child-gone r l)))
            ∙ c
            ∙ ap (λ s. noted s (top_mark k r) None) (short r (few-labels b r tb (there k a b w ok st same_tree r ∙ i)))
            ∙ or_none (top_mark k r)
            ∙ sym (row_there sp r x e)
        | None ↦ λ e.
            let n : is_there w r ≡ false = ap is_some e in
            elim (lost_below_same a w r && parent_there w (parent r)) as (λ q. (lost_below_same a w r && parent_there w (parent r)) ≡ q → lost ≡ look r (reduced_rows a w)) [
              | true ↦ λ h. g (row-child r n h) ∙ sym (row_gone r n true h)
              | false ↦ λ h. o (λ l. absurd (cc (child-row r l))) ∙ c ∙ ap (λ t. noted (is_short r) t None) (top_none r n) ∙ noted-none (is_short r) None ∙ sym (row_gone r n false h)
            ] refl
      ] refl

-- what is noted of a step, in order, is its reduced rows
pub net-reduced_rows : (k : Kept) (a b : Tree) (w : Working) (none changed all : List (Path × Mark)) → IsWorking w → Stands k a w → contents w ≡ b → IsSparse k.origins → IsTree b → none ≡ [] →
    ((r : Path) → look r changed ≡ noted (is_short r) (top_mark k r) (look r none)) → ChildrenNoted k a b changed all → IsStrictlySortedBy path_cmp (keys_of all) → all ≡ reduced_rows a w
net-reduced_rows k a b w none changed all ok st same_tree sp tb n c l s =
    same_rows all (reduced_rows a w) (sorted-keys all s) (sorted-reduced_rows a w) (λ r.
    here k a b w ok st same_tree sp tb r (look r changed) (look r all) (c r ∙ ap (λ es. noted (is_short r) (top_mark k r) (look r es)) n) (l.gone r) (l.others r))
