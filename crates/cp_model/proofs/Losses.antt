-- The rows that say gone at children of a place that stayed are the children that it lost.
use Rattle.std.specs.Prelude.{◌≡◌, Bool, true, false, not, ◌&&◌, ◌||◌, List, [], ◌∷◌, ◌++◌, map, refl, is_some, if◌then◌else◌}
use Rattle.std.proofs.Common.{sym, ap, ◌∙◌}
use Rattle.std.specs.declared.option.Option.{Option}
use Rattle.std.specs.declared.option.Option.TheVariants.{None, Some}
use Rattle.std.specs.List.{cons_option, list_any}
use Rattle.cp_model.specs.Place.{Path, Label, strip, or_else, option_map, with_rest, nearest, place_eq, at_target, parent}
use Rattle.cp_model.specs.Keyed as keyed
use Rattle.cp_model.specs.Subtrees.{is_there}
use Rattle.cp_model.specs.Tree.{Tree}
use Rattle.cp_model.specs.Step.{Working, Worked, Origin, new, was}
use Rattle.cp_model.specs.Past.{AgedTree, tree_of, loses_child, is_child, one_label}
use Rattle.cp_model.specs.Rows.{same, from, Mark, D, effect, effect_at, effect_eq, full_mark, reduced_mark, effect_given, nearest_is_same, same_above, lost_below_same, full_here, reduced_here, parent_there, rows_with_marks, all_paths, full_rows, reduced_rows}
use Rattle.cp_model.proofs.Strips.{strip_is, nearest-snoc, nearest-here, further, parent-snoc}
use Rattle.cp_model.proofs.Lookups.{there-mapped}
use Rattle.cp_model.proofs.Reading.{there_effect}
use Rattle.cp_model.proofs.Marks.{among-all_paths}
use Rattle.cp_model.proofs.Passing.{any-alike, or_true, any_two, key_there, any_map, and_true, and_both, any_same}
use Rattle.cp_model.specs.Records.{is_D}

-- the test, if there is something to test
abbrev pub holds_of : {A : Type 0} → (A → Bool) → Option A → Bool
holds_of h None = false
holds_of h (Some x) = h x

any-marked : (g : Path → Mark → Bool) (f : Path → Option Mark) (qs : List Path) → list_any (λ r. g r.0 r.1) (rows_with_marks f qs) ≡ list_any (λ q. holds_of (g q) (f q)) qs
any-marked g f [] = refl
any-marked g f (q ∷ qs) = one (f q) ∙ ap (λ b. holds_of (g q) (f q) || b) (any-marked g f qs)
  where
    one : (o : Option Mark) → list_any (λ r. g r.0 r.1) (cons_option (option_map (λ m. (q, m)) o) (rows_with_marks f qs)) ≡ (holds_of (g q) o || list_any (λ r. g r.0 r.1) (rows_with_marks f qs))
    one None = refl
    one (Some m) = refl

-- what is a child of p is p and a label
pub child_is : (p q : Path) → is_child p q ≡ true → (a : Label) × (q ≡ p ++ a ∷ [])
child_is p q h =
    elim (strip p q) as (λ o. strip p q ≡ o → one_label o ≡ true → (a : Label) × (q ≡ p ++ a ∷ [])) [
      | None ↦ λ _ h. absurd (cc)
      | Some s ↦ λ k h. one s k h
    ] refl h
  where
    one : (s : Path) → strip p q ≡ Some s → one_label (Some s) ≡ true → (a : Label) × (q ≡ p ++ a ∷ [])
    one [] k h = absurd (cc)
    one (a ∷ []) k h = (a, strip_is p q (a ∷ []) k)
    one (a ∷ b ∷ s) k h = absurd (cc)

no_full_D : (p : Path) (o : Origin) → holds_of is_D (full_mark (effect p o)) ≡ false
no_full_D p new = refl
no_full_D p (was q) = elim (place_eq q (at_target p)) as (λ b. holds_of is_D (full_mark (if b then same else from q)) ≡ false) [ true ↦ refl | false ↦ refl ]

-- what is above a lost child of a place that is the same is the same
pub above_child : (w : Working) (p : Path) (a : Label) → effect_at w p ≡ Some same → keyed.get w (p ++ a ∷ []) ≡ None → same_above w (p ++ a ∷ []) ≡ true
above_child w p a e n =
    ap nearest_is_same (nearest-snoc (effect_at w) p a ∙ ap (λ o. or_else (with_rest (option_map (λ x. effect (p ++ a ∷ []) x.origin) o) []) (further (a ∷ []) (nearest (effect_at w) p))) n
    ∙ ap (λ o. further (a ∷ []) o) (nearest-here (effect_at w) p same e))

holds_never : (o : Option Mark) → holds_of (λ m. false) o ≡ false
holds_never None = refl
holds_never (Some m) = refl

-- marks by which the lost children of p are known: none says gone of what is there, and of a child that isn't there one does where it was
module _ (a : Tree) (w : Working) (p : Path) (here : Path → Option Mark) (kept : (q : Path) (x : Worked) → keyed.get w q ≡ Some x → holds_of is_D (here q) ≡ false) (gone : (b : Label) → keyed.get w (p ++ b ∷ []) ≡ None → holds_of is_D (here (p ++ b ∷ [])) ≡ is_there a (p ++ b ∷ [])) where
  abbrev is_lost : Path → Bool
  is_lost q = is_child p q && (is_there a q && not (is_there w q))

  abbrev is_missing : Path → Bool
  is_missing q = is_child p q && not (is_there w q)

  -- whether q is a lost child, by its mark and by the trees
  lost_here : (q : Path) → holds_of (λ m. is_child p q && is_D m) (here q) ≡ is_lost q
  lost_here q =
      elim (is_child p q) as (λ b. is_child p q ≡ b → holds_of (λ m. b && is_D m) (here q) ≡ (b && (is_there a q && not (is_there w q)))) [
        | false ↦ λ _. holds_never (here q)
        | true ↦ λ h. elim (keyed.get w q) as (λ o. keyed.get w q ≡ o → holds_of is_D (here q) ≡ (is_there a q && not (is_some o))) [
          | Some x ↦ λ e. kept q x e ∙ elim (is_there a q) as (λ b. false ≡ (b && false)) [ true ↦ refl | false ↦ refl ]
          | None ↦ λ n.
              let l = child_is p q h in
              ap (λ r. holds_of is_D (here r)) l.1 ∙ gone l.0 (ap (keyed.get w) (sym l.1) ∙ n) ∙ ap (is_there a) (sym l.1)
              ∙ elim (is_there a q) as (λ b. b ≡ (b && true)) [ true ↦ refl | false ↦ refl ]
        ] refl
      ] refl

  -- so p lost a child where the mark of a child says that it is gone
  losses-rows_with_marks : list_any (λ r. is_child p r.0 && is_D r.1) (rows_with_marks here (all_paths a w)) ≡ loses_child a w p
  unfolding loses_child
  losses-rows_with_marks =
      any-marked (λ q m. is_child p q && is_D m) here (all_paths a w)
      ∙ any-alike _ is_lost lost_here (all_paths a w)
      ∙ any_two is_lost is_missing (all_paths a w) (map (λ e. e.0) (keyed.entries a))
      (λ q k. let s = and_true (is_child p q) _ k in let t = and_true (is_there a q) _ s.1 in (key_there a q ∙ t.0, and_both _ _ s.0 t.1))
      (λ q i k. let s = and_true (is_child p q) _ k in let there : is_there a q ≡ true = sym (key_there a q) ∙ i in
      (among-all_paths a w q ∙ ap (λ b. is_there w q || b) there ∙ or_true (is_there w q) true refl, and_both _ _ s.0 (and_both _ _ there s.1)))
      ∙ any_map is_missing (keyed.entries a)

-- in kinds n and t a place that is the same lost a child where a child's row says that it is gone
pub losses-full_rows : (a : Tree) (w : Working) (p : Path) → effect_at w p ≡ Some same → list_any (λ r. is_child p r.0 && is_D r.1) (full_rows a w) ≡ loses_child a w p
unfolding full_here
losses-full_rows a w p e = losses-rows_with_marks a w p (full_here a w) kept gone
  where
    kept : (q : Path) (x : Worked) → keyed.get w q ≡ Some x → holds_of is_D (full_here a w q) ≡ false
    kept q x e = ap (λ o. holds_of is_D (elim (option_map (λ x. effect q x.origin) o) [ Some e ↦ full_mark e | None ↦ if lost_below_same a w q then Some D else None ])) e ∙ no_full_D q x.origin

    gone : (b : Label) → keyed.get w (p ++ b ∷ []) ≡ None → holds_of is_D (full_here a w (p ++ b ∷ [])) ≡ is_there a (p ++ b ∷ [])
    gone b n =
        let q = p ++ b ∷ [] in
        ap (λ o. holds_of is_D (elim (option_map (λ x. effect q x.origin) o) [ Some e ↦ full_mark e | None ↦ if lost_below_same a w q then Some D else None ])) n
        ∙ ap (λ d. holds_of is_D (if is_there a q && d then Some D else None)) (above_child w p b e n)
        ∙ elim (is_there a q) as (λ b. holds_of is_D (if b && true then Some D else None) ≡ b) [ true ↦ refl | false ↦ refl ]

no_reduced_D : (p : Path) (o : Origin) → is_D (reduced_mark (effect p o)) ≡ false
no_reduced_D p new = refl
no_reduced_D p (was q) = elim (place_eq q (at_target p)) as (λ b. is_D (reduced_mark (if b then same else from q)) ≡ false) [ true ↦ refl | false ↦ refl ]

kept_or_not : (b : Bool) (m : Mark) → is_D m ≡ false → holds_of is_D (if b then None else Some m) ≡ false
kept_or_not true m e = refl
kept_or_not false m e = e

-- in kinds h and ht a place that is the same lost a child where a child's row says that it is gone
pub losses-reduced_rows : (a : Tree) (w : Working) (p : Path) → effect_at w p ≡ Some same → list_any (λ r. is_child p r.0 && is_D r.1) (reduced_rows a w) ≡ loses_child a w p
unfolding reduced_here
losses-reduced_rows a w p e = losses-rows_with_marks a w p (reduced_here a w) kept gone
  where
    kept : (q : Path) (x : Worked) → keyed.get w q ≡ Some x → holds_of is_D (reduced_here a w q) ≡ false
    kept q x e =
        ap (λ o. holds_of is_D (elim (option_map (λ x. effect q x.origin) o) [ Some e ↦ if effect_eq e (effect_given w q) then None else Some (reduced_mark e) | None ↦ if lost_below_same a w q && parent_there w (parent q) then Some D else None ])) e
        ∙ kept_or_not (effect_eq (effect q x.origin) (effect_given w q)) _ (no_reduced_D q x.origin)

    gone : (b : Label) → keyed.get w (p ++ b ∷ []) ≡ None → holds_of is_D (reduced_here a w (p ++ b ∷ [])) ≡ is_there a (p ++ b ∷ [])
    gone b n =
        let q = p ++ b ∷ [] in
        let up : parent_there w (parent q) ≡ true = ap (parent_there w) (parent-snoc p b) ∙ there_effect w p same e in
        ap (λ o. holds_of is_D (elim (option_map (λ x. effect q x.origin) o) [ Some e ↦ if effect_eq e (effect_given w q) then None else Some (reduced_mark e) | None ↦ if lost_below_same a w q && parent_there w (parent q) then Some D else None ])) n
        ∙ ap (λ d. holds_of is_D (if (is_there a q && d) && parent_there w (parent q) then Some D else None)) (above_child w p b e n)
        ∙ ap (λ c. holds_of is_D (if (is_there a q && true) && c then Some D else None)) up
        ∙ elim (is_there a q) as (λ b. holds_of is_D (if (b && true) && true then Some D else None) ≡ b) [ true ↦ refl | false ↦ refl ]

-- a tree's aged places lose the children that its places lose
pub loses-tree : (a : AgedTree) (w : Working) (p : Path) → loses_child (tree_of a) w p ≡ loses_child a w p
unfolding loses_child
loses-tree a w p =
    sym (any_map g (keyed.entries (tree_of a)))
    ∙ any_same g (map (λ e. e.0) (keyed.entries (tree_of a))) (map (λ e. e.0) (keyed.entries a)) (λ q i. key_there a q ∙ sym (there-mapped (λ _ x. x.content) a q) ∙ sym (key_there (tree_of a) q) ∙ i) (λ q i. key_there (tree_of a) q ∙ there-mapped (λ _ x. x.content) a q ∙ sym (key_there a q) ∙ i)
    ∙ any_map g (keyed.entries a)
  where
    g : Path → Bool
    g q = is_child p q && not (is_there w q)
