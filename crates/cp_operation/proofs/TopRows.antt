-- The reduced rows of a step of one operation.
use Rattle.std.specs.Prelude.{◌≡◌, Bool, true, false, cond, ◌&&◌, List, [], ◌∷◌, ◌++◌, is_some, if◌then◌else◌, refl}
use Rattle.std.proofs.Common.{sym, ap, subst, ◌∙◌, T, append_assoc}
use Rattle.std.specs.declared.option.Option.{Option}
use Rattle.std.specs.declared.option.Option.TheVariants.{None, Some}
use Rattle.std.specs.FinMap.Entries.{is_sorted}
use Rattle.cp_path.specs.declared.loc.Loc.{Loc}
use Rattle.cp_path.proofs.Same.{place_eq-refl}
use Rattle.cp_model.specs.declared.row.Content.{Content}
use Rattle.cp_model.specs.declared.literal.Literal.{Literal}
use Rattle.cp_model.specs.declared.literal.Literal.TheVariants as literal
use Rattle.cp_model.specs.declared.op.Op.{Op}
use Rattle.cp_model.specs.declared.op.Op.TheVariants.{Ins, Del, Copy}
use Rattle.cp_model.specs.Place.{Label, Path, path_cmp, path_eq, place_eq, in_target, child, below_place, strip, option_map, parent}
use Rattle.cp_model.specs.Closed.{Closed}
use Rattle.cp_model.specs.Keyed as keyed
use Rattle.cp_model.specs.Keyed.{look}
use Rattle.cp_model.specs.Subtrees.{is_there, below, without, with_subtree}
use Rattle.cp_model.specs.Literals.{literal_rows}
use Rattle.cp_model.specs.Laws.{at_rest_or, AreTrees}
use Rattle.cp_model.specs.Tree.{Tree, Source, source, subtree_at, IsTree, IsRooted, refusal}
use Rattle.cp_model.specs.declared.origin.Origin.TheVariants.{New as new, Was as was}
use Rattle.cp_model.specs.declared.record.RowMark.{RowMark as Mark}
use Rattle.cp_model.specs.declared.record.RowMark.TheVariants.{Made as I, Copied as C, Gone as D}
use Rattle.cp_model.specs.Step.{Worked, Working, open_tree, as_new, from_source, entries_to_copy, apply_op}
use Rattle.cp_model.specs.declared.effect.Effect.{Effect}
use Rattle.cp_model.specs.declared.effect.Effect.TheVariants.{Same as same, New as made, From as from}
use Rattle.cp_model.specs.Rows.{effect, effect_at, effect_eq, effect_given, gives, or_same, reduced_mark, lost_below_same, same_above, parent_there, reduced_here}
use Rattle.cp_model.specs.History.{IsWritten}
use Rattle.cp_model.proofs.Strips.{strip_is, strip-append, strip-snoc, append-nil, path_ind, parent-snoc}
use Rattle.cp_model.proofs.Lookups.{find-with_values, get-mapped, path_eq-append, path_eq-sym, rest_is}
use Rattle.cp_model.proofs.Accepted.{InsAccepted, ins_accepted, DelAccepted, del_accepted, copy_accepted}
use Rattle.cp_model.proofs.Alone.{contents-alone}
use Rattle.cp_model.proofs.Kept.{tree-changed, closed-working}
use Rattle.cp_model.proofs.Passing.{and_both}
use Rattle.cp_model.proofs.Reading.{effect_there, there_effect, given-snoc, below_place-nil}
use Rattle.cp_tree.proofs.Leaves.{nothing-below}
use Rattle.cp_operation.specs.RowsAlone.{top_rows}
use Rattle.cp_operation.proofs.RowsAloneLemmas.{itself, effect_itself, strip-child, root-below, put_at, dropped, above_del, copied_from, at_copy, effect_copy, above_copy, moves_inside, carries_inside, stays_inside, moves_loaded, carries_loaded, other_place}

-- ---- what one row says

-- a mark at a place, seen from this far below it
abbrev at_top : Option Mark → Path → Option Mark
at_top m [] = m
at_top m (b ∷ s) = None

-- one label further down there is none
top-snoc : (m : Option Mark) (s : Path) (b : Label) → at_top m (s ++ b ∷ []) ≡ None
top-snoc m [] b = refl
top-snoc m (c ∷ s) b = refl

-- the row of a mark, if there is one
abbrev pub row_of : Path → Option Mark → List (Path × Mark)
row_of x None = []
row_of x (Some m) = (x, m) ∷ []

-- rows that are one at most rise
pub sorted-row : (x : Path) (m : Option Mark) → T (is_sorted path_cmp (row_of x m))
sorted-row x None = tt
sorted-row x (Some m) = tt

-- a row is found at its place alone
find-row : (x r : Path) (m : Option Mark) → look r (row_of x m) ≡ at_rest_or (strip x r) (at_top m) None
find-row x r None = elim (strip x r) as (λ o. ◌≡◌ {A = Option Mark} None (at_rest_or o (at_top None) None)) [ None ↦ refl | Some s ↦ nowhere s ]
  where
    nowhere : (s : Path) → ◌≡◌ {A = Option Mark} None (at_top None s)
    nowhere [] = refl
    nowhere (b ∷ s) = refl
find-row x r (Some m) =
    ap (λ b. cond b (Some m) None) (path_eq-sym r x ∙ ap (λ q. path_eq q r) (sym (append-nil x)) ∙ path_eq-append x [] r)
    ∙ elim (strip x r) as (λ o. cond (rest_is o []) (Some m) None ≡ at_rest_or o (at_top (Some m)) None) [ None ↦ refl | Some s ↦ here s ]
  where
    here : (s : Path) → cond (rest_is (Some s) []) (Some m) None ≡ at_top (Some m) s
    here [] = refl
    here (b ∷ s) = refl

-- ---- one place

-- the mark of a place with this effect
abbrev mark_at : Tree → Working → Path → Option Effect → Option Mark
mark_at t w r o =
    elim o [
      | Some e ↦ if effect_eq e (effect_given w r) then None else Some (reduced_mark e)
      | None ↦ if lost_below_same t w r && parent_there w (parent r) then Some D else None
    ]

by_effect : (t : Tree) (w : Working) (r : Path) (o : Option Effect) → effect_at w r ≡ o → reduced_here t w r ≡ mark_at t w r o
unfolding reduced_here
by_effect t w r o e = ap (mark_at t w r) e

effect_eq-refl : (e : Effect) → effect_eq e e ≡ true
effect_eq-refl same = refl
effect_eq-refl made = refl
effect_eq-refl (from q) = place_eq-refl q

-- a place with the effect that it is given has no row
implied : (t : Tree) (w : Working) (r : Path) (e : Effect) → effect_at w r ≡ Some e → effect_given w r ≡ e → reduced_here t w r ≡ None
implied t w r e h g =
    by_effect t w r (Some e) h
    ∙ ap (λ d. if effect_eq e d then None else Some (reduced_mark e)) g
    ∙ ap (λ b. if b then None else Some (reduced_mark e)) (effect_eq-refl e)

-- a place that isn't there before and after has no row
absent : (t : Tree) (w : Working) (r : Path) → keyed.get w r ≡ None → keyed.get t r ≡ None → reduced_here t w r ≡ None
absent t w r h n =
    by_effect t w r None (ap (option_map (λ (x : Worked). effect r x.origin)) h)
    ∙ ap (λ o. if (is_some o && same_above w r) && parent_there w (parent r) then Some D else None) n

-- a place that is gone with its parent has no row
gone_with : (t : Tree) (w : Working) (q : Path) (b : Label) → effect_at w (q ++ b ∷ []) ≡ None → is_there w q ≡ false → reduced_here t w (q ++ b ∷ []) ≡ None
gone_with t w q b h n =
    by_effect t w (q ++ b ∷ []) None h
    ∙ ap (λ o. if lost_below_same t w (q ++ b ∷ []) && parent_there w o then Some D else None) (parent-snoc q b)
    ∙ ap (λ c. if lost_below_same t w (q ++ b ∷ []) && c then Some D else None) n
    ∙ never (lost_below_same t w (q ++ b ∷ []))
  where
    never : (b : Bool) → ◌≡◌ {A = Option Mark} (if b && false then Some D else None) None
    never true = refl
    never false = refl

-- nor has one that is gone with what is left above it not the same
gone_changed : (t : Tree) (w : Working) (r : Path) → effect_at w r ≡ None → same_above w r ≡ false → reduced_here t w r ≡ None
gone_changed t w r h n = by_effect t w r None h ∙ ap (λ c. if (is_there t r && c) && parent_there w (parent r) then Some D else None) n ∙ never (is_there t r)
  where
    never : (b : Bool) → ◌≡◌ {A = Option Mark} (if (b && false) && parent_there w (parent r) then Some D else None) None
    never true = refl
    never false = refl

-- ---- the place written, what lies below it, and all else

module _ (t : Tree) (w : Working) (x : Path) (m : Option Mark) (aside : (r : Path) → strip x r ≡ None → keyed.get w r ≡ keyed.get (open_tree t) r) where
  -- a place aside is as at the start
  as_before : (r : Path) → strip x r ≡ None → effect_at w r ≡ option_map (λ _. same) (keyed.get t r)
  as_before r k =
      ap (option_map (λ (x : Worked). effect r x.origin)) (aside r k ∙ get-mapped itself t r)
      ∙ elim (keyed.get t r) as (λ o. option_map (λ (x : Worked). effect r x.origin) (option_map (itself r) o) ≡ option_map (λ _. same) o) [ None ↦ refl | Some c ↦ ap Some (effect_itself r) ]

  -- so it gives what is below it nothing else
  same_aside : (r : Path) → strip x r ≡ None → or_same (effect_at w r) ≡ same
  same_aside r k = ap or_same (as_before r k) ∙ elim (keyed.get t r) as (λ o. or_same (option_map (λ _. same) o) ≡ same) [ None ↦ refl | Some c ↦ refl ]

  -- and one that has nothing at or below the place written above it is given nothing
  given_same : (r : Path) → ((q : Path) (b : Label) → r ≡ q ++ b ∷ [] → strip x q ≡ None) → effect_given w r ≡ same
  given_same = path_ind (λ r. ((q : Path) (b : Label) → r ≡ q ++ b ∷ [] → strip x q ≡ None) → effect_given w r ≡ same)
      (λ _. refl)
      (λ q b _ n. given-snoc w q b ∙ ap (λ e. gives e b) (same_aside q (n q b refl)))

  strip_none : (o : Option Path) (q : Path) (b : Label) → strip x q ≡ o → strip x (q ++ b ∷ []) ≡ None → o ≡ None
  strip_none None q b e n = refl
  strip_none (Some s) q b e n = let k = strip-snoc x q s b e in absurd (cc)

  -- a place aside has no row
  none_aside : (r : Path) → strip x r ≡ None → reduced_here t w r ≡ None
  none_aside r k =
      elim (keyed.get t r) as (λ o. keyed.get t r ≡ o → reduced_here t w r ≡ None) [
        | None ↦ λ n. absent t w r (aside r k ∙ get-mapped itself t r ∙ ap (option_map (itself r)) n) n
        | Some c ↦ λ i.
            implied t w r same (as_before r k ∙ ap (option_map (λ _. same)) i)
            (given_same r (λ q b e. strip_none (strip x q) q b refl (ap (strip x) (sym e) ∙ k)))
      ] refl

  -- with a mark at the place written and none below it, that is the row
  one_row : reduced_here t w x ≡ m → ((s : Path) (b : Label) → reduced_here t w ((x ++ s) ++ b ∷ []) ≡ None) → (r : Path) → reduced_here t w r ≡ look r (row_of x m)
  one_row top under r =
      elim (strip x r) as (λ o. strip x r ≡ o → reduced_here t w r ≡ at_rest_or o (at_top m) None) [
        | None ↦ λ k. none_aside r k
        | Some s ↦ λ k. ap (reduced_here t w) (strip_is x r s k) ∙ at s
      ] refl
      ∙ sym (find-row x r m)
    where
      at : (s : Path) → reduced_here t w (x ++ s) ≡ at_top m s
      at = path_ind (λ s. reduced_here t w (x ++ s) ≡ at_top m s)
          (ap (reduced_here t w) (append-nil x) ∙ top)
          (λ s b _. ap (reduced_here t w) (sym (append_assoc x s (b ∷ []))) ∙ under s b ∙ sym (top-snoc m s b))

-- the parent of a child isn't below it
aside-child : (p : Path) (a : Label) (q : Path) (b : Label) → child p a ≡ q ++ b ∷ [] → strip (child p a) q ≡ None
aside-child p a q b e = ap (λ r. strip r q) e ∙ strip-child q b

-- ---- an insertion

module _ (t : Tree) (p : Loc) (a : Label) (l : Literal) (h : IsRooted t) (x : InsAccepted t p a l) (cl : Closed (keyed.get (with_subtree (child p.path a) (as_new (literal_rows l)) (open_tree t)))) where
  abbrev w_ins : Working
  w_ins = with_subtree (child p.path a) (as_new (literal_rows l)) (open_tree t)

  abbrev top_ins : Path
  top_ins = child p.path a

  ins_at : (s : Path) → keyed.get w_ins (top_ins ++ s) ≡ option_map (λ c. record { content = c; origin = new }) (look s (literal_rows l))
  ins_at s = put_at top_ins (top_ins ++ s) (as_new (literal_rows l)) (open_tree t) (Some s) (strip-append top_ins s) ∙ find-with_values (λ _ c. record { content = c; origin = new }) s (literal_rows l)

  ins_effect : (s : Path) → effect_at w_ins (top_ins ++ s) ≡ option_map (λ _. made) (look s (literal_rows l))
  ins_effect s =
      ap (option_map (λ (x : Worked). effect (top_ins ++ s) x.origin)) (ins_at s)
      ∙ elim (look s (literal_rows l)) as (λ o. option_map (λ (x : Worked). effect (top_ins ++ s) x.origin) (option_map (λ c. record { content = c; origin = new }) o) ≡ option_map (λ _. made) o) [ None ↦ refl | Some c ↦ refl ]

  ins_root : (l : Literal) → option_map (λ _. made) (look [] (literal_rows l)) ≡ Some made
  ins_root (literal.Leaf v) = refl
  ins_root (literal.Node es) = refl

  ins_aside : (r : Path) → strip top_ins r ≡ None → keyed.get w_ins r ≡ keyed.get (open_tree t) r
  ins_aside r k = put_at top_ins r (as_new (literal_rows l)) (open_tree t) None k

  ins_top : reduced_here t w_ins top_ins ≡ Some I
  ins_top =
      by_effect t w_ins top_ins (Some made) (ap (effect_at w_ins) (sym (append-nil top_ins)) ∙ ins_effect [] ∙ ins_root l)
      ∙ ap (λ d. if effect_eq made d then None else Some I) (given_same t w_ins top_ins (Some I) ins_aside top_ins (aside-child p.path a))

  ins_under : (s : Path) (b : Label) → reduced_here t w_ins ((top_ins ++ s) ++ b ∷ []) ≡ None
  ins_under s b =
      elim (look (s ++ b ∷ []) (literal_rows l)) as (λ o. look (s ++ b ∷ []) (literal_rows l) ≡ o → reduced_here t w_ins ((top_ins ++ s) ++ b ∷ []) ≡ None) [
        | None ↦ λ n.
            absent t w_ins ((top_ins ++ s) ++ b ∷ [])
            (ap (keyed.get w_ins) (append_assoc top_ins s (b ∷ [])) ∙ ins_at (s ++ b ∷ []) ∙ ap (option_map (λ c. record { content = c; origin = new })) n)
            (ap (keyed.get t) (append_assoc top_ins s (b ∷ [])) ∙ nothing-below t top_ins (s ++ b ∷ []) h x.free)
        | Some c ↦ λ i.
            let e : effect_at w_ins ((top_ins ++ s) ++ b ∷ []) ≡ Some made = ap (effect_at w_ins) (append_assoc top_ins s (b ∷ [])) ∙ ins_effect (s ++ b ∷ []) ∙ ap (option_map (λ _. made)) i in
            implied t w_ins ((top_ins ++ s) ++ b ∷ []) made e (given-snoc w_ins (top_ins ++ s) b ∙ ap (λ o. gives (or_same o) b) (above s b e))
      ] refl
    where
      is_made : (o : Option Content) (e : Effect) → option_map (λ _. made) o ≡ Some e → option_map (λ _. made) o ≡ Some made
      is_made None e h = absurd (cc)
      is_made (Some c) e h = refl

      above : (s : Path) (b : Label) → effect_at w_ins ((top_ins ++ s) ++ b ∷ []) ≡ Some made → effect_at w_ins (top_ins ++ s) ≡ Some made
      above s b e =
          let up = effect_there w_ins (top_ins ++ s) (cl.parents (top_ins ++ s) b (there_effect w_ins ((top_ins ++ s) ++ b ∷ []) made e)) in
          ins_effect s ∙ is_made (look s (literal_rows l)) up.0 (sym (ins_effect s) ∙ up.1)

  row_ins : (r : Path) → reduced_here t w_ins r ≡ look r (row_of top_ins (Some I))
  row_ins = one_row t w_ins top_ins (Some I) ins_aside ins_top ins_under

-- ---- a deletion

module _ (t : Tree) (p : Loc) (a : Label) (x : DelAccepted t p a) where
  abbrev w_del : Working
  w_del = without (child p.path a) (open_tree t)

  abbrev top_del : Path
  top_del = child p.path a

  del_aside : (r : Path) → strip top_del r ≡ None → keyed.get w_del r ≡ keyed.get (open_tree t) r
  del_aside r k = dropped t p a x r None k

  del_gone : (s : Path) → keyed.get w_del (top_del ++ s) ≡ None
  del_gone s = dropped t p a x (top_del ++ s) (Some s) (strip-append top_del s)

  del_effect : (s : Path) → effect_at w_del (top_del ++ s) ≡ None
  del_effect s = ap (option_map (λ (x : Worked). effect (top_del ++ s) x.origin)) (del_gone s)

  -- the place written is gone, and its parent is left
  del_top : reduced_here t w_del top_del ≡ Some D
  del_top =
      by_effect t w_del top_del None (ap (effect_at w_del) (sym (append-nil top_del)) ∙ del_effect [])
      ∙ ap (λ c. if c && parent_there w_del (parent top_del) then Some D else None) (and_both (is_there t top_del) (same_above w_del top_del) x.there (ap (same_above w_del) (sym (append-nil top_del)) ∙ above_del t p a x []))
      ∙ ap (λ o. if parent_there w_del o then Some D else None) (parent-snoc p.path a)
      ∙ ap (λ c. if c then Some D else None) (ap is_some (del_aside p.path (strip-child p.path a) ∙ get-mapped itself t p.path ∙ ap (option_map (itself p.path)) x.node))

  del_under : (s : Path) (b : Label) → reduced_here t w_del ((top_del ++ s) ++ b ∷ []) ≡ None
  del_under s b = gone_with t w_del (top_del ++ s) b (ap (effect_at w_del) (append_assoc top_del s (b ∷ [])) ∙ del_effect (s ++ b ∷ [])) (ap is_some (del_gone s))

  row_del : (r : Path) → reduced_here t w_del r ≡ look r (row_of top_del (Some D))
  row_del = one_row t w_del top_del (Some D) del_aside del_top del_under

-- ---- a copy

-- what has changed where q is copied onto p
abbrev moved : Loc → Loc → Path → Effect
moved q p s = if place_eq q p then same else from (below_place q s)

-- the row of it
abbrev top_of : Loc → Loc → Option Mark
top_of q p = if place_eq q p then None else Some (C q)

module _ (t : Tree) (q p : Loc) (es : List (Path × Content)) (ws : List (Path × Worked)) (carries : (s : Path) → look s ws ≡ option_map (copied_from q s) (look s es)) (root : is_some (look [] es) ≡ true)
    (moves : (s : Path) → effect (p.path ++ s) (was (below_place q s)) ≡ (if place_eq q p then same else from (below_place q s))) (stays : place_eq q p ≡ true → (s : Path) → keyed.get t (p.path ++ s) ≡ look s es)
    (cl : Closed (keyed.get (with_subtree p.path ws (open_tree t)))) where
  abbrev w_copy : Working
  w_copy = with_subtree p.path ws (open_tree t)

  copy_aside : (r : Path) → strip p.path r ≡ None → keyed.get w_copy r ≡ keyed.get (open_tree t) r
  copy_aside r k = put_at p.path r ws (open_tree t) None k

  copy_effect : (s : Path) → effect_at w_copy (p.path ++ s) ≡ option_map (λ _. moved q p s) (look s es)
  copy_effect s = effect_copy t q p es ws carries root moves stays s

  moved_if : (s : Path) (o : Option Content) → is_some o ≡ true → option_map (λ _. moved q p s) o ≡ Some (moved q p s)
  moved_if s None h = absurd (cc)
  moved_if s (Some c) h = refl

  copy_top : reduced_here t w_copy p.path ≡ top_of q p
  copy_top =
      by_effect t w_copy p.path (Some (moved q p [])) (ap (effect_at w_copy) (sym (append-nil p.path)) ∙ copy_effect [] ∙ moved_if [] (look [] es) root)
      ∙ ap (λ d. if effect_eq (moved q p []) d then None else Some (reduced_mark (moved q p []))) (given_same t w_copy p.path (top_of q p) copy_aside p.path not_below)
      ∙ elim (place_eq q p) as (λ b. (if effect_eq (if b then same else from (below_place q [])) same then None else Some (reduced_mark (if b then same else from (below_place q [])))) ≡ (if b then None else Some (C q))) [
        | true ↦ refl
        | false ↦ ap (λ r. Some (C r)) (below_place-nil q)
      ]
    where
      not_below : (r : Path) (b : Label) → p.path ≡ r ++ b ∷ [] → strip p.path r ≡ None
      not_below r b e = ap (λ k. strip k r) e ∙ strip-child r b

  copy_there : (s : Path) → is_there w_copy (p.path ++ s) ≡ true → effect_at w_copy (p.path ++ s) ≡ Some (moved q p s)
  copy_there s i = let e = effect_there w_copy (p.path ++ s) i in copy_effect s ∙ is_moved (look s es) e.0 (sym (copy_effect s) ∙ e.1)
    where
      is_moved : (o : Option Content) (e : Effect) → option_map (λ _. moved q p s) o ≡ Some e → option_map (λ _. moved q p s) o ≡ Some (moved q p s)
      is_moved None e h = absurd (cc)
      is_moved (Some c) e h = refl

  given_moved : (s : Path) (b : Label) → gives (moved q p s) b ≡ moved q p (s ++ b ∷ [])
  given_moved s b = elim (place_eq q p) as (λ c. gives (if c then same else from (below_place q s)) b ≡ (if c then same else from (below_place q (s ++ b ∷ [])))) [
    | true ↦ refl
    | false ↦ ap (λ k. from (record { db = q.db; path = k })) (append_assoc q.path s (b ∷ []))
  ]

  copy_under : (s : Path) (b : Label) → reduced_here t w_copy ((p.path ++ s) ++ b ∷ []) ≡ None
  copy_under s b =
      elim (look (s ++ b ∷ []) es) as (λ o. look (s ++ b ∷ []) es ≡ o → reduced_here t w_copy ((p.path ++ s) ++ b ∷ []) ≡ None) [
        | Some c ↦ λ i.
            let e : effect_at w_copy ((p.path ++ s) ++ b ∷ []) ≡ Some (moved q p (s ++ b ∷ [])) = further_down ∙ ap (option_map (λ _. moved q p (s ++ b ∷ []))) i in
            let up = copy_there s (cl.parents (p.path ++ s) b (there_effect w_copy ((p.path ++ s) ++ b ∷ []) (moved q p (s ++ b ∷ [])) e)) in
            implied t w_copy ((p.path ++ s) ++ b ∷ []) (moved q p (s ++ b ∷ [])) e (given-snoc w_copy (p.path ++ s) b ∙ ap (λ o. gives (or_same o) b) up ∙ given_moved s b)
        | None ↦ λ n. none_copied n (place_eq q p) refl
      ] refl
    where
      along : ◌≡◌ {A = Path} ((p.path ++ s) ++ b ∷ []) (p.path ++ (s ++ b ∷ []))
      along = append_assoc p.path s (b ∷ [])

      further_down : effect_at w_copy ((p.path ++ s) ++ b ∷ []) ≡ option_map (λ _. moved q p (s ++ b ∷ [])) (look (s ++ b ∷ []) es)
      further_down = ap (effect_at w_copy) along ∙ copy_effect (s ++ b ∷ [])

      none_copied : look (s ++ b ∷ []) es ≡ None → (c : Bool) → place_eq q p ≡ c → reduced_here t w_copy ((p.path ++ s) ++ b ∷ []) ≡ None
      none_copied n true e =
          absent t w_copy ((p.path ++ s) ++ b ∷ [])
          (ap (keyed.get w_copy) along ∙ at_copy t q p es ws carries root moves stays (p.path ++ (s ++ b ∷ [])) (s ++ b ∷ []) (strip-append p.path (s ++ b ∷ [])) ∙ ap (option_map (copied_from q (s ++ b ∷ []))) n)
          (ap (keyed.get t) along ∙ stays e (s ++ b ∷ []) ∙ n)
      none_copied n false e =
          gone_changed t w_copy ((p.path ++ s) ++ b ∷ []) (further_down ∙ ap (option_map (λ _. moved q p (s ++ b ∷ []))) n)
          (ap (same_above w_copy) along ∙ above_copy t q p es ws carries root moves stays (s ++ b ∷ []) e)

  row_copy : (r : Path) → reduced_here t w_copy r ≡ look r (row_of p.path (top_of q p))
  row_copy = one_row t w_copy p.path (top_of q p) copy_aside copy_top copy_under

-- a copy inside the tree, or from a source
row_copied : (ss : List Source) (t u : Tree) (q p : Loc) (b : Bool) → in_target q ≡ b → cond b (Some t) (source ss q.db) ≡ Some u → in_target p ≡ true → is_there u q.path ≡ true → Closed (keyed.get (with_subtree p.path (entries_to_copy ss (open_tree t) q b) (open_tree t))) → (r : Path) →
    reduced_here t (with_subtree p.path (entries_to_copy ss (open_tree t) q b) (open_tree t)) r ≡ look r (row_of p.path (top_of q p))
row_copied ss t u q p true i e j o cl r =
    let k : t ≡ u = cc in
    let there : is_there t q.path ≡ true = ap (λ u. is_there u q.path) k ∙ o in
    row_copy t q p (below q.path t) (below q.path (open_tree t)) (carries_inside t q p i j there) (root-below t q.path there) (moves_inside t q p i j there) (stays_inside t q p i j there) cl r
row_copied ss t u q p false i e j o cl r =
    ap (λ o. reduced_here t (with_subtree p.path (from_source q (subtree_at o q.path)) (open_tree t)) r) e
    ∙ row_copy t q p (below q.path u) (from_source q (below q.path u)) (carries_loaded t u q p i j o) (root-below u q.path o) (moves_loaded t u q p i j o)
    (λ b. let n = other_place t u q p i j o in absurd (cc))
    (subst (λ o. Closed (keyed.get (with_subtree p.path (from_source q (subtree_at o q.path)) (open_tree t)))) e cl) r

-- ---- each operation

-- the row of an operation, if it has one
abbrev pub top_mark : Op → Option Mark
top_mark (Ins p a l) = Some I
top_mark (Del a p) = Some D
top_mark (Copy q p) = top_of q p

-- the place that it wrote
abbrev pub top_place : Op → Path
top_place (Ins p a l) = child p.path a
top_place (Del a p) = child p.path a
top_place (Copy q p) = p.path

pub top_rows-is : (op : Op) → row_of (top_place op) (top_mark op) ≡ top_rows op
unfolding top_rows
top_rows-is (Ins p a l) = refl
top_rows-is (Del a p) = refl
top_rows-is (Copy q p) = elim (place_eq q p) as (λ b. row_of p.path (if b then None else Some (C q)) ≡ (if b then [] else (p.path, C q) ∷ [])) [ true ↦ refl | false ↦ refl ]

-- the reduced row of each place is the one of the place written
pub row-alone : (ss : List Source) (t : Tree) (op : Op) → IsTree t → refusal ss t op ≡ None → Closed (keyed.get (apply_op ss (open_tree t) op)) → (r : Path) → reduced_here t (apply_op ss (open_tree t) op) r ≡ look r (row_of (top_place op) (top_mark op))
unfolding apply_op
row-alone ss t (Ins p a l) h n cl r = row_ins t p a l h.rooted (ins_accepted ss t p a l n) cl r
row-alone ss t (Del a p) h n cl r = row_del t p a (del_accepted ss t p a n) r
row-alone ss t (Copy q p) h n cl r = let x = copy_accepted ss t q p n in row_copied ss t x.tree q p (in_target q) refl x.is_tree x.target x.origin cl r

-- after an operation that isn't refused what is there has its parent there
pub closed-alone : (ss : List Source) (t : Tree) (op : Op) → AreTrees ss → IsTree t → IsWritten op → refusal ss t op ≡ None → Closed (keyed.get (apply_op ss (open_tree t) op))
closed-alone ss t op k h i n = closed-working (apply_op ss (open_tree t) op) (subst IsRooted (sym (contents-alone ss t op)) (tree-changed ss t op h k i n).rooted)
