-- The full rows of a step of one operation.
use Rattle.std.specs.Prelude.{ℕ, ◌≡◌, Bool, true, false, cond, ◌&&◌, List, [], ◌∷◌, ◌++◌, is_some, if◌then◌else◌, refl}
use Rattle.std.proofs.Common.{sym, ap, subst, ◌∙◌, T, append_assoc}
use Rattle.std.proofs.lemmas.List.{append_cancel_right}
use Rattle.std.specs.declared.option.Option.{Option}
use Rattle.std.specs.declared.option.Option.TheVariants.{None, Some}
use Rattle.std.specs.Ordering.{is_lt}
use Rattle.std.specs.FinMap.Entries.{is_sorted, below_all}
use Rattle.cp_path.specs.declared.loc.Loc.{Loc}
use Rattle.cp_path.specs.Text.{text_eq}
use Rattle.cp_model.specs.declared.row.Content.{Content}
use Rattle.cp_model.specs.declared.literal.Literal.{Literal}
use Rattle.cp_model.specs.declared.op.Op.{Op}
use Rattle.cp_model.specs.declared.op.Op.TheVariants.{Ins, Del, Copy}
use Rattle.cp_model.specs.Place.{Label, Path, path_cmp, path_eq, place_eq, target, at_target, in_target, child, below_place, strip, label_eq, option_map, or_else, nearest, with_rest}
use Rattle.cp_path.proofs.Same.{path_eq-same, text_eq-same, place_eq-refl, place_eq-same}
use Rattle.cp_path.specs.PathOrder.{path_eq_equiv}
use Rattle.cp_model.specs.Keyed as keyed
use Rattle.cp_model.specs.Keyed.{look}
use Rattle.cp_model.specs.Subtrees.{is_there, below, entries_under, without, with_subtree, with_values}
use Rattle.cp_model.specs.Literals.{literal_rows}
use Rattle.cp_model.specs.Tree.{Tree, Source, source, database, subtree_at, IsTree, IsRooted, refusal}
use Rattle.cp_model.specs.declared.origin.Origin.TheVariants.{New as new, Was as was}
use Rattle.cp_model.specs.declared.record.RowMark.{RowMark as Mark}
use Rattle.cp_model.specs.declared.record.RowMark.TheVariants.{Made as I, Copied as C, Gone as D}
use Rattle.cp_model.specs.Step.{Worked, Working, open_tree, as_new, from_source, entries_to_copy, apply_op}
use Rattle.cp_model.specs.declared.effect.Effect.{Effect}
use Rattle.cp_model.specs.declared.effect.Effect.TheVariants.{Same as same, From as from}
use Rattle.cp_model.specs.Rows.{effect, effect_at, full_mark, is_same, nearest_is_same, same_above, lost_below_same, full_here}
use Rattle.cp_model.specs.History.{IsWritten}
use Rattle.cp_model.proofs.Strips.{strip_is, strip-append, append-nil, nearest-below}
use Rattle.cp_model.specs.Laws.{at_rest_or}
use Rattle.cp_model.proofs.Lookups.{find-moved, find-below, find-with_values, get-without, get-replaced, get-mapped}
use Rattle.cp_model.proofs.Sorted.{path_cmp-append, parts_of, all_of, sorted-below}
use Rattle.cp_model.proofs.Accepted.{InsAccepted, ins_accepted, DelAccepted, del_accepted, copy_accepted}
use Rattle.cp_tree.proofs.Leaves.{nothing-below}
use Rattle.cp_operation.specs.RowsAlone.{marks_below, op_rows}

-- ---- rows that rise

module _ {X : Type 0} where
  below_behind : (p : Path) (f : Path → Mark) (k : Path) (es : List (Path × X)) → T (below_all path_cmp k es) → T (below_all path_cmp (p ++ k) (marks_below p f es))
  below_behind p f k [] h = tt
  below_behind p f k (e ∷ es) h =
      let parts = parts_of (is_lt (path_cmp k e.0)) (below_all path_cmp k es) h in
      all_of (is_lt (path_cmp (p ++ k) (p ++ e.0))) (below_all path_cmp (p ++ k) (marks_below p f es)) (subst (λ o. T (is_lt o)) (sym (path_cmp-append p k e.0)) parts.0) (below_behind p f k es parts.1)

  -- entries that rise, rise behind p
  pub sorted-behind : (p : Path) (f : Path → Mark) (es : List (Path × X)) → T (is_sorted path_cmp es) → T (is_sorted path_cmp (marks_below p f es))
  sorted-behind p f [] h = tt
  sorted-behind p f (e ∷ es) h =
      let parts = parts_of (below_all path_cmp e.0 es) (is_sorted path_cmp es) h in
      all_of (below_all path_cmp (p ++ e.0) (marks_below p f es)) (is_sorted path_cmp (marks_below p f es)) (below_behind p f e.0 es parts.0) (sorted-behind p f es parts.1)

  behind_moved : (p : Path) (f : Path → Mark) (es : List (Path × X)) → marks_below p f es ≡ entries_under p (with_values (λ s _. f s) es)
  unfolding entries_under
  behind_moved p f [] = refl
  behind_moved p f (e ∷ es) = ap (λ rs. (p ++ e.0, f e.0) ∷ rs) (behind_moved p f es)

  -- rows behind p answer by what follows p
  pub find-behind : (p : Path) (f : Path → Mark) (r : Path) (es : List (Path × X)) → look r (marks_below p f es) ≡ at_rest_or (strip p r) (λ s. option_map (λ _. f s) (look s es)) None
  find-behind p f r es =
      ap (look r) (behind_moved p f es) ∙ find-moved p r (with_values (λ s _. f s) es)
      ∙ elim (strip p r) as (λ o. at_rest_or o (λ s. look s (with_values (λ s _. f s) es)) None ≡ at_rest_or o (λ s. option_map (λ _. f s) (look s es)) None) [
        | None ↦ refl
        | Some s ↦ find-with_values (λ s _. f s) s es
      ]

-- ---- what one operation does to a place

-- the mark of a place with this effect
abbrev mark_at : Tree → Working → Path → Option Effect → Option Mark
mark_at t w r o = elim o [ Some e ↦ full_mark e | None ↦ if lost_below_same t w r then Some D else None ]

-- a place that carries itself
abbrev pub itself : Path → Content → Worked
itself r c = record { content = c; origin = was (at_target r) }

here_by : (t : Tree) (w : Working) (r : Path) (o : Option Worked) → keyed.get w r ≡ o → full_here t w r ≡ mark_at t w r (option_map (λ x. effect r x.origin) o)
unfolding full_here
here_by t w r o e = ap (λ o. mark_at t w r (option_map (λ x. effect r x.origin) o)) e

pub effect_itself : (r : Path) → effect r (was (at_target r)) ≡ same
effect_itself r = ap (λ b. if b then same else from (at_target r)) (place_eq-refl (at_target r))

-- a place that is as it was at the start of the step has no row
untouched : (t : Tree) (w : Working) (r : Path) → keyed.get w r ≡ keyed.get (open_tree t) r → full_here t w r ≡ None
untouched t w r e =
    here_by t w r (option_map (itself r) (keyed.get t r)) (e ∙ get-mapped itself t r)
    ∙ elim (keyed.get t r) as (λ o. keyed.get t r ≡ o → mark_at t w r (option_map (λ x. effect r x.origin) (option_map (itself r) o)) ≡ None) [
      | Some c ↦ λ _. ap full_mark (effect_itself r)
      | None ↦ λ n. ap (λ o. if is_some o && same_above w r then Some D else None) n
    ] refl

-- a place that isn't there before and after a step has no row
absent : (t : Tree) (w : Working) (r : Path) → keyed.get w r ≡ None → keyed.get t r ≡ None → full_here t w r ≡ None
absent t w r e n = here_by t w r None e ∙ ap (λ o. if is_some o && same_above w r then Some D else None) n

-- a path doesn't go on to what is below it
pub strip-child : (p : Path) (a : Label) → strip (child p a) p ≡ None
strip-child [] a = refl
strip-child (b ∷ p) a = ap (λ o. cond (label_eq b b) o None) (strip-child p a) ∙ elim (label_eq b b) as (λ c. cond {A = Option Path} c None None ≡ None) [ true ↦ refl | false ↦ refl ]

-- where nothing stands, nothing is nearest
nearest-none : {X : Type 0} (f : Path → Option X) (s : Path) → ((r : Path) → f r ≡ None) → nearest f s ≡ None
nearest-none f [] n = ap (λ o. with_rest o []) (n [])
nearest-none f (a ∷ s) n = ap (λ o. or_else o (with_rest (f []) (a ∷ s))) (nearest-none (λ r. f (a ∷ r)) s (λ r. n (a ∷ r))) ∙ ap (λ o. with_rest o (a ∷ s)) (n [])

-- an effect that is there and the same
abbrev is_kept : Option Effect → Bool
is_kept None = false
is_kept (Some e) = is_same e

-- where nothing is the same, what is nearest isn't
nearest-changed : (f : Path → Option Effect) (s : Path) → ((r : Path) → is_kept (f r) ≡ false) → nearest_is_same (nearest f s) ≡ false
nearest-changed f [] n = ends (f []) [] (n [])
  where
    ends : (o : Option Effect) (s : Path) → is_kept o ≡ false → nearest_is_same (with_rest o s) ≡ false
    ends None s h = refl
    ends (Some e) s h = h
nearest-changed f (a ∷ s) n = more (nearest (λ r. f (a ∷ r)) s) (f []) (nearest-changed (λ r. f (a ∷ r)) s (λ r. n (a ∷ r))) (n [])
  where
    more : (o : Option (Effect × Path)) (e : Option Effect) → nearest_is_same o ≡ false → is_kept e ≡ false → nearest_is_same (or_else o (with_rest e (a ∷ s))) ≡ false
    more (Some y) e h k = h
    more None None h k = refl
    more None (Some e) h k = k

-- behind both the same follows
same-suffix : (a b s : Path) → path_eq (a ++ s) (b ++ s) ≡ path_eq a b
same-suffix a b s =
    elim (path_eq a b) as (λ c. path_eq a b ≡ c → path_eq (a ++ s) (b ++ s) ≡ c) [
      | true ↦ λ e. ap (λ k. path_eq (a ++ s) (k ++ s)) (sym (path_eq-same a b e)) ∙ path_eq_equiv.refl (a ++ s)
      | false ↦ λ e. elim (path_eq (a ++ s) (b ++ s)) as (λ d. path_eq (a ++ s) (b ++ s) ≡ d → d ≡ false) [
        | false ↦ λ _. refl
        | true ↦ λ h. sym (path_eq_equiv.refl a) ∙ ap (path_eq a) (append_cancel_right a b s (path_eq-same (a ++ s) (b ++ s) h)) ∙ e
      ] refl
    ] refl

-- what the entries put in place of a subtree leave at a place
pub put_at : (k r : Path) (es : List (Path × Worked)) (w : Working) (o : Option Path) → strip k r ≡ o → keyed.get (with_subtree k es w) r ≡ at_rest_or o (λ s. look s es) (keyed.get w r)
put_at k r es w o e = get-replaced k es w r ∙ ap (λ o. at_rest_or o (λ s. look s es) (keyed.get w r)) e

-- the mark of what stands this far below a place after a copy onto it
abbrev mark_copy : Loc → Loc → Path → Option Content → Option Mark
mark_copy q p s o = if place_eq q p then None else option_map (λ _. C (below_place q s)) o

module _ (t : Tree) (p : Loc) (a : Label) (l : Literal) (h : IsRooted t) (x : InsAccepted t p a l) where
  abbrev after_ins : Working
  after_ins = with_subtree (child p.path a) (as_new (literal_rows l)) (open_tree t)

  inserted : (r s : Path) → strip (child p.path a) r ≡ Some s → (o : Option Content) → look s (literal_rows l) ≡ o → full_here t after_ins r ≡ option_map (λ _. I) o
  inserted r s k (Some c) e =
      here_by t after_ins r (Some (record { content = c; origin = new }))
      (put_at (child p.path a) r (as_new (literal_rows l)) (open_tree t) (Some s) k ∙ find-with_values (λ _ c. record { content = c; origin = new }) s (literal_rows l) ∙ ap (option_map (λ c. record { content = c; origin = new })) e)
  inserted r s k None e =
      absent t after_ins r
      (put_at (child p.path a) r (as_new (literal_rows l)) (open_tree t) (Some s) k ∙ find-with_values (λ _ c. record { content = c; origin = new }) s (literal_rows l) ∙ ap (option_map (λ c. record { content = c; origin = new })) e)
      (ap (keyed.get t) (strip_is (child p.path a) r s k) ∙ nothing-below t (child p.path a) s h x.free)

  here_ins : (r : Path) → full_here t after_ins r ≡ at_rest_or (strip (child p.path a) r) (λ s. option_map (λ _. I) (look s (literal_rows l))) None
  here_ins r =
      elim (strip (child p.path a) r) as (λ o. strip (child p.path a) r ≡ o → full_here t after_ins r ≡ at_rest_or o (λ s. option_map (λ _. I) (look s (literal_rows l))) None) [
        | None ↦ λ k. untouched t after_ins r (put_at (child p.path a) r (as_new (literal_rows l)) (open_tree t) None k)
        | Some s ↦ λ k. inserted r s k (look s (literal_rows l)) refl
      ] refl

module _ (t : Tree) (p : Loc) (a : Label) (x : DelAccepted t p a) where
  abbrev after_del : Working
  after_del = without (child p.path a) (open_tree t)

  pub dropped : (r : Path) (o : Option Path) → strip (child p.path a) r ≡ o → keyed.get after_del r ≡ at_rest_or o (λ _. None) (keyed.get (open_tree t) r)
  dropped r o e = get-without (child p.path a) (open_tree t) r ∙ ap (λ o. at_rest_or o (λ _. None) (keyed.get (open_tree t) r)) e

  left : effect_at after_del p.path ≡ Some same
  left =
      ap (option_map (λ (x : Worked). effect p.path x.origin)) (dropped p.path None (strip-child p.path a) ∙ get-mapped itself t p.path ∙ ap (option_map (itself p.path)) x.node)
      ∙ ap (λ e. Some e) (effect_itself p.path)

  nothing : (s : Path) → effect_at after_del (p.path ++ a ∷ s) ≡ None
  nothing s =
      ap (effect_at after_del) (sym (append_assoc p.path (a ∷ []) s))
      ∙ ap (option_map (λ (x : Worked). effect (child p.path a ++ s) x.origin)) (dropped (child p.path a ++ s) (Some s) (strip-append (child p.path a) s))

  -- what is left above a deleted place is the same
  pub above_del : (s : Path) → same_above after_del (child p.path a ++ s) ≡ true
  above_del s =
      ap nearest_is_same (
      ap (nearest (effect_at after_del)) (append_assoc p.path (a ∷ []) s)
      ∙ nearest-below (effect_at after_del) p.path (a ∷ s) same left
      ∙ ap (λ o. or_else o (with_rest (effect_at after_del (p.path ++ [])) (a ∷ s))) (nearest-none (λ r. effect_at after_del (p.path ++ a ∷ r)) s nothing)
      ∙ ap (λ o. with_rest o (a ∷ s)) (ap (effect_at after_del) (append-nil p.path) ∙ left)
      )

  deleted : (r s : Path) → strip (child p.path a) r ≡ Some s → full_here t after_del r ≡ option_map (λ _. D) (look s (below (child p.path a) t))
  deleted r s k =
      here_by t after_del r None (dropped r (Some s) k)
      ∙ ap (λ q. mark_at t after_del q None) (strip_is (child p.path a) r s k)
      ∙ ap (λ b. if is_there t (child p.path a ++ s) && b then Some D else None) (above_del s)
      ∙ gone_or (keyed.get t (child p.path a ++ s))
      ∙ ap (option_map (λ _. D)) (sym (find-below (child p.path a) s t))
    where
      gone_or : (o : Option Content) → (if is_some o && true then Some D else None) ≡ option_map (λ _. D) o
      gone_or None = refl
      gone_or (Some c) = refl

  here_del : (r : Path) → full_here t after_del r ≡ at_rest_or (strip (child p.path a) r) (λ s. option_map (λ _. D) (look s (below (child p.path a) t))) None
  here_del r =
      elim (strip (child p.path a) r) as (λ o. strip (child p.path a) r ≡ o → full_here t after_del r ≡ at_rest_or o (λ s. option_map (λ _. D) (look s (below (child p.path a) t))) None) [
        | None ↦ λ k. untouched t after_del r (dropped r None k)
        | Some s ↦ λ k. deleted r s k
      ] refl

-- what is copied from q carries its place there
abbrev pub copied_from : Loc → Path → Content → Worked
copied_from q s c = record { content = c; origin = was (below_place q s) }

module _ (t : Tree) (q p : Loc) (es : List (Path × Content)) (ws : List (Path × Worked)) (carries : (s : Path) → look s ws ≡ option_map (copied_from q s) (look s es)) (root : is_some (look [] es) ≡ true)
    (moves : (s : Path) → effect (p.path ++ s) (was (below_place q s)) ≡ (if place_eq q p then same else from (below_place q s))) (stays : place_eq q p ≡ true → (s : Path) → keyed.get t (p.path ++ s) ≡ look s es) where
  abbrev after_copy : Working
  after_copy = with_subtree p.path ws (open_tree t)

  pub at_copy : (r s : Path) → strip p.path r ≡ Some s → keyed.get after_copy r ≡ option_map (copied_from q s) (look s es)
  at_copy r s k = put_at p.path r ws (open_tree t) (Some s) k ∙ carries s

  pub effect_copy : (s : Path) → effect_at after_copy (p.path ++ s) ≡ option_map (λ _. if place_eq q p then same else from (below_place q s)) (look s es)
  effect_copy s =
      ap (option_map (λ (x : Worked). effect (p.path ++ s) x.origin)) (at_copy (p.path ++ s) s (strip-append p.path s))
      ∙ elim (look s es) as (λ o. option_map (λ (x : Worked). effect (p.path ++ s) x.origin) (option_map (copied_from q s) o) ≡ option_map (λ _. if place_eq q p then same else from (below_place q s)) o) [
        | None ↦ refl
        | Some c ↦ ap (λ e. Some e) (moves s)
      ]

  root_copy : place_eq q p ≡ false → effect_at after_copy p.path ≡ Some (from (below_place q []))
  root_copy n =
      ap (effect_at after_copy) (sym (append-nil p.path)) ∙ effect_copy []
      ∙ elim (look [] es) as (λ o. is_some o ≡ true → option_map (λ _. if place_eq q p then same else from (below_place q [])) o ≡ Some (from (below_place q []))) [
        | None ↦ λ e. absurd (cc)
        | Some c ↦ λ _. ap (λ b. Some (if b then same else from (below_place q []))) n
      ] root

  -- what is left above a place that a copy replaces isn't the same
  pub above_copy : (s : Path) → place_eq q p ≡ false → same_above after_copy (p.path ++ s) ≡ false
  above_copy s n =
      ap nearest_is_same (nearest-below (effect_at after_copy) p.path s (from (below_place q [])) (root_copy n))
      ∙ nearest-changed (λ r. effect_at after_copy (p.path ++ r)) s (λ r. ap is_kept (effect_copy r ∙ ap (λ b. option_map (λ _. if b then same else from (below_place q r)) (look r es)) n) ∙ changed_at r (look r es))
    where
      changed_at : (r : Path) (o : Option Content) → is_kept (option_map (λ _. from (below_place q r)) o) ≡ false
      changed_at r None = refl
      changed_at r (Some c) = refl

  copied : (s : Path) (o : Option Content) → look s es ≡ o → full_here t after_copy (p.path ++ s) ≡ mark_copy q p s o
  copied s (Some c) e =
      here_by t after_copy (p.path ++ s) (Some (copied_from q s c)) (at_copy (p.path ++ s) s (strip-append p.path s) ∙ ap (option_map (copied_from q s)) e)
      ∙ ap full_mark (moves s)
      ∙ elim (place_eq q p) as (λ b. full_mark (if b then same else from (below_place q s)) ≡ (if b then None else Some (C (below_place q s)))) [ true ↦ refl | false ↦ refl ]
  copied s None e =
      here_by t after_copy (p.path ++ s) None (at_copy (p.path ++ s) s (strip-append p.path s) ∙ ap (option_map (copied_from q s)) e)
      ∙ elim (place_eq q p) as (λ b. place_eq q p ≡ b → mark_at t after_copy (p.path ++ s) None ≡ (if b then None else None)) [
        | true ↦ λ b. ap (λ o. if is_some o && same_above after_copy (p.path ++ s) then Some D else None) (stays b s ∙ e)
        | false ↦ λ b. ap (λ c. if is_there t (p.path ++ s) && c then Some D else None) (above_copy s b) ∙ never (is_there t (p.path ++ s))
      ] refl
    where
      never : (b : Bool) → (if b && false then Some D else None) ≡ None
      never true = refl
      never false = refl

  here_copy : (r : Path) → full_here t after_copy r ≡ at_rest_or (strip p.path r) (λ s. mark_copy q p s (look s es)) None
  here_copy r =
      elim (strip p.path r) as (λ o. strip p.path r ≡ o → full_here t after_copy r ≡ at_rest_or o (λ s. mark_copy q p s (look s es)) None) [
        | None ↦ λ k. untouched t after_copy r (put_at p.path r ws (open_tree t) None k)
        | Some s ↦ λ k. ap (full_here t after_copy) (strip_is p.path r s k) ∙ copied s (look s es) refl
      ] refl

-- the subtree at a place that is there has a root
pub root-below : (t : Tree) (q : Path) → is_there t q ≡ true → is_some (look [] (below q t)) ≡ true
root-below t q h = ap is_some (find-below q [] t) ∙ ap (is_there t) (append-nil q) ∙ h

-- a copy inside the tree
module _ (t : Tree) (q p : Loc) (i : in_target q ≡ true) (j : in_target p ≡ true) (origin : is_there t q.path ≡ true) where
  place : (s : Path) → at_target (q.path ++ s) ≡ below_place q s
  place s = ap (λ (d : List ℕ). record { db = d; path = q.path ++ s }) (sym (text_eq-same q.db target i))

  same_place : (s : Path) → path_eq (q.path ++ s) (p.path ++ s) ≡ place_eq q p
  same_place s =
      same-suffix q.path p.path s
      ∙ ap (λ d. text_eq d target && path_eq q.path p.path) (sym (text_eq-same q.db target i))
      ∙ ap (λ d. text_eq q.db d && path_eq q.path p.path) (sym (text_eq-same p.db target j))

  pub moves_inside : (s : Path) → effect (p.path ++ s) (was (below_place q s)) ≡ (if place_eq q p then same else from (below_place q s))
  moves_inside s =
      ap (λ r. effect (p.path ++ s) (was r)) (sym (place s))
      ∙ ap (λ b. if b then same else from (at_target (q.path ++ s))) (same_place s)
      ∙ ap (λ r. if place_eq q p then same else from r) (place s)

  pub carries_inside : (s : Path) → look s (below q.path (open_tree t)) ≡ option_map (copied_from q s) (look s (below q.path t))
  carries_inside s =
      find-below q.path s (open_tree t) ∙ get-mapped itself t (q.path ++ s)
      ∙ ap (λ r. option_map (λ (c : Content). record { content = c; origin = was r }) (keyed.get t (q.path ++ s))) (place s)
      ∙ ap (option_map (copied_from q s)) (sym (find-below q.path s t))

  pub stays_inside : place_eq q p ≡ true → (s : Path) → keyed.get t (p.path ++ s) ≡ look s (below q.path t)
  stays_inside b s = ap (λ (r : Loc). keyed.get t (r.path ++ s)) (sym (place_eq-same q p b)) ∙ sym (find-below q.path s t)

  here_inside : (r : Path) → full_here t (with_subtree p.path (below q.path (open_tree t)) (open_tree t)) r ≡ at_rest_or (strip p.path r) (λ s. mark_copy q p s (look s (below q.path t))) None
  here_inside = here_copy t q p (below q.path t) (below q.path (open_tree t)) carries_inside (root-below t q.path origin) moves_inside stays_inside

-- a copy from a source with the tree u
module _ (t u : Tree) (q p : Loc) (i : in_target q ≡ false) (j : in_target p ≡ true) (origin : is_there u q.path ≡ true) where
  pub other_place : place_eq q p ≡ false
  other_place = ap (λ d. text_eq q.db d && path_eq q.path p.path) (text_eq-same p.db target j) ∙ ap (λ b. b && path_eq q.path p.path) i

  pub moves_loaded : (s : Path) → effect (p.path ++ s) (was (below_place q s)) ≡ (if place_eq q p then same else from (below_place q s))
  moves_loaded s =
      ap (λ b. if b && path_eq (q.path ++ s) (p.path ++ s) then same else from (below_place q s)) i
      ∙ sym (ap (λ b. if b then same else from (below_place q s)) other_place)

  pub carries_loaded : (s : Path) → look s (from_source q (below q.path u)) ≡ option_map (copied_from q s) (look s (below q.path u))
  carries_loaded s = find-with_values (copied_from q) s (below q.path u)

  here_loaded : (r : Path) → full_here t (with_subtree p.path (from_source q (below q.path u)) (open_tree t)) r ≡ at_rest_or (strip p.path r) (λ s. mark_copy q p s (look s (below q.path u))) None
  here_loaded =
      here_copy t q p (below q.path u) (from_source q (below q.path u)) carries_loaded (root-below u q.path origin) moves_loaded
      (λ b. let n = other_place in absurd (cc))

-- what an operation that isn't refused copies onto a place, its rows say
here_copied : (ss : List Source) (t u : Tree) (q p : Loc) (b : Bool) → in_target q ≡ b → cond b (Some t) (source ss q.db) ≡ Some u → in_target p ≡ true → is_there u q.path ≡ true → (r : Path) →
    full_here t (with_subtree p.path (entries_to_copy ss (open_tree t) q b) (open_tree t)) r ≡ at_rest_or (strip p.path r) (λ s. mark_copy q p s (look s (subtree_at (cond b (Some t) (source ss q.db)) q.path))) None
here_copied ss t u q p true i e j o r = let k : t ≡ u = cc in here_inside t q p i j (ap (λ u. is_there u q.path) k ∙ o) r
here_copied ss t u q p false i e j o r =
    ap (λ o. full_here t (with_subtree p.path (from_source q (subtree_at o q.path)) (open_tree t)) r) e
    ∙ here_loaded t u q p i j o r
    ∙ sym (ap (λ o. at_rest_or (strip p.path r) (λ s. mark_copy q p s (look s (subtree_at o q.path))) None) e)

find_copy : (ss : List Source) (t : Tree) (q p : Loc) (r : Path) → look r (op_rows ss t (Copy q p)) ≡ at_rest_or (strip p.path r) (λ s. mark_copy q p s (look s (subtree_at (database ss t q) q.path))) None
unfolding op_rows
find_copy ss t q p r = by (subtree_at (database ss t q) q.path)
  where
    by : (es : List (Path × Content)) → look r (if place_eq q p then [] else marks_below p.path (λ s. C (below_place q s)) es) ≡ at_rest_or (strip p.path r) (λ s. mark_copy q p s (look s es)) None
    by es =
        elim (place_eq q p) as (λ b. look r (if b then [] else marks_below p.path (λ s. C (below_place q s)) es) ≡ at_rest_or (strip p.path r) (λ s. if b then None else option_map (λ _. C (below_place q s)) (look s es)) None) [
          | true ↦ elim (strip p.path r) as (λ o. ◌≡◌ {A = Option Mark} None (at_rest_or o (λ _. None) None)) [ None ↦ refl | Some s ↦ refl ]
          | false ↦ find-behind p.path (λ s. C (below_place q s)) r es
        ]

-- what is taken of a tree rises
sorted-taken : (o : Option Tree) (q : Path) → T (is_sorted path_cmp (subtree_at o q))
sorted-taken None q = tt
sorted-taken (Some t) q = sorted-below q t

-- the rows of one operation rise
pub sorted-op_rows : (ss : List Source) (t : Tree) (op : Op) → IsWritten op → T (is_sorted path_cmp (op_rows ss t op))
unfolding op_rows
sorted-op_rows ss t (Ins p a l) h = sorted-behind (child p.path a) (λ _. I) (literal_rows l) h.1.sorted
sorted-op_rows ss t (Del a p) h = sorted-behind (child p.path a) (λ _. D) (below (child p.path a) t) (sorted-below (child p.path a) t)
sorted-op_rows ss t (Copy q p) h =
    elim (place_eq q p) as (λ b. T (is_sorted path_cmp (if b then [] else marks_below p.path (λ s. C (below_place q s)) (subtree_at (database ss t q) q.path)))) [
      | true ↦ tt
      | false ↦ sorted-behind p.path (λ s. C (below_place q s)) (subtree_at (database ss t q) q.path) (sorted-taken (database ss t q) q.path)
    ]

-- what one operation that isn't refused does to a place, its rows say
pub here-alone : (ss : List Source) (t : Tree) (op : Op) → IsTree t → refusal ss t op ≡ None → (r : Path) → full_here t (apply_op ss (open_tree t) op) r ≡ look r (op_rows ss t op)
unfolding apply_op op_rows
here-alone ss t (Ins p a l) h n r = here_ins t p a l h.rooted (ins_accepted ss t p a l n) r ∙ sym (find-behind (child p.path a) (λ _. I) r (literal_rows l))
here-alone ss t (Del a p) h n r = here_del t p a (del_accepted ss t p a n) r ∙ sym (find-behind (child p.path a) (λ _. D) r (below (child p.path a) t))
here-alone ss t (Copy q p) h n r =
    let x = copy_accepted ss t q p n in
    here_copied ss t x.tree q p (in_target q) refl x.is_tree x.target x.origin r
    ∙ sym (find_copy ss t q p r)
