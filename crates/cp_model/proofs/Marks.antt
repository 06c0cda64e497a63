-- The rows of a step by place.
use Rattle.std.specs.Prelude.{◌≡◌, Bool, true, false, cond, ◌&&◌, ◌||◌, List, [], ◌∷◌, refl, is_some, if◌then◌else◌}
use Rattle.std.proofs.Common.{sym, ap, ◌∙◌}
use Rattle.std.specs.declared.option.Option.{Option}
use Rattle.std.specs.declared.option.Option.TheVariants.{None, Some}
use Rattle.std.specs.List.{cons_option, list_any}
use Rattle.cp_model.specs.Place.{Path, path_eq, or_else, option_map, parent}
use Rattle.cp_path.proofs.Same.{path_eq-same}
use Rattle.cp_model.proofs.KeyedLemmas.{get-put_all, get-entries, is_some-look}
use Rattle.cp_model.specs.Keyed as keyed
use Rattle.cp_model.specs.Keyed.{look, Keyed}
use Rattle.cp_model.specs.Subtrees.{is_there, map_values, with_values}
use Rattle.cp_model.specs.Tree.{Tree}
use Rattle.cp_model.specs.Step.{Worked, Working}
use Rattle.cp_model.specs.Rows.{Mark, D, effect, full_mark, reduced_mark, effect_eq, effect_given, same_above, lost_below_same, full_here, reduced_here, parent_there, rows_with_marks, all_paths, full_rows, reduced_rows}
use Rattle.cp_model.proofs.Lookups.{find-with_values, get-mapped}

-- the row at p, if p is among the paths
pub find-marked : (f : Path → Option Mark) (p : Path) (qs : List Path) → look p (rows_with_marks f qs) ≡ cond (list_any (path_eq p) qs) (f p) None
find-marked f p [] = refl
find-marked f p (q ∷ qs) =
    let rest = find-marked f p qs in
    elim (path_eq p q) as (λ b. path_eq p q ≡ b → look p (rows_with_marks f (q ∷ qs)) ≡ cond (b || list_any (path_eq p) qs) (f p) None) [
      | true ↦ λ b. found f p q qs rest b (path_eq-same p q b)
      | false ↦ λ b. passed f p q qs b ∙ rest
    ] refl
  where
    none_of : (b : Bool) (o : Option Mark) → o ≡ None → cond b o None ≡ None
    none_of true o e = e
    none_of false o e = refl

    found : (f : Path → Option Mark) (p q : Path) (qs : List Path) → look p (rows_with_marks f qs) ≡ cond (list_any (path_eq p) qs) (f p) None → path_eq p q ≡ true → p ≡ q → look p (rows_with_marks f (q ∷ qs)) ≡ f p
    found f p q qs rest b keys =
        elim (f q) as (λ o. f q ≡ o → look p (cons_option (option_map (λ m. (q, m)) o) (rows_with_marks f qs)) ≡ f p) [
          | None ↦ λ e. rest ∙ none_of _ (f p) (ap f keys ∙ e) ∙ sym (ap f keys ∙ e)
          | Some m ↦ λ e. ap (λ c. cond c (Some m) (look p (rows_with_marks f qs))) b ∙ sym (ap f keys ∙ e)
        ] refl

    passed : (f : Path → Option Mark) (p q : Path) (qs : List Path) → path_eq p q ≡ false → look p (rows_with_marks f (q ∷ qs)) ≡ look p (rows_with_marks f qs)
    passed f p q qs b =
        elim (f q) as (λ o. look p (cons_option (option_map (λ m. (q, m)) o) (rows_with_marks f qs)) ≡ look p (rows_with_marks f qs)) [
          | None ↦ refl
          | Some m ↦ ap (λ c. cond c (Some m) (look p (rows_with_marks f qs))) b
        ]

some_or : {X : Type 0} (o p : Option X) → is_some (or_else o p) ≡ (is_some o || is_some p)
some_or None p = refl
some_or (Some x) p = refl

some_mapped : {X Y : Type 0} (f : X → Y) (o : Option X) → is_some (option_map f o) ≡ is_some o
some_mapped f None = refl
some_mapped f (Some x) = refl

-- every place of either tree is among the paths
pub among-all_paths : (a : Tree) (w : Working) (p : Path) → list_any (path_eq p) (all_paths a w) ≡ (is_there w p || is_there a p)
unfolding all_paths
among-all_paths a w p =
    let m : Keyed Bool = keyed.put_all (with_values (λ _ _. true) (keyed.entries w)) (map_values (λ _ _. true) a) in
    sym (is_some-look p (keyed.entries m))
    ∙ ap is_some (sym (get-entries m p) ∙ get-put_all _ _ p)
    ∙ some_or _ _
    ∙ ap (λ o. is_some o || is_some (keyed.get (map_values (λ _ _. true) a) p)) (find-with_values (λ _ _. true) p (keyed.entries w))
    ∙ ap (λ o. is_some (option_map (λ _. true) o) || is_some (keyed.get (map_values (λ _ _. true) a) p)) (sym (get-entries w p))
    ∙ ap (λ b. b || is_some (keyed.get (map_values (λ _ _. true) a) p)) (some_mapped (λ _. true) (keyed.get w p))
    ∙ ap (λ o. is_there w p || is_some o) (get-mapped (λ _ _. true) a p)
    ∙ ap (λ b. is_there w p || b) (some_mapped (λ _. true) (keyed.get a p))

-- the full rows have at each place the mark that is wanted there
pub find-full_rows : (a : Tree) (w : Working) (p : Path) → look p (full_rows a w) ≡ full_here a w p
unfolding full_here
find-full_rows a w p =
    find-marked (full_here a w) p (all_paths a w) ∙ ap (λ b. cond b (full_here a w p) None) (among-all_paths a w p)
    ∙ elim (keyed.get w p) as (λ o. cond (is_some o || is_there a p) (elim (option_map (λ x. effect p x.origin) o) [ Some e ↦ full_mark e | None ↦ if lost_below_same a w p then Some D else None ]) None ≡ elim (option_map (λ x. effect p x.origin) o) [ Some e ↦ full_mark e | None ↦ if lost_below_same a w p then Some D else None ]) [
      | Some x ↦ refl
      | None ↦ elim (is_there a p) as (λ b. cond b (if b && same_above w p then Some D else None) None ≡ (if b && same_above w p then Some D else None)) [ true ↦ refl | false ↦ refl ]
    ]

-- the reduced rows have at each place the mark that is wanted there
pub find-reduced_rows : (a : Tree) (w : Working) (p : Path) → look p (reduced_rows a w) ≡ reduced_here a w p
unfolding reduced_here
find-reduced_rows a w p =
    find-marked (reduced_here a w) p (all_paths a w) ∙ ap (λ b. cond b (reduced_here a w p) None) (among-all_paths a w p)
    ∙ elim (keyed.get w p) as (λ o. cond (is_some o || is_there a p) (wanted o) None ≡ wanted o) [
      | Some x ↦ refl
      | None ↦ elim (is_there a p) as (λ b. cond b (if b && same_above w p && parent_there w (parent p) then Some D else None) None ≡ (if b && same_above w p && parent_there w (parent p) then Some D else None)) [ true ↦ refl | false ↦ refl ]
    ]
  where
    wanted : Option Worked → Option Mark
    wanted o =
        elim (option_map (λ x. effect p x.origin) o) [
          | Some e ↦ if effect_eq e (effect_given w p) then None else Some (reduced_mark e)
          | None ↦ if lost_below_same a w p && parent_there w (parent p) then Some D else None
        ]
