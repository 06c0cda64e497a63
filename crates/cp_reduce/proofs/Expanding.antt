-- The rows that reduced records tell are the full rows of their step.
use Rattle.std.specs.Prelude.{ℕ, ◌≡◌, Bool, true, false, cond, ◌&&◌, ◌||◌, List, [], ◌∷◌, ◌++◌, is_some, if◌then◌else◌, refl}
use Rattle.std.proofs.Common.{sym, ap, subst, ◌∙◌, T, append_assoc}
use Rattle.std.specs.List.{cons_option, list_any, slice_get}
use Rattle.std.specs.List.Sorted.{IsStrictlySortedBy}
use Rattle.std.specs.Map.{keys_of}
use Rattle.std.specs.FinMap.Entries.{is_sorted}
use Rattle.std.specs.declared.option.Option.{Option}
use Rattle.std.specs.declared.option.Option.TheVariants.{None, Some}
use Rattle.cp_path.proofs.Same.{path_eq-same}
use Rattle.cp_model.specs.declared.record.Record.{Record}
use Rattle.cp_model.specs.declared.record.RowMark.{RowMark as Mark}
use Rattle.cp_model.specs.declared.record.RowMark.TheVariants.{Made as I, Copied as C, Gone as D, Kept as K}
use Rattle.cp_model.specs.declared.effect.Effect.{Effect}
use Rattle.cp_model.specs.declared.effect.Effect.TheVariants.{Same as same, New as made, From as from}
use Rattle.cp_model.specs.Place.{Path, Label, path_cmp, path_eq, option_map, or_else, with_rest, nearest, parent}
use Rattle.cp_model.specs.Keyed as keyed
use Rattle.cp_model.specs.Keyed.{look}
use Rattle.cp_model.specs.Subtrees.{is_there}
use Rattle.cp_model.specs.Tree.{Tree, IsTree}
use Rattle.cp_model.specs.Step.{Worked, Working, contents}
use Rattle.cp_model.specs.Rows.{effect, effect_at, effect_eq, effect_given, full_mark, reduced_mark, nearest_is_same, same_above, lost_below_same, full_here, reduced_here, parent_there, rows_with_marks, all_paths, full_rows, reduced_rows, read_nearest, read_reduced}
use Rattle.cp_model.specs.History.{record_of, with_tid}
use Rattle.cp_model.specs.Records.{is_D}
use Rattle.cp_model.proofs.Contents.{there-contents}
use Rattle.cp_model.proofs.Kept.{closed-tree}
use Rattle.cp_model.proofs.Lookups.{or_none}
use Rattle.cp_model.proofs.Marks.{find-full_rows, find-reduced_rows}
use Rattle.cp_model.proofs.Passing.{and_true, and_both, or_true}
use Rattle.cp_model.proofs.Reading.{IsWorking, read-reduced_rows}
use Rattle.cp_model.proofs.Strips.{append-nil, path_ind, nearest-snoc, further, parent-snoc}
use Rattle.cp_overlay.specs.Net.{is_within, noted}
use Rattle.cp_overlay.proofs.Marking.{sorted-keys, sorted-full_rows, sorted-reduced_rows, same_rows}
use Rattle.cp_overlay.proofs.Noting.{none-below, within-there, within-is_there, within-rest}
use Rattle.cp_reduce.specs.Told.{RiseByPlace, mark_in, marks_in, mark_left, mark_told, any_gone}

-- ---- records as rows

row-of : (n : ℕ) (p : Path) (m : Mark) → ◌≡◌ {A = Path × Mark} ((record_of n p m).loc.path, mark_in (record_of n p m)) (p, m)
row-of n p I = refl
row-of n p (C q) = refl
row-of n p D = refl
row-of n p K = refl

-- the records of rows are these rows
pub marks-in : (n : ℕ) (es : List (Path × Mark)) → marks_in (with_tid n es) ≡ es
marks-in n [] = refl
marks-in n (e ∷ es) = ap (λ x. x ∷ marks_in (with_tid n es)) (row-of n e.0 e.1) ∙ ap (λ xs. e ∷ xs) (marks-in n es)

-- where there is no first record, there is none
pub none-first : (rs : List Record) → None ≡ slice_get rs 0 → rs ≡ []
none-first [] h = refl
none-first (x ∷ rs) h = absurd (cc)

-- the first record of rows has their Tid
pub first-tid : (n : ℕ) (rs : List Record) (x : Record) (es : List (Path × Mark)) → Some x ≡ slice_get rs 0 → rs ≡ with_tid n es → x.tid ≡ n
first-tid n [] x es h f = absurd (cc)
first-tid n (y ∷ rs) x [] h f = absurd (cc)
first-tid n (y ∷ rs) x (r ∷ es) h f = let s : y ≡ record_of n r.0 r.1 = cc in let t : x ≡ y = cc in ap (λ (z : Record). z.tid) (t ∙ s) ∙ its_tid r.1
  where
    its_tid : (m : Mark) → (record_of n r.0 m).tid ≡ n
    its_tid I = refl
    its_tid (C q) = refl
    its_tid D = refl
    its_tid K = refl

-- a test of the records is one of the rows
any_marks : (g : Path → Mark → Bool) (rs : List Record) → list_any (λ (x : Record). g x.loc.path (mark_in x)) rs ≡ list_any (λ e. g e.0 e.1) (marks_in rs)
any_marks g [] = refl
any_marks g (x ∷ rs) = ap (λ b. g x.loc.path (mark_in x) || b) (any_marks g rs)

-- where some row passes, there is a place with that row
marked_elim : (g : Path → Mark → Bool) (f : Path → Option Mark) (qs : List Path) → list_any (λ e. g e.0 e.1) (rows_with_marks f qs) ≡ true → (q : Path) × (m : Mark) × (f q ≡ Some m) × (g q m ≡ true)
marked_elim g f [] h = absurd (cc)
marked_elim g f (q ∷ qs) h =
    elim (f q) as (λ o. f q ≡ o → list_any (λ e. g e.0 e.1) (cons_option (option_map (λ m. (q, m)) o) (rows_with_marks f qs)) ≡ true → (q : Path) × (m : Mark) × (f q ≡ Some m) × (g q m ≡ true)) [
      | None ↦ λ _ h. marked_elim g f qs h
      | Some m ↦ λ e h. elim (g q m) as (λ b. g q m ≡ b → (b || list_any (λ e. g e.0 e.1) (rows_with_marks f qs)) ≡ true → (q : Path) × (m : Mark) × (f q ≡ Some m) × (g q m ≡ true)) [
        | true ↦ λ k _. (q, m, e, k)
        | false ↦ λ _ h. marked_elim g f qs h
      ] refl h
    ] refl h

-- a row that is found and passes is among those that do
any_found : (g : Path → Mark → Bool) (es : List (Path × Mark)) (q : Path) (m : Mark) → look q es ≡ Some m → g q m ≡ true → list_any (λ e. g e.0 e.1) es ≡ true
any_found g [] q m h k = absurd (cc)
any_found g (e ∷ es) q m h k =
    elim (path_eq q e.0) as (λ b. path_eq q e.0 ≡ b → cond b (Some e.1) (look q es) ≡ Some m → (g e.0 e.1 || list_any (λ e. g e.0 e.1) es) ≡ true) [
      | true ↦ λ t h.
          let v : e.1 ≡ m = cc in
          ap (λ b. b || list_any (λ e. g e.0 e.1) es) (ap (g e.0) v ∙ ap (λ p. g p m) (sym (path_eq-same q e.0 t)) ∙ k)
      | false ↦ λ _ h. or_true (g e.0 e.1) (list_any (λ e. g e.0 e.1) es) (any_found g es q m h k)
    ] refl h

-- ---- the working tree

-- what isn't there has no effect
no_effect : (w : Working) (p : Path) → is_there w p ≡ false → effect_at w p ≡ None
no_effect w p h = elim (keyed.get w p) as (λ o. is_some o ≡ false → option_map (λ x. effect p x.origin) o ≡ None) [ None ↦ λ _. refl | Some x ↦ λ h. absurd (cc) ] h

-- a label further down the nearest effect is what it is
passes : (l : Label) (o : Option (Effect × Path)) → nearest_is_same (further (l ∷ []) o) ≡ nearest_is_same o
passes l None = refl
passes l (Some e) = refl

-- above a place that isn't there is what is above its parent
above_step : (w : Working) (r : Path) (l : Label) → is_there w (r ++ l ∷ []) ≡ false → same_above w (r ++ l ∷ []) ≡ same_above w r
above_step w r l n =
    ap nearest_is_same (nearest-snoc (effect_at w) r l ∙ ap (λ o. or_else (with_rest o []) (further (l ∷ []) (nearest (effect_at w) r))) (no_effect w (r ++ l ∷ []) n))
    ∙ passes l (nearest (effect_at w) r)

-- the row of what is left isn't D
no_D : (e : Effect) → is_D (reduced_mark e) ≡ false
no_D same = refl
no_D made = refl
no_D (from q) = refl

is_gone : (m : Mark) → is_D m ≡ true → m ≡ D
is_gone I h = absurd (cc)
is_gone (C q) h = absurd (cc)
is_gone D h = refl
is_gone K h = absurd (cc)

-- the row of a place by its effect
abbrev reduced_by : Tree → Working → Path → Option Effect → Option Mark
reduced_by a w p o =
    elim o [
      | Some e ↦ if effect_eq e (effect_given w p) then None else Some (reduced_mark e)
      | None ↦ if lost_below_same a w p && parent_there w (parent p) then Some D else None
    ]

-- a place with the row D is gone, with what is left above it the same
gone_row : (a : Tree) (w : Working) (p : Path) (m : Mark) → reduced_here a w p ≡ Some m → is_D m ≡ true → (is_there w p ≡ false) × (lost_below_same a w p ≡ true)
unfolding reduced_here
gone_row a w p m h d =
    elim (keyed.get w p) as (λ o. reduced_by a w p (option_map (λ x. effect p x.origin) o) ≡ Some m → (is_some o ≡ false) × (lost_below_same a w p ≡ true)) [
      | Some x ↦ λ h. absurd (left (effect p x.origin) (effect_eq (effect p x.origin) (effect_given w p)) h)
      | None ↦ λ h. (refl, by (lost_below_same a w p) (parent_there w (parent p)) h)
    ] h
  where
    left : (e : Effect) (b : Bool) → (if b then None else Some (reduced_mark e)) ≡ Some m → ⊥
    left e true h = cc
    left e false h = let s : reduced_mark e ≡ m = cc in let n = no_D e in cc (ap is_D s)

    by : (b c : Bool) → (if b && c then Some D else None) ≡ Some m → b ≡ true
    by true c h = refl
    by false c h = absurd (cc)

module _ (a b : Tree) (w : Working) (n : ℕ) (rs : List Record) (ok : IsWorking w) (ta : IsTree a) (same_tree : contents w ≡ b) (of_step : rs ≡ with_tid n (reduced_rows a w)) where
  as_rows : marks_in rs ≡ reduced_rows a w
  as_rows = ap marks_in of_step ∙ marks-in n (reduced_rows a w)

  -- the records of a step rise by place
  pub rises : RiseByPlace rs
  rises = subst (λ es. T (is_sorted path_cmp es)) (sym as_rows) (sorted-reduced_rows a w)

  -- the tree after the step has the places of the working tree
  there : (p : Path) → is_there b p ≡ is_there w p
  there p = ap (λ t. is_there t p) (sym same_tree) ∙ there-contents w p

  -- of what is left the records tell the effect
  told : (r : Path) (e : Effect) → effect_at w r ≡ Some e → mark_told rs r ≡ full_mark e
  unfolding mark_told
  told r e h = ap (λ es. mark_left (read_reduced (λ q. look q es) r)) as_rows ∙ ap mark_left (read-reduced_rows a w ok r e h)

  -- the row D of a place at or above r
  abbrev is_above : Path → Path → Mark → Bool
  is_above r q m = is_D m && is_within a q r

  any_row : (r : Path) → any_gone a r rs ≡ list_any (λ e. is_above r e.0 e.1) (reduced_rows a w)
  unfolding any_gone
  any_row r = any_marks (is_above r) rs ∙ ap (list_any (λ e. is_above r e.0 e.1)) as_rows

  -- above what is gone it stays the same further down
  above_gone : (q : Path) → is_there w q ≡ false → (s : Path) → same_above w (q ++ s) ≡ same_above w q
  above_gone q g = path_ind (λ s. same_above w (q ++ s) ≡ same_above w q)
      (ap (same_above w) (append-nil q))
      (λ s l ih. ap (same_above w) (sym (append_assoc q s (l ∷ []))) ∙ above_step w (q ++ s) l (ap (is_there w) (append_assoc q s (l ∷ [])) ∙ none-below (keyed.get w) ok.closed q (s ++ l ∷ []) g) ∙ ih)

  -- where a record tells that r is gone, it is
  gone_told : (r : Path) → any_gone a r rs ≡ true → (is_there w r ≡ false) × (lost_below_same a w r ≡ true)
  gone_told r h =
      let x = marked_elim (is_above r) (reduced_here a w) (all_paths a w) (sym (any_row r) ∙ h) in
      let both = and_true (is_D x.1) (is_within a x.0 r) x.3 in
      let row = gone_row a w x.0 x.1 x.2 both.0 in
      let rest = within-rest a x.0 r both.1 in (
        ap (is_there w) rest.1 ∙ none-below (keyed.get w) ok.closed x.0 rest.0 row.0,
        and_both (is_there a r) (same_above w r) (within-is_there a x.0 r both.1) (ap (same_above w) rest.1 ∙ above_gone x.0 row.0 rest.0 ∙ (and_true (is_there a x.0) (same_above w x.0) row.1).1),
      )

  -- a place that is gone, with what is left above it the same, lies at or below one with the row D
  gone_above : (r : Path) → is_there a r ≡ true → is_there w r ≡ false → same_above w r ≡ true → (q : Path) × (s : Path) × (r ≡ q ++ s) × (reduced_here a w q ≡ Some D)
  unfolding reduced_here
  gone_above = path_ind (λ r. is_there a r ≡ true → is_there w r ≡ false → same_above w r ≡ true → (q : Path) × (s : Path) × (r ≡ q ++ s) × (reduced_by a w q (effect_at w q) ≡ Some D))
      (λ i g u. absurd (cc ok.closed.root))
      (λ r l ih i g u.
      let v : same_above w r ≡ true = sym (above_step w r l g) ∙ u in
      elim (is_there w r) as (λ c. is_there w r ≡ c → (q : Path) × (s : Path) × (r ++ l ∷ [] ≡ q ++ s) × (reduced_by a w q (effect_at w q) ≡ Some D)) [
        | true ↦ λ h. (
          r ++ l ∷ [],
          [],
          sym (append-nil (r ++ l ∷ [])),
          ap (reduced_by a w (r ++ l ∷ [])) (no_effect w (r ++ l ∷ []) g)
              ∙ ap (λ c. if c then Some D else None) (and_both (lost_below_same a w (r ++ l ∷ [])) (parent_there w (parent (r ++ l ∷ []))) (and_both _ _ i u) (ap (parent_there w) (parent-snoc r l) ∙ h)),
        )
        | false ↦ λ h.
            let d = ih ((closed-tree a ta.rooted).parents r l i) h v in
            (d.0, d.1 ++ l ∷ [], ap (λ q. q ++ l ∷ []) d.2 ∙ append_assoc d.0 d.1 (l ∷ []), d.3)
      ] refl)

  -- so a record tells that it is gone
  told_gone : (r : Path) → is_there w r ≡ false → lost_below_same a w r ≡ true → any_gone a r rs ≡ true
  told_gone r g h =
      let parts = and_true (is_there a r) (same_above w r) h in
      let x = gone_above r parts.0 g parts.1 in
      any_row r
      ∙ any_found (is_above r) (reduced_rows a w) x.0 D (find-reduced_rows a w x.0 ∙ x.3)
      (ap (is_within a x.0) x.2 ∙ within-there a x.0 x.1 (ap (is_there a) (sym x.2) ∙ parts.0))

  -- what is told at a place is the full row there
  here : (r : Path) (left all : Option Mark) → left ≡ noted (is_there b r) (mark_told rs r) None → all ≡ noted (any_gone a r rs) (Some D) left → all ≡ full_here a w r
  unfolding full_here
  here r left all l g =
      elim (keyed.get w r) as (λ v. keyed.get w r ≡ v → all ≡ elim (option_map (λ x. effect r x.origin) v) [ Some e ↦ full_mark e | None ↦ if lost_below_same a w r then Some D else None ]) [
        | Some x ↦ λ e.
            g ∙ ap (λ c. noted c (Some D) left) (not_gone e) ∙ l
            ∙ ap (λ c. noted c (mark_told rs r) None) (there r ∙ ap is_some e)
            ∙ or_none (mark_told rs r)
            ∙ told r (effect r x.origin) (ap (option_map (λ x. effect r x.origin)) e)
        | None ↦ λ e.
            g ∙ ap (noted (any_gone a r rs) (Some D)) (l ∙ ap (λ c. noted c (mark_told rs r) None) (there r ∙ ap is_some e))
            ∙ ap (λ c. noted c (Some D) None) (gone_is (ap is_some e))
            ∙ elim (lost_below_same a w r) as (λ c. noted c (Some D) None ≡ (if c then Some D else None)) [ true ↦ refl | false ↦ refl ]
      ] refl
    where
      not_gone : {x : Worked} → keyed.get w r ≡ Some x → any_gone a r rs ≡ false
      not_gone e = elim (any_gone a r rs) as (λ c. any_gone a r rs ≡ c → c ≡ false) [ false ↦ λ _. refl | true ↦ λ h. let i : is_there w r ≡ true = ap is_some e in absurd (cc (gone_told r h).0) ] refl

      gone_is : is_there w r ≡ false → any_gone a r rs ≡ lost_below_same a w r
      gone_is i = elim (any_gone a r rs) as (λ c. any_gone a r rs ≡ c → c ≡ lost_below_same a w r) [
        | true ↦ λ h. sym (gone_told r h).1
        | false ↦ λ h. elim (lost_below_same a w r) as (λ d. lost_below_same a w r ≡ d → false ≡ d) [ false ↦ λ _. refl | true ↦ λ k. sym h ∙ told_gone r i k ] refl
      ] refl

  -- what is noted of all places, in order, is the full rows
  pub told-rows : (none left all : List (Path × Mark)) → none ≡ [] → ((r : Path) → look r left ≡ noted (is_there b r) (mark_told rs r) (look r none)) → ((r : Path) → look r all ≡ noted (any_gone a r rs) (Some D) (look r left)) → IsStrictlySortedBy path_cmp (keys_of all) → all ≡ full_rows a w
  told-rows none left all e l g s =
      same_rows all (full_rows a w) (sorted-keys all s) (sorted-full_rows a w)
      (λ r. here r (look r left) (look r all) (l r ∙ ap (λ es. noted (is_there b r) (mark_told rs r) (look r es)) e) (g r) ∙ sym (find-full_rows a w r))

  -- no records tell of no rows
  pub told-nothing : rs ≡ [] → full_rows a w ≡ []
  unfolding any_gone mark_told
  told-nothing e =
      same_rows (full_rows a w) [] (sorted-full_rows a w) tt
      (λ r. find-full_rows a w r ∙ sym (here r None None (untold r (is_there b r) ∙ ap (λ xs. noted (is_there b r) (mark_told xs r) None) (sym e)) (ap (λ xs. noted (any_gone a r xs) (Some D) None) (sym e))))
    where
      nowhere : (f : Path → Option Mark) (r : Path) → ((q : Path) → f q ≡ None) → nearest f r ≡ None
      nowhere f [] n = ap (λ o. with_rest o []) (n [])
      nowhere f (l ∷ r) n = ap (λ o. or_else o (with_rest (f []) (l ∷ r))) (nowhere (λ q. f (l ∷ q)) r (λ q. n (l ∷ q))) ∙ ap (λ o. with_rest o (l ∷ r)) (n [])

      untold : (r : Path) (c : Bool) → None ≡ noted c (mark_told [] r) None
      untold r true = sym (or_none (mark_told [] r) ∙ ap (λ o. mark_left (read_nearest o)) (nowhere (λ q. None) r (λ q. refl)))
      untold r false = refl
