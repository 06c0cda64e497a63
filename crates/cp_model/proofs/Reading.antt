-- Reading the rows of a step gives its effects.
use Rattle.cp_path.specs.declared.limits.TheConstants.{LABELS_MAX, LOC_MAX}
use Rattle.std.specs.Prelude.{ℕ, ◌+◌, ◌≡◌, ◌≤◌, true, false, ◌&&◌, ◌||◌, [], ◌∷◌, ◌++◌, length, refl, is_some, if◌then◌else◌, nat_lt}
use Rattle.std.proofs.Common.{sym, ap, ◌∙◌, append_assoc, arith}
use Rattle.std.proofs.lemmas.Grind.{common_steps}
use Rattle.std.proofs.lemmas.List.Sums.{sum_by-append}
use Rattle.std.proofs.lemmas.Bool.Decides.{nat_tests}
use Rattle.std.specs.declared.option.Option.{Option}
use Rattle.std.specs.declared.option.Option.TheVariants.{None, Some}
use Rattle.cp_path.specs.declared.loc.Loc.{Loc}
use Rattle.cp_model.specs.Place.{Path, Label, or_else, option_map, with_rest, nearest, below_place, over_limit, size, parent, last_label}
use Rattle.cp_path.proofs.Same.{place_eq-same}
use Rattle.cp_model.specs.Keyed as keyed
use Rattle.cp_model.specs.Keyed.{look}
use Rattle.cp_model.specs.Closed.{Closed}
use Rattle.cp_model.specs.Subtrees.{is_there}
use Rattle.cp_model.specs.Tree.{Tree}
use Rattle.cp_model.specs.Step.{Working}
use Rattle.cp_model.specs.Rows.{Effect, same, made, from, Reading, left, gone, Mark, I, C, D, K, effect, gives, effect_at, full_mark, reduced_mark, effect_eq, effect_given, effect_given_by, or_same, lost_below_same, full_here, reduced_here, parent_there, full_rows, reduced_rows, from_if_within, limited, read_mark, read_nearest, read_full, read_reduced}
use Rattle.cp_model.proofs.Strips.{append-nil, path_ind, nearest-snoc, further, parent-snoc, last_label-snoc}
use Rattle.cp_model.proofs.Marks.{find-full_rows, find-reduced_rows}

-- below a place by nothing is that place
pub below_place-nil : (q : Loc) → below_place q [] ≡ q
below_place-nil q = ap (λ r. record { db = q.db; path = r }) (append-nil q.path)

-- an effect's full row reads as the effect
pub read-full_mark : (e : Effect) → read_nearest (option_map (λ m. (m, [])) (full_mark e)) ≡ left (limited e)
read-full_mark same = refl
read-full_mark made = refl
read-full_mark (from q) = ap (λ r. left (from_if_within r)) (below_place-nil q)

-- in kinds n and t the row at a place of the tree after the step reads as its effect
pub read-full_rows : (a : Tree) (w : Working) (p : Path) (e : Effect) → effect_at w p ≡ Some e → limited e ≡ e → read_full (λ r. look r (full_rows a w)) p ≡ left e
unfolding full_here
read-full_rows a w p e at fits =
    ap (λ o. read_nearest (option_map (λ m. (m, [])) o)) (find-full_rows a w p ∙ ap (λ o. elim o [ Some e ↦ full_mark e | None ↦ if lost_below_same a w p then Some D else None ]) at)
    ∙ read-full_mark e ∙ ap left fits

-- a child is given what the effect of its parent gives
pub given-snoc : (w : Working) (r : Path) (a : Label) → effect_given w (r ++ a ∷ []) ≡ gives (or_same (effect_at w r)) a
given-snoc w r a = ap (λ o. effect_given_by w o (last_label (r ++ a ∷ []))) (parent-snoc r a) ∙ ap (gives (or_same (effect_at w r))) (last_label-snoc r a)

-- effects that are equal by the test are equal
pub effect_eq-same : (d e : Effect) → effect_eq d e ≡ true → d ≡ e
effect_eq-same same same h = refl
effect_eq-same same made h = cc
effect_eq-same same (from q) h = cc
effect_eq-same made same h = cc
effect_eq-same made made h = refl
effect_eq-same made (from q) h = cc
effect_eq-same (from p) same h = cc
effect_eq-same (from p) made h = cc
effect_eq-same (from p) (from q) h = ap from (place_eq-same p q h)

-- an effect's reduced row reads as the effect
pub read-reduced_mark : (e : Effect) → read_mark (reduced_mark e) [] ≡ left (limited e)
read-reduced_mark same = refl
read-reduced_mark made = refl
read-reduced_mark (from q) = ap (λ r. left (from_if_within r)) (below_place-nil q)

length-more : (p : Path) (a : Label) → length (p ++ a ∷ []) ≡ length p + 1
length-more p a = grind (arith, common_steps)

-- a child's place is as large at least
pub size-more : (q : Loc) (a : Label) → size q ≤ size (below_place q (a ∷ []))
size-more q a = rw (sum_by-append (λ a. length a + 1) q.path (a ∷ [])) (omega arith)

or_mono : (a b c d : ℕ) → a ≤ b → c ≤ d → (nat_lt LABELS_MAX a || nat_lt LOC_MAX c) ≡ true → (nat_lt LABELS_MAX b || nat_lt LOC_MAX d) ≡ true
or_mono a b c d p q h = grind (arith, nat_tests)

-- below a place over a limit every place is over a limit
pub over-more : (q : Loc) (a : Label) → over_limit q ≡ true → over_limit (below_place q (a ∷ [])) ≡ true
over-more q a h = or_mono (length q.path) (length (q.path ++ a ∷ [])) (size q) (size (below_place q (a ∷ []))) (omega (arith, length-more q.path a)) (size-more q a) h

below_place-more : (q : Loc) (s : Path) (a : Label) → below_place q (s ++ a ∷ []) ≡ below_place (below_place q s) (a ∷ [])
below_place-more q s a = ap (λ r. record { db = q.db; path = r }) (sym (append_assoc q.path s (a ∷ [])))

-- what is told of a child by what is told of its parent
abbrev pub told_below : Reading → Label → Reading
told_below (left e) a = left (limited (gives e a))
told_below gone a = gone

-- one label further down a mark tells what its effect gives
pub read_mark-snoc : (m : Mark) (s : Path) (a : Label) → read_mark m (s ++ a ∷ []) ≡ told_below (read_mark m s) a
read_mark-snoc I s a = refl
read_mark-snoc (C q) s a =
    ap (λ r. left (from_if_within r)) (below_place-more q s a)
    ∙ ap left (elim (over_limit (below_place q s)) as (λ b. over_limit (below_place q s) ≡ b → from_if_within (below_place (below_place q s) (a ∷ [])) ≡ limited (gives (if b then same else from (below_place q s)) a)) [
      | true ↦ λ h. ap (λ b. if b then same else from (below_place (below_place q s) (a ∷ []))) (over-more (below_place q s) a h)
      | false ↦ λ _. refl
    ] refl)
read_mark-snoc K s a = refl
read_mark-snoc D s a = refl

-- one label further down what is nearest tells what its effect gives
pub read_nearest-snoc : (o : Option (Mark × Path)) (a : Label) → read_nearest (further (a ∷ []) o) ≡ told_below (read_nearest o) a
read_nearest-snoc None a = refl
read_nearest-snoc (Some e) a = read_mark-snoc e.0 e.1 a

-- a working tree that is closed upwards, with no effect's place over a limit
pub record IsWorking (w : Working) : Type 0 where
  pub closed : Closed (keyed.get w)
  pub fits : (p : Path) (e : Effect) → effect_at w p ≡ Some e → limited e ≡ e

-- what is there has an effect
pub effect_there : (w : Working) (p : Path) → is_there w p ≡ true → (e : Effect) × (effect_at w p ≡ Some e)
effect_there w p h =
    elim (keyed.get w p) as (λ o. is_some o ≡ true → (e : Effect) × (option_map (λ x. effect p x.origin) o ≡ Some e)) [
      | None ↦ λ h. absurd (cc)
      | Some x ↦ λ _. (effect p x.origin, refl)
    ] h

-- what has an effect is there
pub there_effect : (w : Working) (p : Path) (e : Effect) → effect_at w p ≡ Some e → is_there w p ≡ true
there_effect w p e h =
    elim (keyed.get w p) as (λ o. option_map (λ x. effect p x.origin) o ≡ Some e → is_some o ≡ true) [
      | None ↦ λ h. absurd (cc)
      | Some x ↦ λ _. refl
    ] h

-- the read of a mark that may be there, over what the parent's read is
pub read_step : (f : Path → Option Mark) (r : Path) (a : Label) (o : Option Mark) → f (r ++ a ∷ []) ≡ o →
    read_reduced f (r ++ a ∷ []) ≡ read_nearest (or_else (with_rest o []) (further (a ∷ []) (nearest f r)))
read_step f r a o e = ap read_nearest (nearest-snoc f r a ∙ ap (λ c. or_else (with_rest c []) (further (a ∷ []) (nearest f r))) e)

-- the reduced row of an effect where another is given
unfoldable pub wanted_here : Effect → Effect → Option Mark
wanted_here e g = if effect_eq e g then None else Some (reduced_mark e)

-- the reduced row of a place by its effect and by what it is given
pub reduced_at : (a : Tree) (w : Working) (p : Path) (e g : Effect) → effect_at w p ≡ Some e → effect_given w p ≡ g → look p (reduced_rows a w) ≡ wanted_here e g
unfolding reduced_here wanted_here
reduced_at a w p e g at gi =
    find-reduced_rows a w p
    ∙ ap (λ o. elim o [ Some e ↦ if effect_eq e (effect_given w p) then None else Some (reduced_mark e) | None ↦ if lost_below_same a w p && parent_there w (parent p) then Some D else None ]) at
    ∙ ap (wanted_here e) gi

-- in kinds h and ht the row at the longest prefix with a row, carried down, is the effect
pub read-reduced_rows : (a : Tree) (w : Working) → IsWorking w → (p : Path) (e : Effect) → effect_at w p ≡ Some e → read_reduced (λ r. look r (reduced_rows a w)) p ≡ left e
unfolding wanted_here
read-reduced_rows a w ok = path_ind (λ p. (e : Effect) → effect_at w p ≡ Some e → read_reduced f p ≡ left e) base more
  where
    f : Path → Option Mark
    f r = look r (reduced_rows a w)

    base : (e : Effect) → effect_at w [] ≡ Some e → read_reduced f [] ≡ left e
    base e at =
        ap (λ o. read_nearest (with_rest o [])) (reduced_at a w [] e same at refl)
        ∙ elim (effect_eq e same) as (λ b. effect_eq e same ≡ b → read_nearest (with_rest (if b then None else Some (reduced_mark e)) []) ≡ left e) [
          | true ↦ λ h. ap left (sym (effect_eq-same e same h))
          | false ↦ λ _. read-reduced_mark e ∙ ap left (ok.fits [] e at)
        ] refl

    more : (r : Path) (l : Label) → ((e : Effect) → effect_at w r ≡ Some e → read_reduced f r ≡ left e) → (e : Effect) → effect_at w (r ++ l ∷ []) ≡ Some e → read_reduced f (r ++ l ∷ []) ≡ left e
    more r l ih e at =
        let up = effect_there w r (ok.closed.parents r l (there_effect w (r ++ l ∷ []) e at)) in
        let gi : effect_given w (r ++ l ∷ []) ≡ gives up.0 l = given-snoc w r l ∙ ap (λ o. gives (or_same o) l) up.1 in
        read_step f r l (wanted_here e (gives up.0 l)) (reduced_at a w (r ++ l ∷ []) e (gives up.0 l) at gi)
        ∙ elim (effect_eq e (gives up.0 l)) as (λ b. effect_eq e (gives up.0 l) ≡ b → read_nearest (or_else (with_rest (if b then None else Some (reduced_mark e)) []) (further (l ∷ []) (nearest f r))) ≡ left e) [
          | true ↦ λ h. read_nearest-snoc (nearest f r) l ∙ ap (λ d. told_below d l) (ih up.0 up.1) ∙ ap (λ d. left (limited d)) (sym (effect_eq-same e (gives up.0 l) h)) ∙ ap left (ok.fits (r ++ l ∷ []) e at)
          | false ↦ λ _. read-reduced_mark e ∙ ap left (ok.fits (r ++ l ∷ []) e at)
        ] refl
