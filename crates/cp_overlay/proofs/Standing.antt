-- What each operation does to what is kept, so that this stands for the working tree after it.
use Rattle.std.proofs.Common.{◌≡◌, Bool, true, false, List, [], ◌∷◌, ◌++◌, refl, sym, ap, subst, ◌∙◌, append_assoc}
use Rattle.std.specs.Prelude.{is_some}
use Rattle.std.specs.declared.option.Option.{Option}
use Rattle.std.specs.declared.option.Option.TheVariants.{None, Some}
use Rattle.cp_path.specs.declared.loc.Loc.{Loc}
use Rattle.cp_model.specs.declared.row.Content.{Content}
use Rattle.cp_model.specs.declared.literal.Literal.{Literal}
use Rattle.cp_model.specs.declared.literal.Literal.TheVariants as literal
use Rattle.cp_model.specs.declared.origin.Origin.TheVariants.{New as new, Was as was}
use Rattle.cp_model.specs.Place.{Path, Label, strip, at_target, in_target, below_place, child, option_map}
use Rattle.cp_model.specs.Keyed as keyed
use Rattle.cp_model.specs.Keyed.{look}
use Rattle.cp_model.specs.Subtrees.{is_there, below, without, with_subtree}
use Rattle.cp_model.specs.Literals.{literal_rows}
use Rattle.cp_model.specs.Tree.{Tree}
use Rattle.cp_model.specs.Step.{Working, Worked, open_tree, as_new, from_source}
use Rattle.cp_model.specs.Laws.{at_rest_or}
use Rattle.cp_model.proofs.Lookups.{find-below, find-with_values, get-replaced, get-without, get-mapped, there-mapped}
use Rattle.cp_model.proofs.Strips.{strip_is, strip-append, append-nil, snoc-same, strip-snoc, path_ind, last_label-snoc}
use Rattle.cp_model.specs.Place.{last_label}
use Rattle.cp_model.proofs.Origins.{every-as_new}
use Rattle.cp_overlay.specs.Kept.{Kept, Origins, origin_at, put_below, Fits, IsWorking, Stands}
use Rattle.cp_overlay.proofs.OriginLemmas.{alone, nothing, taken, origin-aside, origin-taken, origin-alone, origin_none, nearest_none, same_path}

-- a test has one answer
pub true_false : (b : Bool) → b ≡ true → b ≡ false → ⊥
true_false b e f = cc

put_is : {X : Type 0} (p : Path) (h f : Path → Option X) (r : Path) → at_rest_or (strip p r) h (f r) ≡ put_below p h f r
unfolding put_below
put_is p h f r = refl

-- a change by maps that are alike
pub put-ext : {X : Type 0} (p : Path) (h h' f : Path → Option X) → ((s : Path) → h s ≡ h' s) → (r : Path) → put_below p h f r ≡ put_below p h' f r
unfolding put_below
put-ext p h h' f e r = elim (strip p r) as (λ o. at_rest_or o h (f r) ≡ at_rest_or o h' (f r)) [ None ↦ refl | Some s ↦ e s ]

-- a change at and below p, of the tree w by hw and of what is kept by hf, that keeps standing for the tree
pub record Change (p : Path) (hw : Path → Option Worked) (hf : Origins) (k k' : Kept) (a : Tree) (w w' : Working) : Type 0 where
  pub tree : (r : Path) → keyed.get w' r ≡ put_below p hw (keyed.get w) r
  pub over : (r : Path) → k'.origins r ≡ put_below p hf k.origins r
  pub carried : (s : Path) (x : Worked) → hw s ≡ Some x → origin_at k'.origins (p ++ s) ≡ x.origin
  pub few : (s : Path) → is_some (hf s) ≡ true → is_some (hw s) ≡ true
  pub lost : (s q : Path) (l : Label) → is_some (hw s) ≡ true → origin_at k'.origins (p ++ s) ≡ was (at_target q) → is_there a (child q l) ≡ true → is_some (hw (s ++ l ∷ [])) ≡ false → k.lost q l ≡ true
  pub edge : (r : Path) (l : Label) → p ≡ r ++ l ∷ [] → is_some (hw []) ≡ false → (q : Path) → is_there w r ≡ true → origin_at k.origins r ≡ was (at_target q) → is_there a (child q l) ≡ true → k'.lost q l ≡ true
  pub grows : (q : Path) (l : Label) → k.lost q l ≡ true → k'.lost q l ≡ true

module _ (p : Path) (hw : Path → Option Worked) (hf : Origins) (k k' : Kept) (a : Tree) (w w' : Working) (c : Change p hw hf k k' a w w') where
  aside : (r : Path) → strip p r ≡ None → keyed.get w' r ≡ keyed.get w r
  unfolding put_below
  aside r n = c.tree r ∙ ap (λ o. at_rest_or o hw (keyed.get w r)) n

  inside : (r s : Path) → strip p r ≡ Some s → keyed.get w' r ≡ hw s
  unfolding put_below
  inside r s e = c.tree r ∙ ap (λ o. at_rest_or o hw (keyed.get w r)) e

  kept_aside : (r : Path) → strip p r ≡ None → k'.origins r ≡ k.origins r
  unfolding put_below
  kept_aside r n = c.over r ∙ ap (λ o. at_rest_or o hf (k.origins r)) n

  kept_inside : (r s : Path) → strip p r ≡ Some s → k'.origins r ≡ hf s
  unfolding put_below
  kept_inside r s e = c.over r ∙ ap (λ o. at_rest_or o hf (k.origins r)) e

  -- what is kept stands for the tree after such a change
  pub stands-change : Stands k a w → Stands k' a w'
  stands-change st = record { origins = origins; there = there; lost = lost }
    where
      origins : (r : Path) (x : Worked) → keyed.get w' r ≡ Some x → origin_at k'.origins r ≡ x.origin
      origins r x h = elim (strip p r) as (λ o. strip p r ≡ o → origin_at k'.origins r ≡ x.origin) [
        | None ↦ λ n. origin-aside p hf k.origins k'.origins c.over r n ∙ st.origins r x (sym (aside r n) ∙ h)
        | Some s ↦ λ e. ap (origin_at k'.origins) (strip_is p r s e) ∙ c.carried s x (sym (inside r s e) ∙ h)
      ] refl

      there : (r : Path) → is_some (k'.origins r) ≡ true → is_there w' r ≡ true
      there r h = elim (strip p r) as (λ o. strip p r ≡ o → is_there w' r ≡ true) [
        | None ↦ λ n. ap is_some (aside r n) ∙ st.there r (ap is_some (sym (kept_aside r n)) ∙ h)
        | Some s ↦ λ e. ap is_some (inside r s e) ∙ c.few s (ap is_some (sym (kept_inside r s e)) ∙ h)
      ] refl

      on_edge : (r q : Path) (l : Label) → strip p r ≡ None → is_there w r ≡ true → origin_at k.origins r ≡ was (at_target q) → is_there a (child q l) ≡ true → (s : Path) → strip p (r ++ l ∷ []) ≡ Some s → is_some (hw s) ≡ false → k'.lost q l ≡ true
      on_edge r q l n g o i = path_ind (λ s. strip p (r ++ l ∷ []) ≡ Some s → is_some (hw s) ≡ false → k'.lost q l ≡ true)
          (λ e h. c.edge r l (sym (append-nil p) ∙ sym (strip_is p (r ++ l ∷ []) [] e)) h q g o i)
          (λ s b _ e h.
          let under : r ≡ p ++ s = snoc-same r (p ++ s) l b (strip_is p (r ++ l ∷ []) (s ++ b ∷ []) e ∙ sym (append_assoc p s (b ∷ []))) in
          absurd (cc (sym n ∙ ap (strip p) under ∙ strip-append p s)))

      lost : (r q : Path) (l : Label) → is_there w' r ≡ true → origin_at k'.origins r ≡ was (at_target q) → is_there a (child q l) ≡ true → is_there w' (child r l) ≡ false → k'.lost q l ≡ true
      lost r q l h o i m = elim (strip p r) as (λ o. strip p r ≡ o → k'.lost q l ≡ true) [
        | None ↦ λ n.
            let was_it : origin_at k.origins r ≡ was (at_target q) = sym (origin-aside p hf k.origins k'.origins c.over r n) ∙ o in
            let was_there : is_there w r ≡ true = ap is_some (sym (aside r n)) ∙ h in
            elim (strip p (r ++ l ∷ [])) as (λ d. strip p (r ++ l ∷ []) ≡ d → k'.lost q l ≡ true) [
              | None ↦ λ d. c.grows q l (st.lost r q l was_there was_it i (ap is_some (sym (aside (r ++ l ∷ []) d)) ∙ m))
              | Some s ↦ λ d. on_edge r q l n was_there was_it i s d (ap is_some (sym (inside (r ++ l ∷ []) s d)) ∙ m)
            ] refl
        | Some s ↦ λ e.
            c.grows q l (c.lost s q l (ap is_some (sym (inside r s e)) ∙ h) (ap (origin_at k'.origins) (sym (strip_is p r s e)) ∙ o) i (ap is_some (sym (inside (r ++ l ∷ []) (s ++ l ∷ []) (strip-snoc p r s l e))) ∙ m))
      ] refl

new_apart : (q : Loc) → new ≡ was q → ⊥
new_apart q e = cc

-- what is inserted is new
pub stands-ins : (k k' : Kept) (a : Tree) (w : Working) (p : Path) (l : Literal) → ((r : Path) → k'.origins r ≡ put_below p (alone new) k.origins r) → ((q : Path) (b : Label) → k'.lost q b ≡ k.lost q b)
    → Stands k a w → Stands k' a (with_subtree p (as_new (literal_rows l)) w)
stands-ins k k' a w p l over still st = stands-change p hw (alone new) k k' a w (with_subtree p (as_new (literal_rows l)) w) (record {
  tree = λ r. get-replaced p (as_new (literal_rows l)) w r ∙ put_is p hw (keyed.get w) r;
  over = over;
  carried = λ s x e. origin-alone p new k.origins k'.origins over s ∙ sym (every-as_new (λ o. o ≡ new) (literal_rows l) refl s x e);
  few = few;
  lost = λ s q b h o i n. absurd (new_apart (at_target q) (sym (origin-alone p new k.origins k'.origins over s) ∙ o));
  edge = λ r b e h q g o i. absurd (true_false _ (root l) h);
  grows = λ q b h. still q b ∙ h;
}) st
  where
    hw : Path → Option Worked
    hw s = look s (as_new (literal_rows l))

    root : (l : Literal) → is_some (look [] (as_new (literal_rows l))) ≡ true
    root (literal.Leaf v) = refl
    root (literal.Node rows) = refl

    few : (s : Path) → is_some (alone new s) ≡ true → is_some (hw s) ≡ true
    few [] e = root l
    few (b ∷ s) e = absurd (cc)

-- of what is deleted nothing is kept but the child that is lost
pub stands-del : (k k' : Kept) (a : Tree) (w : Working) (p : Path) (l : Label) → ((r : Path) → k'.origins r ≡ put_below (child p l) nothing k.origins r) → ((q : Path) (b : Label) → k.lost q b ≡ true → k'.lost q b ≡ true)
    → ((q : Path) → origin_at k.origins p ≡ was (at_target q) → is_there a (child q l) ≡ true → k'.lost q l ≡ true) → Stands k a w → Stands k' a (without (child p l) w)
stands-del k k' a w p l over grows more st = stands-change (child p l) nothing nothing k k' a w (without (child p l) w) (record {
  tree = λ r. get-without (child p l) w r ∙ put_is (child p l) nothing (keyed.get w) r;
  over = over;
  carried = λ s x e. absurd (cc);
  few = λ s e. e;
  lost = λ s q b h. absurd (cc);
  edge = edge;
  grows = grows;
}) st
  where
    edge : (r : Path) (b : Label) → child p l ≡ r ++ b ∷ [] → is_some (nothing {X = Worked} []) ≡ false → (q : Path) → is_there w r ≡ true → origin_at k.origins r ≡ was (at_target q) → is_there a (child q b) ≡ true → k'.lost q b ≡ true
    edge r b e h q g o i =
        let t : r ≡ p = snoc-same r p b l (sym e) in
        let u : b ≡ l = sym (last_label-snoc r b) ∙ ap last_label (sym e) ∙ last_label-snoc p l in
        ap (k'.lost q) u ∙ more q (ap (origin_at k.origins) (sym t) ∙ o) (ap (λ c. is_there a (child q c)) (sym u) ∙ i)

-- what is copied takes its origins along
pub stands-copy : (k k' : Kept) (a : Tree) (w : Working) (q p : Path) → is_there w q ≡ true → ((r : Path) → k'.origins r ≡ put_below p (taken k.origins q) k.origins r) → ((r : Path) (b : Label) → k'.lost r b ≡ k.lost r b)
    → Stands k a w → Stands k' a (with_subtree p (below q w) w)
stands-copy k k' a w q p there over still st = stands-change p hw (taken k.origins q) k k' a w (with_subtree p (below q w) w) (record {
  tree = λ r. get-replaced p (below q w) w r ∙ put_is p hw (keyed.get w) r;
  over = over;
  carried = λ s x e. origin-taken p q k.origins k'.origins over s ∙ st.origins (q ++ s) x (sym (find-below q s w) ∙ e);
  few = few;
  lost = λ s r l h o i n. st.lost (q ++ s) r l (ap is_some (sym (find-below q s w)) ∙ h) (sym (origin-taken p q k.origins k'.origins over s) ∙ o) i (ap (is_there w) (append_assoc q s (l ∷ [])) ∙ ap is_some (sym (find-below q (s ++ l ∷ []) w)) ∙ n);
  edge = λ r l e h r' g o i. absurd (true_false _ at_q h);
  grows = λ r b h. still r b ∙ h;
}) st
  where
    hw : Path → Option Worked
    hw s = look s (below q w)

    at_q : is_some (hw []) ≡ true
    at_q = ap is_some (find-below q [] w) ∙ ap (is_there w) (append-nil q) ∙ there

    few : (s : Path) → is_some (taken k.origins q s) ≡ true → is_some (hw s) ≡ true
    few [] e = at_q
    few (b ∷ s) e = ap is_some (find-below q (b ∷ s) w) ∙ st.there (q ++ b ∷ s) e

-- what is copied from a source stood there
pub stands-from : (k k' : Kept) (a t : Tree) (w : Working) (q : Loc) (p : Path) → in_target q ≡ false → is_there t q.path ≡ true → ((r : Path) → k'.origins r ≡ put_below p (alone (was q)) k.origins r)
    → ((r : Path) (b : Label) → k'.lost r b ≡ k.lost r b) → Stands k a w → Stands k' a (with_subtree p (from_source q (below q.path t)) w)
stands-from k k' a t w q p out there over still st = stands-change p hw (alone (was q)) k k' a w (with_subtree p es w) (record {
  tree = λ r. get-replaced p es w r ∙ put_is p hw (keyed.get w) r;
  over = over;
  carried = λ s x e. origin-alone p (was q) k.origins k'.origins over s ∙ its_origin s _ x (sym (hw_is s) ∙ e);
  few = few;
  lost = λ s r l h o. absurd (apart s r (sym (origin-alone p (was q) k.origins k'.origins over s) ∙ o));
  edge = λ r l e h r' g o i. absurd (true_false _ at_q h);
  grows = λ r b h. still r b ∙ h;
}) st
  where
    es : List (Path × Worked)
    es = from_source q (below q.path t)

    hw : Path → Option Worked
    hw s = look s es

    arrived : Path → Content → Worked
    arrived s c = record { content = c; origin = was (below_place q s) }

    hw_is : (s : Path) → hw s ≡ option_map (arrived s) (keyed.get t (q.path ++ s))
    hw_is s = find-with_values arrived s (below q.path t) ∙ ap (option_map (arrived s)) (find-below q.path s t)

    some_mapped : (s : Path) (o : Option Content) → is_some (option_map (arrived s) o) ≡ is_some o
    some_mapped s None = refl
    some_mapped s (Some c) = refl

    at_q : is_some (hw []) ≡ true
    at_q = ap is_some (hw_is []) ∙ some_mapped [] _ ∙ ap (is_there t) (append-nil q.path) ∙ there

    its_origin : (s : Path) (o : Option Content) (x : Worked) → option_map (arrived s) o ≡ Some x → was (below_place q s) ≡ x.origin
    its_origin s None x e = absurd (cc)
    its_origin s (Some c) x e = cc

    few : (s : Path) → is_some (alone (was q) s) ≡ true → is_some (hw s) ≡ true
    few [] e = at_q
    few (b ∷ s) e = absurd (cc)

    apart : (s r : Path) → was (below_place q s) ≡ was (at_target r) → ⊥
    apart s r e = let h : q.db ≡ (at_target r).db = cc in true_false _ (ap (λ d. in_target (record { db = d; path = q.path })) h) out

-- a step that has done nothing yet keeps nothing
pub stands-new : (k : Kept) (t : Tree) → ((r : Path) → k.origins r ≡ None) → Stands k t (open_tree t)
stands-new k t none = record { origins = origins; there = λ p e. absurd (true_false _ e (ap is_some (none p))); lost = lost }
  where
    open_at : Path → Content → Worked
    open_at p c = record { content = c; origin = was (at_target p) }

    itself : (p : Path) → origin_at k.origins p ≡ was (at_target p)
    itself p = origin_none k.origins p (nearest_none k.origins p none)

    one : (p : Path) (x : Worked) (o : Option Content) → option_map (open_at p) o ≡ Some x → was (at_target p) ≡ x.origin
    one p x None e = absurd (cc)
    one p x (Some c) e = cc

    origins : (p : Path) (x : Worked) → keyed.get (open_tree t) p ≡ Some x → origin_at k.origins p ≡ x.origin
    origins p x e = itself p ∙ one p x (keyed.get t p) (sym (get-mapped open_at t p) ∙ e)

    lost : (p q : Path) (l : Label) → is_there (open_tree t) p ≡ true → origin_at k.origins p ≡ was (at_target q) → is_there t (child q l) ≡ true → is_there (open_tree t) (child p l) ≡ false → k.lost q l ≡ true
    lost p q l h o i m = absurd (true_false _ i (ap (λ r. is_there t (child r l)) (sym (same_path p q (sym (itself p) ∙ o))) ∙ sym (there-mapped open_at t (child p l)) ∙ m))

-- origins that are given up where they are given leave it standing
pub stands-settled : (f f' : Origins) (g : Path → Label → Bool) (a : Tree) (w : Working) → ((r : Path) → origin_at f' r ≡ origin_at f r) → ((r : Path) → is_some (f' r) ≡ true → f' r ≡ f r)
    → Stands (record { origins = f; lost = g }) a w → Stands (record { origins = f'; lost = g }) a w
stands-settled f f' g a w same fewer st = record {
  origins = λ p x e. same p ∙ st.origins p x e;
  there = λ p e. st.there p (ap is_some (sym (fewer p e)) ∙ e);
  lost = λ p q l h o i m. st.lost p q l h (sym (same p) ∙ o) i m;
}

-- the origin of a place that is there is within the limits
pub fits_at : (k : Kept) (a : Tree) (w : Working) (p : Path) → IsWorking w → Stands k a w → is_there w p ≡ true → Fits (origin_at k.origins p)
fits_at k a w p wk st h = at (keyed.get w p) refl h
  where
    at : (o : Option Worked) → keyed.get w p ≡ o → is_some o ≡ true → Fits (origin_at k.origins p)
    at None e h = absurd (cc)
    at (Some x) e h = subst Fits (sym (st.origins p x e)) (wk.fits p x e)
