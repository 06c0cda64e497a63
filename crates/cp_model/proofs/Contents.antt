-- The contents of working and aged trees: an operation on a working tree is the operation on its contents.
use Rattle.std.specs.Prelude.{◌≡◌, Bool, true, false, List, [], ◌∷◌, ◌++◌, ℕ, if◌then◌else◌, refl}
use Rattle.std.proofs.Common.{sym, ap, ◌∙◌}
use Rattle.std.specs.declared.option.Option.{Option}
use Rattle.std.specs.declared.option.Option.TheVariants.{None, Some}
use Rattle.cp_path.specs.declared.loc.Loc.{Loc}
use Rattle.cp_model.specs.declared.row.Content.{Content}
use Rattle.cp_model.specs.declared.op.Op.{Op}
use Rattle.cp_model.specs.declared.op.Op.TheVariants.{Ins, Del, Copy}
use Rattle.cp_model.specs.Place.{Path, child, in_target, at_target, strip, option_map}
use Rattle.cp_model.proofs.KeyedLemmas.{same_map}
use Rattle.cp_model.specs.Keyed as keyed
use Rattle.cp_model.specs.Keyed.{look, Keyed}
use Rattle.cp_model.specs.Subtrees.{is_there, below, without, with_subtree, with_values, map_values}
use Rattle.cp_model.specs.Literals.{literal_rows}
use Rattle.cp_model.specs.Tree.{Tree, Source, source, database, subtree_at, tree_after}
use Rattle.cp_model.specs.Step.{was, Worked, Working, contents, open_tree, as_new, from_source, entries_to_copy, apply_op}
use Rattle.cp_model.specs.Past.{Aged, AgedTree, tree_of, start_aged, settled_at, settle}
use Rattle.cp_model.specs.Laws.{at_rest_or}
use Rattle.cp_model.proofs.Lookups.{find-below, get-without, get-replaced, find-with_values, get-mapped, there-mapped}

module _ {X : Type 0} where
  -- entries that answer alike replace a subtree alike
  pub replaced-alike : (p : Path) (es fs : List (Path × X)) (m : Keyed X) → ((s : Path) → look s es ≡ look s fs) → with_subtree p es m ≡ with_subtree p fs m
  replaced-alike p es fs m h = same_map (with_subtree p es m) (with_subtree p fs m) (λ r. get-replaced p es m r ∙ alike (strip p r) (keyed.get m r) ∙ sym (get-replaced p fs m r))
    where
      alike : (o : Option Path) (v : Option X) → at_rest_or o (λ s. look s es) v ≡ at_rest_or o (λ s. look s fs) v
      alike None v = refl
      alike (Some s) v = h s

module _ {X Y : Type 0} (g : X → Y) where
  -- to replace and then make values is to make values and then replace
  pub mapped-replaced : (p : Path) (es : List (Path × X)) (m : Keyed X) → map_values (λ _ x. g x) (with_subtree p es m) ≡ with_subtree p (with_values (λ _ x. g x) es) (map_values (λ _ x. g x) m)
  mapped-replaced p es m = same_map (map_values (λ _ x. g x) (with_subtree p es m)) (with_subtree p (with_values (λ _ x. g x) es) (map_values (λ _ x. g x) m)) (λ r.
      get-mapped (λ _ x. g x) (with_subtree p es m) r
      ∙ ap (option_map g) (get-replaced p es m r)
      ∙ inside (strip p r) (keyed.get m r)
      ∙ ap (at_rest_or (strip p r) (λ s. look s (with_values (λ _ x. g x) es))) (sym (get-mapped (λ _ x. g x) m r))
      ∙ sym (get-replaced p (with_values (λ _ x. g x) es) (map_values (λ _ x. g x) m) r))
    where
      inside : (o : Option Path) (v : Option X) → option_map g (at_rest_or o (λ s. look s es) v) ≡ at_rest_or o (λ s. look s (with_values (λ _ x. g x) es)) (option_map g v)
      inside None v = refl
      inside (Some s) v = sym (find-with_values (λ _ x. g x) s es)

  -- to drop a subtree and then make values is to make values and then drop it
  pub mapped-without : (p : Path) (m : Keyed X) → map_values (λ _ x. g x) (without p m) ≡ without p (map_values (λ _ x. g x) m)
  mapped-without p m = same_map (map_values (λ _ x. g x) (without p m)) (without p (map_values (λ _ x. g x) m)) (λ r.
      get-mapped (λ _ x. g x) (without p m) r
      ∙ ap (option_map g) (get-without p m r)
      ∙ inside (strip p r) (keyed.get m r)
      ∙ ap (at_rest_or (strip p r) (λ _. None)) (sym (get-mapped (λ _ x. g x) m r))
      ∙ sym (get-without p (map_values (λ _ x. g x) m) r))
    where
      inside : (o : Option Path) (v : Option X) → option_map g (at_rest_or o (λ _. None) v) ≡ at_rest_or o (λ _. None) (option_map g v)
      inside None v = refl
      inside (Some s) v = refl

  -- the subtree of made values answers as the values made of the subtree
  pub find-below_mapped : (q s : Path) (m : Keyed X) → look s (with_values (λ _ x. g x) (below q m)) ≡ look s (below q (map_values (λ _ x. g x) m))
  find-below_mapped q s m =
      find-with_values (λ _ x. g x) s (below q m) ∙ ap (option_map g) (find-below q s m)
      ∙ sym (find-below q s (map_values (λ _ x. g x) m) ∙ get-mapped (λ _ x. g x) m (q ++ s))

-- what is made and taken back is as before
pub mapped-back : {X Y : Type 0} (f : Path → X → Y) (g : Y → X) → ((p : Path) (x : X) → g (f p x) ≡ x) → (m : Keyed X) → map_values (λ _ y. g y) (map_values f m) ≡ m
mapped-back {X = X} f g h m = same_map (map_values (λ _ y. g y) (map_values f m)) m (λ r. get-mapped (λ _ y. g y) (map_values f m) r ∙ ap (option_map g) (get-mapped f m r) ∙ back r (keyed.get m r))
  where
    back : (r : Path) (o : Option X) → option_map g (option_map (f r) o) ≡ o
    back r None = refl
    back r (Some x) = ap (λ y. Some y) (h r x)

back_new : (es : List (Path × Content)) → with_values (λ _ x. x.content) (as_new es) ≡ es
back_new [] = refl
back_new (e ∷ es) = ap (λ fs. e ∷ fs) (back_new es)

back_source : (q : Loc) (es : List (Path × Content)) → with_values (λ _ x. x.content) (from_source q es) ≡ es
back_source q [] = refl
back_source q (e ∷ es) = ap (λ fs. e ∷ fs) (back_source q es)

-- what the contents have is there
pub there-contents : (w : Working) (p : Path) → is_there (contents w) p ≡ is_there w p
there-contents w p = there-mapped (λ _ x. x.content) w p

copied-alike : (ss : List Source) (w : Working) (q : Loc) (b : Bool) (s : Path) →
    look s (with_values (λ _ x. x.content) (entries_to_copy ss w q b)) ≡ look s (subtree_at (if b then Some (contents w) else source ss q.db) q.path)
copied-alike ss w q true s = find-below_mapped (λ (x : Worked). x.content) q.path s w
copied-alike ss w q false s = ap (look s) (back_source q (subtree_at (source ss q.db) q.path))

-- the contents after an operation are the contents changed by it
pub contents-applied : (ss : List Source) (w : Working) (op : Op) → contents (apply_op ss w op) ≡ tree_after ss (contents w) op
unfolding apply_op tree_after
contents-applied ss w (Ins p a l) =
    mapped-replaced (λ (x : Worked). x.content) (child p.path a) (as_new (literal_rows l)) w
    ∙ ap (λ es. with_subtree (child p.path a) es (contents w)) (back_new (literal_rows l))
contents-applied ss w (Del a p) = mapped-without (λ (x : Worked). x.content) (child p.path a) w
contents-applied ss w (Copy q p) =
    mapped-replaced (λ (x : Worked). x.content) p.path (entries_to_copy ss w q (in_target q)) w
    ∙ replaced-alike p.path (with_values (λ _ x. x.content) (entries_to_copy ss w q (in_target q))) (subtree_at (database ss (contents w) q) q.path) (contents w) (copied-alike ss w q (in_target q))

-- a step opens with the contents of the tree
pub contents-opened : (t : Tree) → contents (open_tree t) ≡ t
contents-opened t = mapped-back (λ p c. open_at p c) (λ x. x.content) (λ p c. refl) t
  where
    open_at : Path → Content → Worked
    open_at p c = record { content = c; origin = was (at_target p) }

-- a step settles to the contents of its working tree
pub tree_of-settle : (t : ℕ) (a : AgedTree) (w : Working) → tree_of (settle t a w) ≡ contents w
unfolding settle
tree_of-settle t a w = same_map (tree_of (settle t a w)) (contents w) (λ r.
    get-mapped (λ _ x. x.content) (settle t a w) r
    ∙ ap (option_map (λ (x : Aged). x.content)) (get-mapped (settled_at t a w) w r)
    ∙ settled r (keyed.get w r)
    ∙ sym (get-mapped (λ _ x. x.content) w r))
  where
    settled : (r : Path) (o : Option Worked) → option_map (λ (x : Aged). x.content) (option_map (settled_at t a w r) o) ≡ option_map (λ (x : Worked). x.content) o
    settled r None = refl
    settled r (Some x) = refl

-- a tree without a past is the tree
pub tree_of-aged : (t : Tree) → tree_of (start_aged t) ≡ t
tree_of-aged t = mapped-back (λ _ c. first c) (λ x. x.content) (λ p c. refl) t
  where
    first : Content → Aged
    first c = record { content = c; past = [] }
