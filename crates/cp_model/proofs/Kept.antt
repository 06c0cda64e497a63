-- What isn't refused keeps a tree a tree.
use Rattle.cp_path.specs.declared.limits.TheConstants.{LABEL_MAX, TEXT_MAX}
use Rattle.std.specs.Prelude.{ℕ, ◌≤◌, ◌≡◌, Bool, true, false, cond, ◌||◌, List, [], ◌∷◌, ◌++◌, is_some, refl}
use Rattle.std.proofs.Common.{sym, ap, subst, ◌∙◌, arith}
use Rattle.std.specs.List.{list_any}
use Rattle.std.specs.declared.option.Option.{Option}
use Rattle.std.specs.declared.option.Option.TheVariants.{None, Some}
use Rattle.cp_path.specs.declared.loc.Loc.{Loc}
use Rattle.cp_model.specs.declared.row.Content.{Content}
use Rattle.cp_model.specs.declared.op.Op.{Op}
use Rattle.cp_model.specs.declared.op.Op.TheVariants.{Ins, Del, Copy}
use Rattle.cp_model.specs.Place.{Label, Path, path_eq, child, in_target, at_target, target, below_place, over_limit, strip}
use Rattle.cp_path.proofs.Same.{path_eq-same, text_eq-same}
use Rattle.cp_model.specs.Keyed as keyed
use Rattle.cp_model.specs.Keyed.{look}
use Rattle.cp_model.specs.Closed.{Closed}
use Rattle.cp_model.specs.Subtrees.{is_there, below, without, with_subtree}
use Rattle.cp_model.specs.Literals.{literal_rows}
use Rattle.cp_model.specs.Tree.{Tree, Source, source, database, subtree_at, refusal, tree_after, reaches_over, text_bytes, last_bytes, CanBeSpelled, IsWithin, IsRooted, IsTree}
use Rattle.cp_model.specs.Step.{Working, contents, done, step}
use Rattle.cp_model.specs.History.{IsWritten, AreWritten}
use Rattle.cp_model.proofs.Strips.{strip_is}
use Rattle.cp_model.specs.Laws.{at_rest_or, AreTrees}
use Rattle.cp_model.proofs.Lookups.{get-without, get-replaced}
use Rattle.cp_model.proofs.SumsLemmas.{len-without, weight-without, last_bytes_child}
use Rattle.cp_model.proofs.Accepted.{ins_accepted, copy_accepted}
use Rattle.cp_model.proofs.Contents.{contents-applied, contents-opened, there-contents}
use Rattle.cp_model.proofs.Folds.{step-keeps}
use Rattle.cp_model.proofs.Rooted.{IsUnderNode, AreRows, under-there, under-child, rooted-replaced, rooted-without, rows-below, rows-literal, last_bytes-parts}

or_false : (a b : Bool) → (a || b) ≡ false → (a ≡ false) × (b ≡ false)
or_false true b e = absurd (cc)
or_false false b e = (refl, e)

-- what no entry passes, the entry that is found doesn't pass
pub none_passes : {X : Type 0} (f : Path × X → Bool) (es : List (Path × X)) → list_any f es ≡ false → (s : Path) (x : X) → look s es ≡ Some x → f (s, x) ≡ false
none_passes f [] n s x e = absurd (cc)
none_passes {X = X} f (e ∷ es) n s x h =
    elim (path_eq s e.0) as (λ b. path_eq s e.0 ≡ b → cond b (Some e.1) (look s es) ≡ Some x → f (s, x) ≡ false) [
      | true ↦ λ k h. here (path_eq-same s e.0 k) h
      | false ↦ λ _ h. none_passes f es (or_false (f e) (list_any f es) n).1 s x h
    ] refl h
  where
    here : s ≡ e.0 → Some e.1 ≡ Some x → f (s, x) ≡ false
    here k h = let v : e.1 ≡ x = cc in ap (λ y. f (s, y)) (sym v) ∙ ap (λ q. f (q, e.1)) k ∙ (or_false (f e) (list_any f es) n).0

-- rows that reach over no limit leave the places within the limits
pub places-replaced : (t : Tree) (p : Loc) (es : List (Path × Content)) → ((r : Path) → is_there t r ≡ true → over_limit (at_target r) ≡ false) →
    in_target p ≡ true → reaches_over p es ≡ false → (r : Path) → is_there (with_subtree p.path es t) r ≡ true → over_limit (at_target r) ≡ false
places-replaced t p es h i n r j =
    elim (strip p.path r) as (λ o. strip p.path r ≡ o → is_some (at_rest_or o (λ s. look s es) (keyed.get t r)) ≡ true → over_limit (at_target r) ≡ false) [
      | None ↦ λ _ j. h r j
      | Some s ↦ λ k j. at s k (look s es) refl j
    ] refl (ap is_some (sym (get-replaced p.path es t r)) ∙ j)
  where
    at : (s : Path) → strip p.path r ≡ Some s → (o : Option Content) → look s es ≡ o → is_some o ≡ true → over_limit (at_target r) ≡ false
    at s k None e j = absurd (cc)
    at s k (Some c) e j =
        ap (λ q. over_limit (at_target q)) (strip_is p.path r s k)
        ∙ ap (λ (d : List ℕ). over_limit (record { db = d; path = p.path ++ s })) (sym (text_eq-same p.db target i))
        ∙ none_passes (λ e. over_limit (below_place p e.0)) es n s c e

-- texts within their limit put into a tree leave its texts within theirs
pub texts-replaced : (t : Tree) (p : Path) (es : List (Path × Content)) → ((r : Path) (c : Content) → keyed.get t r ≡ Some c → text_bytes c ≤ TEXT_MAX) →
    AreRows es → (r : Path) (c : Content) → keyed.get (with_subtree p es t) r ≡ Some c → text_bytes c ≤ TEXT_MAX
texts-replaced t p es h d r c e =
    elim (strip p r) as (λ o. at_rest_or o (λ s. look s es) (keyed.get t r) ≡ Some c → text_bytes c ≤ TEXT_MAX) [
      | None ↦ λ e. h r c e
      | Some s ↦ λ e. d.texts s c e
    ] (sym (get-replaced p es t r) ∙ e)

-- what can be spelled, put into a tree at a place with a short label, leaves what can be spelled
pub spelled-replaced : (t : Tree) (p : Path) (es : List (Path × Content)) → ((r : Path) (c : Content) → keyed.get t r ≡ Some c → CanBeSpelled r c) →
    AreRows es → last_bytes p ≤ LABEL_MAX → (r : Path) (c : Content) → keyed.get (with_subtree p es t) r ≡ Some c → CanBeSpelled r c
spelled-replaced t p es h d l r c e =
    elim (strip p r) as (λ o. strip p r ≡ o → at_rest_or o (λ s. look s es) (keyed.get t r) ≡ Some c → CanBeSpelled r c) [
      | None ↦ λ _ e. h r c e
      | Some s ↦ λ k e.
          let x : CanBeSpelled s c = d.spelled s c e in
          let y : CanBeSpelled (p ++ s) c = record { label = last_bytes-parts LABEL_MAX p s l x.label; number = x.number } in
          subst (λ q. CanBeSpelled q c) (sym (strip_is p r s k)) y
    ] refl (sym (get-replaced p es t r) ∙ e)

-- the label of a place that is there is short
pub label-there : (t : Tree) (p : Path) → IsTree t → is_there t p ≡ true → last_bytes p ≤ LABEL_MAX
label-there t p h i =
    elim (keyed.get t p) as (λ o. keyed.get t p ≡ o → is_some o ≡ true → last_bytes p ≤ LABEL_MAX) [
      | None ↦ λ _ i. absurd (cc)
      | Some c ↦ λ e _. (h.spelled p c e).label
    ] refl i

-- a whole tree within every limit put under a node leaves a tree
pub tree-replaced : (t : Tree) (p : Loc) (es : List (Path × Content)) → IsTree t → AreRows es → IsUnderNode t p.path → last_bytes p.path ≤ LABEL_MAX → in_target p ≡ true → reaches_over p es ≡ false → IsWithin (with_subtree p.path es t) → IsTree (with_subtree p.path es t)
tree-replaced t p es h d up l i n w = record {
  rooted = rooted-replaced t p.path es h.rooted d up;
  within = w;
  places = places-replaced t p es h.places i n;
  texts = texts-replaced t p.path es h.texts d;
  spelled = spelled-replaced t p.path es h.spelled d l;
}

-- what is left of a tree is as it was
pub left-without : (t : Tree) (p r : Path) (c : Content) → keyed.get (without p t) r ≡ Some c → keyed.get t r ≡ Some c
left-without t p r c e =
    elim (strip p r) as (λ o. at_rest_or o (λ _. None) (keyed.get t r) ≡ Some c → keyed.get t r ≡ Some c) [
      | None ↦ λ e. e
      | Some s ↦ λ e. absurd (cc)
    ] (sym (get-without p t r) ∙ e)

-- a subtree dropped leaves a tree
pub tree-without : (t : Tree) (p : Path) (a : Label) → IsTree t → IsTree (without (child p a) t)
tree-without t p a h = record {
  rooted = rooted-without t p a h.rooted;
  within = record { nodes = omega (arith, h.within.nodes, len-without (child p a) t); weighs = omega (arith, h.within.weighs, weight-without (child p a) t) };
  places = λ r i. was_there r (keyed.get (without (child p a) t) r) refl i;
  texts = λ r c e. h.texts r c (left-without t (child p a) r c e);
  spelled = λ r c e. h.spelled r c (left-without t (child p a) r c e);
}
  where
    was_there : (r : Path) (o : Option Content) → keyed.get (without (child p a) t) r ≡ o → is_some o ≡ true → over_limit (at_target r) ≡ false
    was_there r None e i = absurd (cc)
    was_there r (Some c) e i = h.places r (ap is_some (left-without t (child p a) r c e))

-- the database of a place is a tree
pub tree-database : (ss : List Source) (t : Tree) (q : Loc) (s : Tree) → IsTree t → AreTrees ss → database ss t q ≡ Some s → IsTree s
tree-database ss t q s h k e =
    elim (in_target q) as (λ b. cond b (Some t) (source ss q.db) ≡ Some s → IsTree s) [
      | true ↦ λ e. let d : t ≡ s = cc in subst IsTree d h
      | false ↦ λ e. k.trees q.db s e
    ] e

-- an operation that isn't refused changes a tree into a tree
pub tree-changed : (ss : List Source) (t : Tree) (op : Op) → IsTree t → AreTrees ss → IsWritten op → refusal ss t op ≡ None → IsTree (tree_after ss t op)
unfolding tree_after
tree-changed ss t (Ins p a l) h k w n =
    let x = ins_accepted ss t p a l n in
    tree-replaced t (below_place p (a ∷ [])) (literal_rows l) h (rows-literal (literal_rows l) w.1) (under-child t p.path a x.node) (omega (arith, last_bytes_child p.path a, w.0)) x.target x.places x.fits
tree-changed ss t (Del a p) h k w n = tree-without t p.path a h
tree-changed ss t (Copy q p) h k w n =
    let x = copy_accepted ss t q p n in
    let m : AreRows (below q.path x.tree) = rows-below x.tree q.path (tree-database ss t q x.tree h k x.is_tree) x.origin in
    subst (λ o. IsTree (with_subtree p.path (subtree_at o q.path) t)) (sym x.is_tree) (tree-replaced t p (below q.path x.tree) h m (under-there t p.path h.rooted x.there) (label-there t p.path h x.there) x.target x.places x.fits)

-- a step that is done ends with a tree
pub tree-step : (t : Tree) (ss : List Source) (ops : List Op) (k : ℕ) (w : Working) → IsTree t → AreTrees ss → AreWritten ops → step t ss ops ≡ done k w → IsTree (contents w)
tree-step t ss ops k w h s a e =
    step-keeps ss (λ v. IsTree (contents v)) (λ v op b n i. subst IsTree (sym (contents-applied ss v op)) (tree-changed ss (contents v) op i s b n)) t ops k w a
    (subst IsTree (sym (contents-opened t)) h) e

-- the places of a tree are closed upwards
pub closed-tree : (t : Tree) → IsRooted t → Closed (keyed.get t)
closed-tree t h = record { root = h.root; parents = λ r a i. ap is_some (h.parents r a i) }

-- where the contents are rooted the working tree is closed upwards
pub closed-working : (w : Working) → IsRooted (contents w) → Closed (keyed.get w)
closed-working w h = record {
  root = sym (there-contents w []) ∙ h.root;
  parents = λ r a i. sym (there-contents w r) ∙ ap is_some (h.parents r a (there-contents w (r ++ a ∷ []) ∙ i));
}

-- a step that is done ends with a working tree that is closed upwards
pub closed-step : (t : Tree) (ss : List Source) (ops : List Op) (k : ℕ) (w : Working) → IsTree t → AreTrees ss → AreWritten ops → step t ss ops ≡ done k w → Closed (keyed.get w)
closed-step t ss ops k w h s a e = closed-working w (tree-step t ss ops k w h s a e).rooted
