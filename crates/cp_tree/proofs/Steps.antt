-- A tree is made of its rows one by one: each has its parent among those before it, is new, and is added as a leaf.
use Rattle.std.specs.Prelude.{◌≡◌, true, false, cond, List, [], ◌∷◌, ◌++◌, is_some, refl}
use Rattle.std.proofs.Common.{sym, ap, ◌∙◌, T}
use Rattle.std.specs.declared.option.Option.{Option}
use Rattle.std.specs.declared.option.Option.TheVariants.{None, Some}
use Rattle.std.specs.declared.cmp.Ordering.TheVariants.{Less}
use Rattle.std.specs.Ordering.{is_eq, is_lt}
use Rattle.std.specs.FinMap.Entries.{is_sorted, below_all}
use Rattle.cp_model.specs.declared.row.Content.{Content}
use Rattle.cp_model.specs.declared.row.Content.TheVariants.{Node}
use Rattle.cp_model.specs.Place.{Label, Path, path_cmp, path_eq, child, strip, or_else}
use Rattle.cp_path.proofs.Same.{path_eq-same}
use Rattle.cp_path.specs.PathOrder.{path_eq_equiv, path_ties, path_total}
use Rattle.cp_model.proofs.KeyedLemmas.{same_map}
use Rattle.cp_model.specs.Keyed as keyed
use Rattle.cp_model.specs.Keyed.{look}
use Rattle.cp_model.specs.Subtrees.{with_subtree, is_there}
use Rattle.cp_model.specs.Tree.{IsRooted}
use Rattle.cp_model.specs.History.{IsLiteral}
use Rattle.cp_model.proofs.Strips.{strip_is, strip-itself, append-nil}
use Rattle.cp_model.specs.Laws.{at_rest_or}
use Rattle.cp_model.proofs.Lookups.{find-from_entries, get-replaced, rest_is, path_eq-append, path_eq-sym, or_none}
use Rattle.cp_model.proofs.Sorted.{parts_of, path_cmp-append, root-first}
use Rattle.cp_tree.proofs.Rising.{less_is, less_mid, less_all}
use Rattle.cp_tree.specs.Rows.{root_entries}

-- a place comes before its children
pub before_child : (p : Path) (a : Label) → path_cmp p (child p a) ≡ Less
before_child p a = ap (λ q. path_cmp q (child p a)) (sym (append-nil p)) ∙ path_cmp-append p [] (a ∷ [])

-- in one list and then in another
pub look_append : {X : Type 0} (q : Path) (es fs : List (Path × X)) → look q (es ++ fs) ≡ or_else (look q es) (look q fs)
look_append q [] fs = refl
look_append {X = X} q (e ∷ es) fs = elim (path_eq q e.0) as (λ b. cond b (Some e.1) (look q (es ++ fs)) ≡ or_else (cond b (Some e.1) (look q es)) (look q fs)) [ true ↦ refl | false ↦ look_append q es fs ]

look_above : {X : Type 0} (q : Path) (es : List (Path × X)) → T (below_all path_cmp q es) → look q es ≡ None
look_above q [] h = refl
look_above q (e ∷ es) h =
    let p = parts_of (is_lt (path_cmp q e.0)) (below_all path_cmp q es) h in
    ap (λ b. cond b (Some e.1) (look q es)) (path_ties q e.0 ∙ ap is_eq (less_is (path_cmp q e.0) p.0)) ∙ look_above q es p.1

not_less : (s : Path) → path_cmp s [] ≡ Less → true ≡ false
not_less [] e = absurd (cc)
not_less (a ∷ s) e = absurd (cc)

-- the rows f come before that of c at the child a of p, and the rows g after it
module _ (f : List (Path × Content)) (p : Path) (a : Label) (c : Content) (g : List (Path × Content)) (s : T (is_sorted path_cmp (f ++ (child p a, c) ∷ g))) where
  missing : (l : List (Path × Content)) (r z : Path) → strip (child p a) r ≡ Some z → T (is_sorted path_cmp (l ++ (child p a, c) ∷ g)) → look r l ≡ None
  missing [] r z e t = refl
  missing (y ∷ l) r z e t =
      let q = parts_of (below_all path_cmp y.0 (l ++ (child p a, c) ∷ g)) (is_sorted path_cmp (l ++ (child p a, c) ∷ g)) t in
      let lt : path_cmp y.0 (child p a) ≡ Less = less_mid path_cmp path_total y.0 l (child p a, c) g q.0 in
      elim (path_eq r y.0) as (λ b. path_eq r y.0 ≡ b → cond b (Some y.1) (look r l) ≡ None) [
        | false ↦ λ _. missing l r z e q.1
        | true ↦ λ t.
            let at : y.0 ≡ child p a ++ z = sym (path_eq-same r y.0 t) ∙ strip_is (child p a) r z e in
            let is : path_cmp z [] ≡ Less = sym (path_cmp-append (child p a) z []) ∙ ap (path_cmp (child p a ++ z)) (append-nil (child p a)) ∙ ap (λ w. path_cmp w (child p a)) (sym at) ∙ lt in
            absurd (let no = not_less z is in cc)
      ] refl

  -- the row is new
  pub row_is_new : is_there (keyed.from_entries f) (child p a) ≡ false
  row_is_new = ap is_some (find-from_entries f (child p a) ∙ missing f (child p a) [] (strip-itself (child p a)) s)

  -- with it there is one leaf more
  pub row_added : keyed.from_entries (f ++ (child p a, c) ∷ []) ≡ with_subtree (child p a) (root_entries c) (keyed.from_entries f)
  row_added = same_map (keyed.from_entries (f ++ (child p a, c) ∷ [])) (with_subtree (child p a) (root_entries c) (keyed.from_entries f)) (λ r.
      find-from_entries (f ++ (child p a, c) ∷ []) r
      ∙ look_append r f ((child p a, c) ∷ [])
      ∙ ap (λ b. or_else (look r f) (cond b (Some c) None)) (same_as r)
      ∙ cases r (strip (child p a) r) refl
      ∙ ap (at_rest_or (strip (child p a) r) (λ z. look z (root_entries c))) (sym (find-from_entries f r))
      ∙ sym (get-replaced (child p a) (root_entries c) (keyed.from_entries f) r))
    where
      same_as : (r : Path) → path_eq r (child p a) ≡ rest_is (strip (child p a) r) []
      same_as r = path_eq-sym r (child p a) ∙ ap (λ q. path_eq q r) (sym (append-nil (child p a))) ∙ path_eq-append (child p a) [] r

      cases : (r : Path) (o : Option Path) → strip (child p a) r ≡ o → or_else (look r f) (cond (rest_is o []) (Some c) None) ≡ at_rest_or o (λ z. look z (root_entries c)) (look r f)
      cases r None e = or_none (look r f)
      cases r (Some z) e = ap (λ o. or_else o (cond (path_eq [] z) (Some c) None)) (missing f r z e s) ∙ ap (λ b. cond b (Some c) None) (path_eq-sym [] z)

  -- its parent is there already, and a node
  pub parent_there : IsRooted (keyed.from_entries (f ++ (child p a, c) ∷ g)) → keyed.get (keyed.from_entries f) p ≡ Some Node
  parent_there t =
      let rest : T (below_all path_cmp (child p a) g) = behind f s in
      let none : look p ((child p a, c) ∷ g) ≡ None = ap (λ b. cond b (Some c) (look p g)) (path_ties p (child p a) ∙ ap is_eq (before_child p a)) ∙ look_above p g (less_all path_cmp path_total p (child p a) g (before_child p a) rest) in
      let here : is_there (keyed.from_entries (f ++ (child p a, c) ∷ g)) (child p a) ≡ true = ap is_some (find-from_entries (f ++ (child p a, c) ∷ g) (child p a) ∙ look_append (child p a) f ((child p a, c) ∷ g)) ∙ there (look (child p a) f) in
      find-from_entries f p ∙ sym (or_none (look p f)) ∙ ap (or_else (look p f)) (sym none) ∙ sym (look_append p f ((child p a, c) ∷ g)) ∙ sym (find-from_entries (f ++ (child p a, c) ∷ g) p) ∙ t.parents p a here
    where
      behind : (l : List (Path × Content)) → T (is_sorted path_cmp (l ++ (child p a, c) ∷ g)) → T (below_all path_cmp (child p a) g)
      behind [] t = (parts_of (below_all path_cmp (child p a) g) (is_sorted path_cmp g) t).0
      behind (y ∷ l) t = behind l (parts_of (below_all path_cmp y.0 (l ++ (child p a, c) ∷ g)) (is_sorted path_cmp (l ++ (child p a, c) ∷ g)) t).1

      there : (o : Option Content) → is_some (or_else o (look (child p a) ((child p a, c) ∷ g))) ≡ true
      there None = ap (λ b. is_some (cond b (Some c) (look (child p a) g))) (path_eq_equiv.refl (child p a))
      there (Some x) = refl

-- the first row of a whole tree is its root
pub first_is_root : (r : Path × Content) (rows : List (Path × Content)) → IsLiteral (r ∷ rows) → r.0 ≡ []
first_is_root r rows h = root r.0 (sym (ap is_some (find-from_entries (r ∷ rows) [])) ∙ h.rooted.root)
  where
    after : look [] rows ≡ None
    after = root-first r.0 rows (parts_of (below_all path_cmp r.0 rows) (is_sorted path_cmp rows) h.sorted).0

    root : (q : Path) → is_some (cond (path_eq [] q) (Some r.1) (look [] rows)) ≡ true → q ≡ []
    root [] e = refl
    root (b ∷ q) e = absurd (let no = ap is_some after in cc)

-- and no other is
pub others_below : (f : List (Path × Content)) (r : Path × Content) (g : List (Path × Content)) (x : Path × Content) → T (is_sorted path_cmp (x ∷ f ++ r ∷ g)) → r.0 ≡ [] → true ≡ false
others_below f r g x s e =
    let lt : path_cmp x.0 r.0 ≡ Less = less_mid path_cmp path_total x.0 f r g (parts_of (below_all path_cmp x.0 (f ++ r ∷ g)) (is_sorted path_cmp (f ++ r ∷ g)) s).0 in
    not_less x.0 (ap (path_cmp x.0) (sym e) ∙ lt)
