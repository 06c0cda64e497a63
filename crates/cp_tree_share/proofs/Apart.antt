-- A rooted tree, taken apart into its root and the edges below it.
use Rattle.std.specs.Prelude.{◌≡◌, true, false, cond, Bool, ◌&&◌, List, [], ◌∷◌, is_some, refl}
use Rattle.std.proofs.Common.{sym, ap, ◌∙◌, T}
use Rattle.std.specs.declared.option.Option.{Option}
use Rattle.std.specs.declared.option.Option.TheVariants.{None, Some}
use Rattle.std.specs.declared.cmp.Ordering.{Ordering}
use Rattle.std.specs.declared.cmp.Ordering.TheVariants.{Less, Equal, Greater}
use Rattle.std.specs.Ordering.{is_eq, is_lt, ordering_then}
use Rattle.std.specs.Cmp.{tied_itself}
use Rattle.std.specs.Cmp.Lexicographic.{texts_ties}
use Rattle.std.specs.FinMap.Entries.{find, is_sorted, below_all}
use Rattle.cp_path.specs.Text.{text_cmp}
use Rattle.cp_path.specs.PathOrder.{path_eq_equiv}
use Rattle.cp_path.proofs.Same.{text_eq-same}
use Rattle.cp_model.specs.declared.row.Content.{Content}
use Rattle.cp_model.specs.declared.row.Content.TheVariants.{Node, Leaf}
use Rattle.cp_model.specs.Place.{Label, Path, path_cmp, path_eq, label_eq, child, option_map}
use Rattle.cp_model.specs.Keyed as keyed
use Rattle.cp_model.specs.Keyed.{look}
use Rattle.cp_model.specs.Subtrees.{is_there}
use Rattle.cp_model.specs.Tree.{Tree, IsRooted}
use Rattle.cp_model.proofs.KeyedLemmas.{get-entries, same_map}
use Rattle.cp_model.proofs.Sorted.{parts_of, all_of, sorted-entries}
use Rattle.cp_model.proofs.Strips.{path_ind}
use Rattle.cp_tree.specs.Branch.{branch, sub}
use Rattle.cp_tree.specs.Good.{AllRooted, IsBare, IsGood}
use Rattle.cp_tree.proofs.BranchLemmas.{label_total, get_in, get-sub, get-branch_root, get-branch_child}
use Rattle.cp_tree_share.specs.Siblings.{Edges}

-- the root and the edges of a tree
pub record IsApart (t : Tree) : Type 0 where
  pub root : Content
  pub edges : Edges
  pub good : IsGood root edges
  pub is : branch root edges ≡ t

less_alone : (o : Ordering) → T (is_lt (ordering_then o Equal)) → T (is_lt o)
less_alone Less h = tt
less_alone Equal h = absurd h
less_alone Greater h = absurd h

later : (b : Bool) (c : Content) (o : Option Content) → is_some o ≡ true → is_some (cond b (Some c) o) ≡ true
later true c o i = refl
later false c o i = i

-- an edge for each row of one label
module _ (f : Label → Tree) where
  abbrev edges_in : List (Path × Content) → Edges
  edges_in [] = []
  edges_in (([], c) ∷ rows) = edges_in rows
  edges_in ((a ∷ [], c) ∷ rows) = (a, f a) ∷ edges_in rows
  edges_in ((a ∷ b ∷ p, c) ∷ rows) = edges_in rows

  above : (a : Label) (rows : List (Path × Content)) → T (below_all path_cmp (a ∷ []) rows) → T (below_all text_cmp a (edges_in rows))
  above a [] h = tt
  above a (([], c) ∷ rows) h = above a rows (parts_of (is_lt (path_cmp (a ∷ []) [])) (below_all path_cmp (a ∷ []) rows) h).1
  above a ((b ∷ [], c) ∷ rows) h = let p = parts_of (is_lt (path_cmp (a ∷ []) (b ∷ []))) (below_all path_cmp (a ∷ []) rows) h in all_of _ _ (less_alone (text_cmp a b) p.0) (above a rows p.1)
  above a ((b ∷ d ∷ q, c) ∷ rows) h = above a rows (parts_of (is_lt (path_cmp (a ∷ []) (b ∷ d ∷ q))) (below_all path_cmp (a ∷ []) rows) h).1

  rising : (rows : List (Path × Content)) → T (is_sorted path_cmp rows) → T (is_sorted text_cmp (edges_in rows))
  rising [] s = tt
  rising (([], c) ∷ rows) s = rising rows (parts_of (below_all path_cmp [] rows) (is_sorted path_cmp rows) s).1
  rising ((a ∷ [], c) ∷ rows) s = let p = parts_of (below_all path_cmp (a ∷ []) rows) (is_sorted path_cmp rows) s in all_of _ _ (above a rows p.0) (rising rows p.1)
  rising ((a ∷ b ∷ q, c) ∷ rows) s = rising rows (parts_of (below_all path_cmp (a ∷ b ∷ q) rows) (is_sorted path_cmp rows) s).1

  -- an edge is found where its row is there
  found : (a : Label) (rows : List (Path × Content)) → find text_cmp a (edges_in rows) ≡ option_map (λ _. f a) (look (a ∷ []) rows)
  found a [] = refl
  found a (([], c) ∷ rows) = found a rows
  found a ((b ∷ [], c) ∷ rows) =
      elim (label_eq a b) as (λ t. label_eq a b ≡ t → find text_cmp a ((b, f b) ∷ edges_in rows) ≡ option_map (λ _. f a) (cond (t && true) (Some c) (look (a ∷ []) rows))) [
        | true ↦ λ t. ap (λ z. cond z (Some (f b)) (find text_cmp a (edges_in rows))) (sym (texts_ties a b) ∙ t) ∙ ap (λ z. Some (f z)) (sym (text_eq-same a b t))
        | false ↦ λ t. ap (λ z. cond z (Some (f b)) (find text_cmp a (edges_in rows))) (sym (texts_ties a b) ∙ t) ∙ found a rows
      ] refl
  found a ((b ∷ d ∷ q, c) ∷ rows) = found a rows ∙ elim (label_eq a b) as (λ t. option_map (λ _. f a) (look (a ∷ []) rows) ≡ option_map (λ _. f a) (cond (t && false) (Some c) (look (a ∷ []) rows))) [ true ↦ refl | false ↦ refl ]

  all_rooted : (rows : List (Path × Content)) → ((a : Label) → is_some (look (a ∷ []) rows) ≡ true → IsRooted (f a)) → AllRooted (edges_in rows)
  all_rooted [] h = tt
  all_rooted (([], c) ∷ rows) h = all_rooted rows h
  all_rooted ((b ∷ [], c) ∷ rows) h =
      (h b (ap (λ z. is_some (cond z (Some c) (look (b ∷ []) rows))) (path_eq_equiv.refl (b ∷ []))), all_rooted rows (λ a i. h a (later (path_eq (a ∷ []) (b ∷ [])) c (look (a ∷ []) rows) i)))
  all_rooted ((b ∷ d ∷ q, c) ∷ rows) h = all_rooted rows (λ a i. h a (later (path_eq (a ∷ []) (b ∷ d ∷ q)) c (look (a ∷ []) rows) i))

-- ---- a tree

module _ (t : Tree) (h : IsRooted t) where
  abbrev at_label : Label → Tree
  at_label a = sub t (a ∷ [])

  abbrev edges_of : Edges
  edges_of = edges_in at_label (keyed.entries t)

  edge_found : (a : Label) → find text_cmp a edges_of ≡ option_map (λ _. at_label a) (keyed.get t (a ∷ []))
  edge_found a = found at_label a (keyed.entries t) ∙ ap (option_map (λ _. at_label a)) (sym (get-entries t (a ∷ [])))

  edge_rooted : (a : Label) → is_there t (a ∷ []) ≡ true → IsRooted (at_label a)
  edge_rooted a i = record {
    root = ap is_some (get-sub t (a ∷ []) []) ∙ i;
    parents = λ p b j. get-sub t (a ∷ []) p ∙ h.parents (a ∷ p) b (sym (ap is_some (get-sub t (a ∷ []) (child p b))) ∙ j);
  }

  -- above a place is one of one label
  top_there : (a : Label) (q : Path) → is_there t (a ∷ q) ≡ true → is_there t (a ∷ []) ≡ true
  top_there a q = path_ind (λ p. is_there t (a ∷ p) ≡ true → is_there t (a ∷ []) ≡ true) (λ i. i) (λ p b up i. up (ap is_some (h.parents (a ∷ p) b i))) q

  bare : (x : Content) → keyed.get t [] ≡ Some x → IsBare x edges_of
  bare Node e = tt
  bare (Leaf v) e = by edges_of refl
    where
      by : (es : Edges) → edges_of ≡ es → es ≡ []
      by [] k = refl
      by (y ∷ es) k = absurd (let here : find text_cmp y.0 edges_of ≡ Some y.1 = ap (find text_cmp y.0) k ∙ ap (λ z. cond (is_eq z) (Some y.1) (find text_cmp y.0 es)) (tied_itself label_total y.0) in no y.0 (keyed.get t (y.0 ∷ [])) refl (sym (edge_found y.0) ∙ here))
        where
          no : (a : Label) (o : Option Content) → keyed.get t (a ∷ []) ≡ o → option_map (λ _. at_label a) o ≡ Some y.1 → ⊥
          no a None k f = cc
          no a (Some c) k f = (let node = h.parents [] a (ap is_some k) in let two : Some (Leaf v) ≡ Some Node = sym e ∙ node in cc)

  same_get : (x : Content) → keyed.get t [] ≡ Some x → T (is_sorted text_cmp edges_of) → (q : Path) → keyed.get (branch x edges_of) q ≡ keyed.get t q
  same_get x e s [] = get-branch_root x edges_of ∙ sym e
  same_get x e s (a ∷ q) = get-branch_child x edges_of a q s ∙ ap (λ o. get_in o q) (edge_found a) ∙ by (keyed.get t (a ∷ [])) refl
    where
      none : (o : Option Content) → keyed.get t (a ∷ q) ≡ o → is_there t (a ∷ []) ≡ false → None ≡ o
      none None k f = refl
      none (Some c) k f = absurd (let top = top_there a q (ap is_some k) in let no : true ≡ false = sym top ∙ f in cc)

      by : (o : Option Content) → keyed.get t (a ∷ []) ≡ o → get_in (option_map (λ _. at_label a) o) q ≡ keyed.get t (a ∷ q)
      by None k = none (keyed.get t (a ∷ q)) refl (ap is_some k)
      by (Some c) k = get-sub t (a ∷ []) q

  with_root : (o : Option Content) → keyed.get t [] ≡ o → is_some o ≡ true → IsApart t
  with_root None e i = absurd (cc)
  with_root (Some x) e i =
      let s = rising at_label (keyed.entries t) (sorted-entries t) in
      record {
        root = x;
        edges = edges_of;
        good = record { sorted = s; bare = bare x e; trees = all_rooted at_label (keyed.entries t) (λ a j. edge_rooted a (ap is_some (get-entries t (a ∷ [])) ∙ j)) };
        is = same_map (branch x edges_of) t (same_get x e s);
      }

  -- a rooted tree is a root and its edges
  pub apart : IsApart t
  apart = with_root (keyed.get t []) refl h.root
