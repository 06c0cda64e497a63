-- Steps of walks over the edges below a root.
use Rattle.std.specs.Prelude.{◌≡◌, ℕ, ◌+◌, ◌≤◌, List, [], ◌∷◌, ◌++◌, IfSome, IfNone}
use Rattle.std.proofs.Common.{sym, ap, subst, ◌∙◌, T, arith, append_assoc, append-nil}
use Rattle.std.specs.declared.option.Option.{Option}
use Rattle.std.specs.declared.option.Option.TheVariants.{None, Some}
use Rattle.std.specs.Option.{option_copied}
use denote.Ref.{Bor}
use Rattle.std.specs.FinMap.Entries.{is_sorted}
use Rattle.std.specs.Map.{lookup}
use Rattle.std.specs.BTreeMap.{is_at, insert_entry}
use Rattle.cp_path.specs.Text.{text_cmp}
use Rattle.cp_model.specs.declared.row.Content.{Content}
use Rattle.cp_model.specs.Place.{Label, Path, child}
use Rattle.cp_model.specs.Keyed as keyed
use Rattle.cp_model.specs.Tree.{Tree, IsRooted}
use Rattle.cp_tree.specs.Branch.{branch, sub, children_len}
use Rattle.cp_tree.proofs.BranchLemmas.{label_total, get-sub, sub-root}
use Rattle.cp_tree.specs.Good.{IsGood}
use Rattle.cp_tree.proofs.GoodLemmas.{rooted_found, sub_below, get_nothing}
use Rattle.cp_tree.proofs.Rising.{put_end}
use Rattle.cp_tree.proofs.Totals.{len-branch}
use Rattle.cp_tree_box.proofs.Maps.{looked, insert-put}
use Rattle.cp_tree.proofs.Answering.{sub-child}

-- the child of a node that was found at p in m
module _ (m n : Tree) (x : Content) (es : List (Label × Tree)) (p : Path) (a : Label) (at : n ≡ sub m p) (view : branch x es ≡ n) (g : IsGood x es) where
  pub child_there : (o : Option (Bor Tree)) → option_copied o ≡ lookup (is_at (text_cmp a)) es → IfSome o (λ k. k.now ≡ sub m (child p a))
  child_there None e = tt
  child_there (Some k) e = sym (sub_below n x es es a view g [] k.now (looked a es (Some k.now) e) ∙ sub-root k.now) ∙ sub-child m n p a at

  pub child_rooted : (o : Option (Bor Tree)) → option_copied o ≡ lookup (is_at (text_cmp a)) es → IfSome o (λ k. IsRooted k.now)
  child_rooted None e = tt
  child_rooted (Some k) e = rooted_found a es k.now g.trees (looked a es (Some k.now) e)

  pub child_gone : (o : Option (Bor Tree)) → option_copied o ≡ lookup (is_at (text_cmp a)) es → IfNone o (keyed.get m (child p a) ≡ None)
  child_gone (Some k) e = tt
  child_gone None e =
      sym (get-sub m p (a ∷ [])) ∙ ap (λ z. keyed.get z (a ∷ [])) (sym at) ∙ get_nothing n x es es a view g [] (looked a es None e)

-- one edge more is copied
pub copied : (done new it rest all : List (Label × Tree)) (a b : Label) (k l : Tree) → T (is_sorted text_cmp all) → done ++ it ≡ all → it ≡ (a, k) ∷ rest → b ≡ a → l ≡ k →
    new ≡ insert_entry text_cmp done b l → new ++ rest ≡ all
copied done new it rest all a b k l s d i ea ek n =
    let whole : done ++ (a, k) ∷ rest ≡ all = ap (λ z. done ++ z) (sym i) ∙ d in
    let put_is : insert_entry text_cmp done b l ≡ done ++ (a, k) ∷ [] =
    ap (λ z. insert_entry text_cmp done z l) ea ∙ ap (insert_entry text_cmp done a) ek ∙ insert-put a k done ∙ put_end text_cmp label_total done (a, k) rest (subst (λ z. T (is_sorted text_cmp z)) (sym whole) s) in
    ap (λ z. z ++ rest) (n ∙ put_is) ∙ append_assoc done ((a, k) ∷ []) rest ∙ whole

-- the places below some edges are fewer than those of the tree
pub children_fewer : (m : Tree) (x : Content) (es its : List (Label × Tree)) → branch x es ≡ m → IsGood x es → its ≡ es → children_len its + 1 ≤ keyed.len m
children_fewer m x es its view g e = omega (arith, ap children_len e, ap keyed.len view, len-branch x es g.sorted)

-- and so are those below the others
pub still_fewer : (n : ℕ) (it rest : List (Label × Tree)) (a : Label) (k : Tree) → children_len it + 1 ≤ n → it ≡ (a, k) ∷ rest → children_len rest + 1 ≤ n
still_fewer n it rest a k h e = omega (arith, h, ap children_len e)

-- edges that are those of a good root rise
pub sorted_as : {all es : List (Label × Tree)} → all ≡ es → T (is_sorted text_cmp es) → T (is_sorted text_cmp all)
sorted_as e s = subst (λ z. T (is_sorted text_cmp z)) (sym e) s

-- a root with all its edges is copied
module _ (x y : Content) (es done it all : List (Label × Tree)) (c : y ≡ x) (a : all ≡ es) (i : it ≡ []) (h : done ++ it ≡ all) where
  edges_copied : done ≡ es
  edges_copied = sym (append-nil done) ∙ ap (λ z. done ++ z) (sym i) ∙ h ∙ a

  pub good_copy : IsGood x es → IsGood y done
  good_copy g = subst (λ z. IsGood z done) (sym c) (subst (IsGood x) (sym edges_copied) g)

  pub same_copy : branch y done ≡ branch x es
  same_copy = ap (λ z. branch z done) c ∙ ap (branch x) edges_copied
