-- What a step at a root or below one of its edges does to its tree.
use Rattle.std.specs.Prelude.{◌≡◌, true, List, [], ◌∷◌, Result, Ok, Err, OnOk, OnErr, is_some}
use Rattle.std.proofs.Common.{sym, ap, subst, ◌∙◌}
use Rattle.std.specs.declared.option.Option.TheVariants.{None, Some}
use Rattle.std.specs.Map.{lookup, set_value, remove_entry}
use Rattle.std.specs.BTreeMap.{is_at, insert_entry}
use Rattle.cp_path.specs.Text.{text_cmp}
use Rattle.cp_model.specs.declared.row.Content.{Content}
use Rattle.cp_model.specs.declared.row.Content.TheVariants.{Node}
use Rattle.cp_model.specs.Place.{Label, Path, child}
use Rattle.cp_model.proofs.KeyedLemmas.{get-entries, same_map}
use Rattle.cp_model.specs.Keyed as keyed
use Rattle.cp_model.specs.Subtrees.{without, with_subtree, is_there}
use Rattle.cp_model.proofs.Lookups.{get-replaced}
use Rattle.cp_model.specs.Tree.{Tree, IsRooted}
use Rattle.cp_tree.specs.Branch.{branch, sub}
use Rattle.cp_tree.proofs.BranchLemmas.{sub-root}
use Rattle.cp_tree.specs.Good.{IsGood}
use Rattle.cp_tree.proofs.GoodLemmas.{IsNow, rooted-branch, changed_here, changed_below, dropped_here, dropped_below, get_below, get_nothing, sub_below}
use Rattle.cp_tree_box.proofs.Maps.{looked, insert-put, remove-without, written, rewritten}

-- what is put at the root is the whole
pub replaced-root : (n m : Tree) → with_subtree [] (keyed.entries n) m ≡ n
replaced-root n m = same_map (with_subtree [] (keyed.entries n) m) n (λ r. get-replaced [] (keyed.entries n) m r ∙ sym (get-entries n r))

-- after a call that may fail: the tree t, or m as before
pub record Stepped {E : Type 0} (r : Result (Unit {0}) E) (x : Content) (fs : List (Label × Tree)) (m t : Tree) : Type 0 where
  pub good : IsGood x fs
  pub ok : OnOk r (branch x fs ≡ t)
  pub err : OnErr r (branch x fs ≡ m)

-- the root x with its edges es is the tree m
module _ (m : Tree) (x : Content) (es : List (Label × Tree)) (view : branch x es ≡ m) (g : IsGood x es) where
  -- it is rooted
  pub rooted_view : IsRooted m
  rooted_view = subst IsRooted view (rooted-branch x es g)

  -- a subtree put at a label
  pub put_here : (fs : List (Label × Tree)) (p : Path) (a : Label) (n : Tree) → p ≡ [] → keyed.get m p ≡ Some Node → IsRooted n → fs ≡ insert_entry text_cmp es a n → IsNow x fs (with_subtree (child p a) (keyed.entries n) m)
  put_here fs p a n e node r is =
      subst (λ q. IsNow x fs (with_subtree (child q a) (keyed.entries n) m)) (sym e)
      (changed_here m x es fs a view g n (ap (keyed.get m) (sym e) ∙ node) r (sym (insert-put a n es) ∙ sym is))

  -- a subtree taken out
  pub cut_here : (fs : List (Label × Tree)) (p : Path) (a : Label) → p ≡ [] → fs ≡ remove_entry (is_at (text_cmp a)) es → IsNow x fs (without (child p a) m)
  cut_here fs p a e is = subst (λ q. IsNow x fs (without (child q a) m)) (sym e) (dropped_here m x es fs a view g (sym (remove-without a es g.sorted) ∙ sym is))

  -- the subtree at a label
  pub child_here : (p : Path) (a : Label) (k : Tree) → p ≡ [] → Some k ≡ lookup (is_at (text_cmp a)) es → k ≡ sub m (child p a)
  child_here p a k e f = subst (λ q. k ≡ sub m (child q a)) (sym e) (sym (sub_below m x es es a view g [] k (looked a es (Some k) f) ∙ sub-root k))

  -- where no edge is found nothing is there
  pub nothing : (p : Path) (b : Label) (q : Path) → p ≡ b ∷ q → None ≡ lookup (is_at (text_cmp b)) es → keyed.get m p ≡ None
  nothing p b q e f = ap (keyed.get m) e ∙ get_nothing m x es es b view g q (looked b es None f)

  pub no_node : (p : Path) (b : Label) (q : Path) → p ≡ b ∷ q → None ≡ lookup (is_at (text_cmp b)) es → keyed.get m p ≡ Some Node → ⊥
  no_node p b q e f node = (let none = nothing p b q e f in absurd (cc))

  pub not_there : (p : Path) (b : Label) (q : Path) → p ≡ b ∷ q → None ≡ lookup (is_at (text_cmp b)) es → is_there m p ≡ true → ⊥
  not_there p b q e f t = (let none = ap is_some (nothing p b q e f) in absurd (cc))

  -- the tree k at the edge b becomes n, at a place below
  module _ (p : Path) (b : Label) (q : Path) (k : Tree) (e : p ≡ b ∷ q) (f : Some k ≡ lookup (is_at (text_cmp b)) es) where
    -- what stands there
    pub got_below : keyed.get m p ≡ keyed.get k q
    got_below = ap (keyed.get m) e ∙ get_below m x es es b view g q k (looked b es (Some k) f)

    -- and whether
    pub there_below : is_there m p ≡ true → is_there k q ≡ true
    there_below t = sym (ap is_some got_below) ∙ t

    -- the subtree there
    pub had_below : sub m p ≡ sub k q
    had_below = ap (sub m) e ∙ sub_below m x es es b view g q k (looked b es (Some k) f)

    module _ (fs : List (Label × Tree)) (n : Tree) (w : fs ≡ set_value (is_at (text_cmp b)) es n) (r : IsRooted n) where
      -- a subtree put there
      pub put_below : (rows : List (Path × Content)) → n ≡ with_subtree q rows k → IsNow x fs (with_subtree p rows m)
      put_below rows is =
          subst (λ z. IsNow x fs (with_subtree z rows m)) (sym e)
          (changed_below m x es fs b view g q rows k n (looked b es (Some k) f) r is (written b n k es fs g.sorted (looked b es (Some k) f) w))

      -- what was there taken out
      pub cut_below : n ≡ without q k → IsNow x fs (without p m)
      cut_below is =
          subst (λ z. IsNow x fs (without z m)) (sym e)
          (dropped_below m x es fs b view g q k n (looked b es (Some k) f) r is (written b n k es fs g.sorted (looked b es (Some k) f) w))

      -- a subtree put there by a call that may fail
      pub tried_below : {E : Type 0} (o : Result (Unit {0}) E) (rows : List (Path × Content)) → OnOk o (n ≡ with_subtree q rows k) → OnErr o (n ≡ k) → Stepped o x fs m (with_subtree p rows m)
      tried_below (Ok u) rows ok err = (let now = put_below rows ok in record { good = now.good; ok = now.is; err = tt })
      tried_below (Err y) rows ok err =
          let same_edges : fs ≡ es = rewritten b n k es fs g.sorted (looked b es (Some k) f) w err in
          record { good = subst (IsGood x) (sym same_edges) g; ok = tt; err = ap (branch x) same_edges ∙ view }

  -- with the same edges it is rooted still
  pub whole_as : (fs : List (Label × Tree)) → fs ≡ es → IsRooted (branch x fs)
  whole_as fs e = subst (λ zs. IsRooted (branch x zs)) (sym e) (rooted-branch x es g)
