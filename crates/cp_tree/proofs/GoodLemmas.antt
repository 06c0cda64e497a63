-- What keeps a tree rooted, seen from its root and its edges, and how a change at or below an edge keeps it.
use Rattle.std.specs.Prelude.{◌≡◌, Bool, not, true, false, cond, List, [], ◌∷◌, ◌++◌, is_some, refl}
use Rattle.std.proofs.Common.{sym, ap, subst, ◌∙◌}
use Rattle.std.specs.declared.option.Option.{Option}
use Rattle.std.specs.declared.option.Option.TheVariants.{None, Some}
use Rattle.std.specs.declared.cmp.Ordering.TheVariants.{Less, Equal, Greater}
use Rattle.std.specs.Ordering.{eq_by_cmp}
use Rattle.std.specs.FinMap.Entries.{find, put, where_key, by_order, is_sorted-put, is_sorted-where_key}
use Rattle.cp_path.specs.Text.{text_cmp}
use Rattle.cp_model.specs.declared.row.Content.{Content}
use Rattle.cp_model.specs.declared.row.Content.TheVariants.{Node, Leaf}
use Rattle.cp_model.specs.Place.{Label, Path, child}
use Rattle.cp_model.specs.Keyed as keyed
use Rattle.cp_model.specs.Subtrees.{without, with_subtree, is_there}
use Rattle.cp_model.specs.Tree.{Tree, IsRooted}
use Rattle.cp_tree.specs.Branch.{branch, sub, without_child}
use Rattle.cp_tree.proofs.BranchLemmas.{label_total, get_in, get-branch_root, get-branch_child, sub-branch, replaced_here, replaced_below, without_here, without_below}
use Rattle.cp_tree.specs.Good.{AllRooted, IsBare, IsGood}

rooted_where : (p : Label → Bool) (es : List (Label × Tree)) → AllRooted es → AllRooted (where_key text_cmp p es)
rooted_where p [] t = tt
rooted_where p (e ∷ es) t = elim (p e.0) as (λ b. AllRooted (cond b (e ∷ where_key text_cmp p es) (where_key text_cmp p es))) [ true ↦ (t.0, rooted_where p es t.1) | false ↦ rooted_where p es t.1 ]

-- an edge dropped
pub good_without : (x : Content) (es : List (Label × Tree)) (a : Label) → IsGood x es → IsGood x (without_child a es)
good_without x es a g = record {
  sorted = is_sorted-where_key text_cmp (λ b. not (eq_by_cmp text_cmp a b)) es g.sorted;
  bare = bare x g.bare;
  trees = rooted_where (λ b. not (eq_by_cmp text_cmp a b)) es g.trees;
}
  where
    bare : (y : Content) → IsBare y es → IsBare y (without_child a es)
    bare Node b = tt
    bare (Leaf v) b = ap (where_key text_cmp (λ c. not (eq_by_cmp text_cmp a c))) b

-- an edge that is found leads to a rooted tree
pub rooted_found : (a : Label) (es : List (Label × Tree)) (n : Tree) → AllRooted es → find text_cmp a es ≡ Some n → IsRooted n
rooted_found a [] n t is = absurd (cc)
rooted_found a (e ∷ es) n t is =
    elim (eq_by_cmp text_cmp a e.0) as (λ b. cond b (Some e.1) (find text_cmp a es) ≡ Some n → IsRooted n) [
      | true ↦ λ f. (let same_tree : e.1 ≡ n = cc in subst IsRooted same_tree t.0)
      | false ↦ λ f. rooted_found a es n t.1 f
    ] is

-- where there is an edge there is a node
pub node_of_child : (x : Content) (es : List (Label × Tree)) (a : Label) (n : Tree) → IsBare x es → find text_cmp a es ≡ Some n → x ≡ Node
node_of_child Node es a n b is = refl
node_of_child (Leaf v) es a n b is = (let no : find text_cmp a es ≡ None = ap (find text_cmp a) b in absurd (cc))

-- the root of a tree whose root is a node
pub node_of_root : (x : Content) (es : List (Label × Tree)) → keyed.get (branch x es) [] ≡ Some Node → x ≡ Node
node_of_root x es e = (let f : Some x ≡ Some Node = sym (get-branch_root x es) ∙ e in cc)

-- a root and its edges are a rooted tree
pub rooted-branch : (x : Content) (es : List (Label × Tree)) → IsGood x es → IsRooted (branch x es)
rooted-branch x es g = record { root = ap is_some (get-branch_root x es); parents = up }
  where
    node : (a : Label) (o : Option Tree) → find text_cmp a es ≡ o → is_some (get_in o []) ≡ true → Some x ≡ Some Node
    node a None is e = absurd (cc)
    node a (Some n) is e = ap (λ y. Some y) (node_of_child x es a n g.bare is)

    inner : (b : Label) (q : Path) (a : Label) (o : Option Tree) → find text_cmp b es ≡ o → is_some (get_in o (q ++ a ∷ [])) ≡ true → get_in o q ≡ Some Node
    inner b q a None is e = absurd (cc)
    inner b q a (Some n) is e = (rooted_found b es n g.trees is).parents q a e

    up : (q : Path) (a : Label) → is_there (branch x es) (child q a) ≡ true → keyed.get (branch x es) q ≡ Some Node
    up [] a e = get-branch_root x es ∙ node a (find text_cmp a es) refl (ap is_some (sym (get-branch_child x es a [] g.sorted)) ∙ e)
    up (b ∷ q) a e = get-branch_child x es b q g.sorted ∙ inner b q a (find text_cmp b es) refl (ap is_some (sym (get-branch_child x es b (q ++ a ∷ []) g.sorted)) ∙ e)

-- a root alone
pub good_single : (x : Content) → IsGood x []
good_single Node = record { sorted = tt; bare = tt; trees = tt }
good_single (Leaf v) = record { sorted = tt; bare = refl; trees = tt }

rooted_put : (a : Label) (n : Tree) (es : List (Label × Tree)) → IsRooted n → AllRooted es → AllRooted (put text_cmp a n es)
rooted_put a n [] t ts = (t, tt)
rooted_put a n (e ∷ es) t ts = elim (text_cmp a e.0) as (λ o. AllRooted (by_order o ((a, n) ∷ e ∷ es) ((e.0, n) ∷ es) (e ∷ put text_cmp a n es))) [
  | Less ↦ (t, ts)
  | Equal ↦ (t, ts.1)
  | Greater ↦ (ts.0, rooted_put a n es t ts.1)
]

-- an edge added below a node, or changed
pub good_put : (x : Content) (es : List (Label × Tree)) (a : Label) (n : Tree) → IsGood x es → x ≡ Node → IsRooted n → IsGood x (put text_cmp a n es)
good_put x es a n g node t = record {
  sorted = is_sorted-put text_cmp label_total a n es g.sorted;
  bare = subst (λ y. IsBare y (put text_cmp a n es)) (sym node) tt;
  trees = rooted_put a n es t g.trees;
}

-- ---- steps, as a representation of nodes makes them: m is the tree of x and es before, and fs are the edges after

-- the root x with the edges fs is the tree n
pub record IsNow (x : Content) (fs : List (Label × Tree)) (n : Tree) : Type 0 where
  pub good : IsGood x fs
  pub is : branch x fs ≡ n

module _ (m : Tree) (x : Content) (es fs : List (Label × Tree)) (a : Label) (view : branch x es ≡ m) (g : IsGood x es) where
  put_now : (n t : Tree) → x ≡ Node → IsRooted n → put text_cmp a n es ≡ fs → t ≡ branch x (put text_cmp a n es) → IsNow x fs t
  put_now n t node r e is = record { good = subst (IsGood x) e (good_put x es a n g node r); is = ap (branch x) (sym e) ∙ sym is }

  -- the edge a now leads to n, below a node
  pub changed_here : (n : Tree) → keyed.get m [] ≡ Some Node → IsRooted n → put text_cmp a n es ≡ fs → IsNow x fs (with_subtree (a ∷ []) (keyed.entries n) m)
  changed_here n node r e =
      put_now n (with_subtree (a ∷ []) (keyed.entries n) m) (node_of_root x es (ap (λ z. keyed.get z []) view ∙ node)) r e
      (ap (with_subtree (a ∷ []) (keyed.entries n)) (sym view) ∙ replaced_here x es a n g.sorted)

  -- the tree k at the edge a has changed at a place below
  pub changed_below : (q : Path) (rows : List (Path × Content)) (k n : Tree) → find text_cmp a es ≡ Some k → IsRooted n → n ≡ with_subtree q rows k → put text_cmp a n es ≡ fs →
      IsNow x fs (with_subtree (a ∷ q) rows m)
  changed_below q rows k n is r at e =
      put_now n (with_subtree (a ∷ q) rows m) (node_of_child x es a k g.bare is) r e
      (ap (with_subtree (a ∷ q) rows) (sym view) ∙ replaced_below x es a q rows k g.sorted is ∙ ap (λ z. branch x (put text_cmp a z es)) (sym at))

  -- the tree k at the edge a has lost what was at and below a place
  pub dropped_below : (q : Path) (k n : Tree) → find text_cmp a es ≡ Some k → IsRooted n → n ≡ without q k → put text_cmp a n es ≡ fs → IsNow x fs (without (a ∷ q) m)
  dropped_below q k n is r at e =
      put_now n (without (a ∷ q) m) (node_of_child x es a k g.bare is) r e
      (ap (without (a ∷ q)) (sym view) ∙ without_below x es a q k g.sorted is ∙ ap (λ z. branch x (put text_cmp a z es)) (sym at))

  -- the edge a is gone
  pub dropped_here : without_child a es ≡ fs → IsNow x fs (without (a ∷ []) m)
  dropped_here e = record { good = subst (IsGood x) e (good_without x es a g); is = ap (branch x) (sym e) ∙ sym (without_here x es a g.sorted) ∙ ap (without (a ∷ [])) view }

  -- what stands below the edge a
  pub get_below : (q : Path) (k : Tree) → find text_cmp a es ≡ Some k → keyed.get m (a ∷ q) ≡ keyed.get k q
  get_below q k is = ap (λ z. keyed.get z (a ∷ q)) (sym view) ∙ get-branch_child x es a q g.sorted ∙ ap (λ o. get_in o q) is

  -- the subtrees below the edge a
  pub sub_below : (q : Path) (k : Tree) → find text_cmp a es ≡ Some k → sub m (a ∷ q) ≡ sub k q
  sub_below q k is = ap (λ z. sub z (a ∷ q)) (sym view) ∙ sub-branch x es a q k g.sorted is

  -- below no edge stands nothing
  pub get_nothing : (q : Path) → find text_cmp a es ≡ None → keyed.get m (a ∷ q) ≡ None
  get_nothing q is = ap (λ z. keyed.get z (a ∷ q)) (sym view) ∙ get-branch_child x es a q g.sorted ∙ ap (λ o. get_in o q) is
