-- What the rows of a written tree add up to: how many they are, what they weigh, how deep they lie, and how large their paths are.
use Rattle.std.proofs.Common.{◌≡◌, ℕ, ◌+◌, ◌*◌, ◌<◌, ◌≤◌, List, [], ◌∷◌, ◌++◌, refl, ap, ◌∙◌, length, length-append, max, sum_by, arith}
use Rattle.std.proofs.lemmas.List.{length-map}
use Rattle.std.proofs.lemmas.List.Sums.{sum_by-cons, sum_by-append}
use Rattle.cp_model.specs.declared.limits.TheConstants.{PLACE_WEIGHT}
use Rattle.cp_model.specs.declared.row.Content.{Content}
use Rattle.cp_model.specs.declared.row.Content.TheVariants.{Node, Leaf}
use Rattle.cp_model.specs.Literals.{rows_under}
use Rattle.cp_model.specs.Place.{Label, Path}
use Rattle.cp_model.specs.Tree.{text_bytes, weight_of}
use Rattle.cp_record.specs.Packed.{AreBelow}
use Rattle.cp_tree.specs.Rows.{deepest, greatest, path_size}
use Rattle.cp_tree.specs.Sums.{largest}
use Rattle.cp_tree.proofs.Counted.{greatest-append}
use Rattle.cp_frame.specs.Trees.{Written, leaf, node, Children, no_more, child, rows_of, rows_below, number_of}

-- ---- rows below a label

below_both : (xs ys : List (Path × Content)) → AreBelow xs → AreBelow ys → AreBelow (xs ++ ys)
below_both [] ys h k = k
below_both (e ∷ xs) ys h k = (h.0, below_both xs ys h.1 k)

-- one label further down no row is that of a root
pub under_below : (a : Label) (rows : List (Path × Content)) → AreBelow (rows_under a rows)
under_below a [] = tt
under_below a (e ∷ es) = (omega arith, under_below a es)

-- below a node no row is that of a root
pub children_below : (cs : Children) → AreBelow (rows_below cs)
children_below no_more = tt
children_below (child a t cs) = below_both (rows_under a (rows_of t)) (rows_below cs) (under_below a (rows_of t)) (children_below cs)

module _ (f : Path → ℕ) (w : Label → ℕ) (step : (a : Label) (p : Path) → f (a ∷ p) ≡ w a + f p) where
  -- one label further down the greatest number grows by that of the label
  greatest_under : (a : Label) (e : Path × Content) (es : List (Path × Content)) → greatest (λ x. f x.0) (rows_under a (e ∷ es)) ≡ w a + greatest (λ x. f x.0) (e ∷ es)
  greatest_under a e [] = omega (arith, step a e.0)
  greatest_under a e (s ∷ es) = ap (max (f (a ∷ e.0))) (greatest_under a s es) ∙ omega (arith, step a e.0)

  greatest_tree : (a : Label) (t : Written) → greatest (λ x. f x.0) (rows_under a (rows_of t)) ≡ w a + greatest (λ x. f x.0) (rows_of t)
  greatest_tree a (leaf v) = greatest_under a ([], Leaf v) []
  greatest_tree a (node cs) = greatest_under a ([], Node) (rows_below cs)

as_heavy : (a : Label) (p : Path) (x : Content) → 0 < length p → weight_of (a ∷ p, x) ≡ weight_of (p, x)
as_heavy a [] x h = absurd (omega arith)
as_heavy a (b ∷ p) x h = refl

-- one label further down rows that are none of a root weigh as much
under_weight : (a : Label) (rows : List (Path × Content)) → AreBelow rows → sum_by weight_of (rows_under a rows) ≡ sum_by weight_of rows
under_weight a [] h = refl
under_weight a (e ∷ es) h = omega (arith, under_weight a es h.1, as_heavy a e.0 e.1 h.0, sum_by-cons weight_of e es, sum_by-cons weight_of (a ∷ e.0, e.1) (rows_under a es))

root_weight : (a : Label) (x : Content) (rows : List (Path × Content)) → AreBelow rows → sum_by weight_of (rows_under a (([], x) ∷ rows)) ≡ length a + sum_by weight_of (([], x) ∷ rows)
root_weight a x rows h = omega (arith, under_weight a rows h, sum_by-cons weight_of ([], x) rows, sum_by-cons weight_of (a ∷ [], x) (rows_under a rows))

tree_weight : (a : Label) (t : Written) → sum_by weight_of (rows_under a (rows_of t)) ≡ length a + sum_by weight_of (rows_of t)
tree_weight a (leaf v) = root_weight a (Leaf v) [] tt
tree_weight a (node cs) = root_weight a Node (rows_below cs) (children_below cs)

-- ---- a node

pub node_count : (cs : Children) → length (rows_of (node cs)) ≡ 1 + length (rows_below cs)
node_count cs = omega arith

pub node_depth : (cs : Children) → deepest (rows_of (node cs)) ≡ deepest (rows_below cs)
node_depth cs = omega arith

pub node_size : (cs : Children) → largest (rows_of (node cs)) ≡ largest (rows_below cs)
node_size cs = omega arith

pub node_weight : (cs : Children) → sum_by weight_of (rows_of (node cs)) ≡ PLACE_WEIGHT + sum_by weight_of (rows_below cs)
node_weight cs = omega (arith, sum_by-cons weight_of ([], Node) (rows_below cs))

pub leaf_weight : (v : _) → sum_by weight_of (rows_of (leaf v)) ≡ PLACE_WEIGHT + text_bytes (Leaf v)
leaf_weight v = omega (arith, sum_by-cons weight_of ([], Leaf v) [])

-- ---- a child, and the others

module _ (a : Label) (t : Written) (cs : Children) where
  pub child_count : length (rows_below (child a t cs)) ≡ length (rows_of t) + length (rows_below cs)
  child_count = omega (arith, length-append (rows_under a (rows_of t)) (rows_below cs), length-map {B = Path × Content} (rows_of t) (λ (r : Path × Content). (a ∷ r.0, r.1)))

  pub child_depth : deepest (rows_below (child a t cs)) ≡ max (1 + deepest (rows_of t)) (deepest (rows_below cs))
  child_depth =
      greatest-append (λ (e : Path × Content). length e.0) (rows_under a (rows_of t)) (rows_below cs)
      ∙ ap (λ n. max n (deepest (rows_below cs))) (greatest_tree (λ p. length p) (λ _. 1) (λ a p. omega arith) a t)

  pub child_size : largest (rows_below (child a t cs)) ≡ max (length a + 1 + largest (rows_of t)) (largest (rows_below cs))
  child_size =
      greatest-append (λ (e : Path × Content). path_size e.0) (rows_under a (rows_of t)) (rows_below cs)
      ∙ ap (λ n. max n (largest (rows_below cs))) (greatest_tree path_size (λ a. length a + 1) (λ a p. sum_by-cons (λ (b : Label). length b + 1) a p) a t)

  pub child_weight : sum_by weight_of (rows_below (child a t cs)) ≡ length a + sum_by weight_of (rows_of t) + sum_by weight_of (rows_below cs)
  child_weight = omega (arith, sum_by-append weight_of (rows_under a (rows_of t)) (rows_below cs), tree_weight a t)

-- ---- the least that there is

pub some_rows : (t : Written) → 1 ≤ length (rows_of t)
some_rows (leaf v) = omega arith
some_rows (node cs) = omega arith

-- a tree weighs at least what its root does
pub some_weight : (t : Written) → PLACE_WEIGHT ≤ sum_by weight_of (rows_of t)
some_weight (leaf v) = omega (arith, leaf_weight v)
some_weight (node cs) = omega (arith, node_weight cs)

-- each child has a row at least
pub enough_rows : (cs : Children) → number_of cs ≤ length (rows_below cs)
enough_rows no_more = omega arith
enough_rows (child a t cs) = omega (arith, child_count a t cs, some_rows t, enough_rows cs)

-- each child weighs at least what a place does
pub enough_weight : (cs : Children) → PLACE_WEIGHT * number_of cs ≤ sum_by weight_of (rows_below cs)
enough_weight no_more = omega arith
enough_weight (child a t cs) = omega (arith, child_weight a t cs, some_weight t, enough_weight cs)

-- a child lies a label down
pub enough_depth : (cs : Children) → 0 < number_of cs → (1 ≤ deepest (rows_below cs)) × (1 ≤ largest (rows_below cs))
enough_depth no_more h = absurd (omega arith)
enough_depth (child a t cs) h = (omega (arith, child_depth a t cs), omega (arith, child_size a t cs))
