-- What the walk over a literal adds up.
use Rattle.cp_path.specs.declared.limits.TheConstants.{LABEL_MAX}
use Rattle.std.specs.Prelude.{ℕ, ◌+◌, ◌≤◌, ◌≡◌, List, [], ◌∷◌, ◌++◌, length, max, min, sum_by, refl}
use Rattle.std.proofs.Common.{drop, sym, ap, ◌∙◌, arith, length-append}
use Rattle.std.proofs.Math.ListN.{drop_of_length-le}
use Rattle.std.proofs.lemmas.List.Sums.{sum_by-cons, sum_by-append}
use Rattle.std.proofs.lemmas.List.{length-map}
use Rattle.cp_model.specs.declared.row.Content.{Content}
use Rattle.cp_model.specs.declared.row.Content.TheVariants.{Node, Leaf}
use Rattle.cp_model.specs.declared.literal.LitEdge.{LitEdge}
use Rattle.cp_model.specs.declared.literal.Literal.TheVariants as literal
use Rattle.cp_path.specs.declared.value.Value.{Value}
use Rattle.cp_model.specs.Place.{Label, Path}
use Rattle.cp_model.specs.Literals.{literal_rows, rows_under, edge_rows}
use Rattle.cp_model.specs.Tree.{weight_of, text_bytes}
use Rattle.cp_tree.specs.Rows.{path_size, greatest, reach_of}
use Rattle.cp_tree.proofs.Counted.{greatest-append}
use Rattle.cp_tree.specs.declared.reach.Reach.{Reach}
use Rattle.cp_operation.specs.Reaching.{capped_reach, reach_with, alone_at, literal_reach}

-- reaches with the same numbers are the same
same-reach : (r s : Reach) → r.nodes ≡ s.nodes → r.inner ≡ s.inner → r.depth ≡ s.depth → r.size ≡ s.size → r ≡ s
same-reach r s a b c d = λ i. record { nodes = a i; inner = b i; depth = c i; size = d i }

sum_join : (c n a b : ℕ) → min (n + (a + b)) c ≡ min (min (n + min a c) c + b) c
sum_join c n a b = omega arith

max_join : (c k d a b : ℕ) → min (max d (k + max a b)) c ≡ min (max (min (max d (k + min a c)) c) (k + b)) c
max_join c k d a b = omega arith

-- rows in two parts are joined one part after the other
joined-append : (k : ℕ) (r : Reach) (xs ys : List (Path × Content)) → reach_with k r (reach_of (xs ++ ys)) ≡ reach_with k (reach_with k r (capped_reach (reach_of xs))) (reach_of ys)
unfolding reach_of
joined-append k r xs ys = same-reach _ _
    (ap (λ n. min (r.nodes + n) 1048577) (length-append xs ys) ∙ sum_join 1048577 r.nodes (length xs) (length ys))
    (ap (λ n. min (r.inner + n) 33554433) (sum_by-append weight_of xs ys) ∙ sum_join 33554433 r.inner (sum_by weight_of xs) (sum_by weight_of ys))
    (ap (λ n. min (max r.depth (1 + n)) 65) (greatest-append (λ e. length e.0) xs ys) ∙ max_join 65 1 r.depth (greatest (λ e. length e.0) xs) (greatest (λ e. length e.0) ys))
    (ap (λ n. min (max r.size (k + n)) 1025) (greatest-append (λ e. path_size e.0) xs ys) ∙ max_join 1025 k r.size (greatest (λ e. path_size e.0) xs) (greatest (λ e. path_size e.0) ys))

-- numbers within the caps, that count at least the place at the top
pub record IsReach (k : ℕ) (r : Reach) : Type 0 where
  pub nodes : r.nodes ≤ 1048577
  pub inner : r.inner ≤ 33554433
  pub depth_least : 1 ≤ r.depth
  pub depth : r.depth ≤ 65
  pub size_least : k ≤ r.size
  pub size : r.size ≤ 1025

-- no rows add nothing
joined-none : (k : ℕ) (r : Reach) → IsReach k r → reach_with k r (reach_of []) ≡ r
unfolding reach_of
joined-none k r h = same-reach _ _ (omega arith) (omega arith) (omega arith) (omega arith)

-- the weight of rows below labels is the same one label further down
weight_under : (a : Label) (es : List LitEdge) → sum_by weight_of (rows_under a (edge_rows es)) ≡ sum_by weight_of (edge_rows es)
weight_under a [] = refl
weight_under a (e ∷ es) = along e.label (literal_rows e.tree) (edge_rows es) (weight_under a es)
  where
    along : (b : Label) (xs ys : List (Path × Content)) → sum_by weight_of (rows_under a ys) ≡ sum_by weight_of ys → sum_by weight_of (rows_under a (rows_under b xs ++ ys)) ≡ sum_by weight_of (rows_under b xs ++ ys)
    along b [] ys h = h
    along b (x ∷ xs) ys h =
        sum_by-cons weight_of (a ∷ b ∷ x.0, x.1) (rows_under a (rows_under b xs ++ ys))
        ∙ ap (λ n. weight_of (b ∷ x.0, x.1) + n) (along b xs ys h)
        ∙ sym (sum_by-cons weight_of (b ∷ x.0, x.1) (rows_under b xs ++ ys))

depth_under : (a : Label) (es : List (Path × Content)) → max 1 (greatest (λ e. length e.0) (rows_under a es)) ≡ max 1 (1 + greatest (λ e. length e.0) es)
depth_under a [] = omega arith
depth_under a (e ∷ es) = omega (arith, depth_under a es)

size_under : (a : Label) (es : List (Path × Content)) → max (length a + 1) (greatest (λ e. path_size e.0) (rows_under a es)) ≡ max (length a + 1) (length a + 1 + greatest (λ e. path_size e.0) es)
size_under a [] = omega arith
size_under a (e ∷ es) = omega (arith, size_under a es, sum_by-cons (λ a. length a + 1) a e.0)

-- a node and the rows below it
pub joined-node : (a : Label) (es : List LitEdge) → reach_with (length a + 1) (alone_at (length a) 0) (reach_of (edge_rows es)) ≡ literal_reach a (literal.Node (edge_rows es))
unfolding reach_of
joined-node a es = same-reach _ _
    (let n : length (rows_under a (edge_rows es)) ≡ length (edge_rows es) = length-map (edge_rows es) (λ r. (a ∷ r.0, r.1)) in omega arith)
    (omega (arith, weight_under a es, sum_by-cons weight_of (a ∷ [], Node) (rows_under a (edge_rows es))))
    (omega (arith, depth_under a (edge_rows es)))
    (omega (arith, size_under a (edge_rows es)))

-- a leaf
pub alone-leaf : (a : Label) (v : Value) → alone_at (length a) (text_bytes (Leaf v)) ≡ literal_reach a (literal.Leaf v)
unfolding reach_of
alone-leaf a v = same-reach _ _ (omega arith) (omega arith) (omega arith) (omega arith)

-- a place alone
pub reach-alone : (n m : ℕ) → n ≤ LABEL_MAX → IsReach (n + 1) (alone_at n m)
reach-alone n m h = record { nodes = omega arith; inner = omega arith; depth_least = omega arith; depth = omega arith; size_least = omega arith; size = omega arith }

-- with more rows
pub reach-joined : (k : ℕ) (r s : Reach) → IsReach k r → IsReach k (reach_with k r s)
reach-joined k r s h = record { nodes = omega arith; inner = omega arith; depth_least = omega arith; depth = omega arith; size_least = omega arith; size = omega arith }

-- the edges from the next one on, after it
pub joined-edge : (k : ℕ) (r s all : Reach) (e : LitEdge) (es fs : List LitEdge) → fs ≡ e ∷ es → s ≡ literal_reach e.label e.tree →
    reach_with k r (reach_of (edge_rows fs)) ≡ all → reach_with k (reach_with k r s) (reach_of (edge_rows es)) ≡ all
joined-edge k r s all e es fs split is h =
    ap (λ x. reach_with k (reach_with k r x) (reach_of (edge_rows es))) is
    ∙ sym (joined-append k r (rows_under e.label (literal_rows e.tree)) (edge_rows es))
    ∙ sym (ap (λ x. reach_with k r (reach_of (edge_rows x))) split)
    ∙ h

-- after the last edge
pub joined-edges : (k : ℕ) (r all : Reach) (i : ℕ) (es : List LitEdge) → length es ≤ i → IsReach k r → reach_with k r (reach_of (edge_rows (drop i es))) ≡ all → r ≡ all
joined-edges k r all i es h w e =
    sym (joined-none k r w) ∙ sym (ap (λ x. reach_with k r (reach_of (edge_rows x))) (drop_of_length-le es h)) ∙ e
