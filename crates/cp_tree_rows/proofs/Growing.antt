-- Trees kept as rows, and pieces put into them.
use Rattle.std.specs.Prelude.{◌≡◌, ℕ, List, [], ◌∷◌, ◌++◌, take, drop, length}
use Rattle.std.proofs.Common.{sym, ap, subst, ◌∙◌, T, append-nil}
use Rattle.std.proofs.Math.Seq.{take-append_seam, drop-append_seam}
use Rattle.std.specs.declared.option.Option.TheVariants.{Some}
use Rattle.std.specs.FinMap.Entries.{is_sorted}
use Rattle.cp_path.specs.Text.{text_cmp}
use Rattle.cp_model.specs.declared.row.Content.{Content}
use Rattle.cp_model.specs.declared.row.Content.TheVariants.{Node, Leaf}
use Rattle.cp_model.specs.Place.{Label, Path, child}
use Rattle.cp_model.specs.Keyed as keyed
use Rattle.cp_model.specs.Subtrees.{with_subtree, without}
use Rattle.cp_tree.specs.Branch.{branch}
use Rattle.cp_tree.specs.Rows.{root_entries, single}
use Rattle.cp_tree.proofs.BranchLemmas.{without-replaced}
use Rattle.cp_tree.proofs.Built.{entries-single}
use Rattle.cp_tree_rows.specs.declared.row.TreeRow.{TreeRow}
use Rattle.cp_tree_rows.specs.Forest.{edges, nests, is_part, is_bare, tree_of}
use Rattle.cp_tree_rows.specs.Spots.{IsPiece, piece_entries, IsPut}
use Rattle.cp_tree_rows.proofs.Reading.{part_of, good_part, edges-none, nests_around}
use Rattle.cp_tree_rows.proofs.Stretches.{no_nests}
use Rattle.cp_tree_rows.proofs.Opening.{node_above, same_number}

-- a root alone
pub empty_part : (x : Content) → T (is_part x 0 [])
empty_part x = part_of x 0 [] (record { bare = bare x; sorted = subst (λ z. T (is_sorted text_cmp z)) (sym edges-none) tt; points = tt; nested = no_nests })
  where
    bare : (y : Content) → T (is_bare y [])
    bare Node = tt
    bare (Leaf v) = tt

pub single_tree : (x : Content) → tree_of x [] ≡ single x
unfolding branch
single_tree x = ap (branch x) edges-none

-- the same, of rows that are none
pub leaf_part : (x : Content) (rs : List TreeRow) → rs ≡ [] → T (is_part x 0 rs)
leaf_part x rs e = subst (λ z. T (is_part x 0 z)) (sym e) (empty_part x)

pub leaf_tree : (x : Content) (rs : List TreeRow) → rs ≡ [] → tree_of x rs ≡ single x
leaf_tree x rs e = ap (tree_of x) e ∙ single_tree x

-- a tree at a label is a piece
pub tree_piece : (a : Label) (r : TreeRow) (rs : List TreeRow) → r.label ≡ a → r.below ≡ length rs → T (is_part r.item r.last rs) → IsPiece a (r ∷ rs)
tree_piece a r rs l b p = (l, subst T (sym (same_number r.below (length rs) b)) tt, subst (λ z. T (nests (r ∷ z))) (append-nil rs) (nests_around r rs [] (record { below = b; part = p; others = no_nests })))

-- and so is a leaf
pub leaf_entries : (x : Content) → keyed.entries (tree_of x []) ≡ root_entries x
leaf_entries x = ap keyed.entries (single_tree x) ∙ entries-single x

-- a list after which others stand
pub kept_front : {X : Type 0} (xs ys zs : List X) (n : ℕ) → n ≡ length xs → zs ≡ xs ++ ys → take n zs ≡ xs
kept_front xs ys zs n e is = (λ i. take (e i) (is i)) ∙ take-append_seam xs ys

pub added_back : {X : Type 0} (xs ys zs : List X) (n : ℕ) → n ≡ length xs → zs ≡ xs ++ ys → drop n zs ≡ ys
added_back xs ys zs n e is = (λ i. drop (e i) (is i)) ∙ drop-append_seam xs ys

-- rows ys were added after the rows xs of a tree
module _ (x : Content) (last : ℕ) (xs ys zs : List TreeRow) (n : ℕ) (p : Path) (part : T (is_part x last xs)) (node : keyed.get (tree_of x xs) p ≡ Some Node) (long : n ≡ length xs) (is : zs ≡ xs ++ ys) where
  is_root_node : x ≡ Node
  is_root_node = node_above x (edges xs) p (good_part x last xs part) node

  -- its place is a node
  pub grown_node : keyed.get (tree_of Node (take n zs)) p ≡ Some Node
  grown_node = (λ i. keyed.get (tree_of (sym is_root_node i) (kept_front xs ys zs n long is i)) p) ∙ node

  pub grown_piece : (a : Label) → IsPiece a ys → IsPiece a (drop n zs)
  grown_piece a h = subst (IsPiece a) (sym (added_back xs ys zs n long is)) h

  module _ (ws : List TreeRow) (new_last : ℕ) (a : Label) (put : IsPut (take n zs) ws new_last p a (drop n zs)) where
    -- they are rows of a tree
    pub put_part : T (is_part x new_last ws)
    put_part = subst (λ y. T (is_part y new_last ws)) (sym is_root_node) put.part

    -- with the piece
    pub put_tree : tree_of x ws ≡ with_subtree (child p a) (piece_entries ys) (tree_of x xs)
    put_tree = (λ i. tree_of (is_root_node i) ws) ∙ put.tree ∙ (λ i. with_subtree (child p a) (piece_entries (added_back xs ys zs n long is i)) (tree_of (sym is_root_node i) (kept_front xs ys zs n long is i)))

    pub cut_tree : ys ≡ [] → tree_of x ws ≡ without (child p a) (tree_of x xs)
    cut_tree e = put_tree ∙ ap (λ z. with_subtree (child p a) (piece_entries z) (tree_of x xs)) e ∙ without-replaced (child p a) (tree_of x xs)
