-- Rows that are added one by one below a root.
use Rattle.std.specs.Prelude.{◌≡◌, ℕ, ◌+◌, ◌<◌, false, List, [], ◌∷◌, length, take}
use Rattle.std.proofs.Common.{sym, ap, subst, ◌∙◌, get_or, refl}
use Rattle.std.specs.declared.option.Option.TheVariants.{Some}
use Rattle.cp_model.specs.declared.row.Content.{Content}
use Rattle.cp_model.specs.declared.row.Content.TheVariants.{Node}
use Rattle.cp_model.specs.declared.row.Row.{Row}
use Rattle.cp_model.specs.Place.{Label, Path, child}
use Rattle.cp_model.specs.Keyed.{get}
use Rattle.cp_model.specs.Subtrees.{with_subtree, is_there}
use Rattle.cp_model.specs.Tree.{Tree, IsTree}
use Rattle.cp_model.specs.History.{IsLiteral}
use Rattle.cp_tree.specs.Branch.{branch}
use Rattle.cp_tree.specs.Rows.{entries_in, root_entries, single, tree_of_rows}
use Rattle.cp_tree.specs.Sums.{AreChildren, IsSmall}
use Rattle.cp_tree.proofs.Building.{last_of, begun_build, row_deep, row_parent, row_free, row_built}
use Rattle.cp_tree.proofs.Built.{entries-tree_of_rows}
use Rattle.cp_tree.proofs.FewRows.{small_row, small_edge}
use Rattle.cp_tree.proofs.GoodLemmas.{good_single}
use Rattle.cp_tree.proofs.Small.{small_tree}
use Rattle.cp_tree_arena.specs.declared.slot.Slot.{Slot}
use Rattle.cp_tree_arena.specs.declared.slot.SlotId.{SlotId}
use Rattle.cp_tree_arena.specs.Slots.{NO_SLOT}
use Rattle.cp_tree_arena.specs.Shapes.{Cell, Tip, edges_of}
use Rattle.cp_tree_arena.specs.Cells.{IsPool}
use Rattle.cp_tree_arena.specs.Kept.{tree_at}
use Rattle.cp_tree_arena.specs.Building.{Built, IsHeld}
use Rattle.cp_tree_arena.proofs.Changed.{node_at_root}
use Rattle.cp_tree_arena.proofs.Placing.{built_tree}

-- a root alone is a leaf
pub single_is : (x : Content) → branch x [] ≡ single x
unfolding branch
single_is x = refl

-- the same siblings, said of another tree
pub built_as : (slots : List Slot) (free : List SlotId) (at : ℕ) (x : Content) (m n : Tree) (cs : List Cell) → Built slots free at x m cs → m ≡ n → Built slots free at x n cs
built_as slots free at x m n cs b e = subst (λ z. Built slots free at x z cs) e b

-- the same siblings, and of another root
pub built_for : (slots : List Slot) (free : List SlotId) (at : ℕ) (x y : Content) (m n : Tree) (cs : List Cell) → Built slots free at x m cs → x ≡ y → m ≡ n → Built slots free at y n cs
built_for slots free at x y m n cs b e f = subst (λ z. Built slots free at z n cs) e (built_as slots free at x m n cs b f)

-- siblings that were built are held
pub built_held : (slots : List Slot) (free : List SlotId) (at : ℕ) (x : Content) (m : Tree) (cs : List Cell) → Built slots free at x m cs → IsHeld slots free at
built_held slots free at x m cs b = record { shape = b.shape; cs = cs; root = b.root; sound = b.sound; pool = b.pool }

-- the tree of rows that fit below a node is within the limits there
pub rows_small : (m : Tree) (p : Path) (a : Label) (rows : List Row) → IsLiteral (entries_in rows) → IsTree (with_subtree (child p a) (entries_in rows) m) → AreChildren ((a, tree_of_rows rows) ∷ [])
rows_small m p a rows l h = small_edge m p a (tree_of_rows rows) l.rooted (subst (λ z. IsSmall (with_subtree (child p a) z m)) (sym (entries-tree_of_rows rows l)) (small_tree (with_subtree (child p a) (entries_in rows) m) h))

module _ (first : Row) (rest : List Row) (l : IsLiteral (entries_in (first ∷ rest))) where
  -- the first row alone
  pub begun_rows : (slots : List Slot) (free : List SlotId) (at : ℕ) (cs : List Cell) → at ≡ NO_SLOT → IsPool slots free cs → Built slots free at first.content (tree_of_rows (take (0 + 1) (first ∷ rest))) cs
  begun_rows slots free at cs none pool = record {
    shape = Tip;
    root = none;
    pool = pool;
    sound = tt;
    good = good_single first.content;
    tree = begun_build (first ∷ rest) rest first refl l (branch first.content []) first.content (single_is first.content) refl;
  }

  -- a further row
  module _ (i : ℕ) (row : Row) (lt : i < length rest) (at : row ≡ get_or rest i row) (slots : List Slot) (free : List SlotId) (root : ℕ) (cs : List Cell) (b : Built slots free root first.content (tree_of_rows (take (i + 1) (first ∷ rest))) cs) where
    ends : (p : Path) × (a : Label) × (row.path ≡ child p a)
    ends = last_of row.path (row_deep (first ∷ rest) rest first refl l i row lt at)

    parent_there : (p : Path) (a : Label) → row.path ≡ child p a → get (tree_of_rows (take (i + 1) (first ∷ rest))) p ≡ Some Node
    parent_there p a k = row_parent (first ∷ rest) rest first refl l i row lt at (tree_of_rows (take (i + 1) (first ∷ rest))) refl p a k

    -- has a node above it
    is_node : first.content ≡ Node
    is_node = node_at_root first.content (edges_of b.shape) b.good ends.0 (ap (λ z. get z ends.0) b.tree ∙ parent_there ends.0 ends.1 ends.2)

    tree_so_far : tree_at slots Node root ≡ tree_of_rows (take (i + 1) (first ∷ rest))
    tree_so_far = ap (λ z. tree_at slots z root) (sym is_node) ∙ built_tree slots free root first.content (tree_of_rows (take (i + 1) (first ∷ rest))) cs b

    pub next_parent : (p : Path) (a : Label) → row.path ≡ child p a → get (tree_at slots Node root) p ≡ Some Node
    next_parent p a k = ap (λ z. get z p) tree_so_far ∙ parent_there p a k

    pub next_free : is_there (tree_at slots Node root) row.path ≡ false
    next_free = ap (λ z. is_there z row.path) tree_so_far ∙ row_free (first ∷ rest) rest first refl l i row lt at (tree_of_rows (take (i + 1) (first ∷ rest))) refl ends.0 ends.1 ends.2

    pub next_small : IsSmall (tree_of_rows (first ∷ rest)) → IsSmall (with_subtree row.path (root_entries row.content) (tree_at slots Node root))
    next_small s = small_row (first ∷ rest) rest first refl l i row lt at (tree_at slots Node root) tree_so_far s

    -- and is added
    pub next_built : (slots2 : List Slot) (free2 : List SlotId) (next : ℕ) → Built slots2 free2 next Node (with_subtree row.path (root_entries row.content) (branch Node (edges_of b.shape))) cs →
        Built slots2 free2 next first.content (tree_of_rows (take ((i + 1) + 1) (first ∷ rest))) cs
    next_built slots2 free2 next n =
        let tree : branch Node (edges_of b.shape) ≡ tree_of_rows (take (i + 1) (first ∷ rest)) = ap (λ z. branch z (edges_of b.shape)) (sym is_node) ∙ b.tree in
        let all = row_built (first ∷ rest) rest first refl l i row lt at (branch Node (edges_of b.shape)) tree (with_subtree row.path (root_entries row.content) (branch Node (edges_of b.shape))) refl in
        subst (λ z. Built slots2 free2 next z (tree_of_rows (take ((i + 1) + 1) (first ∷ rest))) cs) (sym is_node) (built_as slots2 free2 next Node _ _ cs n all)
