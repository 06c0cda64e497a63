-- An arena and the siblings below its root.
use Rattle.std.proofs.Common.{◌≡◌, ◌==◌, ℕ, List, [], ◌++◌, length, map, sym, ap, subst, ◌∙◌, append-nil, refl, arith, Result, Ok, Err, OnOk, OnErr}
use Rattle.std.specs.List.{IsDistinct}
use Rattle.cp_model.specs.declared.row.Content.{Content}
use Rattle.cp_model.specs.declared.row.Row.{Row}
use Rattle.cp_model.specs.History.{IsLiteral}
use Rattle.cp_model.specs.Keyed.{entries}
use Rattle.cp_model.specs.Place.{Path}
use Rattle.cp_model.specs.Subtrees.{below, with_subtree}
use Rattle.cp_model.specs.Tree.{Tree, IsTree}
use Rattle.cp_tree.specs.Branch.{branch, sub}
use Rattle.cp_tree.specs.Rows.{entry_row, entries_in, tree_of_rows}
use Rattle.cp_tree.proofs.Answering.{below_is}
use Rattle.cp_tree.proofs.Built.{entries-tree_of_rows}
use Rattle.cp_tree.proofs.Found.{root_put}
use Rattle.cp_tree.proofs.GoodLemmas.{good_single}
use Rattle.cp_tree.proofs.ListingLemmas.{entries_in-rows}
use Rattle.cp_tree_arena.specs.declared.slot.Slot.{Slot}
use Rattle.cp_tree_arena.specs.declared.slot.SlotId.{SlotId}
use Rattle.cp_tree_arena.specs.declared.tree.Arena.TheInside.{Inside}
use Rattle.cp_tree_arena.specs.Slots.{NO_SLOT}
use Rattle.cp_tree_arena.specs.Shapes.{Tip, cells}
use Rattle.cp_tree_arena.specs.Cells.{IsPool}
use Rattle.cp_tree_arena.specs.Building.{Built}
use Rattle.cp_tree_arena.specs.Arenas.{tree_inside, IsArena}
use Rattle.cp_tree_arena.proofs.Placing.{pool_edges}

distinct_none : IsDistinct (λ a b. a == b) []
unfolding IsDistinct
distinct_none = tt

module _ (a : Inside) (m : Tree) where
  abbrev pub arena_built : tree_inside a ≡ m → IsArena a → Built a.pool.slots.items a.pool.free.items a.children.number a.content m []
  arena_built view i =
      let pool : IsPool a.pool.slots.items a.pool.free.items (cells i.shape ++ []) = subst (IsPool a.pool.slots.items a.pool.free.items) (sym (append-nil (cells i.shape))) i.pool in
      record {
        shape = i.shape;
        root = i.root;
        pool = pool;
        sound = i.sound;
        good = i.good;
        tree = sym (ap (branch a.content) (pool_edges a.pool.slots.items a.pool.free.items a.children.number i.shape [] i.root i.sound pool)) ∙ view;
      }

  pub built_arena : Built a.pool.slots.items a.pool.free.items a.children.number a.content m [] → IsArena a
  built_arena b = record { shape = b.shape; root = b.root; sound = b.sound; pool = subst (IsPool a.pool.slots.items a.pool.free.items) (append-nil (cells b.shape)) b.pool; good = b.good }

-- a root with no slots
pub leaf_built : (slots : List Slot) (free : List SlotId) (at : ℕ) (x : Content) → at ≡ NO_SLOT → slots ≡ [] → free ≡ [] → Built slots free at x (branch x []) []
leaf_built slots free at x none no_slots no_free = record {
  shape = Tip;
  root = none;
  pool = record { rest = []; numbers = ap (map (λ (i : SlotId). i.number)) (sym no_free); holds = record { few = omega (arith, ap length no_slots); stand = tt; apart = distinct_none } };
  sound = tt;
  good = good_single x;
  tree = refl;
}

-- a tree of rows put at the root
pub rows_at_root : (m : Tree) (p q : Path) (rows : List Row) → q ≡ p → q ≡ [] → IsLiteral (entries_in rows) → with_subtree p (entries_in rows) m ≡ tree_of_rows rows
rows_at_root m p q rows e none l = ap (λ z. with_subtree z (entries_in rows) m) (sym e ∙ none) ∙ ap (λ z. with_subtree [] z m) (sym (entries-tree_of_rows rows l)) ∙ root_put m (tree_of_rows rows)

-- a tree that became another, or stayed as it was
pub tree_either : {A E : Type 0} (r : Result A E) (new done old : Tree) → OnOk r (new ≡ done) → OnErr r (new ≡ old) → IsTree done → IsTree old → IsTree new
tree_either (Ok y) new done old o e d k = subst IsTree (sym o) d
tree_either (Err x) new done old o e d k = subst IsTree (sym e) k

-- the rows of a subtree that were listed
pub listed : (n m : Tree) (p q : Path) (rows items : List Row) → rows ≡ items → items ≡ map entry_row (entries n) → n ≡ sub m q → q ≡ p → entries_in rows ≡ below p m
listed n m p q rows items r i e k = ap entries_in (r ∙ i ∙ ap (map entry_row) (below_is n m p q e k)) ∙ entries_in-rows (below p m)
