use Rattle.std.proofs.Common.{◌+◌, ◌*◌, ◌≤◌, List, ℕ, drop, length}
use Rattle.std.specs.List.{AllByRecursion}
use Rattle.cp_path.specs.declared.limits.TheConstants.{TEXT_MAX}
use Rattle.cp_model.specs.declared.limits.TheConstants.{NODES_MAX}
use Rattle.cp_model.specs.Literals.{literal_rows, edge_rows}
use Rattle.cp_model.specs.Tree.{text_bytes}
use Rattle.cp_record.specs.Packed.{Grew}
use Rattle.cp_frame.specs.Trees.{HasPutChildren}
use Rattle.cp_frame.proofs.tree.+put.Given as goal

abbrev pub invariant-put_children-loop-edge : goal.invariant-put_children-loop-edge
invariant-put_children-loop-edge l = record {
  so_far : (new : List ℕ) → HasPutChildren (drop l.edge-index l.edges) l.out.items new → HasPutChildren l.edges l.initial.out.items new;
  grew : Grew l.initial.out.items l.out.items;
  texts : AllByRecursion (λ e. text_bytes e.1 ≤ TEXT_MAX) (edge_rows (drop l.edge-index l.edges));
  few : length (edge_rows (drop l.edge-index l.edges)) ≤ NODES_MAX;
}

-- a node has one row more than what stands below it
abbrev pub decreases-put_children : goal.decreases-put_children
decreases-put_children l = 2 * length (edge_rows l.edges.now) + 1

abbrev pub decreases-put_tree : goal.decreases-put_tree
decreases-put_tree l = 2 * length (literal_rows l.tree.now)
