use Rattle.std.proofs.Common.{◌+◌, List, ◌∷◌, take}
use Rattle.cp_tree.specs.Rows.{tree_of_rows}
use Rattle.cp_tree_arena.specs.Shapes.{Cell}
use Rattle.cp_tree_arena.specs.Cells.{IsPool}
use Rattle.cp_tree_arena.specs.Building.{Built}
use Rattle.cp_tree_arena.proofs.pool.Pool.build.Given as goal

abbrev pub invariant-loop-row : goal.invariant-loop-row
invariant-loop-row l =
    (cs : List Cell) → IsPool l.fn.self.slots.items l.fn.self.free.items cs → Built l.self.slots.items l.self.free.items l.root.number l.first.content (tree_of_rows (take (l.row-index + 1) (l.first ∷ l.rows))) cs
