use Rattle.std.proofs.Common.{[], ◌∷◌, List, sym, ap, subst}
use Rattle.cp_model.specs.Tree.{Tree}
use Rattle.cp_tree.specs.Rows.{tree_of_rows}
use Rattle.cp_tree.specs.Sums.{AreChildren}
use Rattle.cp_tree.proofs.Building.{no_rows}
use Rattle.cp_tree.proofs.FewRows.{first_text}
use Rattle.cp_tree.proofs.Found.{no_length}
use Rattle.cp_tree_arena.specs.Shapes.{Cell}
use Rattle.cp_tree_arena.specs.Cells.{IsPool}
use Rattle.cp_tree_arena.specs.Building.{Added, Built}
use Rattle.cp_tree_arena.proofs.Holding.{pool_none}
use Rattle.cp_tree_arena.proofs.Placing.{built_kept, built_node, built_tree}
use Rattle.cp_tree_arena.proofs.Rows.{built_for}
use Rattle.cp_tree_arena.proofs.pool.Pool.add_rows.Goals as goal
use Rattle.cp_tree_arena.proofs.pool.Pool.add_rows.Goals.{In_ok-children-in-Some}

pub unreachable-requires : goal.unreachable-requires
unreachable-requires c = no_rows _ (no_length _ c.in-None.ensures.cases) c.requires.literal

pub of-requires : goal.of-requires
of-requires c = first_text _ _ _ c.in-Some.ensures.cases.0 c.requires.literal

built : (c : In_ok-children-in-Some) (cs : List Cell) → IsPool c.args.self.now.slots.items c.args.self.now.free.items cs →
    Built c.build.new.self.slots.items c.build.new.self.free.items c.in_ok-children-in-Some.children.number c.in_ok-content-in-Some.content (tree_of_rows c.args.rows.now) cs
built c cs pool = built_for _ _ _ _ _ _ _ cs (c.in_ok-children-in-Some.ensures.ok cs pool) (sym c.in_ok-content-in-Some.ensures) (ap tree_of_rows (sym c.in-Some.ensures.cases.0))

pub add_node-requires-clause-pool : goal.add_node-requires-clause-pool
add_node-requires-clause-pool c = pool_none _ _ _ (built (goal.at.add_node-requires-clause-pool c).In_ok-children-in-Some [] c.requires.pool).pool

pub add_node-requires-clause-node : goal.add_node-requires-clause-node
add_node-requires-clause-node c = built_node _ _ _ _ _ _ (built (goal.at.add_node-requires-clause-node c).In_ok-children-in-Some [] c.requires.pool)

pub add_node-requires-clause-small : goal.add_node-requires-clause-small
add_node-requires-clause-small c =
    let b = built (goal.at.add_node-requires-clause-small c).In_ok-children-in-Some [] c.requires.pool in
    subst (λ (z : Tree). AreChildren ((c.args.label.now, z) ∷ [])) (sym (built_tree _ _ _ _ _ _ b)) c.requires.small

pub release-requires : goal.release-requires
release-requires c = rw c.in-Err.ensures.err_slots (built_kept _ _ _ _ _ _ (built (goal.at.release-requires c).In_ok-children-in-Some [] c.requires.pool))

pub returns-in-Ok-clause-ok : goal.returns-in-Ok-clause-ok
returns-in-Ok-clause-ok c = λ cs pool.
    let b = built (goal.at.returns-in-Ok-clause-ok c).In_ok-children-in-Some cs pool in
    subst (λ z. Added c.add_node.new.self.slots.items c.add_node.new.self.free.items c.in-Ok.new.number c.args.label.now z cs) b.tree (c.in-Ok.ensures.ok b.shape cs b.root b.sound b.pool)
