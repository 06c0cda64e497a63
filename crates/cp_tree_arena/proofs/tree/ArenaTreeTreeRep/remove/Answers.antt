use Rattle.std.proofs.Common.{sym, subst}
use Rattle.cp_model.specs.Tree.{IsTree}
use Rattle.cp_model.proofs.Kept.{tree-without}
use Rattle.cp_tree.proofs.Small.{small_tree}
use Rattle.cp_tree_arena.proofs.tree.ArenaTreeTreeRep.remove.Goals as goal

pub remove-requires-clause-small : goal.remove-requires-clause-small
remove-requires-clause-small c = small_tree _ (tree-without c.args.self.now.arena c.labels.result.now c.args.label.now c.args.self.now.tree)

pub invariant_of-self : goal.invariant_of-self
invariant_of-self c = record { tree = subst IsTree (sym c.remove.ensures) (tree-without c.args.self.now.arena c.labels.result.now c.args.label.now c.args.self.now.tree) }
