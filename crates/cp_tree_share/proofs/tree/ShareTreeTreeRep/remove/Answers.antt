use Rattle.std.proofs.Common.{sym, subst}
use Rattle.cp_model.specs.Tree.{IsTree}
use Rattle.cp_model.proofs.Kept.{tree-without}
use Rattle.cp_tree.proofs.Small.{small_tree}
use Rattle.cp_tree_share.proofs.At.{either_way}
use Rattle.cp_tree_share.proofs.tree.ShareTreeTreeRep.remove.Goals as goal

pub take_out-requires-clause-small : goal.take_out-requires-clause-small
take_out-requires-clause-small c = small_tree _ (tree-without c.args.self.now.root _ c.args.label.now c.args.self.now.tree)

pub invariant_of-self : goal.invariant_of-self
invariant_of-self c =
    either_way c.take_out.result c.take_out.ensures.ok c.take_out.ensures.err
    (λ is. record { tree = subst IsTree (sym is) (tree-without c.args.self.now.root _ c.args.label.now c.args.self.now.tree) })
    (λ same. record { tree = subst IsTree (sym same) c.args.self.now.tree })
