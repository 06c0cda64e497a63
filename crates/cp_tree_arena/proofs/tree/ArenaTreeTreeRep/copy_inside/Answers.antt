use Rattle.std.proofs.Common.{◌≡◌, sym, subst, OnOk}
use Rattle.cp_model.specs.History.{IsLiteral}
use Rattle.cp_model.specs.Subtrees.{with_subtree}
use Rattle.cp_model.specs.Tree.{IsTree}
use Rattle.cp_tree.proofs.ListingLemmas.{literal-below}
use Rattle.cp_tree_arena.proofs.Trees.{listed}
use Rattle.cp_tree_arena.proofs.tree.ArenaTreeTreeRep.copy_inside.Goals as goal

pub put_rows-requires-clause-rows : goal.put_rows-requires-clause-rows
put_rows-requires-clause-rows c =
    let rows = listed _ _ _ _ _ _ c.as_slice.ensures.value c.in_ok-rows.ensures c.node.ensures.at c.labels.ensures.labels in
    subst IsLiteral (sym rows) (literal-below _ _ c.args.self.now.tree c.requires.from)

pub put_rows-requires-clause-fits : goal.put_rows-requires-clause-fits
put_rows-requires-clause-fits c =
    let rows = listed _ _ _ _ _ _ c.as_slice.ensures.value c.in_ok-rows.ensures c.node.ensures.at c.labels.ensures.labels in
    subst (λ z. IsTree (with_subtree c.args.place.now z c.args.self.now.arena)) (sym rows) c.requires.fits

pub returns-clause-ok : goal.returns-clause-ok
returns-clause-ok c =
    let rows = listed _ _ _ _ _ _ c.as_slice.ensures.value c.in_ok-rows.ensures c.node.ensures.at c.labels.ensures.labels in
    subst (λ z. OnOk c.put_rows.result (c.put_rows.new.self.arena ≡ with_subtree c.args.place.now z c.args.self.now.arena)) rows c.put_rows.ensures.ok
