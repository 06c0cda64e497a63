use Rattle.std.proofs.Common.{◌≡◌, sym, subst, OnOk}
use Rattle.cp_model.specs.Tree.{IsTree}
use Rattle.cp_tree.proofs.Found.{no_length}
use Rattle.cp_tree.proofs.Small.{small_tree}
use Rattle.cp_tree_arena.proofs.Trees.{rows_at_root, tree_either}
use Rattle.cp_tree_arena.proofs.tree.ArenaTreeTreeRep.put_rows.Goals as goal

pub replace-requires-clause-small : goal.replace-requires-clause-small
replace-requires-clause-small c =
    let whole = rows_at_root c.args.self.now.arena _ _ _ c.labels.ensures.labels (no_length _ c.in-None.ensures.cases) c.requires.rows in
    small_tree _ (subst IsTree whole c.requires.fits)

pub invariant_of-self : goal.invariant_of-self
invariant_of-self c =
    let whole = rows_at_root c.args.self.now.arena _ _ _ c.labels.ensures.labels (no_length _ c.in-None.ensures.cases) c.requires.rows in
    record { tree = tree_either c.replace.result _ _ _ c.replace.ensures.ok c.replace.ensures.err (subst IsTree whole c.requires.fits) c.args.self.now.tree }

pub returns-in-None-clause-ok : goal.returns-in-None-clause-ok
returns-in-None-clause-ok c =
    let whole = rows_at_root c.args.self.now.arena _ _ _ c.labels.ensures.labels (no_length _ c.in-None.ensures.cases) c.requires.rows in
    subst (λ z. OnOk c.replace.result (c.replace.new.self ≡ z)) (sym whole) c.replace.ensures.ok
