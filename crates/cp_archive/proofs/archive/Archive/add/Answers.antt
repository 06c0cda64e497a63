use Rattle.std.proofs.Common.{sym, ap, ◌∙◌}
use Rattle.std.specs.Prelude.{map}
use Rattle.cp_model.specs.Keyed as keyed
use Rattle.cp_model.specs.Tree.{Tree}
use Rattle.cp_tree.specs.Rows.{entry_row}
use Rattle.cp_archive.specs.Trees.{newest}
use Rattle.cp_archive.specs.declared.touched.Touched.{Touched}
use Rattle.cp_archive.proofs.Adding.{tree-leads}
use Rattle.cp_archive.proofs.VersionTrees.{newest-version}
use Rattle.cp_archive.proofs.archive.Archive.add.Goals as goal

pub add_step-requires-clause-step : goal.add_step-requires-clause-step
add_step-requires-clause-step g c =
    let x : Touched = record { place = c.root-place.result; before = c.in_ok-before.before; after = c.in_ok-after.after } in
    let tree : Tree = g.R.TreeRep.contents c.args.tree.now in (
      tree,
      tree-leads x (newest c.args.self.now) tree c.root-place.ensures
          (c.in_ok-before.ensures ∙ ap (λ t. map entry_row (keyed.entries t)) (sym (newest-version c.self.inside.paths c.self.inside.last) ∙ ap newest c.self.view_is))
          c.in_ok-after.ensures (g.met.R.TreeRep.is_tree c.args.tree.now),
    )

pub returns-clause-ok : goal.returns-clause-ok
returns-clause-ok g c =
    let x : Touched = record { place = c.root-place.result; before = c.in_ok-before.before; after = c.in_ok-after.after } in
    let tree : Tree = g.R.TreeRep.contents c.args.tree.now in
    c.add_step.ensures.ok tree
    (tree-leads x (newest c.args.self.now) tree c.root-place.ensures
    (c.in_ok-before.ensures ∙ ap (λ t. map entry_row (keyed.entries t)) (sym (newest-version c.self.inside.paths c.self.inside.last) ∙ ap newest c.self.view_is))
    c.in_ok-after.ensures (g.met.R.TreeRep.is_tree c.args.tree.now))
