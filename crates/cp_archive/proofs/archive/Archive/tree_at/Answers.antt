use Rattle.std.proofs.Common.{◌≡◌, ◌+◌, ◌≤◌, ◌∙◌, length, sym, ap, subst, arith}
use Rattle.std.specs.List.{slice_get}
use Rattle.std.specs.declared.option.Option.TheVariants.{Some}
use Rattle.cp_model.specs.History.{IsLiteral}
use Rattle.cp_model.specs.Keyed.{entries}
use Rattle.cp_model.specs.Tree.{IsTree}
use Rattle.cp_tree.specs.Rows.{entries_in}
use Rattle.cp_tree.proofs.Listed.{entries-listed}
use Rattle.cp_archive.specs.Phases.{tree_of_version}
use Rattle.cp_archive.proofs.Adding.{tree-within}
use Rattle.cp_archive.proofs.Making.{version-literal, version-made}
use Rattle.cp_archive.proofs.VersionTrees.{versions-length, versions-at}
use Rattle.cp_archive.proofs.archive.Archive.tree_at.Goals as goal

pub put_rows-requires-clause-rows : goal.put_rows-requires-clause-rows
put_rows-requires-clause-rows g c =
    let tree = tree_of_version c.self.inside.paths c.args.version in
    let long : c.self.inside.last + 1 ≡ length c.args.self.now = sym (versions-length c.self.inside.paths c.self.inside.last) ∙ ap length c.self.view_is in
    let few = c.requires in
    let within : IsTree tree = tree-within c.self.inside.paths c.self.inside.last c.self.inside.ranges c.args.version c.self.invariant (omega (arith, few, long)) in
    let listed : entries_in c.as_slice.result.now ≡ entries tree = entries-listed c.as_slice.result.now _ (entries tree) (c.as_slice.ensures.value ∙ c.rows.view_is) c.in_ok-rows.ensures in
    subst IsLiteral (sym listed) (version-literal tree within)

pub put_rows-requires-clause-fits : goal.put_rows-requires-clause-fits
put_rows-requires-clause-fits g c =
    let tree = tree_of_version c.self.inside.paths c.args.version in
    let long : c.self.inside.last + 1 ≡ length c.args.self.now = sym (versions-length c.self.inside.paths c.self.inside.last) ∙ ap length c.self.view_is in
    let few = c.requires in
    let within : IsTree tree = tree-within c.self.inside.paths c.self.inside.last c.self.inside.ranges c.args.version c.self.invariant (omega (arith, few, long)) in
    let listed : entries_in c.as_slice.result.now ≡ entries tree = entries-listed c.as_slice.result.now _ (entries tree) (c.as_slice.ensures.value ∙ c.rows.view_is) c.in_ok-rows.ensures in
    subst IsTree (sym (version-made tree (g.R.TreeRep.contents c.in_ok-tree.tree) c.root.result c.as_slice.result.now c.root.ensures listed)) within

pub returns : goal.returns
returns g c =
    let tree = tree_of_version c.self.inside.paths c.args.version in
    let long : c.self.inside.last + 1 ≡ length c.args.self.now = sym (versions-length c.self.inside.paths c.self.inside.last) ∙ ap length c.self.view_is in
    let few = c.requires in
    let within : c.args.version ≤ c.self.inside.last = omega (arith, few, long) in
    let listed : entries_in c.as_slice.result.now ≡ entries tree = entries-listed c.as_slice.result.now _ (entries tree) (c.as_slice.ensures.value ∙ c.rows.view_is) c.in_ok-rows.ensures in
    let made = version-made tree (g.R.TreeRep.contents c.in_ok-tree.tree) c.root.result c.as_slice.result.now c.root.ensures listed in
    ap (λ ts. slice_get ts c.args.version) (sym c.self.view_is)
    ∙ versions-at c.self.inside.paths c.self.inside.last c.args.version within
    ∙ ap (λ t. Some t) (sym (c.in_ok-put_rows.ensures.ok ∙ made))
