use Rattle.std.proofs.Common.{◌≡◌, ◌∙◌, ap, sym, subst}
use Rattle.cp_model.specs.Keyed.{entries, from_entries}
use Rattle.cp_model.specs.Literals.{literal_rows}
use Rattle.cp_model.specs.History.{IsLiteral}
use Rattle.cp_model.specs.Subtrees.{below}
use Rattle.cp_tree.proofs.Labels.{below-whole, entries-literal, of_entries}
use Rattle.cp_tree.proofs.literal.literal_of.Goals as goal

pub returns-clause-rows : goal.returns-clause-rows
returns-clause-rows g c =
    let m = g.R.TreeRep.contents c.args.tree.now in
    c.in_ok-literal_at.ensures ∙ ap (λ p. below p m) c.root.ensures ∙ below-whole m

pub returns-clause-tree : goal.returns-clause-tree
returns-clause-tree g c =
    let m = g.R.TreeRep.contents c.args.tree.now in
    let rows : literal_rows c.in_ok-literal_at.field-0 ≡ entries m = c.in_ok-literal_at.ensures ∙ ap (λ p. below p m) c.root.ensures ∙ below-whole m in
    ap from_entries rows ∙ of_entries m

pub returns-clause-literal : goal.returns-clause-literal
returns-clause-literal g c =
    let m = g.R.TreeRep.contents c.args.tree.now in
    let rows : literal_rows c.in_ok-literal_at.field-0 ≡ entries m = c.in_ok-literal_at.ensures ∙ ap (λ p. below p m) c.root.ensures ∙ below-whole m in
    subst IsLiteral (sym rows) (entries-literal m (g.met.R.TreeRep.is_tree c.args.tree.now))
