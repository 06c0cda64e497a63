use Rattle.std.proofs.Common.{◌∙◌, arith, ap, sym, subst}
use Rattle.cp_model.specs.Keyed.{entries}
use Rattle.cp_model.specs.Subtrees.{with_subtree}
use Rattle.cp_model.specs.Tree.{IsTree, weight}
use Rattle.cp_tree_rows.specs.Branches.{tree_in}
use Rattle.cp_tree.proofs.Found.{no_length, root_put}
use Rattle.cp_tree_rows.proofs.Wrapping.{root_there, new_few, new_light, weight_swapped, few_rows, light_inside}
use Rattle.cp_tree_rows.proofs.tree.RowTree.swap.Goals as goal

pub weight-added-requires-clause-light : goal.weight-added-requires-clause-light
weight-added-requires-clause-light c =
    let s = c.args.self.now in
    let n = c.args.new in
    omega (arith, new_light (tree_in s.branch) (tree_in n) c.args.place.now s.tree (root_there n.item n.rows.items) c.requires.fits, ap weight c.whole.ensures.tree)

pub invariant_of-self : goal.invariant_of-self
invariant_of-self c =
    let m = tree_in c.args.self.now.branch in
    let n = tree_in c.args.new in
    let is = ap (λ z. with_subtree z (entries n) m) (no_length _ c.in-None.ensures.cases) ∙ root_put m n in
    record { tree = subst IsTree is c.requires.fits; weighed = c.weight-added.ensures ∙ ap weight c.whole.ensures.tree }

pub returns-in-None-clause-ok : goal.returns-in-None-clause-ok
returns-in-None-clause-ok c =
    let m = tree_in c.args.self.now.branch in
    let n = tree_in c.args.new in
    sym (ap (λ z. with_subtree z (entries n) m) (no_length _ c.in-None.ensures.cases) ∙ root_put m n)

pub weight-gone-requires-clause-light : goal.weight-gone-requires-clause-light
weight-gone-requires-clause-light c =
    let s = c.args.self.now in
    let n = c.part.result in
    omega (arith, light_inside (tree_in s.branch) _ c.args.place.now s.tree c.part.ensures.at (root_there n.item.now n.rows.now))

pub put-requires-clause-room : goal.put-requires-clause-room
put-requires-clause-room c = (let b = c.args.self.now.branch in omega (arith, few_rows b.item b.last b.rows.items b.part c.args.self.now.tree.within.nodes))

pub put-requires-clause-few : goal.put-requires-clause-few
put-requires-clause-few c =
    let s = c.args.self.now in
    let n = c.args.new in
    omega (arith, few_rows n.item n.last n.rows.items n.part (new_few (tree_in s.branch) (tree_in n) c.args.place.now s.tree (root_there n.item n.rows.items) c.requires.fits))

pub overflow_add-self : goal.overflow_add-self
overflow_add-self c =
    let s = c.args.self.now in
    let n = c.args.new in
    omega (
      arith,
      new_light (tree_in s.branch) (tree_in n) c.args.place.now s.tree (root_there n.item n.rows.items) c.requires.fits,
      s.tree.within.weighs,
      s.weighed,
      c.weight-added.ensures,
      ap weight c.whole.ensures.tree,
    )

pub overflow_sub-self : goal.overflow_sub-self
overflow_sub-self c =
    let s = c.args.self.now in
    let n = c.args.new in
    omega (
      arith,
      weight_swapped (tree_in s.branch) (tree_in n) c.args.place.now s.tree (root_there n.item n.rows.items) c.requires.fits c.requires.there _ c.part.ensures.at,
      s.weighed,
      c.weight-added.ensures,
      c.weight-gone.ensures,
      ap weight c.whole.ensures.tree,
    )

pub invariant_of-self-in-Some : goal.invariant_of-self-in-Some
invariant_of-self-in-Some c =
    let s = c.args.self.now in
    let n = c.args.new in
    let is = c.in_ok-put-in-Some.ensures.ok ∙ ap (λ z. with_subtree z (entries (tree_in n)) (tree_in s.branch)) (sym c.in-Some.ensures.cases.0) in
    record {
      tree = subst IsTree (sym is) c.requires.fits;
      weighed = omega (
        arith,
        weight_swapped (tree_in s.branch) (tree_in n) c.args.place.now s.tree (root_there n.item n.rows.items) c.requires.fits c.requires.there _ c.part.ensures.at,
        s.weighed,
        c.weight-added.ensures,
        c.weight-gone.ensures,
        ap weight c.whole.ensures.tree,
        ap weight is,
      );
    }
