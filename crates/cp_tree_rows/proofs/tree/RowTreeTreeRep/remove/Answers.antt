use Rattle.std.proofs.Common.{◌∙◌, arith, ap, sym, subst, length}
use Rattle.cp_model.specs.Place.{child}
use Rattle.cp_model.specs.Subtrees.{without}
use Rattle.cp_model.specs.Tree.{IsTree, weight}
use Rattle.cp_model.proofs.Kept.{tree-without}
use Rattle.cp_model.proofs.SumsLemmas.{last_bytes_child}
use Rattle.cp_tree.specs.Branch.{sub}
use Rattle.cp_tree_rows.specs.Branches.{tree_in}
use Rattle.cp_tree_rows.proofs.Wrapping.{root_there, few_rows, light_inside, weight_cut}
use Rattle.cp_tree_rows.proofs.tree.RowTreeTreeRep.remove.Goals as goal

pub weight-requires-clause-light : goal.weight-requires-clause-light
weight-requires-clause-light c =
    let n = c.in-Some.part in
    let m = tree_in c.args.self.now.branch in
    omega (arith, light_inside m _ (child c.labels.result.now c.args.label.now) c.args.self.now.tree c.in-Some.ensures.at (root_there n.item.now n.rows.now))

pub overflow_add-gone : goal.overflow_add-gone
overflow_add-gone c =
    let n = c.in-Some.part in
    let m = tree_in c.args.self.now.branch in
    omega (
      arith,
      light_inside m _ (child c.labels.result.now c.args.label.now) c.args.self.now.tree c.in-Some.ensures.at (root_there n.item.now n.rows.now),
      c.weight.ensures,
      last_bytes_child c.labels.result.now c.args.label.now,
      ap length c.as_str.ensures.text,
    )

pub cut-requires-clause-room : goal.cut-requires-clause-room
cut-requires-clause-room c = (let b = c.args.self.now.branch in omega (arith, few_rows b.item b.last b.rows.items b.part c.args.self.now.tree.within.nodes))

pub overflow_sub-self : goal.overflow_sub-self
overflow_sub-self c =
    let n = c.in-Some.part in
    let s = c.args.self.now in
    omega (
      arith,
      weight_cut (tree_in s.branch) _ (child c.labels.result.now c.args.label.now) s.tree c.in-Some.ensures.at (root_there n.item.now n.rows.now),
      c.weight.ensures,
      last_bytes_child c.labels.result.now c.args.label.now,
      ap length c.as_str.ensures.text,
      s.weighed,
    )

pub invariant_of-self : goal.invariant_of-self
invariant_of-self c =
    let n = c.in-Some.part in
    let s = c.args.self.now in
    let m = tree_in s.branch in
    let a = c.args.label.now in
    let is = c.cut.ensures ∙ ap (λ z. without (child z a) m) c.labels-in-Some.ensures.labels in
    let at = c.in-Some.ensures.at ∙ ap (λ z. sub m (child z a)) c.labels.ensures.labels in
    record {
      tree = subst IsTree (sym is) (tree-without m c.args.place.now a s.tree);
      weighed = omega (
        arith,
        weight_cut m _ (child c.args.place.now a) s.tree at (root_there n.item.now n.rows.now),
        c.weight.ensures,
        last_bytes_child c.args.place.now a,
        ap length c.as_str.ensures.text,
        s.weighed,
        ap weight is,
      );
    }
