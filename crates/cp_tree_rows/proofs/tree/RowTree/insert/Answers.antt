use Rattle.std.proofs.Common.{arith, ap, sym, subst, length}
use Rattle.cp_model.specs.Place.{child}
use Rattle.cp_model.specs.Tree.{IsTree, weight}
use Rattle.cp_model.proofs.SumsLemmas.{last_bytes_child}
use Rattle.cp_tree_rows.specs.Branches.{tree_in}
use Rattle.cp_tree_rows.proofs.Wrapping.{root_there, new_few, new_light, weight_added, few_rows}
use Rattle.cp_tree_rows.proofs.tree.RowTree.insert.Goals as goal

pub weight-requires-clause-light : goal.weight-requires-clause-light
weight-requires-clause-light c =
    let s = c.args.self.now in
    let n = c.args.new in
    omega (arith, new_light (tree_in s.branch) (tree_in n) (child c.args.place.now c.args.label.now) s.tree (root_there n.item n.rows.items) c.requires.fits, ap weight c.whole.ensures.tree)

pub overflow_add-added : goal.overflow_add-added
overflow_add-added c =
    let s = c.args.self.now in
    let n = c.args.new in
    omega (
      arith,
      new_light (tree_in s.branch) (tree_in n) (child c.args.place.now c.args.label.now) s.tree (root_there n.item n.rows.items) c.requires.fits,
      ap weight c.whole.ensures.tree,
      c.weight.ensures,
      last_bytes_child c.args.place.now c.args.label.now,
      ap length c.as_str.ensures.text,
    )

pub put-requires-clause-room : goal.put-requires-clause-room
put-requires-clause-room c = (let b = c.args.self.now.branch in omega (arith, few_rows b.item b.last b.rows.items b.part c.args.self.now.tree.within.nodes))

pub put-requires-clause-few : goal.put-requires-clause-few
put-requires-clause-few c =
    let s = c.args.self.now in
    let n = c.args.new in
    omega (arith, few_rows n.item n.last n.rows.items n.part (new_few (tree_in s.branch) (tree_in n) (child c.args.place.now c.args.label.now) s.tree (root_there n.item n.rows.items) c.requires.fits))

pub overflow_add-self : goal.overflow_add-self
overflow_add-self c =
    let s = c.args.self.now in
    let n = c.args.new in
    omega (
      arith,
      weight_added (tree_in s.branch) (tree_in n) (child c.args.place.now c.args.label.now) s.tree (root_there n.item n.rows.items) c.requires.fits c.requires.free,
      c.requires.fits.within.weighs,
      s.weighed,
      ap weight c.whole.ensures.tree,
      c.weight.ensures,
      last_bytes_child c.args.place.now c.args.label.now,
      ap length c.as_str.ensures.text,
    )

pub invariant_of-self-2 : goal.invariant_of-self-2
invariant_of-self-2 c =
    let s = c.args.self.now in
    let n = c.args.new in
    record {
      tree = subst IsTree (sym c.in_ok-put.ensures.ok) c.requires.fits;
      weighed = omega (
        arith,
        weight_added (tree_in s.branch) (tree_in n) (child c.args.place.now c.args.label.now) s.tree (root_there n.item n.rows.items) c.requires.fits c.requires.free,
        ap weight c.in_ok-put.ensures.ok,
        s.weighed,
        ap weight c.whole.ensures.tree,
        c.weight.ensures,
        last_bytes_child c.args.place.now c.args.label.now,
        ap length c.as_str.ensures.text,
      );
    }
