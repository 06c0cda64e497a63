use Rattle.std.proofs.Common.{◌∙◌, arith, ap, sym, subst, length}
use Rattle.cp_model.specs.Place.{child}
use Rattle.cp_model.specs.Subtrees.{with_subtree}
use Rattle.cp_model.specs.Tree.{IsTree, weight, text_bytes}
use Rattle.cp_tree.specs.Rows.{root_entries}
use Rattle.cp_tree_rows.specs.Branches.{tree_in}
use Rattle.cp_tree_rows.proofs.Wrapping.{leaf_weight, few_rows}
use Rattle.cp_tree.proofs.FewRows.{text_fits}
use Rattle.cp_tree_rows.proofs.tree.RowTreeTreeRep.insert_leaf.Goals as goal

pub of-requires : goal.of-requires
of-requires c = text_fits _ _ _ c.requires.fits

pub overflow_add-added-2 : goal.overflow_add-added-2
overflow_add-added-2 c =
    let s = c.args.self.now in
    omega (
      arith,
      leaf_weight (tree_in s.branch) c.args.place.now c.args.label.now c.args.content.now s.tree c.requires.fits c.requires.free,
      c.requires.fits.within.weighs,
      ap length c.as_str.ensures.text,
      c.text_bytes.ensures.bytes,
      ap text_bytes c.in_ok-item.ensures,
    )

pub put_leaf-requires-clause-room : goal.put_leaf-requires-clause-room
put_leaf-requires-clause-room c = (let b = c.args.self.now.branch in omega (arith, few_rows b.item b.last b.rows.items b.part c.args.self.now.tree.within.nodes))

pub overflow_add-self : goal.overflow_add-self
overflow_add-self c =
    let s = c.args.self.now in
    omega (
      arith,
      leaf_weight (tree_in s.branch) c.args.place.now c.args.label.now c.args.content.now s.tree c.requires.fits c.requires.free,
      c.requires.fits.within.weighs,
      s.weighed,
      ap length c.as_str.ensures.text,
      c.text_bytes.ensures.bytes,
      ap text_bytes c.in_ok-item.ensures,
    )

pub invariant_of-self-2 : goal.invariant_of-self-2
invariant_of-self-2 c =
    let s = c.args.self.now in
    let is = c.in_ok-put_leaf.ensures.ok ∙ (λ i. with_subtree (child (c.labels.ensures.labels i) c.args.label.now) (root_entries (c.in_ok-item.ensures i)) (tree_in s.branch)) in
    record {
      tree = subst IsTree (sym is) c.requires.fits;
      weighed = omega (
        arith,
        leaf_weight (tree_in s.branch) c.args.place.now c.args.label.now c.args.content.now s.tree c.requires.fits c.requires.free,
        ap weight is,
        s.weighed,
        ap length c.as_str.ensures.text,
        c.text_bytes.ensures.bytes,
        ap text_bytes c.in_ok-item.ensures,
      );
    }
