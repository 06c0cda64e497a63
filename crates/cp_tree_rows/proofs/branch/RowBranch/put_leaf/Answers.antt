use Rattle.std.proofs.Common.{arith, ap, ◌∙◌, refl, []}
use Rattle.cp_model.specs.Place.{child}
use Rattle.cp_model.specs.Subtrees.{with_subtree}
use Rattle.cp_tree_rows.specs.Branches.{tree_in}
use Rattle.cp_tree_rows.proofs.Growing.{empty_part, tree_piece, grown_node, grown_piece, put_part, put_tree, leaf_entries}
use Rattle.cp_tree_rows.proofs.branch.RowBranch.put_leaf.Goals as goal

pub settle-requires-clause-node : goal.settle-requires-clause-node
settle-requires-clause-node c =
    let s = c.args.self.now in
    grown_node s.item s.last s.rows.items _ _ _ c.args.place.now s.part c.requires.node (omega (arith, c.len-len.ensures, s.rows.ok.0)) c.in_ok-push.ensures.items

pub settle-requires-clause-piece : goal.settle-requires-clause-piece
settle-requires-clause-piece c =
    let s = c.args.self.now in
    grown_piece s.item s.last s.rows.items _ _ _ c.args.place.now s.part c.requires.node (omega (arith, c.len-len.ensures, s.rows.ok.0)) c.in_ok-push.ensures.items c.args.label.now
    (tree_piece c.args.label.now (record { label = c.in_ok-of.field-0; item = c.args.item; below = 0; last = 0 }) [] c.in_ok-of.ensures refl (empty_part c.args.item))

pub invariant_of-self-2 : goal.invariant_of-self-2
invariant_of-self-2 c =
    let s = c.args.self.now in
    record { part = put_part s.item s.last s.rows.items _ _ _ c.args.place.now s.part c.requires.node (omega (arith, c.len-len.ensures, s.rows.ok.0)) c.in_ok-push.ensures.items c.settle.new.rows.items c.settle.new.last c.args.label.now c.settle.ensures.put }

pub returns-clause-ok : goal.returns-clause-ok
returns-clause-ok c =
    let s = c.args.self.now in
    put_tree s.item s.last s.rows.items _ _ _ c.args.place.now s.part c.requires.node (omega (arith, c.len-len.ensures, s.rows.ok.0)) c.in_ok-push.ensures.items c.settle.new.rows.items c.settle.new.last c.args.label.now c.settle.ensures.put
    ∙ ap (λ z. with_subtree (child c.args.place.now c.args.label.now) z (tree_in s)) (leaf_entries c.args.item)
