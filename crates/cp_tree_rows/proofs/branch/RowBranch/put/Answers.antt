use Rattle.std.proofs.Common.{arith, ap, ◌∙◌, length, length-append}
use Rattle.cp_model.specs.Place.{child}
use Rattle.cp_model.specs.Subtrees.{with_subtree}
use Rattle.cp_tree_rows.specs.Branches.{tree_in}
use Rattle.cp_tree_rows.proofs.Growing.{grown_node, grown_piece, put_part, put_tree}
use Rattle.cp_tree_rows.proofs.branch.RowBranch.put.Goals as goal

pub settle-requires-clause-node : goal.settle-requires-clause-node
settle-requires-clause-node c =
    let s = c.args.self.now in
    grown_node s.item s.last s.rows.items _ _ _ c.args.place.now s.part c.requires.node (omega (arith, c.len-len.ensures, s.rows.ok.0)) c.in_ok-append.ensures.items

pub settle-requires-clause-piece : goal.settle-requires-clause-piece
settle-requires-clause-piece c =
    let s = c.args.self.now in
    grown_piece s.item s.last s.rows.items _ _ _ c.args.place.now s.part c.requires.node (omega (arith, c.len-len.ensures, s.rows.ok.0)) c.in_ok-append.ensures.items c.args.label.now c.in_ok-rows.ensures.piece

pub settle-requires-clause-within : goal.settle-requires-clause-within
settle-requires-clause-within c = (let xs = c.args.self.now.rows.items in omega (arith, c.len-len.ensures, ap length c.in_ok-append.ensures.items, length-append xs c.in_ok-rows.rows.items))

pub settle-requires-clause-room : goal.settle-requires-clause-room
settle-requires-clause-room c =
    let xs = c.args.self.now.rows.items in
    omega (arith, ap length c.in_ok-append.ensures.items, length-append xs c.in_ok-rows.rows.items, c.in_ok-rows.ensures.count, c.requires.room, c.requires.few)

pub invariant_of-self-2 : goal.invariant_of-self-2
invariant_of-self-2 c =
    let s = c.args.self.now in
    record { part = put_part s.item s.last s.rows.items _ _ _ c.args.place.now s.part c.requires.node (omega (arith, c.len-len.ensures, s.rows.ok.0)) c.in_ok-append.ensures.items c.settle.new.rows.items c.settle.new.last c.args.label.now c.settle.ensures.put }

pub returns-clause-ok : goal.returns-clause-ok
returns-clause-ok c =
    let s = c.args.self.now in
    put_tree s.item s.last s.rows.items _ _ _ c.args.place.now s.part c.requires.node (omega (arith, c.len-len.ensures, s.rows.ok.0)) c.in_ok-append.ensures.items c.settle.new.rows.items c.settle.new.last c.args.label.now c.settle.ensures.put
    ∙ ap (λ z. with_subtree (child c.args.place.now c.args.label.now) z (tree_in s)) c.in_ok-rows.ensures.entries
