use Rattle.std.proofs.Common.{arith, sym, append-nil, refl, []}
use Rattle.cp_tree_rows.proofs.Growing.{grown_node, cut_tree}
use Rattle.cp_tree_rows.proofs.branch.RowBranch.cut.Goals as goal

pub settle-requires-clause-node : goal.settle-requires-clause-node
settle-requires-clause-node c =
    let s = c.args.self.now in
    grown_node s.item s.last s.rows.items [] _ _ c.args.place.now s.part c.requires.node (omega (arith, c.len-len.ensures, s.rows.ok.0)) (sym (append-nil s.rows.items))

pub returns : goal.returns
returns c =
    let s = c.args.self.now in
    cut_tree s.item s.last s.rows.items [] s.rows.items _ c.args.place.now s.part c.requires.node (omega (arith, c.len-len.ensures, s.rows.ok.0)) (sym (append-nil s.rows.items)) c.settle.new.rows.items c.settle.new.last c.args.label.now c.settle.ensures.put refl
