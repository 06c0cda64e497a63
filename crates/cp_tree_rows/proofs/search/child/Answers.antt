use Rattle.std.proofs.Common.{arith, ◌-◌, sym}
use Rattle.cp_tree_rows.proofs.Stretches.{last_found, gap_after_last}
use Rattle.cp_tree_rows.proofs.search.child.Goals as goal

pub returns-in-Equal : goal.returns-in-Equal
returns-in-Equal c =
    let r = c.index-rows-at in
    last_found _ c.args.label.now c.args.last (c.args.last - 1) r.result c.requires.nested c.requires.sorted c.requires.points (omega (arith, c.if-last-gt0.true)) r.is (sym c.in-Equal.ensures)

pub returns-in-Greater : goal.returns-in-Greater
returns-in-Greater c =
    let r = c.index-rows-at in
    gap_after_last _ c.args.label.now c.args.last (c.args.last - 1) r.result c.requires.nested c.requires.sorted c.requires.points (omega (arith, c.if-last-gt0.true)) r.is (sym c.in-Greater.ensures)
