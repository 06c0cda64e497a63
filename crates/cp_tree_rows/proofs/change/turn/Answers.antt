use Rattle.cp_tree_rows.proofs.Turning.{turned_rows}
use Rattle.cp_tree_rows.proofs.change.turn.Goals as goal

pub returns : goal.returns
returns c =
    let s = c.args.span in
    turned_rows c.args.rows.now c.rotate.new.rows c.rotate-2.new.rows s.start s.end c.args.len c.requires.order c.requires.within c.requires.few c.rotate.ensures c.rotate-2.ensures
