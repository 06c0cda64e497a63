use Rattle.cp_tree_rows.proofs.Turning.{settled}
use Rattle.cp_tree_rows.proofs.change.arrange.Goals as goal

pub returns-clause-put : goal.returns-clause-put
returns-clause-put c =
    let o = c.open-span in
    settled c.args.rows.now o.new.rows c.turn.new.rows c.args.len o.new.last o.result.start o.result.end c.args.place.now c.args.label.now c.requires.within c.requires.piece o.ensures c.turn.ensures
