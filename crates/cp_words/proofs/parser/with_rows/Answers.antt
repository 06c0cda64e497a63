use Rattle.cp_words.proofs.Turns.{one_turn_more, all_turns}
use Rattle.cp_words.proofs.parser.with_rows.Goals as goal

pub loop-row-preserved : goal.loop-row-preserved
loop-row-preserved c = one_turn_more _ _ c.args.rows.now c.loop-row.row-index _ _ _ c.loop-row-test.true c.loop-row.invariant (c.in_ok-whole.ensures _ c.row_command.ensures)

pub returns : goal.returns
returns c = all_turns _ _ c.args.rows.now c.loop-row.row-index _ c.loop-row-test.false c.loop-row.invariant
