use Rattle.cp_words.proofs.Turns.{one_turn_more, all_turns}
use Rattle.cp_words.proofs.parser.row_command.Goals as goal

pub loop-operand-preserved : goal.loop-operand-preserved
loop-operand-preserved c =
    (one_turn_more _ _ c.args.row.now.operands.now c.loop-operand.operand-index _ _ _ c.loop-operand-test.true c.loop-operand.invariant.0 c.in_ok-command.ensures.0, c.in_ok-command.ensures.1)

pub returns : goal.returns
returns c =
    (all_turns _ _ c.args.row.now.operands.now c.loop-operand.operand-index _ c.loop-operand-test.false c.loop-operand.invariant.0, c.loop-operand.invariant.1)
