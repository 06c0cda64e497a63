use Rattle.std.proofs.Common.{[]}
use Rattle.cp_device_calls.proofs.checkpoints.write_frame.Goals as goal

pub piece-requires-2-clause-body : goal.piece-requires-2-clause-body
piece-requires-2-clause-body c known = (_, c.in_ok-piece.ensures.body known [] (c.in_ok-begin.ensures.begun known))

pub finish-requires-clause-body : goal.finish-requires-clause-body
finish-requires-clause-body c known = (_, c.in_ok-piece-2.ensures.body known _ (c.in_ok-piece.ensures.body known [] (c.in_ok-begin.ensures.begun known)))
