use Rattle.std.proofs.Common.{arith}
use Rattle.cp_record.specs.Bytes.{commit_length}
use Rattle.cp_engine.proofs.txn.commit_length.Goals as goal

pub returns : goal.returns
unfolding commit_length
returns c = omega (arith, c.len.ensures.bytes, c.bytes.ensures.sum)
