use Rattle.std.proofs.Common.{arith}
use Rattle.cp_gen.proofs.Labels.{short_label}
use Rattle.cp_gen.proofs.SourceLaws.{root-literal}
use Rattle.cp_gen.proofs.operation.insertion.Goals as goal

pub returns-clause-written : goal.returns-clause-written
returns-clause-written c = (short_label c.in_ok-label.label 101 c.args.number c.in_ok-label.ensures (omega arith), rw c.new-items.ensures.items root-literal)
