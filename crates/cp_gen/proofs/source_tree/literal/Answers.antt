use Rattle.std.proofs.Common.{arith}
use Rattle.cp_model.specs.Literals.{edge_rows}
use Rattle.cp_gen.proofs.SourceLaws.{node-added, all-nodes}
use Rattle.cp_gen.proofs.source_tree.literal.Goals as goal

pub loop-number-preserved : goal.loop-number-preserved
loop-number-preserved c = node-added c.loop-number.items.items c.push.new.self.items c.in_ok-node.field-0 c.loop-number.number c.loop-number.invariant c.in_ok-node.ensures c.in_ok-push.ensures.items

pub returns : goal.returns
returns c = all-nodes (edge_rows c.loop-number.items.items) c.loop-number.number c.loop-number.invariant (omega arith)
