use Rattle.std.proofs.Common.{◌≡◌, take}
use Rattle.std.specs.List.{fold}
use Rattle.clap.specs.Words.{app_of, new_app, new_rule, with_rule}
use Rattle.cp_words.specs.Shapes as shape
use Rattle.cp_words.proofs.parser.row_command.Given as goal

abbrev pub invariant-loop-operand : goal.invariant-loop-operand
invariant-loop-operand l = (app_of l.command ≡ fold (λ a o. with_rule a (record (new_rule o.0.now) { required = o.1 })) (new_app l.row.name.now) (take l.operand-index l.row.operands.now)) × shape.IsLocal l.command
