use Rattle.std.proofs.Common.{◌≡◌, take}
use Rattle.std.specs.List.{fold}
use Rattle.clap.specs.Words.{app_of, new_app, new_rule, with_rule}
use Rattle.cp_words.specs.Shapes as shape
use Rattle.cp_words.proofs.parser.with_rows.Given as goal

abbrev pub invariant-loop-row : goal.invariant-loop-row
invariant-loop-row l = app_of l.whole ≡ fold (λ a row. shape.with_command a (fold (λ b o. with_rule b (record (new_rule o.0.now) { required = o.1 })) (new_app row.name.now) row.operands.now)) (app_of l.fn.program) (take l.row-index l.rows)
