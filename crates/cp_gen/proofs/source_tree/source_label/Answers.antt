use Rattle.std.proofs.Common.{arith, rules}
use Rattle.cp_gen.proofs.Labels.{short_label}
use Rattle.cp_gen.proofs.source_tree.source_label.Goals as goal

pub copy_of-requires : goal.copy_of-requires
copy_of-requires c = record { short = short_label c.as_str.result.now 103 c.args.number (search rules) (omega arith) }
