use Rattle.std.proofs.Common.{sym, ap}
use Rattle.std.specs.declared.option.Option.TheVariants.{None, Some}
use Rattle.std.specs.Prelude.{if◌then◌else◌}
use Rattle.cp_workspace.proofs.Owning.{no-name}
use Rattle.cp_workspace.proofs.owner.name_in.Goals as goal

pub returns-in_default : goal.returns-in_default
returns-in_default c = ap (λ b. if b then Some c.args.word.now else None) (sym (no-name c.args.word.now c.in_default.ensures.cases.0))
