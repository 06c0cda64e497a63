use Rattle.std.proofs.Common.{sym, ◌∙◌, refl}
use Rattle.std.specs.declared.option.Option.TheVariants.{None}
use Rattle.cp_overlay.proofs.Found.{kept_still, none_copied}
use Rattle.cp_overlay.proofs.origins.sweep_key.Goals as goal

pub returns-then-is_none : goal.returns-then-is_none
returns-then-is_none c =
    kept_still c.args.map.now c.remove.new.self c.args.key.now None c.remove.ensures.updates refl (sym c.at.ensures ∙ none_copied c.at.result c.is_none.result c.is_none.ensures c.if-is_none.true)
