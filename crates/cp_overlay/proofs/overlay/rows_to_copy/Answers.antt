use Rattle.std.proofs.Common.{◌++◌, ◌∷◌, [], ap, ◌∙◌}
use Rattle.std.specs.declared.option.Option.TheVariants.{Some}
use Rattle.cp_overlay.specs.Shown.{shown}
use Rattle.cp_overlay.proofs.Gathered.{shown-append}
use Rattle.cp_overlay.proofs.overlay.rows_to_copy.Goals as goal

pub returns : goal.returns
returns c =
    ap shown c.in_ok-join.ensures ∙ shown-append c.in_ok-rows.rows.items c.in_ok-below.below.items ∙ ap (λ xs. xs ++ shown c.in_ok-below.below.items) c.in_ok-rows.ensures
    ∙ ap (λ xs. ([], Some c.args.origin) ∷ xs) c.in_ok-below.ensures
