use Rattle.std.proofs.Common.{◌++◌, ◌∷◌, [], ap, ◌∙◌}
use Rattle.cp_overlay.specs.Shown.{shown}
use Rattle.cp_overlay.proofs.Gathered.{shown-append}
use Rattle.cp_overlay.proofs.origins.push_row.Goals as goal

pub returns : goal.returns
returns c =
    let rows = c.args.rows.now.items in
    ap shown c.in_ok-push.ensures.items
    ∙ shown-append rows ((c.in_ok-key.key, c.in_ok-value.value) ∷ [])
    ∙ ap (λ k. shown rows ++ (k, c.in_ok-value.value) ∷ []) (c.in_ok-key.ensures.items_if_clones_equal (λ x y h. h))
    ∙ ap (λ v. shown rows ++ (c.args.labels.now, v) ∷ []) c.in_ok-value.ensures
