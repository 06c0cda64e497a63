use Rattle.std.proofs.Common.{◌++◌, ◌∷◌, [], ap, ◌∙◌}
use Rattle.cp_overlay.specs.Shown.{paths}
use Rattle.cp_overlay.proofs.Gathered.{paths-append}
use Rattle.cp_overlay.proofs.origins.push_key.Goals as goal

pub returns : goal.returns
returns c =
    let keys = c.args.keys.now.items in
    ap paths c.in_ok-push.ensures.items
    ∙ paths-append keys (c.in_ok-key.key ∷ [])
    ∙ ap (λ k. paths keys ++ k ∷ []) (c.in_ok-key.ensures.items_if_clones_equal (λ x y h. h))
