use Rattle.std.proofs.Common.{◌++◌, ◌∷◌, [], ap, ◌∙◌}
use Rattle.cp_overlay.specs.Shown.{shown}
use Rattle.cp_overlay.proofs.Gathered.{shown-append}
use Rattle.cp_overlay.proofs.origins.push_under.Goals as goal

pub returns : goal.returns
returns c =
    let all = c.args.all.now.items in
    ap shown c.in_ok-push.ensures.items
    ∙ shown-append all ((c.in_ok-key.key, c.args.row.1) ∷ [])
    ∙ ap (λ k. shown all ++ (k, c.args.row.1) ∷ []) (c.in_ok-key.ensures ∙ ap (λ s. c.args.place.now ++ s) c.as_slice.ensures.value)
