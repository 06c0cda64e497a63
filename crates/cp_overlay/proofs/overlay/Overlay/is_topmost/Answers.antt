use Rattle.std.proofs.Common.{◌≡◌, ◌≤◌, ap, ◌∙◌, drop, length}
use Rattle.std.specs.Prelude.{is_some}
use Rattle.std.specs.declared.option.Option.TheVariants.{Some}
use Rattle.cp_model.specs.Place.{nearest}
use Rattle.cp_overlay.specs.Seen.{seen}
use Rattle.cp_overlay.proofs.Noting.{topmost-snoc, topmost-root, none-found}
use Rattle.cp_overlay.proofs.overlay.Overlay.is_topmost.Goals as goal

pub returns-in-Some : goal.returns-in-Some
returns-in-Some c =
    let f = (seen c.args.self.now).origins in
    let r = c.in-Some.above.now in
    none-found f r c.nearest_to.result (λ e. (e.1 ≤ length r) × (nearest f r ≡ Some (e.0.now, drop e.1 r))) c.is_none.result c.nearest_to.ensures (λ a q. ap is_some q.1) c.is_none.ensures
    ∙ topmost-snoc f c.args.key.now r c.in-Some.field-0-0.now c.in-Some.ensures.cases.0

pub returns-in-None : goal.returns-in-None
returns-in-None c = topmost-root (seen c.args.self.now).origins c.args.key.now c.in-None.ensures.cases
