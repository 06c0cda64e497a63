use Rattle.std.proofs.Common.{◌≡◌, ◌∙◌}
use Rattle.cp_model.specs.Place.{at_target}
use Rattle.cp_page.specs.Orders.{place_tid}
use Rattle.cp_paged.proofs.TidsBehind.{newest-found}
use Rattle.cp_paged.proofs.looking.newest_row.Goals as goal

pub returns-clause-newest : goal.returns-clause-newest
returns-clause-newest g c = λ k upto rs kept.
    let at : c.as_slice-key.result.now ≡ place_tid (at_target c.args.labels.now) c.args.t = c.as_slice-key.ensures ∙ c.in_ok-set.ensures in
    let taken = c.row_at_place.ensures in
    newest-found k upto kept.stored rs kept.hold c.args.labels.now c.args.t c.ranges.t.fits c.as_slice-key.result.now at c.in_ok-found.found (c.in_ok-found.ensures.found kept.stored kept.has) c.row_at_place.result
    (taken.row (at_target c.args.labels.now) c.args.t at) (taken.none (at_target c.args.labels.now) c.args.t at)
