use Rattle.std.proofs.Common.{◌≡◌, sym, ap, subst, ◌∙◌, refl, min, max}
use Rattle.cp_model.specs.Below.{losses_at}
use Rattle.cp_store.specs.Stores.{KindRows}
use Rattle.cp_paged.specs.Paged.{PagedRows}
use Rattle.cp_paged.proofs.SplitLosses.{losses-outside, losses-both, losses-read, joined-within}
use Rattle.cp_paged.proofs.answers.losses.Goals as goal

pub returns-then-not-is_target-clause-found : goal.returns-then-not-is_target-clause-found
returns-then-not-is_target-clause-found g c = λ rs kept. c.new.ensures.items ∙ losses-outside rs c.args.low c.args.high c.args.loc.now (sym c.if-not-is_target.ensures)

pub returns-in_err-found-clause-reads : goal.returns-in_err-found-clause-reads
returns-in_err-found-clause-reads g c = λ rs kept quiet.
    losses-read _ (g.K.PlaceRows.kept_kind c.args.rows.now) c.args.store.now rs kept c.args.low c.args.high c.args.loc.now (g.K.PlaceRows.cost c.args.rows.now) c.labels-labels.result.now c.min.result (g.K.PlaceRows.reads c.args.rows.now) (g.K.PlaceRows.reads c.losses_on.new.rows)
    c.labels-labels.ensures.labels (c.min.ensures ∙ ap (λ (s : PagedRows). min c.args.high s.upto) c.store.view_is) quiet (c.in_err-found.ensures.reads kept.on kept.pages)

pub returns-in_err-joined-clause-reads : goal.returns-in_err-joined-clause-reads
returns-in_err-joined-clause-reads g c = λ rs kept quiet.
    losses-read _ (g.K.PlaceRows.kept_kind c.args.rows.now) c.args.store.now rs kept c.args.low c.args.high c.args.loc.now (g.K.PlaceRows.cost c.args.rows.now) c.labels-labels.result.now c.min.result (g.K.PlaceRows.reads c.args.rows.now) (g.K.PlaceRows.reads c.losses_on.new.rows)
    c.labels-labels.ensures.labels (c.min.ensures ∙ ap (λ (s : PagedRows). min c.args.high s.upto) c.store.view_is) quiet (c.in_ok-found.ensures.reads kept.on kept.pages)

pub returns-clause-reads : goal.returns-clause-reads
returns-clause-reads g c = λ rs kept quiet.
    losses-read _ (g.K.PlaceRows.kept_kind c.args.rows.now) c.args.store.now rs kept c.args.low c.args.high c.args.loc.now (g.K.PlaceRows.cost c.args.rows.now) c.labels-labels.result.now c.min.result (g.K.PlaceRows.reads c.args.rows.now) (g.K.PlaceRows.reads c.losses_on.new.rows)
    c.labels-labels.ensures.labels (c.min.ensures ∙ ap (λ (s : PagedRows). min c.args.high s.upto) c.store.view_is) quiet (c.in_ok-found.ensures.reads kept.on kept.pages)

pub returns-clause-found : goal.returns-clause-found
returns-clause-found g c = λ rs kept.
    let tail : c.store.inside.tail ≡ c.args.store.now.tail = ap (λ (s : PagedRows). s.tail) c.store.view_is in
    losses-both _ (g.K.PlaceRows.kept_kind c.args.rows.now) c.args.store.now rs kept c.args.low c.args.high c.args.loc.now c.labels-labels.result.now c.min.result c.max.result c.in_ok-found.found c.in_ok-later.later c.in_ok-joined.field-0 (sym c.if-not-is_target.ensures) c.labels-labels.ensures.labels
    (c.min.ensures ∙ ap (λ (s : PagedRows). min c.args.high s.upto) c.store.view_is) (c.max.ensures ∙ ap (λ (s : PagedRows). max c.args.low s.upto) c.store.view_is) (c.in_ok-found.ensures.found kept.on kept.pages)
    (subst (λ (x : KindRows). c.in_ok-later.later ≡ losses_at x.rows.list c.max.result c.args.high c.args.loc.now) tail (c.in_ok-later.ensures.found c.store.inside.tail.rows.list refl)) c.in_ok-joined.ensures

pub returns-clause-within : goal.returns-clause-within
returns-clause-within g c =
    joined-within c.args.low c.args.high c.store.inside.upto c.min.result c.max.result c.in_ok-found.found c.in_ok-later.later c.in_ok-joined.field-0 c.min.ensures c.max.ensures c.in_ok-found.ensures.within c.in_ok-later.ensures.within c.in_ok-joined.ensures
