use Rattle.std.proofs.Common.{◌≡◌, sym, ap, subst, ◌∙◌, refl, min}
use Rattle.cp_store.specs.Stores.{KindRows}
use Rattle.cp_store.specs.Calls.{Asks}
use Rattle.cp_store.specs.declared.fault.StoreFault.TheVariants.{Disk}
use Rattle.cp_model.specs.Changes.{change_told, change_at}
use Rattle.cp_paged.specs.Paged.{PagedRows, both}
use Rattle.cp_paged.proofs.Both.{outside, told-after, told-on, cost-on, both-asked}
use Rattle.cp_paged.proofs.answers.last_change.Goals as goal

pub returns-then-not-is_target-clause-found : goal.returns-then-not-is_target-clause-found
returns-then-not-is_target-clause-found g c = λ rs kept. outside (g.K.PlaceRows.kept_kind c.args.rows.now) rs c.args.t c.args.loc.now (sym c.if-not-is_target.ensures)

pub returns-in-Some-clause-found : goal.returns-in-Some-clause-found
returns-in-Some-clause-found g c = λ rs kept.
    let tail : c.store.inside.tail ≡ c.args.store.now.tail = ap (λ (s : PagedRows). s.tail) c.store.view_is in
    told-after _ (g.K.PlaceRows.kept_kind c.args.rows.now) c.args.store.now rs kept c.args.t c.args.loc.now (sym c.if-not-is_target.ensures) c.in_ok-change.field-0 c.in-Some.change c.in-Some.is
    (subst (λ (x : KindRows). change_told c.in_ok-change.field-0 ≡ change_at x.kind x.rows.list c.args.t c.args.loc.now) tail (c.in_ok-change.ensures.found c.store.inside.tail.rows.list refl))

pub returns-clause-found : goal.returns-clause-found
returns-clause-found g c = λ rs kept.
    let tail : c.store.inside.tail ≡ c.args.store.now.tail = ap (λ (s : PagedRows). s.tail) c.store.view_is in
    told-on _ (g.K.PlaceRows.kept_kind c.args.rows.now) c.args.store.now rs kept c.args.t c.args.loc.now (sym c.if-not-is_target.ensures) c.in_ok-change.field-0 c.in_default.is
    (subst (λ (x : KindRows). change_told c.in_ok-change.field-0 ≡ change_at x.kind x.rows.list c.args.t c.args.loc.now) tail (c.in_ok-change.ensures.found c.store.inside.tail.rows.list refl))
    c.newest_change.result c.min.result c.labels.result.now (c.min.ensures ∙ ap (λ (s : PagedRows). min c.args.t s.upto) c.store.view_is) c.labels.ensures.labels (c.newest_change.ensures.found kept.on kept.pages)

pub returns-clause-reads : goal.returns-clause-reads
returns-clause-reads g c = λ rs kept.
    let tail : c.store.inside.tail ≡ c.args.store.now.tail = ap (λ (s : PagedRows). s.tail) c.store.view_is in
    cost-on _ (g.K.PlaceRows.kept_kind c.args.rows.now) c.args.store.now rs kept c.args.t c.args.loc.now (sym c.if-not-is_target.ensures) c.in_ok-change.field-0 c.in_default.is
    (subst (λ (x : KindRows). change_told c.in_ok-change.field-0 ≡ change_at x.kind x.rows.list c.args.t c.args.loc.now) tail (c.in_ok-change.ensures.found c.store.inside.tail.rows.list refl))
    (g.K.PlaceRows.cost c.args.rows.now) c.min.result c.labels.result.now _ _ (c.min.ensures ∙ ap (λ (s : PagedRows). min c.args.t s.upto) c.store.view_is) c.labels.ensures.labels (c.newest_change.ensures.reads kept.on kept.pages)

pub returns-clause-asks : goal.returns-clause-asks
returns-clause-asks g c =
    subst (λ s. Asks (both g.K.PlaceRows) (λ e. e ≡ Disk) (s, c.args.rows.now) (record { upto = c.store.inside.upto; tail = c.last_change.new.self }, c.newest_change.new.rows) c.newest_change.result) c.store.view_is
    (both-asked g.K.PlaceRows (λ e. e ≡ Disk) c.newest_change.result (record { upto = c.store.inside.upto; tail = c.store.inside.tail }) c.last_change.new.self c.args.rows.now c.newest_change.new.rows _ c.last_change.ensures.asks c.newest_change.ensures.asks)
