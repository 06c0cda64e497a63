use Rattle.std.proofs.Common.{ℕ, sym, ap, ◌∙◌, List}
use Rattle.std.specs.Prelude.{◌||◌}
use Rattle.cp_paged.specs.Listing.{is_tid, can_go_whole}
use Rattle.cp_paged.proofs.LossesOn.{lost-all, lost-both, quiet-never, cost-lost, cost-both, both-within, at_cost}
use Rattle.cp_paged.proofs.losing.losses_on.Goals as goal

pub returns-in_err-lost-clause-reads : goal.returns-in_err-lost-clause-reads
returns-in_err-lost-clause-reads g c = λ rs kept quiet.
    let k = g.K.PlaceRows in
    cost-lost rs c.args.labels.now (k.kept_kind c.args.rows.now) (k.cost c.args.rows.now) c.args.low c.args.high quiet (k.reads c.args.rows.now) (k.reads c.lost.new.self) (c.in_err-lost.ensures.reads rs kept)

pub returns-then-not-can_go_whole-clause-found : goal.returns-then-not-can_go_whole-clause-found
returns-then-not-can_go_whole-clause-found g c = λ rs kept.
    let k = g.K.PlaceRows in
    lost-all rs c.args.labels.now (k.kept_kind c.args.rows.now) c.args.low c.args.high c.in_ok-lost.lost (ap (λ x. can_go_whole x c.args.labels.now) (sym c.requires.kind) ∙ sym c.if-not-can_go_whole.ensures) (c.in_ok-lost.ensures.topmost rs kept) (c.in_ok-lost.ensures.lost rs kept)

pub returns-then-not-can_go_whole-clause-reads : goal.returns-then-not-can_go_whole-clause-reads
returns-then-not-can_go_whole-clause-reads g c = λ rs kept quiet.
    let k = g.K.PlaceRows in
    cost-lost rs c.args.labels.now (k.kept_kind c.args.rows.now) (k.cost c.args.rows.now) c.args.low c.args.high quiet (k.reads c.args.rows.now) (k.reads c.lost.new.self) (c.in_ok-lost.ensures.reads rs kept)

pub returns-in_err-whole-clause-reads : goal.returns-in_err-whole-clause-reads
returns-in_err-whole-clause-reads g c = λ rs kept quiet.
    let k = g.K.PlaceRows in
    cost-both rs c.args.labels.now (k.kept_kind c.args.rows.now) (k.cost c.args.rows.now) c.args.low c.args.high quiet (k.reads c.args.rows.now) (k.reads c.lost.new.self) (k.reads c.whole_losses.new.rows) (ap (λ x. can_go_whole x c.args.labels.now) (sym c.requires.kind) ∙ sym c.if-not-can_go_whole.ensures) (c.in_ok-lost.ensures.reads rs kept)
    (at_cost _ _ c.in_ok-lost.ensures.asks.cost _ _ _ (c.in_err-whole.ensures.reads rs (c.in_ok-lost.ensures.asks.rows rs kept) (quiet-never rs c.args.labels.now (k.kept_kind c.args.rows.now) c.args.low c.args.high quiet)))

pub returns-in_err-united-clause-reads : goal.returns-in_err-united-clause-reads
returns-in_err-united-clause-reads g c = λ rs kept quiet.
    let k = g.K.PlaceRows in
    cost-both rs c.args.labels.now (k.kept_kind c.args.rows.now) (k.cost c.args.rows.now) c.args.low c.args.high quiet (k.reads c.args.rows.now) (k.reads c.lost.new.self) (k.reads c.whole_losses.new.rows) (ap (λ x. can_go_whole x c.args.labels.now) (sym c.requires.kind) ∙ sym c.if-not-can_go_whole.ensures) (c.in_ok-lost.ensures.reads rs kept)
    (at_cost _ _ c.in_ok-lost.ensures.asks.cost _ _ _ (c.in_ok-whole.ensures.reads rs (c.in_ok-lost.ensures.asks.rows rs kept) (quiet-never rs c.args.labels.now (k.kept_kind c.args.rows.now) c.args.low c.args.high quiet)))

pub returns-clause-found : goal.returns-clause-found
returns-clause-found g c = λ rs kept.
    let k = g.K.PlaceRows in
    let lost = c.in_ok-lost.ensures.lost rs kept in
    lost-both rs c.args.labels.now c.args.low c.args.high c.in_ok-lost.lost c.in_ok-whole.whole.items c.in_ok-united.field-0 lost (c.in_ok-whole.ensures.all rs (c.in_ok-lost.ensures.asks.rows rs kept)) (c.in_ok-united.ensures.rise lost.rise) (λ t. c.in_ok-united.ensures.all t ∙ ap (λ (l : List ℕ). is_tid t c.in_ok-lost.lost || is_tid t l) c.as_slice.ensures.value)

pub returns-clause-within : goal.returns-clause-within
returns-clause-within g c = both-within c.args.low c.args.high c.in_ok-lost.lost c.in_ok-whole.whole.items c.in_ok-united.field-0 c.in_ok-lost.ensures.within c.in_ok-whole.ensures.within (λ t. c.in_ok-united.ensures.all t ∙ ap (λ (l : List ℕ). is_tid t c.in_ok-lost.lost || is_tid t l) c.as_slice.ensures.value)

pub returns-clause-reads : goal.returns-clause-reads
returns-clause-reads g c = λ rs kept quiet.
    let k = g.K.PlaceRows in
    cost-both rs c.args.labels.now (k.kept_kind c.args.rows.now) (k.cost c.args.rows.now) c.args.low c.args.high quiet (k.reads c.args.rows.now) (k.reads c.lost.new.self) (k.reads c.whole_losses.new.rows) (ap (λ x. can_go_whole x c.args.labels.now) (sym c.requires.kind) ∙ sym c.if-not-can_go_whole.ensures) (c.in_ok-lost.ensures.reads rs kept)
    (at_cost _ _ c.in_ok-lost.ensures.asks.cost _ _ _ (c.in_ok-whole.ensures.reads rs (c.in_ok-lost.ensures.asks.rows rs kept) (quiet-never rs c.args.labels.now (k.kept_kind c.args.rows.now) c.args.low c.args.high quiet)))
