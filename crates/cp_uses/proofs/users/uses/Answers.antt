use Rattle.std.proofs.Common.{◌≡◌, ◌≤◌, ◌∙◌, sym, ap, arith}
use Rattle.std.specs.Prelude.{sum_by}
use Rattle.cp_store.specs.Counts.{store_in, calls_in}
use Rattle.cp_uses.specs.Closing.{Closes}
use Rattle.cp_uses.specs.InTime.{calls_in_time}
use Rattle.cp_uses.specs.Renewals.{changes_at}
use Rattle.cp_uses.proofs.Whole.{firsts}
use Rattle.cp_uses.proofs.UseLemmas.{kept-in-order, closes-all, noted-all, users-are, is-served}
use Rattle.cp_uses.proofs.users.uses.Goals as goal

pub returns-clause-users : goal.returns-clause-users
returns-clause-users g c = λ s h.
    let all = c.close.new.front.found.items in
    let one = c.in_ok-renew.ensures.asks in
    let is = h.state.committed in
    let kept = kept-in-order g.P.ProvStore _ is.history s c.args.index.now is.legal is.replayed (one.rows s.rows h.state.keeps) (one.last ∙ sym is.now) h.rows in
    let kind = c.kind-kind.ensures ∙ sym is.kind in
    let closes : Closes s.kind s.rows s.rows (firsts s.kind s.rows c.args.place.now s.now) all =
    closes-all s _ _ _ c.args.index.now c.args.place.now c.in_ok-start.start c.new-front.result.found.items c.add.new.self.found.items c.renew.new.front.found.items all
    c.new-front.ensures.found c.in_ok-add.ensures.found c.in_ok-start.ensures.cases (c.in_ok-renew.ensures.found s.rows h.state.keeps) (c.in_ok-close.ensures.closed kept)
    (sym is.kind) kind (sym is.now) h.rows in
    users-are is.history s is.legal is.replayed c.args.place.now all closes c.in_ok-list_places.field-0.items c.in_ok-list_places.ensures.order
    (noted-all s _ c.args.index.now _ _ all c.new-users.result.keys c.close.new.users.keys c.in_ok-list_places.field-0.items c.new-users.ensures.empty c.in_ok-list_places.ensures.all
    kind h.rows (one.last ∙ sym is.now) (sym is.tree) (c.in_ok-close.ensures.users kept))

pub returns-clause-calls : goal.returns-clause-calls
returns-clause-calls g c = λ s h.
    let all = c.close.new.front.found.items in
    let one = c.in_ok-renew.ensures.asks in
    let is = h.state.committed in
    let kept = kept-in-order g.P.ProvStore _ is.history s c.args.index.now is.legal is.replayed (one.rows s.rows h.state.keeps) (one.last ∙ sym is.now) h.rows in
    let kind = c.kind-kind.ensures ∙ sym is.kind in
    let closes : Closes s.kind s.rows s.rows (firsts s.kind s.rows c.args.place.now s.now) all =
    closes-all s _ _ _ c.args.index.now c.args.place.now c.in_ok-start.start c.new-front.result.found.items c.add.new.self.found.items c.renew.new.front.found.items all
    c.new-front.ensures.found c.in_ok-add.ensures.found c.in_ok-start.ensures.cases (c.in_ok-renew.ensures.found s.rows h.state.keeps) (c.in_ok-close.ensures.closed kept)
    (sym is.kind) kind (sym is.now) h.rows in
    let same : sum_by (calls_in_time c.kind-kind.result c.args.index.now) all ≡ sum_by (calls_in_time s.kind s.rows) all = ap (λ j. sum_by (calls_in_time j c.args.index.now) all) kind ∙ ap (λ rs. sum_by (calls_in_time s.kind rs) all) h.rows in
    let changed = ap (λ k. changes_at k s.rows c.args.place.now (g.P.ProvStore.last_tid (store_in c.args.store.now))) (sym is.kind) ∙ ap (λ n. changes_at s.kind s.rows c.args.place.now n) (sym is.now) in
    let x0 = c.in_ok-renew.ensures.calls s.rows h.state.keeps in
    let y0 = c.in_ok-close.ensures.calls kept in
    is-served is.history s is.legal is.replayed c.args.place.now all closes (calls_in_time s.kind s.rows) (calls_in c.args.store.now) (calls_in c.renew.new.store) (calls_in c.close.new.store) (sum_by (calls_in_time s.kind s.rows) all)
    (omega (arith, x0, changed)) (omega (arith, y0, same)) (let z : sum_by (calls_in_time s.kind s.rows) all ≤ sum_by (calls_in_time s.kind s.rows) all = omega arith in z)
