use Rattle.std.proofs.Common.{◌≡◌, ◌<◌, refl, sym, ap, subst, ◌∙◌, arith, length}
use Rattle.cp_store.specs.Counts.{counted}
use Rattle.cp_store.proofs.AskLemmas.{asked-first, asked-on}
use Rattle.cp_uses.specs.InTime.{late_sources}
use Rattle.cp_uses.specs.Onward.{AddsLater}
use Rattle.cp_uses.specs.Sources.{copies_from, places_above}
use Rattle.cp_uses.proofs.Adding.{adds-then}
use Rattle.cp_uses.proofs.Following.{kept-on, last-on, root-late, more-late, spreads-same, spreads-then}
use Rattle.cp_uses.proofs.Spread.{key-more, root-copies, more-copies, front-all, parts-length, got-same}
use Rattle.cp_uses.proofs.spreading.spread_above.Goals as goal

pub loop-label-init : goal.loop-label-init
loop-label-init g c =
    let x = c.args.from.now in
    let p = x.place in
    let t = x.tid in
    let rows = c.args.index.now in
    let key = c.as_slice.result.now in
    let is = c.as_slice.ensures.value ∙ c.in_ok-key.ensures in
    let same = root-copies rows p key t is in
    record {
      within = omega arith;
      front = c.in_ok-spread_by.ensures.front;
      kind = c.requires.kind ∙ sym c.in_ok-spread_by.ensures.asks.kind;
      key = c.in_ok-key.ensures;
      later = subst (λ l. AddsLater t (length l) c.args.front.now.found.items c.spread_by.new.front.found.items) same c.in_ok-spread_by.ensures.later;
      spreads = λ kept known. spreads-same c.args.kind rows x _ _ _ _ _ _ _ same (root-late c.args.kind rows x p key is) (c.in_ok-spread_by.ensures.spreads kept known);
      asked = asked-first (counted g.P.ProvStore) _ _ c.in_ok-spread_by.ensures.asks;
    }

pub loop-label-preserved : goal.loop-label-preserved
loop-label-preserved g c =
    let i = c.loop-label.invariant in
    let x = c.args.from.now in
    let p = x.place in
    let t = x.tid in
    let rows = c.args.index.now in
    let at = c.loop-label.label-index in
    let key = c.as_slice-in-loop-label.result.now in
    let long : length c.labels-labels.result.now ≡ length p.path = ap length c.labels-labels.ensures.labels in
    let lt : at < length p.path = omega (arith, long, c.loop-label-test.true) in
    let is = got-same c.labels-labels.result.now p.path at c.label-item.result c.labels-labels.ensures.labels c.label-item.is in
    let new = key-more p at c.label-item.result lt is c.loop-label.key.items c.push_label.new.key.items i.key c.in_ok-push_label.ensures in
    let keyed = c.as_slice-in-loop-label.ensures.value ∙ new in
    let same = more-copies rows p at c.label-item.result key t lt is keyed in
    let both = parts-length _ _ _ same in
    record {
      within = omega (arith, c.loop-label-test.true);
      front = c.in_ok-spread_by-2.ensures.front;
      kind = i.kind ∙ sym c.in_ok-spread_by-2.ensures.asks.kind;
      key = new;
      later = subst (λ n. AddsLater t n c.args.front.now.found.items c.spread_by-in-loop-label.new.front.found.items) both (adds-then t _ _ _ _ _ i.later c.in_ok-spread_by-2.ensures.later);
      spreads = λ kept known.
          let f = i.spreads kept known in
          let h = last-on c.args.kind rows x _ _ _ _ _ _ i.asked.last (c.in_ok-spread_by-2.ensures.spreads (kept-on g.P.ProvStore _ _ rows i.asked kept) f.known) in
          spreads-same c.args.kind rows x _ _ _ _ _ _ _ refl (more-late c.args.kind rows x p at c.label-item.result key lt is keyed)
          (spreads-then c.args.kind rows x _ _ _ _ _ _ _ _ _ same f h);
      asked = asked-on (counted g.P.ProvStore) _ _ _ i.asked c.in_ok-spread_by-2.ensures.asks;
    }

pub returns-clause-later : goal.returns-clause-later
returns-clause-later g c =
    let p = c.args.from.now.place in
    let all = front-all p c.loop-label.label-index (omega (arith, c.loop-label.invariant.within, c.loop-label-test.false, ap length c.labels-labels.ensures.labels)) in
    subst (λ q. AddsLater c.args.from.now.tid (length (copies_from c.args.index.now (places_above q) c.args.from.now.tid)) c.args.front.now.found.items c.loop-label.front.found.items) all c.loop-label.invariant.later

pub returns-clause-spreads : goal.returns-clause-spreads
returns-clause-spreads g c = λ kept known.
    let x = c.args.from.now in
    let rows = c.args.index.now in
    let all = front-all x.place c.loop-label.label-index (omega (arith, c.loop-label.invariant.within, c.loop-label-test.false, ap length c.labels-labels.ensures.labels)) in
    spreads-same c.args.kind rows x _ _ _ _ _ _ _ (ap (λ q. copies_from rows (places_above q) x.tid) all) (ap (λ q. late_sources c.args.kind rows x (places_above q)) all) (c.loop-label.invariant.spreads kept known)
