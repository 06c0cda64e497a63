use Rattle.std.proofs.Common.{ap, subst, ◌∙◌, length, OnOk}
use Rattle.cp_uses.specs.Onward.{AddsLater}
use Rattle.cp_uses.proofs.Following.{own-late, above-late, spreads-as}
use Rattle.cp_uses.proofs.Taken.{fan-is}
use Rattle.cp_uses.proofs.Spread.{along-own, along-above}
use Rattle.cp_uses.proofs.spreading.spread.Goals as goal

pub returns-in_ok-key-in-N-clause-later : goal.returns-in_ok-key-in-N-clause-later
returns-in_ok-key-in-N-clause-later g c =
    let same = along-own c.args.kind c.args.index.now c.args.from.now c.as_slice.result.now c.in-N.is (c.as_slice.ensures.value ∙ c.in_ok-key-in-N.ensures) in
    subst (λ n. OnOk c.spread_by.result (AddsLater c.args.from.now.tid n c.args.front.now.found.items c.spread_by.new.front.found.items))
    (ap length same ∙ fan-is c.args.kind c.args.index.now c.args.from.now) c.spread_by.ensures.later

pub returns-in_ok-key-in-N-clause-spreads : goal.returns-in_ok-key-in-N-clause-spreads
returns-in_ok-key-in-N-clause-spreads g c = λ kept known.
    let is = c.as_slice.ensures.value ∙ c.in_ok-key-in-N.ensures in
    let same = along-own c.args.kind c.args.index.now c.args.from.now c.as_slice.result.now c.in-N.is is in
    spreads-as c.args.kind c.args.index.now c.args.from.now c.spread_by.result _ _ _ _ _ _ _ same (own-late c.args.kind c.args.index.now c.args.from.now c.as_slice.result.now c.in-N.is is) (c.spread_by.ensures.spreads kept known)

pub returns-in-H-clause-later : goal.returns-in-H-clause-later
returns-in-H-clause-later g c =
    subst (λ n. OnOk c.spread_above.result (AddsLater c.args.from.now.tid n c.args.front.now.found.items c.spread_above.new.front.found.items))
    (ap length (along-above c.args.kind c.args.index.now c.args.from.now c.in-H.is) ∙ fan-is c.args.kind c.args.index.now c.args.from.now) c.spread_above.ensures.later

pub returns-in-H-clause-spreads : goal.returns-in-H-clause-spreads
returns-in-H-clause-spreads g c = λ kept known.
    let same = along-above c.args.kind c.args.index.now c.args.from.now c.in-H.is in
    spreads-as c.args.kind c.args.index.now c.args.from.now c.spread_above.result _ _ _ _ _ _ _ same (above-late c.args.kind c.args.index.now c.args.from.now c.in-H.is) (c.spread_above.ensures.spreads kept known)
