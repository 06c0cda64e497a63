use Rattle.std.proofs.Common.{◌<◌, ◌+◌, refl, sym, ap, subst, ◌∙◌, arith, length}
use Rattle.cp_store.specs.Counts.{counted}
use Rattle.cp_store.proofs.AskLemmas.{not-asked, asked-on}
use Rattle.cp_model.specs.declared.record.Record.{Record}
use Rattle.cp_uses.specs.Index.{copies_by}
use Rattle.cp_uses.specs.Onward.{AddsLater}
use Rattle.cp_uses.proofs.Adding.{adds-none, adds-then, adds-few, take-whole}
use Rattle.cp_uses.proofs.CopySteps.{steps-length, step-within, step-is}
use Rattle.cp_uses.proofs.Costs.{in-time-more}
use Rattle.cp_uses.proofs.Following.{copy-later, kept-on, kept-upto, spreads-none, spreads-more, spreads-late, spreads-all}
use Rattle.cp_uses.proofs.spreading.spread_by.Goals as goal

pub loop-step-init : goal.loop-step-init
loop-step-init g c = record {
  within = omega arith;
  front = c.requires.front;
  kind = c.requires.kind;
  later = adds-none c.args.from.now.tid 0 _ _ refl;
  in_time = λ kept known. refl;
  spreads = λ kept known. spreads-none c.args.kind c.args.index.now c.args.from.now _ _ known;
  asked = not-asked (counted g.P.ProvStore) c.args.store.now;
}

pub row-requires : goal.row-requires
row-requires g c =
    step-within c.args.index.now c.copies_by-steps.result.now (copies_by c.args.index.now c.args.key.now c.args.from.now.tid) c.loop-step.step-index _ c.copies_by-steps.ensures.steps c.loop-step-test.true

pub follow-requires-clause-later : goal.follow-requires-clause-later
follow-requires-clause-later g c =
    let t = c.args.from.now.tid in
    let xs = copies_by c.args.index.now c.args.key.now t in
    let many = steps-length c.args.index.now c.copies_by-steps.result.now xs c.copies_by-steps.ensures.steps in
    let is = step-is c.args.index.now c.copies_by-steps.result.now xs c.loop-step.step-index _ c.copies_by-steps.ensures.steps c.loop-step-test.true c.row.result.now c.row.ensures in
    let later = copy-later c.args.index.now c.args.key.now t c.loop-step.step-index c.row.result.now (omega (arith, many, c.loop-step-test.true)) in
    let same = ap (λ (r : Record). r.tid) is in
    omega (arith, later, same)

pub loop-step-preserved : goal.loop-step-preserved
loop-step-preserved g c =
    let i = c.loop-step.invariant in
    let x = c.args.from.now in
    let rs = c.args.index.now in
    let xs = copies_by rs c.args.key.now x.tid in
    let many = steps-length rs c.copies_by-steps.result.now xs c.copies_by-steps.ensures.steps in
    let is = step-is rs c.copies_by-steps.result.now xs c.loop-step.step-index _ c.copies_by-steps.ensures.steps c.loop-step-test.true c.row.result.now c.row.ensures in
    let l : c.loop-step.step-index < length xs = omega (arith, many, c.loop-step-test.true) in
    record {
      within = omega (arith, c.loop-step-test.true);
      front = c.in_ok-stood.ensures.front;
      kind = i.kind ∙ sym c.in_ok-stood.ensures.asks.kind;
      later = adds-then x.tid c.loop-step.step-index 1 _ _ _ i.later c.in_ok-stood.ensures.later;
      in_time = λ kept known.
          let h = i.spreads kept known in
          let f = c.in_ok-stood.ensures.follows rs (kept-on g.P.ProvStore _ _ rs i.asked kept) _ c.row.ensures h.known in
          in-time-more c.args.kind rs x xs c.loop-step.step-index c.row.result.now l is (sym f.tells.stands ∙ c.if-not-stood.false) (i.in_time kept known);
      spreads = λ kept known.
          let h = i.spreads kept known in
          let f = c.in_ok-stood.ensures.follows rs (kept-on g.P.ProvStore _ _ rs i.asked kept) _ c.row.ensures h.known in
          spreads-more c.args.kind rs x xs c.loop-step.step-index c.row.result.now _ _ _ _ _ is l h f c.if-not-stood.false;
      asked = asked-on (counted g.P.ProvStore) _ _ _ i.asked c.in_ok-stood.ensures.asks;
    }

pub returns-clause-later : goal.returns-clause-later
returns-clause-later g c =
    let many = steps-length c.args.index.now c.copies_by-steps.result.now (copies_by c.args.index.now c.args.key.now c.args.from.now.tid) c.copies_by-steps.ensures.steps in
    subst (λ n. AddsLater c.args.from.now.tid n c.args.front.now.found.items c.loop-step.front.found.items) (omega (arith, c.loop-step.invariant.within, c.loop-step-test.false, many)) c.loop-step.invariant.later

pub returns-clause-spreads : goal.returns-clause-spreads
returns-clause-spreads g c = λ kept known.
    let i = c.loop-step.invariant in
    let xs = copies_by c.args.index.now c.args.key.now c.args.from.now.tid in
    let many = steps-length c.args.index.now c.copies_by-steps.result.now xs c.copies_by-steps.ensures.steps in
    spreads-all c.args.kind c.args.index.now c.args.from.now xs c.loop-step.step-index _ _ _
    (take-whole c.loop-step.step-index xs (omega (arith, i.within, c.loop-step-test.false, many))) (i.in_time kept known) (i.spreads kept known)

pub returns-then-not-stood-clause-later : goal.returns-then-not-stood-clause-later
returns-then-not-stood-clause-later g c =
    let i = c.loop-step.invariant in
    let t = c.args.from.now.tid in
    let xs = copies_by c.args.index.now c.args.key.now t in
    let many = steps-length c.args.index.now c.copies_by-steps.result.now xs c.copies_by-steps.ensures.steps in
    adds-few t (c.loop-step.step-index + 1) (length xs) _ _ (omega (arith, many, c.loop-step-test.true)) (adds-then t c.loop-step.step-index 1 _ _ _ i.later c.in_ok-stood.ensures.later)

pub returns-then-not-stood-clause-spreads : goal.returns-then-not-stood-clause-spreads
returns-then-not-stood-clause-spreads g c = λ kept known.
    let i = c.loop-step.invariant in
    let x = c.args.from.now in
    let rs = c.args.index.now in
    let xs = copies_by rs c.args.key.now x.tid in
    let many = steps-length rs c.copies_by-steps.result.now xs c.copies_by-steps.ensures.steps in
    let is = step-is rs c.copies_by-steps.result.now xs c.loop-step.step-index _ c.copies_by-steps.ensures.steps c.loop-step-test.true c.row.result.now c.row.ensures in
    let h = i.spreads kept known in
    let f = c.in_ok-stood.ensures.follows rs (kept-on g.P.ProvStore _ _ rs i.asked kept) _ c.row.ensures h.known in
    spreads-late c.args.kind rs x xs c.loop-step.step-index c.row.result.now _ _ _ _ _ is (omega (arith, many, c.loop-step-test.true)) h f
    c.copies_by-steps.ensures.order c.if-not-stood.true (kept-upto _ rs _ c.row.result.now kept.next c.row.ensures)
