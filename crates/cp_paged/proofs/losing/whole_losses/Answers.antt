use Rattle.std.proofs.Common.{◌≡◌, ◌≤◌, ◌<◌, ◌+◌, subst, ◌∙◌, arith}
use Rattle.std.specs.Prelude.{IfSome}
use Rattle.cp_model.specs.declared.kind.Kind.TheVariants as kind
use Rattle.cp_store.specs.Costs.{Cost, has_row}
use Rattle.cp_store.proofs.AskLemmas.{asked-on}
use Rattle.cp_paged.specs.Calls.{as_store}
use Rattle.cp_paged.specs.Listing.{goes_whole}
use Rattle.cp_paged.specs.Newest.{IsNewestRow}
use Rattle.cp_paged.proofs.Whole.{widen, one-step, still-within, whole-none, whole-after, goes-at, row-of, never-gone, row-at, whole-end, whole-on}
use Rattle.cp_paged.proofs.losing.whole_losses.Goals as goal

pub returns-in_default-clause-all : goal.returns-in_default-clause-all
returns-in_default-clause-all g c = λ rs kept t.
    let i = c.loop-to.invariant in
    let none = subst (IsNewestRow rs c.args.labels.now c.loop-to.to) c.in_default.is (c.in_ok-told.ensures.newest rs (i.asked.rows rs kept)) in
    let some = c.loop-to-test.true in
    i.all rs kept t ∙ widen (goes_whole rs c.args.labels.now) c.args.low c.loop-to.to c.args.high (omega (arith, some)) i.below (λ u more le. whole-none rs c.args.labels.now c.loop-to.to none c.args.low u more le) t

pub returns-then-tid-low-clause-all : goal.returns-then-tid-low-clause-all
returns-then-tid-low-clause-all g c = λ rs kept t.
    let i = c.loop-to.invariant in
    let newest = subst (IsNewestRow rs c.args.labels.now c.loop-to.to) c.in-Some.is (c.in_ok-told.ensures.newest rs (i.asked.rows rs kept)) in
    let some = c.loop-to-test.true in
    let old = c.if-tid-low.true in
    i.all rs kept t ∙ widen (goes_whole rs c.args.labels.now) c.args.low c.loop-to.to c.args.high (omega (arith, some)) i.below (λ u more le. whole-after rs c.args.labels.now c.loop-to.to c.in-Some.told newest u (omega (arith, old, more)) le) t

pub returns-in_err-note_whole-clause-reads : goal.returns-in_err-note_whole-clause-reads
returns-in_err-note_whole-clause-reads g c = λ rs kept never.
    let i = c.loop-to.invariant in
    let k = g.K.PlaceRows in
    let newest = subst (IsNewestRow rs c.args.labels.now c.loop-to.to) c.in-Some.is (c.in_ok-told.ensures.newest rs (i.asked.rows rs kept)) in
    let at : c.in-Some.told.tid ≤ c.loop-to.to = subst (λ o. IfSome o (λ d. d.tid ≤ c.loop-to.to)) c.in-Some.is c.in_ok-told.ensures.within in
    let after : c.args.low < c.in-Some.told.tid = omega (arith, c.if-tid-low.false) in
    let still : k.reads c.note_whole.new.rows ≡ k.reads c.newest.new.self = c.in_err-note_whole.ensures.reads (row-of rs c.args.labels.now c.loop-to.to c.in-Some.told newest).mark (row-of rs c.args.labels.now c.loop-to.to c.in-Some.told newest).says (never-gone rs c.args.labels.now c.loop-to.to c.in-Some.told newest c.args.low c.args.high after at i.below never) in
    let read : k.reads c.newest.new.self ≤ k.reads c.loop-to.rows + (k.cost c.args.rows.now).look = subst (λ (x : Cost). k.reads c.newest.new.self ≤ k.reads c.loop-to.rows + x.look) i.asked.cost c.in_ok-told.ensures.reads in
    whole-end (has_row kind.N rs c.args.labels.now) c.args.low (k.cost c.args.rows.now).look c.loop-to.to c.args.high (k.reads c.args.rows.now) (k.reads c.loop-to.rows) (k.reads c.note_whole.new.rows) (i.spent rs kept never) (omega (arith, still, read))

pub loop-to-preserved : goal.loop-to-preserved
loop-to-preserved g c =
    let i = c.loop-to.invariant in
    let k = g.K.PlaceRows in
    let at : c.in-Some.told.tid ≤ c.loop-to.to = subst (λ o. IfSome o (λ d. d.tid ≤ c.loop-to.to)) c.in-Some.is c.in_ok-told.ensures.within in
    let after : c.args.low < c.in-Some.told.tid = omega (arith, c.if-tid-low.false) in
    let below = i.below in
    record {
      below = omega (arith, at, below);
      floor = λ less. absurd (omega (arith, less, after));
      all = λ rs kept.
          let newest = subst (IsNewestRow rs c.args.labels.now c.loop-to.to) c.in-Some.is (c.in_ok-told.ensures.newest rs (i.asked.rows rs kept)) in
          one-step (goes_whole rs c.args.labels.now) c.in-Some.told.tid c.loop-to.to c.args.high c.loop-to.whole.items c.note_whole.new.whole.items _ (omega (arith, after)) at i.below (goes-at rs c.args.labels.now c.loop-to.to c.in-Some.told newest) (λ u more le. whole-after rs c.args.labels.now c.loop-to.to c.in-Some.told newest u more le) (i.all rs kept) (c.in_ok-note_whole.ensures.noted rs (row-of rs c.args.labels.now c.loop-to.to c.in-Some.told newest).mark (c.in_ok-told.ensures.asks.rows rs (i.asked.rows rs kept)) (row-of rs c.args.labels.now c.loop-to.to c.in-Some.told newest).says);
      within = still-within c.args.low c.args.high c.loop-to.to c.in-Some.told.tid c.loop-to.whole.items c.note_whole.new.whole.items after at i.below c.in_ok-note_whole.ensures.others i.within;
      spent = λ rs kept never.
          let newest = subst (IsNewestRow rs c.args.labels.now c.loop-to.to) c.in-Some.is (c.in_ok-told.ensures.newest rs (i.asked.rows rs kept)) in
          let still : k.reads c.note_whole.new.rows ≡ k.reads c.newest.new.self = c.in_ok-note_whole.ensures.reads (row-of rs c.args.labels.now c.loop-to.to c.in-Some.told newest).mark (row-of rs c.args.labels.now c.loop-to.to c.in-Some.told newest).says (never-gone rs c.args.labels.now c.loop-to.to c.in-Some.told newest c.args.low c.args.high after at i.below never) in
          let read : k.reads c.newest.new.self ≤ k.reads c.loop-to.rows + (k.cost c.args.rows.now).look = subst (λ (x : Cost). k.reads c.newest.new.self ≤ k.reads c.loop-to.rows + x.look) i.asked.cost c.in_ok-told.ensures.reads in
          whole-on (has_row kind.N rs c.args.labels.now) c.args.low (k.cost c.args.rows.now).look c.in-Some.told.tid c.loop-to.to c.args.high (k.reads c.args.rows.now) (k.reads c.loop-to.rows) (k.reads c.note_whole.new.rows) after at (row-at rs c.args.labels.now c.loop-to.to c.in-Some.told newest) (i.spent rs kept never) (omega (arith, still, read));
      asked = asked-on (as_store k) _ _ _ (asked-on (as_store k) _ _ _ i.asked c.in_ok-told.ensures.asks) c.in_ok-note_whole.ensures.asks;
    }
