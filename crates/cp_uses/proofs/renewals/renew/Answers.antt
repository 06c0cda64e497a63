use Rattle.std.proofs.Common.{◌++◌, ap, arith}
use Rattle.cp_model.specs.Changes.{reading_of_what}
use Rattle.cp_store.specs.Counts.{store_in, counted}
use Rattle.cp_store.proofs.AskLemmas.{not-asked, asked-on}
use Rattle.cp_uses.specs.Renewals.{renewals_at, changes_at}
use Rattle.cp_uses.proofs.Renewing.{told-some, told-none, found-more, found-all, calls-more, calls-all, one-call, some-within}
use Rattle.cp_uses.proofs.renewals.renew.Goals as goal

pub loop-change-init : goal.loop-change-init
loop-change-init g c = record {
  front = c.requires.front;
  found = λ rs kept. ap (λ n. c.args.front.now.found.items ++ renewals_at (g.P.ProvStore.kept_kind (store_in c.args.store.now)) rs c.args.place.now n) c.upto-high.ensures;
  calls = λ rs kept. let e = ap (λ n. changes_at (g.P.ProvStore.kept_kind (store_in c.args.store.now)) rs c.args.place.now n) c.upto-high.ensures in omega (arith, e);
  asked = not-asked (counted g.P.ProvStore) c.args.store.now;
}

pub note-requires-clause-later : goal.note-requires-clause-later
note-requires-clause-later g c = (some-within c.in_ok-change.field-0 c.in-Some.change c.loop-change.high c.in-Some.is c.in_ok-change.ensures.within).0

pub loop-change-smaller : goal.loop-change-smaller
loop-change-smaller g c =
    let w = some-within c.in_ok-change.field-0 c.in-Some.change c.loop-change.high c.in-Some.is c.in_ok-change.ensures.within in
    omega (arith, w.0, w.1, c.in_ok-high.ensures.before)

pub loop-change-preserved : goal.loop-change-preserved
loop-change-preserved g c =
    let i = c.loop-change.invariant in
    let k = g.P.ProvStore.kept_kind (store_in c.args.store.now) in
    let one = one-call _ _ c.in_ok-change.ensures.counted in
    record {
      front = c.in_ok-high.ensures.front;
      found = λ rs kept.
          let t = told-some k _ rs c.loop-change.high c.args.place.now c.in_ok-change.field-0 c.in-Some.change c.in-Some.is (c.in_ok-change.ensures.found rs (i.asked.rows rs kept)) i.asked.kind in
          found-more k rs c.args.place.now c.loop-change.high (c.in-Some.change.tid, reading_of_what c.in-Some.change.what) c.in_ok-high.high _ _ _ t c.in_ok-high.ensures.before c.in_ok-high.ensures.found (i.found rs kept);
      calls = λ rs kept.
          let t = told-some k _ rs c.loop-change.high c.args.place.now c.in_ok-change.field-0 c.in-Some.change c.in-Some.is (c.in_ok-change.ensures.found rs (i.asked.rows rs kept)) i.asked.kind in
          calls-more k rs c.args.place.now c.loop-change.high (c.in-Some.change.tid, reading_of_what c.in-Some.change.what) c.in_ok-high.high _ _ _ _ t c.in_ok-high.ensures.before (i.calls rs kept) one;
      asked = asked-on (counted g.P.ProvStore) _ _ _ i.asked c.in_ok-change.ensures.asks;
    }

pub returns-clause-found : goal.returns-clause-found
returns-clause-found g c = λ rs kept.
    let i = c.loop-change.invariant in
    let k = g.P.ProvStore.kept_kind (store_in c.args.store.now) in
    found-all k rs c.args.place.now c.loop-change.high _ _
    (told-none k _ rs c.loop-change.high c.args.place.now c.in_ok-change.field-0 c.in_default.is (c.in_ok-change.ensures.found rs (i.asked.rows rs kept)) i.asked.kind)
    (i.found rs kept)

pub returns-clause-calls : goal.returns-clause-calls
returns-clause-calls g c = λ rs kept.
    let i = c.loop-change.invariant in
    let k = g.P.ProvStore.kept_kind (store_in c.args.store.now) in
    calls-all k rs c.args.place.now c.loop-change.high _ _ _ _ (i.calls rs kept) (one-call _ _ c.in_ok-change.ensures.counted)
