use Rattle.std.proofs.Common.{◌≡◌, ◌≤◌, ◌<◌, sym, ap, ◌∙◌, arith, length, subst}
use Rattle.std.specs.Prelude.{IfSome}
use Rattle.std.proofs.lemmas.List.{take_rest}
use Rattle.cp_model.specs.Leaps.{last}
use Rattle.cp_model.specs.Records.{reads}
use Rattle.cp_model.specs.Rows.{read_mark}
use Rattle.cp_model.proofs.NewestLemmas.{last-zero}
use Rattle.cp_store.proofs.AskLemmas.{asked-on}
use Rattle.cp_paged.specs.Calls.{as_store}
use Rattle.cp_paged.specs.Newest.{first_depth}
use Rattle.cp_paged.proofs.NewestAbove.{as-above, above_none, above_zero, above_change, above_same}
use Rattle.cp_paged.proofs.RowsFound.{above-has}
use Rattle.cp_paged.proofs.Spending.{spent-end, spent-on}
use Rattle.cp_paged.proofs.newest.newest_change.Goals as goal

pub returns-in_err-above-clause-reads : goal.returns-in_err-above-clause-reads
returns-in_err-above-clause-reads g c = λ rs kept.
    let i = c.loop-high.invariant in
    spent-end (g.K.PlaceRows.kept_kind c.args.rows.now) rs (g.K.PlaceRows.cost c.args.rows.now) _ i.asked.cost c.args.labels.now _ (c.first_depth-first.ensures ∙ ap (λ k. first_depth k c.args.labels.now) c.requires.kind) c.args.t c.loop-high.high _ _ _ (i.spent rs kept) c.in_err-above.ensures.reads

pub returns-in_default-clause-found : goal.returns-in_default-clause-found
returns-in_default-clause-found g c = λ rs kept.
    let i = c.loop-high.invariant in
    let k = g.K.PlaceRows.kept_kind c.args.rows.now in
    sym (above_none rs c.args.labels.now k c.loop-high.high (as-above rs c.args.labels.now k c.args.kind _ _ c.loop-high.high _ _ c.first_depth-first.ensures c.requires.kind c.in_default.is (c.in_ok-above.ensures.newest rs (i.asked.rows rs kept)))) ∙ i.same rs kept

pub returns-in_default-clause-reads : goal.returns-in_default-clause-reads
returns-in_default-clause-reads g c = λ rs kept.
    let i = c.loop-high.invariant in
    spent-end (g.K.PlaceRows.kept_kind c.args.rows.now) rs (g.K.PlaceRows.cost c.args.rows.now) _ i.asked.cost c.args.labels.now _ (c.first_depth-first.ensures ∙ ap (λ k. first_depth k c.args.labels.now) c.requires.kind) c.args.t c.loop-high.high _ _ _ (i.spent rs kept) c.in_ok-above.ensures.reads

pub returns-then-tid-eq0-clause-found : goal.returns-then-tid-eq0-clause-found
returns-then-tid-eq0-clause-found g c = λ rs kept.
    let i = c.loop-high.invariant in
    let k = g.K.PlaceRows.kept_kind c.args.rows.now in
    sym (above_zero rs c.args.labels.now k c.loop-high.high c.in-Some.above (as-above rs c.args.labels.now k c.args.kind _ _ c.loop-high.high _ _ c.first_depth-first.ensures c.requires.kind c.in-Some.is (c.in_ok-above.ensures.newest rs (i.asked.rows rs kept))) c.if-tid-eq0.true) ∙ i.same rs kept

pub returns-then-tid-eq0-clause-reads : goal.returns-then-tid-eq0-clause-reads
returns-then-tid-eq0-clause-reads g c = λ rs kept.
    let i = c.loop-high.invariant in
    spent-end (g.K.PlaceRows.kept_kind c.args.rows.now) rs (g.K.PlaceRows.cost c.args.rows.now) _ i.asked.cost c.args.labels.now _ (c.first_depth-first.ensures ∙ ap (λ k. first_depth k c.args.labels.now) c.requires.kind) c.args.t c.loop-high.high _ _ _ (i.spent rs kept) c.in_ok-above.ensures.reads

pub returns-in_err-what-clause-reads : goal.returns-in_err-what-clause-reads
returns-in_err-what-clause-reads g c = λ rs kept.
    let i = c.loop-high.invariant in
    spent-end (g.K.PlaceRows.kept_kind c.args.rows.now) rs (g.K.PlaceRows.cost c.args.rows.now) _ i.asked.cost c.args.labels.now _ (c.first_depth-first.ensures ∙ ap (λ k. first_depth k c.args.labels.now) c.requires.kind) c.args.t c.loop-high.high _ _ _ (i.spent rs kept) c.in_ok-above.ensures.reads

pub returns-in-Some-2-clause-found : goal.returns-in-Some-2-clause-found
returns-in-Some-2-clause-found g c = λ rs kept.
    let i = c.loop-high.invariant in
    let k = g.K.PlaceRows.kept_kind c.args.rows.now in
    let above = as-above rs c.args.labels.now k c.args.kind _ _ c.loop-high.high _ _ c.first_depth-first.ensures c.requires.kind c.in-Some.is (c.in_ok-above.ensures.newest rs (i.asked.rows rs kept)) in
    sym (above_change rs c.args.labels.now k c.loop-high.high c.in-Some.above above c.in_ok-what.field-0 (λ m says. c.in_ok-what.ensures m says ∙ ap (read_mark m) (take_rest c.args.labels.now c.in-Some.above.depth)) (omega (arith, c.if-tid-eq0.false)) c.in-Some-2.what c.in-Some-2.is)
    ∙ i.same rs kept

pub returns-in-Some-2-clause-reads : goal.returns-in-Some-2-clause-reads
returns-in-Some-2-clause-reads g c = λ rs kept.
    let i = c.loop-high.invariant in
    spent-end (g.K.PlaceRows.kept_kind c.args.rows.now) rs (g.K.PlaceRows.cost c.args.rows.now) _ i.asked.cost c.args.labels.now _ (c.first_depth-first.ensures ∙ ap (λ k. first_depth k c.args.labels.now) c.requires.kind) c.args.t c.loop-high.high _ _ _ (i.spent rs kept) c.in_ok-above.ensures.reads

pub loop-high-preserved : goal.loop-high-preserved
loop-high-preserved g c =
    let i = c.loop-high.invariant in
    let k = g.K.PlaceRows.kept_kind c.args.rows.now in
    let within = c.in_ok-above.ensures.within in
    let at : c.in-Some.above.told.tid ≤ c.loop-high.high = (subst (λ o. IfSome o (λ a. (a.told.tid ≤ c.loop-high.high) × (a.depth ≤ length c.args.labels.now))) c.in-Some.is within).0 in
    let pos : 0 < c.in-Some.above.told.tid = omega (arith, c.if-tid-eq0.false) in
    let below = i.below in
    record {
      below = omega (arith, at, below);
      same = λ rs kept.
          let above = as-above rs c.args.labels.now k c.args.kind _ _ c.loop-high.high _ _ c.first_depth-first.ensures c.requires.kind c.in-Some.is (c.in_ok-above.ensures.newest rs (i.asked.rows rs kept)) in
          above_same rs c.args.labels.now k c.loop-high.high c.in-Some.above above c.in_ok-what.field-0 (λ m says. c.in_ok-what.ensures m says ∙ ap (read_mark m) (take_rest c.args.labels.now c.in-Some.above.depth)) pos c.in_default-2.is ∙ i.same rs kept;
      spent = λ rs kept.
          let above = as-above rs c.args.labels.now k c.args.kind _ _ c.loop-high.high _ _ c.first_depth-first.ensures c.requires.kind c.in-Some.is (c.in_ok-above.ensures.newest rs (i.asked.rows rs kept)) in
          spent-on k rs (g.K.PlaceRows.cost c.args.rows.now) _ i.asked.cost c.args.labels.now _ (c.first_depth-first.ensures ∙ ap (λ k. first_depth k c.args.labels.now) c.requires.kind) c.args.t c.loop-high.high c.in-Some.above.told.tid _ _ _
          (above_same rs c.args.labels.now k c.loop-high.high c.in-Some.above above c.in_ok-what.field-0 (λ m says. c.in_ok-what.ensures m says ∙ ap (read_mark m) (take_rest c.args.labels.now c.in-Some.above.depth)) pos c.in_default-2.is)
          pos at (above-has k rs c.args.labels.now c.loop-high.high c.in-Some.above above) (i.spent rs kept) c.in_ok-above.ensures.reads;
      asked = asked-on (as_store g.K.PlaceRows) _ _ _ i.asked c.in_ok-above.ensures.asks;
    }

pub returns-clause-found : goal.returns-clause-found
returns-clause-found g c = λ rs kept.
    let z : 0 ≡ c.loop-high.high = omega (arith, c.loop-high-test.false) in
    let k = g.K.PlaceRows.kept_kind c.args.rows.now in
    sym (last-zero (reads k rs) c.args.labels.now) ∙ ap (λ h. last (reads k rs) h c.args.labels.now) z ∙ c.loop-high.invariant.same rs kept
