use Rattle.std.proofs.Common.{ap, subst, sym, refl, Ok}
use Rattle.cp_model.specs.Answers.{answer_to, src, hist, mod_tids, trace, from}
use Rattle.cp_model.specs.declared.answer.Answer.TheVariants as answer
use Rattle.cp_model.specs.declared.query.Query.TheVariants as query
use Rattle.cp_query.specs.Asked.{AnswersTo, lacks_place}
use Rattle.cp_query.specs.Bounds.{ReadsWithin}
use Rattle.cp_query.proofs.Answered.{asks-given, asks-passed, passed-calm}
use Rattle.cp_store.proofs.AskLemmas.{asked-first}
use Rattle.cp_query.specs.declared.fault.QueryFault.TheVariants.{NoPlace}
use Rattle.cp_query.proofs.Answering.{answers-at, faults-at, place-given, place-passed}
use Rattle.cp_query.proofs.ask.answer_of_place.Goals as goal

pub returns-in_ok-src-in-Src-clause-answer : goal.returns-in_ok-src-in-Src-clause-answer
unfolding answer_to
returns-in_ok-src-in-Src-clause-answer g c = λ s h.
    let x = c.in_ok-src-in-Src.field-0 in
    let place = c.in-Src.place in
    subst (λ q. AnswersTo s q (Ok (answer.Src x))) (sym c.in-Src.is)
    (answers-at h.committed (query.Src place) place (answer.Src (src s.tree place.path)) refl x (answer.Src x) c.in_ok-src-in-Src.ensures.place (ap (λ y. answer.Src y) (c.in_ok-src-in-Src.ensures.answer s h)))

pub returns-in_err-src-in-Src-clause-answer : goal.returns-in_err-src-in-Src-clause-answer
unfolding answer_to
returns-in_err-src-in-Src-clause-answer g c = λ s h.
    let place = c.in-Src.place in
    subst (λ q. AnswersTo s q c.from_residual.result) (sym c.in-Src.is)
    (faults-at h.committed (query.Src place) place (answer.Src (src s.tree place.path)) refl c.in_err-src-in-Src.field-0.0 c.from_residual.result c.in_err-src-in-Src.ensures.place c.from_residual.ensures.1)

pub returns-in_ok-hist-in-Hist-clause-answer : goal.returns-in_ok-hist-in-Hist-clause-answer
unfolding answer_to
returns-in_ok-hist-in-Hist-clause-answer g c = λ s h.
    let x = c.in_ok-hist-in-Hist.field-0 in
    let place = c.in-Hist.place in
    subst (λ q. AnswersTo s q (Ok (answer.Tids x))) (sym c.in-Hist.is)
    (answers-at h.committed (query.Hist place) place (answer.Tids (hist s.tree place.path)) refl x (answer.Tids x) c.in_ok-hist-in-Hist.ensures.place (ap (λ y. answer.Tids y) (c.in_ok-hist-in-Hist.ensures.answer s h)))

pub returns-in_err-hist-in-Hist-clause-answer : goal.returns-in_err-hist-in-Hist-clause-answer
unfolding answer_to
returns-in_err-hist-in-Hist-clause-answer g c = λ s h.
    let place = c.in-Hist.place in
    subst (λ q. AnswersTo s q c.from_residual-in_err-hist-in-Hist.result) (sym c.in-Hist.is)
    (faults-at h.committed (query.Hist place) place (answer.Tids (hist s.tree place.path)) refl c.in_err-hist-in-Hist.field-0.0 c.from_residual-in_err-hist-in-Hist.result c.in_err-hist-in-Hist.ensures.place c.from_residual-in_err-hist-in-Hist.ensures.1)

pub returns-in_ok-trace-in-Trace-clause-answer : goal.returns-in_ok-trace-in-Trace-clause-answer
unfolding answer_to
returns-in_ok-trace-in-Trace-clause-answer g c = λ s h.
    let x = c.in_ok-trace-in-Trace.field-0 in
    let place = c.in-Trace.place in
    subst (λ q. AnswersTo s q (Ok (answer.Trace x))) (sym c.in-Trace.is)
    (answers-at h.committed (query.Trace place) place (answer.Trace (trace s.now s.tree place.path)) refl x (answer.Trace x) c.in_ok-trace-in-Trace.ensures.place (ap (λ y. answer.Trace y) (c.in_ok-trace-in-Trace.ensures.answer s h)))

pub returns-in_err-trace-in-Trace-clause-answer : goal.returns-in_err-trace-in-Trace-clause-answer
unfolding answer_to
returns-in_err-trace-in-Trace-clause-answer g c = λ s h.
    let place = c.in-Trace.place in
    subst (λ q. AnswersTo s q c.from_residual-in_err-trace-in-Trace.result) (sym c.in-Trace.is)
    (faults-at h.committed (query.Trace place) place (answer.Trace (trace s.now s.tree place.path)) refl c.in_err-trace-in-Trace.field-0.0 c.from_residual-in_err-trace-in-Trace.result c.in_err-trace-in-Trace.ensures.place c.from_residual-in_err-trace-in-Trace.ensures.1)

pub returns-in_ok-modified-in-Mod-clause-answer : goal.returns-in_ok-modified-in-Mod-clause-answer
unfolding answer_to
returns-in_ok-modified-in-Mod-clause-answer g c = λ s h.
    let x = c.in_ok-modified-in-Mod.field-0 in
    let place = c.in-Mod.place in
    subst (λ q. AnswersTo s q (Ok (answer.Tids x))) (sym c.in-Mod.is)
    (answers-at h.committed (query.Mod place) place (answer.Tids (mod_tids s.tree place.path)) refl x (answer.Tids x) c.in_ok-modified-in-Mod.ensures.place (ap (λ y. answer.Tids y) (c.in_ok-modified-in-Mod.ensures.answer s h)))

pub returns-in_err-modified-in-Mod-clause-answer : goal.returns-in_err-modified-in-Mod-clause-answer
unfolding answer_to
returns-in_err-modified-in-Mod-clause-answer g c = λ s h.
    let place = c.in-Mod.place in
    subst (λ q. AnswersTo s q c.from_residual-in_err-modified-in-Mod.result) (sym c.in-Mod.is)
    (faults-at h.committed (query.Mod place) place (answer.Tids (mod_tids s.tree place.path)) refl c.in_err-modified-in-Mod.field-0.0 c.from_residual-in_err-modified-in-Mod.result c.in_err-modified-in-Mod.ensures.place c.from_residual-in_err-modified-in-Mod.ensures.1)

pub returns-in_ok-from-in-From-clause-answer : goal.returns-in_ok-from-in-From-clause-answer
unfolding answer_to
returns-in_ok-from-in-From-clause-answer g c = λ s h.
    let x = c.in_ok-from-in-From.field-0 in
    let place = c.in-From.place in
    subst (λ q. AnswersTo s q (Ok (answer.From x))) (sym c.in-From.is)
    (answers-at h.committed (query.From place) place (answer.From (from s.tree place.path)) refl x (answer.From x) c.in_ok-from-in-From.ensures.place (ap (λ y. answer.From y) (c.in_ok-from-in-From.ensures.answer s h)))

pub returns-in_err-from-in-From-clause-answer : goal.returns-in_err-from-in-From-clause-answer
unfolding answer_to
returns-in_err-from-in-From-clause-answer g c = λ s h.
    let place = c.in-From.place in
    subst (λ q. AnswersTo s q c.from_residual-in_err-from-in-From.result) (sym c.in-From.is)
    (faults-at h.committed (query.From place) place (answer.From (from s.tree place.path)) refl c.in_err-from-in-From.field-0.0 c.from_residual-in_err-from-in-From.result c.in_err-from-in-From.ensures.place c.from_residual-in_err-from-in-From.ensures.1)

pub returns-in_ok-src-in-Src-clause-asks : goal.returns-in_ok-src-in-Src-clause-asks
returns-in_ok-src-in-Src-clause-asks g c = asks-given g.P.ProvStore c.args.store.now c.src.new.store (asked-first g.P.ProvStore c.args.store.now c.src.new.store c.in_ok-src-in-Src.ensures.asks)

pub returns-in_err-src-in-Src-clause-asks : goal.returns-in_err-src-in-Src-clause-asks
returns-in_err-src-in-Src-clause-asks g c = asks-passed g.P.ProvStore c.args.store.now c.src.new.store c.in_err-src-in-Src.field-0.0 c.from_residual.result c.in_err-src-in-Src.ensures.asks c.from_residual.ensures.1

pub returns-in_err-src-in-Src-clause-calm : goal.returns-in_err-src-in-Src-clause-calm
returns-in_err-src-in-Src-clause-calm g c = passed-calm c.in_err-src-in-Src.field-0.0 NoPlace c.from_residual.result c.in_err-src-in-Src.ensures.calm c.from_residual.ensures.1

pub returns-in_ok-hist-in-Hist-clause-asks : goal.returns-in_ok-hist-in-Hist-clause-asks
returns-in_ok-hist-in-Hist-clause-asks g c = asks-given g.P.ProvStore c.args.store.now c.hist.new.store (asked-first g.P.ProvStore c.args.store.now c.hist.new.store c.in_ok-hist-in-Hist.ensures.asks)

pub returns-in_err-hist-in-Hist-clause-asks : goal.returns-in_err-hist-in-Hist-clause-asks
returns-in_err-hist-in-Hist-clause-asks g c = asks-passed g.P.ProvStore c.args.store.now c.hist.new.store c.in_err-hist-in-Hist.field-0.0 c.from_residual-in_err-hist-in-Hist.result c.in_err-hist-in-Hist.ensures.asks c.from_residual-in_err-hist-in-Hist.ensures.1

pub returns-in_err-hist-in-Hist-clause-calm : goal.returns-in_err-hist-in-Hist-clause-calm
returns-in_err-hist-in-Hist-clause-calm g c = passed-calm c.in_err-hist-in-Hist.field-0.0 NoPlace c.from_residual-in_err-hist-in-Hist.result c.in_err-hist-in-Hist.ensures.calm c.from_residual-in_err-hist-in-Hist.ensures.1

pub returns-in_ok-trace-in-Trace-clause-asks : goal.returns-in_ok-trace-in-Trace-clause-asks
returns-in_ok-trace-in-Trace-clause-asks g c = asks-given g.P.ProvStore c.args.store.now c.trace.new.store (asked-first g.P.ProvStore c.args.store.now c.trace.new.store c.in_ok-trace-in-Trace.ensures.asks)

pub returns-in_err-trace-in-Trace-clause-asks : goal.returns-in_err-trace-in-Trace-clause-asks
returns-in_err-trace-in-Trace-clause-asks g c = asks-passed g.P.ProvStore c.args.store.now c.trace.new.store c.in_err-trace-in-Trace.field-0.0 c.from_residual-in_err-trace-in-Trace.result c.in_err-trace-in-Trace.ensures.asks c.from_residual-in_err-trace-in-Trace.ensures.1

pub returns-in_err-trace-in-Trace-clause-calm : goal.returns-in_err-trace-in-Trace-clause-calm
returns-in_err-trace-in-Trace-clause-calm g c = passed-calm c.in_err-trace-in-Trace.field-0.0 NoPlace c.from_residual-in_err-trace-in-Trace.result c.in_err-trace-in-Trace.ensures.calm c.from_residual-in_err-trace-in-Trace.ensures.1

pub returns-in_ok-modified-in-Mod-clause-asks : goal.returns-in_ok-modified-in-Mod-clause-asks
returns-in_ok-modified-in-Mod-clause-asks g c = asks-given g.P.ProvStore c.args.store.now c.modified.new.store (asked-first g.P.ProvStore c.args.store.now c.modified.new.store c.in_ok-modified-in-Mod.ensures.asks)

pub returns-in_err-modified-in-Mod-clause-asks : goal.returns-in_err-modified-in-Mod-clause-asks
returns-in_err-modified-in-Mod-clause-asks g c = asks-passed g.P.ProvStore c.args.store.now c.modified.new.store c.in_err-modified-in-Mod.field-0.0 c.from_residual-in_err-modified-in-Mod.result c.in_err-modified-in-Mod.ensures.asks c.from_residual-in_err-modified-in-Mod.ensures.1

pub returns-in_err-modified-in-Mod-clause-calm : goal.returns-in_err-modified-in-Mod-clause-calm
returns-in_err-modified-in-Mod-clause-calm g c = passed-calm c.in_err-modified-in-Mod.field-0.0 NoPlace c.from_residual-in_err-modified-in-Mod.result c.in_err-modified-in-Mod.ensures.calm c.from_residual-in_err-modified-in-Mod.ensures.1

pub returns-in_ok-from-in-From-clause-asks : goal.returns-in_ok-from-in-From-clause-asks
returns-in_ok-from-in-From-clause-asks g c = asks-given g.P.ProvStore c.args.store.now c.from.new.store (asked-first g.P.ProvStore c.args.store.now c.from.new.store c.in_ok-from-in-From.ensures.asks)

pub returns-in_err-from-in-From-clause-asks : goal.returns-in_err-from-in-From-clause-asks
returns-in_err-from-in-From-clause-asks g c = asks-passed g.P.ProvStore c.args.store.now c.from.new.store c.in_err-from-in-From.field-0.0 c.from_residual-in_err-from-in-From.result c.in_err-from-in-From.ensures.asks c.from_residual-in_err-from-in-From.ensures.1

pub returns-in_err-from-in-From-clause-calm : goal.returns-in_err-from-in-From-clause-calm
returns-in_err-from-in-From-clause-calm g c = passed-calm c.in_err-from-in-From.field-0.0 NoPlace c.from_residual-in_err-from-in-From.result c.in_err-from-in-From.ensures.calm c.from_residual-in_err-from-in-From.ensures.1

pub returns-in_ok-src-in-Src-clause-reads : goal.returns-in_ok-src-in-Src-clause-reads
returns-in_ok-src-in-Src-clause-reads g c = λ s h.
    subst (λ q. ReadsWithin s q (g.P.ProvStore.cost c.args.store.now) (g.P.ProvStore.reads c.args.store.now) (g.P.ProvStore.reads c.src.new.store)) (sym c.in-Src.is) (c.in_ok-src-in-Src.ensures.reads s h)

pub returns-in_err-src-in-Src-clause-reads : goal.returns-in_err-src-in-Src-clause-reads
returns-in_err-src-in-Src-clause-reads g c = λ s h.
    subst (λ q. ReadsWithin s q (g.P.ProvStore.cost c.args.store.now) (g.P.ProvStore.reads c.args.store.now) (g.P.ProvStore.reads c.src.new.store)) (sym c.in-Src.is) (c.in_err-src-in-Src.ensures.reads s h)

pub returns-in_ok-hist-in-Hist-clause-reads : goal.returns-in_ok-hist-in-Hist-clause-reads
returns-in_ok-hist-in-Hist-clause-reads g c = λ s h.
    subst (λ q. ReadsWithin s q (g.P.ProvStore.cost c.args.store.now) (g.P.ProvStore.reads c.args.store.now) (g.P.ProvStore.reads c.hist.new.store)) (sym c.in-Hist.is) (c.in_ok-hist-in-Hist.ensures.reads s h)

pub returns-in_err-hist-in-Hist-clause-reads : goal.returns-in_err-hist-in-Hist-clause-reads
returns-in_err-hist-in-Hist-clause-reads g c = λ s h.
    subst (λ q. ReadsWithin s q (g.P.ProvStore.cost c.args.store.now) (g.P.ProvStore.reads c.args.store.now) (g.P.ProvStore.reads c.hist.new.store)) (sym c.in-Hist.is) (c.in_err-hist-in-Hist.ensures.reads s h)

pub returns-in_ok-modified-in-Mod-clause-reads : goal.returns-in_ok-modified-in-Mod-clause-reads
returns-in_ok-modified-in-Mod-clause-reads g c = λ s h.
    subst (λ q. ReadsWithin s q (g.P.ProvStore.cost c.args.store.now) (g.P.ProvStore.reads c.args.store.now) (g.P.ProvStore.reads c.modified.new.store)) (sym c.in-Mod.is) (c.in_ok-modified-in-Mod.ensures.reads s h)

pub returns-in_err-modified-in-Mod-clause-reads : goal.returns-in_err-modified-in-Mod-clause-reads
returns-in_err-modified-in-Mod-clause-reads g c = λ s h.
    subst (λ q. ReadsWithin s q (g.P.ProvStore.cost c.args.store.now) (g.P.ProvStore.reads c.args.store.now) (g.P.ProvStore.reads c.modified.new.store)) (sym c.in-Mod.is) (c.in_err-modified-in-Mod.ensures.reads s h)

pub returns-in_ok-trace-in-Trace-clause-reads : goal.returns-in_ok-trace-in-Trace-clause-reads
returns-in_ok-trace-in-Trace-clause-reads g c = λ s h.
    subst (λ q. ReadsWithin s q (g.P.ProvStore.cost c.args.store.now) (g.P.ProvStore.reads c.args.store.now) (g.P.ProvStore.reads c.trace.new.store)) (sym c.in-Trace.is) (c.in_ok-trace-in-Trace.ensures.reads s h)

pub returns-in_err-trace-in-Trace-clause-reads : goal.returns-in_err-trace-in-Trace-clause-reads
returns-in_err-trace-in-Trace-clause-reads g c = λ s h.
    subst (λ q. ReadsWithin s q (g.P.ProvStore.cost c.args.store.now) (g.P.ProvStore.reads c.args.store.now) (g.P.ProvStore.reads c.trace.new.store)) (sym c.in-Trace.is) (c.in_err-trace-in-Trace.ensures.reads s h)

pub returns-in_ok-from-in-From-clause-reads : goal.returns-in_ok-from-in-From-clause-reads
returns-in_ok-from-in-From-clause-reads g c = λ s h.
    subst (λ q. ReadsWithin s q (g.P.ProvStore.cost c.args.store.now) (g.P.ProvStore.reads c.args.store.now) (g.P.ProvStore.reads c.from.new.store)) (sym c.in-From.is) (c.in_ok-from-in-From.ensures.reads s h)

pub returns-in_err-from-in-From-clause-reads : goal.returns-in_err-from-in-From-clause-reads
returns-in_err-from-in-From-clause-reads g c = λ s h.
    subst (λ q. ReadsWithin s q (g.P.ProvStore.cost c.args.store.now) (g.P.ProvStore.reads c.args.store.now) (g.P.ProvStore.reads c.from.new.store)) (sym c.in-From.is) (c.in_err-from-in-From.ensures.reads s h)

pub returns-in_ok-src-in-Src-clause-place : goal.returns-in_ok-src-in-Src-clause-place
returns-in_ok-src-in-Src-clause-place g c =
    let t = g.R.TreeRep.contents c.args.tree.now in
    place-given t c.args.query.now c.in-Src.place (ap (lacks_place t) c.in-Src.is) c.in_ok-src-in-Src.field-0 (answer.Src c.in_ok-src-in-Src.field-0) c.in_ok-src-in-Src.ensures.place

pub returns-in_err-src-in-Src-clause-place : goal.returns-in_err-src-in-Src-clause-place
returns-in_err-src-in-Src-clause-place g c =
    let t = g.R.TreeRep.contents c.args.tree.now in
    place-passed t c.args.query.now c.in-Src.place (ap (lacks_place t) c.in-Src.is) c.in_err-src-in-Src.field-0.0 c.from_residual.result c.in_err-src-in-Src.ensures.place c.from_residual.ensures.1

pub returns-in_ok-hist-in-Hist-clause-place : goal.returns-in_ok-hist-in-Hist-clause-place
returns-in_ok-hist-in-Hist-clause-place g c =
    let t = g.R.TreeRep.contents c.args.tree.now in
    place-given t c.args.query.now c.in-Hist.place (ap (lacks_place t) c.in-Hist.is) c.in_ok-hist-in-Hist.field-0 (answer.Tids c.in_ok-hist-in-Hist.field-0) c.in_ok-hist-in-Hist.ensures.place

pub returns-in_err-hist-in-Hist-clause-place : goal.returns-in_err-hist-in-Hist-clause-place
returns-in_err-hist-in-Hist-clause-place g c =
    let t = g.R.TreeRep.contents c.args.tree.now in
    place-passed t c.args.query.now c.in-Hist.place (ap (lacks_place t) c.in-Hist.is) c.in_err-hist-in-Hist.field-0.0 c.from_residual-in_err-hist-in-Hist.result c.in_err-hist-in-Hist.ensures.place c.from_residual-in_err-hist-in-Hist.ensures.1

pub returns-in_ok-trace-in-Trace-clause-place : goal.returns-in_ok-trace-in-Trace-clause-place
returns-in_ok-trace-in-Trace-clause-place g c =
    let t = g.R.TreeRep.contents c.args.tree.now in
    place-given t c.args.query.now c.in-Trace.place (ap (lacks_place t) c.in-Trace.is) c.in_ok-trace-in-Trace.field-0 (answer.Trace c.in_ok-trace-in-Trace.field-0) c.in_ok-trace-in-Trace.ensures.place

pub returns-in_err-trace-in-Trace-clause-place : goal.returns-in_err-trace-in-Trace-clause-place
returns-in_err-trace-in-Trace-clause-place g c =
    let t = g.R.TreeRep.contents c.args.tree.now in
    place-passed t c.args.query.now c.in-Trace.place (ap (lacks_place t) c.in-Trace.is) c.in_err-trace-in-Trace.field-0.0 c.from_residual-in_err-trace-in-Trace.result c.in_err-trace-in-Trace.ensures.place c.from_residual-in_err-trace-in-Trace.ensures.1

pub returns-in_ok-modified-in-Mod-clause-place : goal.returns-in_ok-modified-in-Mod-clause-place
returns-in_ok-modified-in-Mod-clause-place g c =
    let t = g.R.TreeRep.contents c.args.tree.now in
    place-given t c.args.query.now c.in-Mod.place (ap (lacks_place t) c.in-Mod.is) c.in_ok-modified-in-Mod.field-0 (answer.Tids c.in_ok-modified-in-Mod.field-0) c.in_ok-modified-in-Mod.ensures.place

pub returns-in_err-modified-in-Mod-clause-place : goal.returns-in_err-modified-in-Mod-clause-place
returns-in_err-modified-in-Mod-clause-place g c =
    let t = g.R.TreeRep.contents c.args.tree.now in
    place-passed t c.args.query.now c.in-Mod.place (ap (lacks_place t) c.in-Mod.is) c.in_err-modified-in-Mod.field-0.0 c.from_residual-in_err-modified-in-Mod.result c.in_err-modified-in-Mod.ensures.place c.from_residual-in_err-modified-in-Mod.ensures.1

pub returns-in_ok-from-in-From-clause-place : goal.returns-in_ok-from-in-From-clause-place
returns-in_ok-from-in-From-clause-place g c =
    let t = g.R.TreeRep.contents c.args.tree.now in
    place-given t c.args.query.now c.in-From.place (ap (lacks_place t) c.in-From.is) c.in_ok-from-in-From.field-0 (answer.From c.in_ok-from-in-From.field-0) c.in_ok-from-in-From.ensures.place

pub returns-in_err-from-in-From-clause-place : goal.returns-in_err-from-in-From-clause-place
returns-in_err-from-in-From-clause-place g c =
    let t = g.R.TreeRep.contents c.args.tree.now in
    place-passed t c.args.query.now c.in-From.place (ap (lacks_place t) c.in-From.is) c.in_err-from-in-From.field-0.0 c.from_residual-in_err-from-in-From.result c.in_err-from-in-From.ensures.place c.from_residual-in_err-from-in-From.ensures.1
