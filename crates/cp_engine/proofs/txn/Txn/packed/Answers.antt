use Rattle.std.proofs.Common.{◌≡◌, ◌≤◌, ◌<◌, List, Ok, Err, sym, ap, subst, arith, length, refl}
use Rattle.std.proofs.lemmas.Result.{IfOk-weaker, IfErr-weaker}
use Rattle.cp_model.specs.declared.op.Op.{Op}
use Rattle.cp_model.specs.History.{steps_of}
use Rattle.cp_record.specs.Bytes.{commit_length}
use Rattle.cp_engine.specs.Transactions.{Finishes}
use Rattle.cp_engine.proofs.Finishing.{IsPacked, finishes-large, finishes-step, finishes-unpacked, passed-on}
use Rattle.cp_engine.proofs.txn.Txn.packed.Goals as goal

pub returns-in_err-rows-clause-nothing : goal.returns-in_err-rows-clause-nothing
returns-in_err-rows-clause-nothing g c = λ k ss t n p h.
    let view = g.R.TreeRep.contents in
    let x = c.args.self.now in
    let e = c.in_err-rows.field-0.0 in
    let some : 1 ≤ length x.ops = omega (arith, c.len.ensures.count, c.if-len-eq0.false) in
    passed-on (λ e. Finishes view k ss t n p c.args.limit (Err e)) c.from_residual.result e c.from_residual.ensures
    (finishes-unpacked view x k ss t n e (record { sound = λ f e. c.in_default.not-Some f e; some = some; nothing = c.in_err-rows.ensures.nothing }) p c.args.limit c.requires.within h)

pub returns-clause-step : goal.returns-clause-step
returns-clause-step g c = λ k ss t n p h.
    let view = g.R.TreeRep.contents in
    let x = c.args.self.now in
    let some : 1 ≤ length x.ops = omega (arith, c.len.ensures.count, c.if-len-eq0.false) in
    let held : c.take_rows.new.self.ops ≡ x.ops = ap (λ y. y.ops) c.take_rows.ensures.rest in
    let qs = c.in_ok-rows.rows in
    let packed : IsPacked view x c.after-first.result (commit_length x.ops qs) qs = record { sound = λ f e. c.in_default.not-Some f e; some = some; first = c.after-first.ensures; packs = c.in_ok-rows.ensures.packed; bytes = refl } in
    IfOk-weaker c.within.result _ _
    (λ rs q. subst (λ r. Finishes view k ss t n p c.args.limit (Ok (record { ops = x.ops; tree = x.tree; rows = r; tids = length (steps_of x.kind x.ops) }))) (sym q.0)
    (finishes-step view x c.after-first.result (commit_length x.ops qs) qs packed k ss t n p c.args.limit (subst (λ (os : List Op). commit_length os qs ≤ c.args.limit) held q.1) h))
    c.within.ensures.within

pub returns-clause-nothing : goal.returns-clause-nothing
returns-clause-nothing g c = λ k ss t n p h.
    let view = g.R.TreeRep.contents in
    let x = c.args.self.now in
    let some : 1 ≤ length x.ops = omega (arith, c.len.ensures.count, c.if-len-eq0.false) in
    let held : c.take_rows.new.self.ops ≡ x.ops = ap (λ y. y.ops) c.take_rows.ensures.rest in
    let qs = c.in_ok-rows.rows in
    let packed : IsPacked view x c.after-first.result (commit_length x.ops qs) qs = record { sound = λ f e. c.in_default.not-Some f e; some = some; first = c.after-first.ensures; packs = c.in_ok-rows.ensures.packed; bytes = refl } in
    IfErr-weaker c.within.result _ _
    (λ e q. subst (λ e. Finishes view k ss t n p c.args.limit (Err e)) (sym q.0)
    (finishes-large view x c.after-first.result (commit_length x.ops qs) qs packed k ss t n p c.args.limit (subst (λ (os : List Op). c.args.limit < commit_length os qs) held q.1) h))
    c.within.ensures.over
