use Rattle.std.specs.Prelude.{◌+◌, [], ◌∷◌, Err}
use Rattle.std.proofs.Common.{subst, refl}
use Rattle.cp_model.specs.declared.refusal.Cause.TheVariants.{Refused}
use Rattle.cp_operation.specs.Loaded.{sources_in}
use Rattle.cp_engine.specs.Transactions.{going, failed, Applies}
use Rattle.cp_curators.specs.Desks.{new_desk, come_to}
use Rattle.cp_curators.proofs.Operating.{holds-more, operates-no_memory}
use Rattle.cp_curators.proofs.curators.Curators.begin_with.Goals as goal

pub returns-in_err-open-in-Ok : goal.returns-in_err-open-in-Ok
returns-in_err-open-in-Ok g c = λ desks s none.
    let view = g.R.TreeRep.contents in
    let ss = sources_in g.S.TreeRep.contents c.args.sources.now in
    operates-no_memory view ss c.open.new.self desks c.args.name.now (new_desk (view c.args.tree.now) c.args.kind c.args.now) c.args.op.now c.from_residual-in_err-open-in-Ok.result c.from_residual-in_err-open-in-Ok.ensures
    (c.in_err-open-in-Ok.ensures.err ss desks s)

pub returns-in_err-open-in-Err-Refused : goal.returns-in_err-open-in-Err-Refused
returns-in_err-open-in-Err-Refused g c = λ desks s none.
    let view = g.R.TreeRep.contents in
    let ss = sources_in g.S.TreeRep.contents c.args.sources.now in
    operates-no_memory view ss c.open-in-Err-Refused.new.self desks c.args.name.now (new_desk (view c.args.tree.now) c.args.kind c.args.now) c.args.op.now c.from_residual-in_err-open-in-Err-Refused.result
    c.from_residual-in_err-open-in-Err-Refused.ensures (c.in_err-open-in-Err-Refused.ensures.err ss desks s)

pub returns-in_ok-open-in-Ok : goal.returns-in_ok-open-in-Ok
returns-in_ok-open-in-Ok g c = λ desks s none.
    let view = g.R.TreeRep.contents in
    let ss = sources_in g.S.TreeRep.contents c.args.sources.now in
    let t = view c.args.tree.now in
    let op = c.args.op.now in
    let a = subst (Applies view c.args.kind ss t (c.args.now + 1) (going []) op c.apply.new.self) c.in-Ok.is
    (c.apply.ensures c.args.kind t (c.args.now + 1) (going []) (c.in_ok-transaction.ensures ss s.sources)) in
    (a.0, c.in_ok-open-in-Ok.ensures.ok ss desks (come_to (new_desk t c.args.kind c.args.now) (going (op ∷ []))) s (record { since = refl; stands = a.1; some = holds-more [] op }))

pub returns-in_ok-open-in-Err-Refused : goal.returns-in_ok-open-in-Err-Refused
returns-in_ok-open-in-Err-Refused g c = λ desks s none.
    let view = g.R.TreeRep.contents in
    let ss = sources_in g.S.TreeRep.contents c.args.sources.now in
    let t = view c.args.tree.now in
    let op = c.args.op.now in
    let why = c.in-Err-Refused.why in
    let a = subst (λ e. Applies view c.args.kind ss t (c.args.now + 1) (going []) op c.apply.new.self (Err e)) c.in-Err-Refused.field-0-is
    (subst (Applies view c.args.kind ss t (c.args.now + 1) (going []) op c.apply.new.self) c.in-Err-Refused.is
    (c.apply.ensures c.args.kind t (c.args.now + 1) (going []) (c.in_ok-transaction.ensures ss s.sources))) in
    (a.0, c.in_ok-open-in-Err-Refused.ensures.ok ss desks (come_to (new_desk t c.args.kind c.args.now) (failed 1 (Refused why))) s (record { since = refl; stands = a.1; some = tt }))

pub returns-in-Err-Failed : goal.returns-in-Err-Failed
returns-in-Err-Failed g c = λ desks s none.
    let view = g.R.TreeRep.contents in
    let ss = sources_in g.S.TreeRep.contents c.args.sources.now in
    let t = view c.args.tree.now in
    let op = c.args.op.now in
    subst (λ e. Applies view c.args.kind ss t (c.args.now + 1) (going []) op c.apply.new.self (Err e)) c.in-Err-Failed.field-0-is
    (subst (Applies view c.args.kind ss t (c.args.now + 1) (going []) op c.apply.new.self) c.in-Err-Failed.is
    (c.apply.ensures c.args.kind t (c.args.now + 1) (going []) (c.in_ok-transaction.ensures ss s.sources)))
