use Rattle.std.proofs.Common.{◌+◌, ap, ◌∙◌, [], ◌∷◌, ◌++◌}
use Rattle.cp_operation.specs.Loaded.{sources_in}
use Rattle.cp_operation.proofs.Changed.{op-small}
use Rattle.cp_engine.proofs.Going.{going-more}
use Rattle.cp_engine.proofs.txn.Txn.hold.Goals as goal

pub push-requires-clause-small : goal.push-requires-clause-small
push-requires-clause-small g c =
    op-small (sources_in g.S.TreeRep.contents c.args.sources.now) (g.R.TreeRep.contents c.args.self.now.tree) c.args.op.now c.in_ok-held.held (g.met.R.TreeRep.is_tree c.args.self.now.tree) c.requires.written c.requires.accepted c.in_ok-held.ensures

pub returns-clause-ok : goal.returns-clause-ok
returns-clause-ok g c = λ k t n ops h.
    let x = c.args.self.now in
    let view = g.R.TreeRep.contents in
    let e = c.in_default.ensures.rest in
    going-more view (sources_in g.S.TreeRep.contents c.args.sources.now) x c.advance.new.self k t n c.after-tid.result ops c.args.op.now c.requires.written c.requires.few c.requires.accepted (c.after-tid.ensures ∙ ap (λ k. x.first + k) c.len.ensures.count)
    (ap (λ u. u.ops) e ∙ c.in_ok-push.ensures.ok ∙ ap (λ o. x.ops ++ o ∷ []) c.in_ok-held.ensures) (ap (λ u. u.first) e) (ap (λ u. u.kind) e) (ap (λ u. view u.start) e) c.in_default.ensures.tree c.in_default.ensures.adds (ap (λ u. u.failure) e) h
