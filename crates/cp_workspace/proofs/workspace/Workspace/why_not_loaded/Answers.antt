use Rattle.std.proofs.Common.{sym, ap, ◌∙◌, arith}
use Rattle.std.specs.declared.option.Option.TheVariants.{Some}
use Rattle.cp_model.specs.Tree.{source}
use Rattle.cp_operation.specs.Loaded.{sources_in}
use Rattle.cp_reply.specs.declared.reply.Why.TheVariants as why
use Rattle.cp_workspace.proofs.Loading.{why-there, why-many, why-none, may-load, is_some-seen}
use Rattle.cp_workspace.proofs.workspace.Workspace.why_not_loaded.Goals as goal

pub returns-then-is_some-2-clause-why : goal.returns-then-is_some-2-clause-why
returns-then-is_some-2-clause-why g c = λ terms s z.
    let ss = sources_in g.S.TreeRep.contents c.sources-sources.result.now in
    ap (λ n. Some (why.SourceThere n)) c.in_ok-clone.ensures.cases
    ∙ why-there g.R.TreeRep.contents g.S.TreeRep.contents c.args.self.now c.args.name.now terms s z ss (c.sources-sources.ensures z.db.state z.db.holds) (sym c.is_some.ensures ∙ c.if-is_some.false)
    (is_some-seen _ c.get.result (source ss c.args.name.now) c.get.ensures ∙ sym c.is_some-2.ensures ∙ c.if-is_some-2.true)

pub returns-then-len-eq-SOURCES_MAX-clause-why : goal.returns-then-len-eq-SOURCES_MAX-clause-why
returns-then-len-eq-SOURCES_MAX-clause-why g c = λ terms s z.
    let ss = sources_in g.S.TreeRep.contents c.sources-sources.result.now in
    why-many g.R.TreeRep.contents g.S.TreeRep.contents c.args.self.now c.args.name.now terms s z ss (c.sources-sources.ensures z.db.state z.db.holds) (sym c.is_some.ensures ∙ c.if-is_some.false)
    (is_some-seen _ c.get.result (source ss c.args.name.now) c.get.ensures ∙ sym c.is_some-2.ensures ∙ c.if-is_some-2.false) (omega (arith, c.len.ensures, c.if-len-eq-SOURCES_MAX.true))

pub returns-clause-why : goal.returns-clause-why
returns-clause-why g c = λ terms s z.
    let ss = sources_in g.S.TreeRep.contents c.sources-sources.result.now in
    why-none g.R.TreeRep.contents g.S.TreeRep.contents c.args.self.now c.args.name.now terms s z ss (c.sources-sources.ensures z.db.state z.db.holds) (sym c.is_some.ensures ∙ c.if-is_some.false)
    (is_some-seen _ c.get.result (source ss c.args.name.now) c.get.ensures ∙ sym c.is_some-2.ensures ∙ c.if-is_some-2.false) (λ h. omega (arith, c.len.ensures, c.if-len-eq-SOURCES_MAX.false, h))

pub returns-clause-open : goal.returns-clause-open
returns-clause-open g c = λ none.
    let ss = sources_in g.S.TreeRep.contents c.sources-sources.result.now in
    may-load g.R.TreeRep.contents g.S.TreeRep.contents c.args.self.now c.args.name.now ss c.sources-sources.ensures (sym c.is_some.ensures ∙ c.if-is_some.false)
    (is_some-seen _ c.get.result (source ss c.args.name.now) c.get.ensures ∙ sym c.is_some-2.ensures ∙ c.if-is_some-2.false) (λ h. omega (arith, c.len.ensures, c.if-len-eq-SOURCES_MAX.false, h))
