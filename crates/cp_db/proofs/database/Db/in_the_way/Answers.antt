use Rattle.std.proofs.Common.{sym, ◌∙◌, arith}
use Rattle.cp_model.specs.Tree.{source}
use Rattle.cp_operation.specs.Loaded.{sources_in}
use Rattle.cp_db.proofs.WritingLoads.{is_some-seen, way-there, way-many, way-none}
use Rattle.cp_db.proofs.database.Db.in_the_way.Goals as goal

pub returns-then-is_some : goal.returns-then-is_some
returns-then-is_some g c = λ s z.
    let ss = sources_in g.S.TreeRep.contents c.args.self.now.committed.sources in
    way-there s c.args.name.now ss z.committed.sources (is_some-seen _ c.get.result (source ss c.args.name.now) c.get.ensures ∙ sym c.is_some.ensures ∙ c.if-is_some.true)

pub returns-then-len-eq-SOURCES_MAX : goal.returns-then-len-eq-SOURCES_MAX
returns-then-len-eq-SOURCES_MAX g c = λ s z.
    let ss = sources_in g.S.TreeRep.contents c.args.self.now.committed.sources in
    way-many s c.args.name.now ss z.committed.sources (is_some-seen _ c.get.result (source ss c.args.name.now) c.get.ensures ∙ sym c.is_some.ensures ∙ c.if-is_some.false)
    (omega (arith, c.len.ensures, c.if-len-eq-SOURCES_MAX.true))

pub returns : goal.returns
returns g c = λ s z.
    let ss = sources_in g.S.TreeRep.contents c.args.self.now.committed.sources in
    way-none s c.args.name.now ss z.committed.sources (is_some-seen _ c.get.result (source ss c.args.name.now) c.get.ensures ∙ sym c.is_some.ensures ∙ c.if-is_some.false)
    (λ h. omega (arith, c.len.ensures, c.if-len-eq-SOURCES_MAX.false, h))
