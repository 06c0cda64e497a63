use Rattle.std.specs.Prelude.{◌+◌}
use Rattle.std.proofs.Common.{sym, subst, refl}
use Rattle.cp_operation.specs.Loaded.{sources_in}
use Rattle.cp_curators.specs.Curators.{Stands, Operates}
use Rattle.cp_curators.specs.Desks.{new_desk, desk_or}
use Rattle.cp_curators.specs.declared.curators.Curators.{Curators}
use Rattle.cp_curators.specs.declared.desk.OpenDesk.{OpenDesk}
use Rattle.cp_curators.proofs.DeskLemmas.{desk-there, no-desk, changes-written}
use Rattle.cp_curators.proofs.Operating.{operates-there}
use Rattle.cp_curators.proofs.OverLemmas.{over-operated}
use Rattle.cp_curators.proofs.curators.Curators.apply.Goals as goal

pub returns-in-Some-clause-operates : goal.returns-in-Some-clause-operates
returns-in-Some-clause-operates g c = λ desks s.
    let view = g.R.TreeRep.contents in
    let ss = sources_in g.S.TreeRep.contents c.args.sources.now in
    let old = c.args.self.now in
    let n = c.args.name.now in
    let op = c.args.op.now in
    let was = c.in-Some.desk.now in
    let now : OpenDesk g.row.R.Denot = record { transaction = c.apply.new.self; since = was.since } in
    let new : Curators g.row.R.Denot = record { desks = c.get_mut.follows.lender now } in
    let there = desk-there view ss old desks n s was (sym c.in-Some.ensures.value) in
    let d = there.desk in
    subst (λ o. Operates view ss desks n (desk_or o (new_desk (view c.args.tree.now) c.args.kind c.args.now)) op new c.apply.result) (sym there.is)
    (operates-there view ss old new desks n d op now d.progress c.apply.result refl there.is there.of.some there.of.since
    (changes-written old new n was now (sym c.in-Some.ensures.value) (c.get_mut.follows.holds now)) s
    (c.apply.ensures d.kind d.start (d.since + 1) d.progress there.of.stands))

pub returns-clause-operates : goal.returns-clause-operates
returns-clause-operates g c = λ desks s.
    let view = g.R.TreeRep.contents in
    let ss = sources_in g.S.TreeRep.contents c.args.sources.now in
    let n = c.args.name.now in
    let none = no-desk view ss c.args.self.now desks n s (sym c.in_default.ensures.value) in
    subst (λ o. Operates view ss desks n (desk_or o (new_desk (view c.args.tree.now) c.args.kind c.args.now)) c.args.op.now c.begin_with.new.self c.begin_with.result) (sym none)
    (c.begin_with.ensures desks (subst (λ m. Stands view ss (record { desks = m }) desks) (sym c.get_mut.follows.holds-at-none) s) none)

pub returns-in-Some-clause-over : goal.returns-in-Some-clause-over
returns-in-Some-clause-over g c = λ over.
    over-operated g.R.TreeRep.contents (sources_in g.S.TreeRep.contents c.args.sources.now) (g.R.TreeRep.contents c.args.tree.now) c.args.kind c.args.now over.0 over.2
    (record { desks = c.get_mut.follows.lender (record { transaction = c.apply.new.self; since = c.in-Some.desk.now.since }) }) c.args.name.now c.args.op.now c.apply.result
    (returns-in-Some-clause-operates g c over.0 over.1)

pub returns-clause-over : goal.returns-clause-over
returns-clause-over g c = λ over.
    over-operated g.R.TreeRep.contents (sources_in g.S.TreeRep.contents c.args.sources.now) (g.R.TreeRep.contents c.args.tree.now) c.args.kind c.args.now over.0 over.2
    c.begin_with.new.self c.args.name.now c.args.op.now c.begin_with.result (returns-clause-operates g c over.0 over.1)
