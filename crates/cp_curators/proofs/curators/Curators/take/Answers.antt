use Rattle.std.proofs.Common.{sym, subst, ◌∙◌}
use Rattle.cp_curators.specs.Curators.{Takes}
use Rattle.cp_curators.specs.declared.curators.Curators.{Curators}
use Rattle.cp_curators.proofs.DeskLemmas.{desk-there, stands-closed}
use Rattle.cp_curators.proofs.OverLemmas.{over-ended}
use Rattle.cp_curators.proofs.Current.{takes-current}
use Rattle.cp_curators.proofs.curators.Curators.take.Goals as goal

pub returns-in-Some-clause-current : goal.returns-in-Some-clause-current
returns-in-Some-clause-current g c = λ ss desks s t k begun.
    let view = g.R.TreeRep.contents in
    let n = c.args.name.now in
    let there = desk-there view ss c.args.self.now desks n s c.in-Some.desk (sym c.swap_remove.ensures.value ∙ c.in-Some.is) in
    takes-current view ss c.args.self.now desks n c.args.now c.take.result t k s begun
    (subst (λ o. Takes view ss o c.args.now c.take.result) (sym there.is) (c.take.ensures ss there.desk there.of))

pub returns-in-Some-clause-over : goal.returns-in-Some-clause-over
returns-in-Some-clause-over g c = λ ss t k n over.
    let view = g.R.TreeRep.contents in
    let new : Curators g.row.R.Denot = record { desks = c.swap_remove.new.self } in
    over-ended view ss t k n over.0 over.2 new c.args.name.now (stands-closed view ss c.args.self.now new over.0 c.args.name.now c.swap_remove.ensures.updates.0 over.1)

pub returns-in-None-clause-over : goal.returns-in-None-clause-over
returns-in-None-clause-over g c = λ ss t k n over.
    let view = g.R.TreeRep.contents in
    let new : Curators g.row.R.Denot = record { desks = c.swap_remove.new.self } in
    over-ended view ss t k n over.0 over.2 new c.args.name.now (stands-closed view ss c.args.self.now new over.0 c.args.name.now c.swap_remove.ensures.updates.0 over.1)
