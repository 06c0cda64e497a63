use Rattle.std.proofs.Common.{sym, ap, ◌∙◌}
use Rattle.cp_curators.specs.Desks.{count_given_up}
use Rattle.cp_curators.specs.declared.curators.Curators.{Curators}
use Rattle.cp_curators.proofs.DeskLemmas.{desk-there, stands-closed}
use Rattle.cp_curators.proofs.OverLemmas.{over-ended}
use Rattle.cp_curators.proofs.curators.Curators.abort.Goals as goal

pub returns-in-Some-clause-count : goal.returns-in-Some-clause-count
returns-in-Some-clause-count g c = λ ss desks s.
    let there = desk-there g.R.TreeRep.contents ss c.args.self.now desks c.args.name.now s c.in-Some.desk (sym c.swap_remove.ensures.value ∙ c.in-Some.is) in
    c.abort.ensures ss there.desk there.of ∙ ap count_given_up (sym there.is)

pub returns-in-Some-clause-over : goal.returns-in-Some-clause-over
returns-in-Some-clause-over g c = λ ss t k n over.
    let view = g.R.TreeRep.contents in
    let new : Curators g.row.R.Denot = record { desks = c.swap_remove.new.self } in
    over-ended view ss t k n over.0 over.2 new c.args.name.now (stands-closed view ss c.args.self.now new over.0 c.args.name.now c.swap_remove.ensures.updates.0 over.1)

pub returns-in-None-clause-over : goal.returns-in-None-clause-over
returns-in-None-clause-over g c = λ ss t k n over.
    let view = g.R.TreeRep.contents in
    let new : Curators g.row.R.Denot = record { desks = c.swap_remove.new.self } in
    over-ended view ss t k n over.0 over.2 new c.args.name.now (stands-closed view ss c.args.self.now new over.0 c.args.name.now c.swap_remove.ensures.updates.0 over.1)
