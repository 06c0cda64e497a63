use Rattle.std.specs.Prelude.{◌+◌, [], OnOk}
use Rattle.std.proofs.Common.{sym, subst, refl}
use Rattle.std.specs.declared.option.Option.TheVariants.{Some}
use Rattle.cp_engine.specs.Transactions.{going}
use Rattle.cp_curators.specs.Curators.{Stands}
use Rattle.cp_curators.specs.Desks.{after_unread_text, desk_or, new_desk, with_desk}
use Rattle.cp_curators.specs.declared.curators.Curators.{Curators}
use Rattle.cp_curators.specs.declared.desk.OpenDesk.{OpenDesk}
use Rattle.cp_curators.proofs.DeskLemmas.{changes-written, desk-there, no-desk, stands-with}
use Rattle.cp_curators.proofs.Operating.{holds-unread}
use Rattle.cp_curators.proofs.OverLemmas.{either, over-same, over-spoiled}
use Rattle.cp_curators.proofs.curators.Curators.spoil.Goals as goal

pub returns-in-Some-clause-ok : goal.returns-in-Some-clause-ok
returns-in-Some-clause-ok g c = λ ss desks s.
    let view = g.R.TreeRep.contents in
    let old = c.args.self.now in
    let n = c.args.name.now in
    let was = c.in-Some.desk.now in
    let now : OpenDesk g.row.R.Denot = record { transaction = c.spoil.new.self; since = was.since } in
    let new : Curators g.row.R.Denot = record { desks = c.get_mut.follows.lender now } in
    let there = desk-there view ss old desks n s was (sym c.in-Some.ensures.value) in
    let d = there.desk in
    subst (λ o. Stands view ss new (with_desk n (Some (after_unread_text (desk_or o (new_desk (view c.args.tree.now) c.args.kind c.args.now)))) desks)) (sym there.is)
    (stands-with view ss old new desks n (Some now) (Some (after_unread_text d)) (changes-written old new n was now (sym c.in-Some.ensures.value) (c.get_mut.follows.holds now))
    (record { since = there.of.since; stands = c.spoil.ensures d.kind ss d.start (d.since + 1) d.progress there.of.stands; some = holds-unread d.progress }) s)

pub returns-in-Some-clause-over : goal.returns-in-Some-clause-over
returns-in-Some-clause-over g c = λ ss over.
    over-spoiled g.R.TreeRep.contents ss (g.R.TreeRep.contents c.args.tree.now) c.args.kind c.args.now over.0 over.2
    (record { desks = c.get_mut.follows.lender (record { transaction = c.spoil.new.self; since = c.in-Some.desk.now.since }) }) c.args.name.now (returns-in-Some-clause-ok g c ss over.0 over.1)

pub returns-in_err-transaction-clause-over : goal.returns-in_err-transaction-clause-over
returns-in_err-transaction-clause-over g c = λ ss over.
    let view = g.R.TreeRep.contents in
    over-same view ss (view c.args.tree.now) c.args.kind c.args.now over.0 over.2 (record { desks = c.get_mut.follows.lender-at-none })
    (subst (λ m. Stands view ss (record { desks = m }) over.0) (sym c.get_mut.follows.holds-at-none) over.1)

pub returns-clause-ok : goal.returns-clause-ok
returns-clause-ok g c = λ ss desks s.
    let view = g.R.TreeRep.contents in
    let n = c.args.name.now in
    let t = view c.args.tree.now in
    let new = new_desk t c.args.kind c.args.now in
    let none = no-desk view ss c.args.self.now desks n s (sym c.in_default.ensures.value) in
    subst (λ o. OnOk c.open.result (Stands view ss c.open.new.self (with_desk n (Some (after_unread_text (desk_or o new))) desks))) (sym none)
    (c.open.ensures.ok ss desks (after_unread_text new)
    (subst (λ m. Stands view ss (record { desks = m }) desks) (sym c.get_mut.follows.holds-at-none) s)
    (record { since = refl; stands = c.spoil-2.ensures c.args.kind ss t (c.args.now + 1) (going []) (c.in_ok-transaction.ensures ss s.sources); some = tt }))

pub returns-clause-over : goal.returns-clause-over
returns-clause-over g c = λ ss over.
    let view = g.R.TreeRep.contents in
    let t = view c.args.tree.now in
    either c.open.result (returns-clause-ok g c ss over.0 over.1)
    (c.open.ensures.err ss over.0 (subst (λ m. Stands view ss (record { desks = m }) over.0) (sym c.get_mut.follows.holds-at-none) over.1))
    (over-spoiled view ss t c.args.kind c.args.now over.0 over.2 c.open.new.self c.args.name.now)
    (over-same view ss t c.args.kind c.args.now over.0 over.2 c.open.new.self)
