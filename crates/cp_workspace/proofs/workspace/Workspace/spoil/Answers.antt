use Rattle.std.proofs.Common.{ap, refl, ◌∙◌}
use Rattle.cp_engine.specs.Transactions.{after_unread}
use Rattle.cp_workspace.proofs.Turning.{workspace-opened}
use Rattle.cp_workspace.proofs.Operating.{stands-spoiled}
use Rattle.cp_workspace.proofs.workspace.Workspace.spoil.Goals as goal

pub returns-clause-stands : goal.returns-clause-stands
returns-clause-stands g c = λ terms s w z.
    let t = c.take_opened.ensures.taken in
    let come = c.in_ok-transaction.ensures.opened terms s z in
    stands-spoiled g.R.TreeRep.contents g.S.TreeRep.contents terms c.args.self.now _ s z c.spoil.new.self (ap (λ u. u.db) t) (ap (λ u. u.curator) t) (ap (λ u. u.curators) t) refl w (λ t d. c.spoil.ensures _ _ _ _ _ (come t d))

pub returns-clause-stays : goal.returns-clause-stays
returns-clause-stays g c =
    let t = c.take_opened.ensures.taken in
    let b = c.in_ok-transaction.ensures.begun in
    workspace-opened g.R.TreeRep.contents g.S.TreeRep.contents c.args.self.now _ (ap (λ u. u.db) t) (ap (λ u. u.curators) t ∙ c.requires.alone) (after_unread b.0, λ t d. c.spoil.ensures _ _ _ _ _ (b.1 t d)) c.requires.workspace
