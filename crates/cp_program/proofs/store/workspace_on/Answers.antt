use Rattle.std.proofs.Common.{Bool, sym, subst}
use Rattle.cp_workspace.specs.Workspaces.{Stands, end_now, opened_session}
use Rattle.cp_interpreter.specs.Story.{Committers, terms_from}
use Rattle.cp_program.proofs.store.workspace_on.Goals as goal

pub returns-then-shared-clause-stands : goal.returns-then-shared-clause-stands
returns-then-shared-clause-stands g c = λ h supply z.
    let who : Bool → Committers = λ b. record { curator = c.args.curator; shared = b } in
    subst (λ b. Stands g.R.TreeRep.contents g.S.TreeRep.contents (terms_from (end_now h c.args.db) (who b)) c.shared.result (opened_session h supply)) (sym c.if-shared.true) (c.shared.ensures.stands h supply z)

pub returns-else-shared-clause-stands : goal.returns-else-shared-clause-stands
returns-else-shared-clause-stands g c = λ h supply z.
    let who : Bool → Committers = λ b. record { curator = c.args.curator; shared = b } in
    subst (λ b. Stands g.R.TreeRep.contents g.S.TreeRep.contents (terms_from (end_now h c.args.db) (who b)) c.new.result (opened_session h supply)) (sym c.if-shared.false) (c.new.ensures.stands h supply z)
