use Rattle.std.proofs.Common.{◌∙◌, sym, ap, subst}
use Rattle.cp_reply.specs.Session.{says, turn_of}
use Rattle.cp_db.specs.Databases as database
use Rattle.cp_workspace.specs.Texts.{setting}
use Rattle.cp_workspace.specs.Workspaces.{Stands}
use Rattle.cp_workspace.proofs.Standing.{on-ok}
use Rattle.cp_scratch.specs.Sessions.{sure_disk}
use Rattle.cp_scratch.proofs.Running.{on-then}
use Rattle.cp_scratch.proofs.workload.run_statement.Goals as goal

pub returns-in-Op-clause-turned : goal.returns-in-Op-clause-turned
returns-in-Op-clause-turned g c =
    on-then c.run_operation.result
    (λ h terms s z e. subst (λ x. Stands g.R.TreeRep.contents g.S.TreeRep.contents terms c.run_operation.new.workspace (turn_of (setting terms) s (says x)).next) (sym c.in-Op.is) (h terms s z))
    c.run_operation.ensures.turned

pub returns-in-Op-clause-stays : goal.returns-in-Op-clause-stays
returns-in-Op-clause-stays g c =
    on-then c.run_operation.result
    (λ w. record { workspace = w; ready = λ known. subst (λ d. database.IsReady d (sure_disk c.args.disk.now).view) (sym c.run_operation.ensures.same) (c.requires.usable.ready known) })
    c.run_operation.ensures.stays

pub returns-in-Op-clause-stamps : goal.returns-in-Op-clause-stamps
returns-in-Op-clause-stamps g c = on-ok c.run_operation.result (ap database.version_in c.run_operation.ensures.same ∙ c.requires.stamps)

pub returns-in-Commit-clause-turned : goal.returns-in-Commit-clause-turned
returns-in-Commit-clause-turned g c =
    on-then c.run_commit.result
    (λ h terms s z e. subst (λ x. Stands g.R.TreeRep.contents g.S.TreeRep.contents terms c.run_commit.new.workspace (turn_of (setting terms) s (says x)).next) (sym c.in-Commit.is) (h terms s z e))
    c.run_commit.ensures.turned
