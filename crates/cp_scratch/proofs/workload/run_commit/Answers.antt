use Rattle.std.proofs.Common.{refl, None}
use Rattle.cp_workspace.specs.Files.{KnownFiles}
use Rattle.cp_scratch.specs.Sessions.{sure_disk}
use Rattle.cp_scratch.proofs.Running.{commit-stands}
use Rattle.cp_scratch.proofs.workload.run_commit.Goals as goal

-- files of which nothing is known
unknown : KnownFiles
unknown = record { found = None; reads = 0; faults = 0 }

pub returns-in-Ok-clause-turned : goal.returns-in-Ok-clause-turned
returns-in-Ok-clause-turned g c =
    (commit-stands g.R.TreeRep.contents g.S.TreeRep.contents unknown _ _ c.args.workspace.now c.commit.new.self (sure_disk c.args.disk.now) (sure_disk c.commit.new.disk)
    c.args.clock.now.left c.commit.new.clock.left c.in-Ok.reply c.requires.silent refl refl (c.in-Ok.ensures.turned unknown)).1

pub returns-in-Ok-clause-silent : goal.returns-in-Ok-clause-silent
returns-in-Ok-clause-silent g c =
    (commit-stands g.R.TreeRep.contents g.S.TreeRep.contents unknown _ _ c.args.workspace.now c.commit.new.self (sure_disk c.args.disk.now) (sure_disk c.commit.new.disk)
    c.args.clock.now.left c.commit.new.clock.left c.in-Ok.reply c.requires.silent refl refl (c.in-Ok.ensures.turned unknown)).0
