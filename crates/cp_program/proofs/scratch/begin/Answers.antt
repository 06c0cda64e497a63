use Rattle.std.proofs.Common.{subst}
use Rattle.cp_workspace.specs.Files.{known_files}
use Rattle.cp_workspace.specs.Fetched.{GivesFound}
use Rattle.cp_scratch.specs.Sessions.{sure_disk}
use Rattle.cp_scratch.specs.Starts.{start_given}
use Rattle.cp_program.proofs.FromStart.{begun-given, refused-given}
use Rattle.cp_program.proofs.scratch.begin.Goals as goal

pub returns-in_ok-session_on-in-Ok-clause-begun : goal.returns-in_ok-session_on-in-Ok-clause-begun
returns-in_ok-session_on-in-Ok-clause-begun g c =
    let f = known_files g.F.Files c.args.files.now in
    let found = subst (GivesFound g.R.TreeRep.contents f (λ t. start_given t c.args.start)) c.in-Ok.is c.in_ok-tree.ensures.gives in (
      found.0,
      found.1,
      begun-given g.R.TreeRep.contents g.S.TreeRep.contents (sure_disk c.session_on.new.disk) c.args.kind (start_given found.0 c.args.start) c.in-Ok.tree c.in_ok-session_on-in-Ok.field-0 found.2
          c.in_ok-session_on-in-Ok.ensures.follows,
    )

pub returns-in-Err-clause-begun : goal.returns-in-Err-clause-begun
returns-in-Err-clause-begun g c =
    let f = known_files g.F.Files c.args.files.now in
    let found = subst (GivesFound g.R.TreeRep.contents f (λ t. start_given t c.args.start)) c.in-Err.is c.in_ok-tree.ensures.gives in
    (found.0, found.1, refused-given g.R.TreeRep.contents g.S.TreeRep.contents (sure_disk c.args.disk.now) c.args.kind (start_given found.0 c.args.start) c.in-Err.why found.2)
