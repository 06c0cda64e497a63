use Rattle.std.proofs.Common.{◌≡◌, [], length}
use Rattle.cp_reply.specs.Session.{Session}
use Rattle.cp_workspace.specs.Texts.{Terms}
use Rattle.cp_workspace.specs.Workspaces.{Stands, HasStamps, IsOfOne, IsUsable}
use Rattle.cp_scratch.specs.Sessions.{sure_disk}
use Rattle.cp_scratch.proofs.Running.{IsOnTheWay}
use Rattle.cp_scratch.proofs.workload.run_script.Given as goal

abbrev pub invariant-loop-script : goal.invariant-loop-script
invariant-loop-script g l = record {
  usable : IsUsable g.R.TreeRep.contents g.S.TreeRep.contents (sure_disk l.disk) l.workspace;
  stamps : HasStamps l.workspace;
  alone : IsOfOne l.workspace;
  silent : l.clock.left ≡ [];
  way : (terms : Terms) (s : Session) → Stands g.R.TreeRep.contents g.S.TreeRep.contents terms l.initial.workspace s → s.supply.moments ≡ [] → IsOnTheWay g.R.TreeRep.contents g.S.TreeRep.contents terms s l.initial.script l.script l.workspace;
}

abbrev pub decreases-loop-script : goal.decreases-loop-script
decreases-loop-script g l = length l.script
