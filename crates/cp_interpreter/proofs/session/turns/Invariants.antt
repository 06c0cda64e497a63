use Rattle.cp_interpreter.specs.declared.limits.TheConstants.{INPUT_MAX}
use Rattle.std.proofs.Common.{◌≤◌, ◌-◌, Ok}
use Rattle.cp_db.specs.FileVersions.{KeepsVersion}
use Rattle.cp_interpreter.specs.Outside.{call_at, known_output, known_outside}
use Rattle.cp_interpreter.specs.Replied.{SendsReplies}
use Rattle.cp_interpreter.specs.Turns.{MayGoOn, TookPiece, IsSteady, has_refused}
use Rattle.cp_interpreter.proofs.session.turns.Given as goal

abbrev pub decreases-loop-now : goal.decreases-loop-now
decreases-loop-now g l = INPUT_MAX - l.taken

abbrev pub invariant-loop-now : goal.invariant-loop-now
invariant-loop-now g l = record {
  within : l.taken ≤ INPUT_MAX;
  goes_on : MayGoOn g.R.TreeRep.contents g.S.TreeRep.contents (g.D.Disk.known l.disk) l.session;
  took : TookPiece g.R.TreeRep.contents g.S.TreeRep.contents l.initial.session l.session 0 l.taken
      (call_at (g.D.Disk.known l.initial.disk) (known_outside g.F.Files g.K.Clock g.I.Source g.O.Sink l.initial.files l.initial.clock l.initial.input l.initial.output))
      (call_at (g.D.Disk.known l.disk) (known_outside g.F.Files g.K.Clock g.I.Source g.O.Sink l.files l.clock l.input l.output));
  steady : IsSteady
      (known_outside g.F.Files g.K.Clock g.I.Source g.O.Sink l.initial.files l.initial.clock l.initial.input l.initial.output) (known_outside g.F.Files g.K.Clock g.I.Source g.O.Sink l.files l.clock l.input l.output)
      (g.D.Disk.known l.initial.disk) (g.D.Disk.known l.disk);
  replied : SendsReplies (has_refused l.initial.session) (has_refused l.session) (known_output g.O.Sink l.initial.output) (known_output g.O.Sink l.output) (Ok tt);
  file : KeepsVersion (g.D.Disk.known l.initial.disk) (g.D.Disk.known l.disk);
}
