use Rattle.std.proofs.Common.{take, Ok}
use Rattle.cp_db.specs.FileVersions.{KeepsVersion}
use Rattle.cp_interpreter.specs.Outside.{known_output, known_world}
use Rattle.cp_interpreter.specs.Replied.{SendsReplies}
use Rattle.cp_interpreter.specs.Turns.{MayGoOn, WasFed, Uses, has_refused, session_at}
use Rattle.cp_interpreter.proofs.interpreter.Interpreter.feed.Given as goal

abbrev pub invariant-loop-byte : goal.invariant-loop-byte
invariant-loop-byte g l = record {
  went : WasFed g.R.TreeRep.contents g.S.TreeRep.contents (take l.byte-index l.piece)
      (session_at l.initial.self (g.D.Disk.known l.initial.disk) (known_world g.F.Files g.K.Clock g.O.Sink l.initial.files l.initial.clock l.initial.output))
      (session_at l.self (g.D.Disk.known l.disk) (known_world g.F.Files g.K.Clock g.O.Sink l.files l.clock l.output)) (Ok tt);
  stays : MayGoOn g.R.TreeRep.contents g.S.TreeRep.contents (g.D.Disk.known l.disk) l.self;
  uses : Uses (known_world g.F.Files g.K.Clock g.O.Sink l.initial.files l.initial.clock l.initial.output) (known_world g.F.Files g.K.Clock g.O.Sink l.files l.clock l.output)
      (g.D.Disk.known l.initial.disk) (g.D.Disk.known l.disk) (Ok tt);
  replied : SendsReplies (has_refused l.initial.self) (has_refused l.self) (known_output g.O.Sink l.initial.output) (known_output g.O.Sink l.output) (Ok tt);
  file : KeepsVersion (g.D.Disk.known l.initial.disk) (g.D.Disk.known l.disk);
}
