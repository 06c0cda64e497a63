use Rattle.std.proofs.Common.{refl}
use Rattle.std.proofs.lemmas.Result.{err_from_is_err_and}
use Rattle.std.specs.Option.{option_to_list}
use Rattle.cp_interpreter.specs.Outside.{known_output, known_world}
use Rattle.cp_interpreter.proofs.Plays.{after_cutter, goes_on-byte, pushed, unpushed}
use Rattle.cp_db.proofs.FileVersions.{version-none}
use Rattle.cp_interpreter.specs.Turns.{has_refused}
use Rattle.cp_interpreter.proofs.Replied.{sent-memory}
use Rattle.cp_interpreter.proofs.interpreter.Interpreter.push.Goals as goal

pub run-requires : goal.run-requires
run-requires g c = record {
  goes_on = goes_on-byte g.R.TreeRep.contents g.S.TreeRep.contents (g.D.Disk.known c.args.disk.now) c.args.byte c.args.self.now (after_cutter c.args.self.now c.push.new.self) c.requires.goes_on c.in_ok-cut.ensures.ok.1 refl;
}

pub returns-clause-went : goal.returns-clause-went
returns-clause-went g c =
    let old = c.args.self.now in
    let met = c.in_ok-cut.ensures.ok in
    let n = c.run.new in
    pushed g.R.TreeRep.contents g.S.TreeRep.contents c.args.byte (option_to_list c.in_ok-cut.cut) old (after_cutter old c.push.new.self) n.self
    (known_world g.F.Files g.K.Clock g.O.Sink c.args.files.now c.args.clock.now c.args.output.now) (known_world g.F.Files g.K.Clock g.O.Sink n.files n.clock n.output)
    (g.D.Disk.known c.args.disk.now) (g.D.Disk.known n.disk) c.run.result met.0 met.1 refl refl c.run.ensures.went

pub returns-in_err-cut-clause-went : goal.returns-in_err-cut-clause-went
returns-in_err-cut-clause-went g c =
    let old = c.args.self.now in
    let p = err_from_is_err_and c.from_residual.result c.from_residual.ensures.1 in
    rw p.1 (unpushed g.R.TreeRep.contents g.S.TreeRep.contents c.args.byte old (after_cutter old c.push.new.self) (known_world g.F.Files g.K.Clock g.O.Sink c.args.files.now c.args.clock.now c.args.output.now) (g.D.Disk.known c.args.disk.now) p.0 p.2)

pub returns-in_err-cut-clause-replied : goal.returns-in_err-cut-clause-replied
returns-in_err-cut-clause-replied g c =
    let flag = has_refused c.args.self.now in
    let p = err_from_is_err_and c.from_residual.result c.from_residual.ensures.1 in
    rw p.1 (sent-memory flag flag (known_output g.O.Sink c.args.output.now) p.0 p.2)

pub returns-in_err-cut-clause-file : goal.returns-in_err-cut-clause-file
returns-in_err-cut-clause-file g c = λ known. version-none (g.D.Disk.known c.args.disk.now).view
