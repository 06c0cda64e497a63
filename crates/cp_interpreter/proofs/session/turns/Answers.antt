use Rattle.std.proofs.Common.{Ok, arith}
use Rattle.cp_interpreter.specs.Outside.{known_output, known_outside}
use Rattle.cp_interpreter.proofs.Runs.{piece-none, piece-more, piece-ran, steady-none, steady-then, causes-after, disk-after}
use Rattle.cp_db.proofs.FileVersions.{version-later, version-none}
use Rattle.cp_interpreter.specs.Turns.{has_refused}
use Rattle.cp_interpreter.proofs.Replied.{replied-then, sent-none, sent-then}
use Rattle.cp_interpreter.proofs.session.turns.Goals as goal

pub loop-now-init : goal.loop-now-init
loop-now-init g c =
    let o = known_outside g.F.Files g.K.Clock g.I.Source g.O.Sink c.args.files.now c.args.clock.now c.args.input.now c.args.output.now in
    let v = g.D.Disk.known c.args.disk.now in
    record {
      within = omega arith;
      goes_on = c.requires.goes_on;
      took = piece-none g.R.TreeRep.contents g.S.TreeRep.contents c.args.session.now o v;
      steady = steady-none o v;
      replied = sent-none (has_refused c.args.session.now) o.output;
      file = λ known. version-none v.view;
    }

pub loop-now-preserved : goal.loop-now-preserved
loop-now-preserved g c =
    let i = c.loop-now.invariant in
    let steady = c.in-Ok.ensures.steady in
    let first = known_outside g.F.Files g.K.Clock g.I.Source g.O.Sink c.args.files.now c.args.clock.now c.args.input.now c.args.output.now in
    let here = known_outside g.F.Files g.K.Clock g.I.Source g.O.Sink c.loop-now.files c.loop-now.clock c.loop-now.input c.loop-now.output in
    let next = known_outside g.F.Files g.K.Clock g.I.Source g.O.Sink c.turn.new.files c.turn.new.clock c.turn.new.input c.turn.new.output in
    let v = g.D.Disk.known c.args.disk.now in
    let u = g.D.Disk.known c.loop-now.disk in
    let w = g.D.Disk.known c.turn.new.disk in
    record {
      within = c.in-Ok.ensures.goes_on.1;
      goes_on = c.in-Ok.ensures.goes_on.2;
      took = piece-more g.R.TreeRep.contents g.S.TreeRep.contents c.args.session.now c.loop-now.session c.turn.new.session 0 c.loop-now.taken c.in-Ok.now first here next v u w i.steady.known i.steady i.took c.in-Ok.ensures.took;
      steady = steady-then first here next v u w i.steady steady;
      replied = sent-then (has_refused c.args.session.now) (has_refused c.loop-now.session) (has_refused c.turn.new.session) first.output here.output next.output i.replied (Ok tt) c.in-Ok.ensures.sent;
      file = version-later v u w i.steady.known i.file c.turn.ensures.file;
    }

pub turn-requires-clause-goes_on : goal.turn-requires-clause-goes_on
turn-requires-clause-goes_on g c = c.loop-now.invariant.goes_on

pub returns-in-Err-clause-ran : goal.returns-in-Err-clause-ran
returns-in-Err-clause-ran g c =
    let i = c.loop-now.invariant in
    let first = known_outside g.F.Files g.K.Clock g.I.Source g.O.Sink c.args.files.now c.args.clock.now c.args.input.now c.args.output.now in
    let here = known_outside g.F.Files g.K.Clock g.I.Source g.O.Sink c.loop-now.files c.loop-now.clock c.loop-now.input c.loop-now.output in
    let next = known_outside g.F.Files g.K.Clock g.I.Source g.O.Sink c.turn.new.files c.turn.new.clock c.turn.new.input c.turn.new.output in
    piece-ran g.R.TreeRep.contents g.S.TreeRep.contents c.args.session.now c.loop-now.session c.loop-now.taken first here next (g.D.Disk.known c.args.disk.now) (g.D.Disk.known c.loop-now.disk) (g.D.Disk.known c.turn.new.disk) c.in-Err.end i.steady.known
    i.steady i.took c.in-Err.ensures.ends

pub returns-in-Err-clause-causes : goal.returns-in-Err-clause-causes
returns-in-Err-clause-causes g c =
    let first = known_outside g.F.Files g.K.Clock g.I.Source g.O.Sink c.args.files.now c.args.clock.now c.args.input.now c.args.output.now in
    let here = known_outside g.F.Files g.K.Clock g.I.Source g.O.Sink c.loop-now.files c.loop-now.clock c.loop-now.input c.loop-now.output in
    let next = known_outside g.F.Files g.K.Clock g.I.Source g.O.Sink c.turn.new.files c.turn.new.clock c.turn.new.input c.turn.new.output in
    causes-after first here next (g.D.Disk.known c.args.disk.now) (g.D.Disk.known c.loop-now.disk) c.in-Err.end c.loop-now.invariant.steady c.in-Err.ensures.causes

pub returns-in-Err-clause-disk : goal.returns-in-Err-clause-disk
returns-in-Err-clause-disk g c =
    let first = known_outside g.F.Files g.K.Clock g.I.Source g.O.Sink c.args.files.now c.args.clock.now c.args.input.now c.args.output.now in
    let here = known_outside g.F.Files g.K.Clock g.I.Source g.O.Sink c.loop-now.files c.loop-now.clock c.loop-now.input c.loop-now.output in
    disk-after first here (g.D.Disk.known c.args.disk.now) (g.D.Disk.known c.loop-now.disk) (g.D.Disk.known c.turn.new.disk) c.in-Err.end c.loop-now.invariant.steady c.in-Err.ensures.disk

pub returns-in-Err-clause-replied : goal.returns-in-Err-clause-replied
returns-in-Err-clause-replied g c =
    replied-then (has_refused c.args.session.now) (has_refused c.loop-now.session) (known_output g.O.Sink c.args.output.now) (known_output g.O.Sink c.loop-now.output) c.loop-now.invariant.replied (known_output g.O.Sink c.turn.new.output) c.in-Err.end c.in-Err.ensures.replied

pub returns-in-Err-clause-file : goal.returns-in-Err-clause-file
returns-in-Err-clause-file g c =
    version-later (g.D.Disk.known c.args.disk.now) (g.D.Disk.known c.loop-now.disk) (g.D.Disk.known c.turn.new.disk) c.loop-now.invariant.steady.known c.loop-now.invariant.file c.turn.ensures.file
