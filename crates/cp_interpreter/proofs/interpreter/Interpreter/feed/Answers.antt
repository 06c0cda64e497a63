use Rattle.std.proofs.Common.{◌+◌, take, drop, get_or, Ok, Err, sym, subst, arith}
use Rattle.std.proofs.lemmas.List.{take_more, take_all}
use Rattle.std.proofs.lemmas.Result.{err_from_is_err_and}
use Rattle.cp_disk.proofs.Composing.{still}
use Rattle.cp_interpreter.specs.Outside.{known_output, known_world}
use Rattle.cp_interpreter.specs.Turns.{Uses, WasFed, has_refused, session_at}
use Rattle.cp_interpreter.proofs.Blame.{uses-none, uses-then}
use Rattle.cp_interpreter.proofs.Plays.{fed-none, fed-then, fed-until, split_at}
use Rattle.cp_db.proofs.FileVersions.{version-later, version-none}
use Rattle.cp_interpreter.specs.Replied.{SendsReplies}
use Rattle.cp_interpreter.proofs.Replied.{sent-none, sent-then}
use Rattle.cp_interpreter.proofs.interpreter.Interpreter.feed.Goals as goal

pub loop-byte-init : goal.loop-byte-init
loop-byte-init g c =
    let a = known_world g.F.Files g.K.Clock g.O.Sink c.args.files.now c.args.clock.now c.args.output.now in
    record {
      went = fed-none g.R.TreeRep.contents g.S.TreeRep.contents c.args.self.now a (g.D.Disk.known c.args.disk.now);
      stays = c.requires.goes_on;
      uses = uses-none a (g.D.Disk.known c.args.disk.now);
      replied = sent-none (has_refused c.args.self.now) (known_output g.O.Sink c.args.output.now);
      file = λ known. version-none (g.D.Disk.known c.args.disk.now).view;
    }

pub loop-byte-preserved : goal.loop-byte-preserved
loop-byte-preserved g c =
    let xs = c.args.piece.now in
    let l = c.loop-byte in
    let n = c.push.new in
    let b = known_world g.F.Files g.K.Clock g.O.Sink c.args.files.now c.args.clock.now c.args.output.now in
    let m = known_world g.F.Files g.K.Clock g.O.Sink l.files l.clock l.output in
    let a = known_world g.F.Files g.K.Clock g.O.Sink n.files n.clock n.output in
    let v = g.D.Disk.known c.args.disk.now in
    let u = g.D.Disk.known l.disk in
    let w = g.D.Disk.known n.disk in
    let first = l.invariant.uses in
    let next = c.in_ok-push.ensures.uses in
    record {
      went = subst (λ ys. WasFed g.R.TreeRep.contents g.S.TreeRep.contents ys (session_at c.args.self.now v b) (session_at n.self w a) (Ok tt)) (sym (take_more xs l.byte-index 0 (omega arith)))
          (fed-then g.R.TreeRep.contents g.S.TreeRep.contents (take l.byte-index xs) (get_or xs l.byte-index 0) c.args.self.now l.self n.self b m a v u w l.invariant.went first.files.same (still first.disk.same) c.in_ok-push.ensures.went);
      stays = c.in_ok-push.ensures.stays;
      uses = uses-then b m a v u w (Ok tt) first next;
      replied = sent-then (has_refused c.args.self.now) (has_refused l.self) (has_refused n.self) b.output m.output a.output l.invariant.replied (Ok tt) c.in_ok-push.ensures.replied;
      file = version-later v u w first.disk.same l.invariant.file c.in_ok-push.ensures.file;
    }

pub push-requires : goal.push-requires
push-requires g c = record { goes_on = c.loop-byte.invariant.stays }

pub returns-in_err-push-clause-went : goal.returns-in_err-push-clause-went
returns-in_err-push-clause-went g c =
    let xs = c.args.piece.now in
    let l = c.loop-byte in
    let n = c.push.new in
    let b = known_world g.F.Files g.K.Clock g.O.Sink c.args.files.now c.args.clock.now c.args.output.now in
    let m = known_world g.F.Files g.K.Clock g.O.Sink l.files l.clock l.output in
    let a = known_world g.F.Files g.K.Clock g.O.Sink n.files n.clock n.output in
    let v = g.D.Disk.known c.args.disk.now in
    let u = g.D.Disk.known l.disk in
    let w = g.D.Disk.known n.disk in
    let e = c.in_err-push.field-0.0 in
    let first = l.invariant.uses in
    let next = c.in_err-push.ensures.uses in
    let whole : WasFed g.R.TreeRep.contents g.S.TreeRep.contents xs (session_at c.args.self.now v b) (session_at n.self w a) (Err e) =
    subst (λ ys. WasFed g.R.TreeRep.contents g.S.TreeRep.contents ys (session_at c.args.self.now v b) (session_at n.self w a) (Err e)) (sym (split_at xs l.byte-index (omega arith)))
    (fed-until g.R.TreeRep.contents g.S.TreeRep.contents (take l.byte-index xs) (get_or xs l.byte-index 0) c.args.self.now l.self n.self b m a v u w l.invariant.went first.files.same (still first.disk.same) (drop (l.byte-index + 1) xs) e c.in_err-push.ensures.went) in
    let p = err_from_is_err_and c.from_residual.result c.from_residual.ensures.1 in rw (p.1, p.2) whole

pub returns-in_err-push-clause-uses : goal.returns-in_err-push-clause-uses
returns-in_err-push-clause-uses g c =
    let l = c.loop-byte in
    let n = c.push.new in
    let b = known_world g.F.Files g.K.Clock g.O.Sink c.args.files.now c.args.clock.now c.args.output.now in
    let m = known_world g.F.Files g.K.Clock g.O.Sink l.files l.clock l.output in
    let a = known_world g.F.Files g.K.Clock g.O.Sink n.files n.clock n.output in
    let v = g.D.Disk.known c.args.disk.now in
    let u = g.D.Disk.known l.disk in
    let w = g.D.Disk.known n.disk in
    let e = c.in_err-push.field-0.0 in
    let whole : Uses b a v w (Err e) = uses-then b m a v u w (Err e) l.invariant.uses c.in_err-push.ensures.uses in
    let p = err_from_is_err_and c.from_residual.result c.from_residual.ensures.1 in rw (p.1, p.2) whole

pub returns-clause-went : goal.returns-clause-went
returns-clause-went g c =
    let xs = c.args.piece.now in
    let l = c.loop-byte in
    subst (λ ys. WasFed g.R.TreeRep.contents g.S.TreeRep.contents ys
    (session_at c.args.self.now (g.D.Disk.known c.args.disk.now) (known_world g.F.Files g.K.Clock g.O.Sink c.args.files.now c.args.clock.now c.args.output.now))
    (session_at l.self (g.D.Disk.known l.disk) (known_world g.F.Files g.K.Clock g.O.Sink l.files l.clock l.output)) (Ok tt)) (take_all l.byte-index xs (omega (arith, c.loop-byte-test.false)))
    l.invariant.went

pub returns-in_err-push-clause-replied : goal.returns-in_err-push-clause-replied
returns-in_err-push-clause-replied g c =
    let l = c.loop-byte in
    let n = c.push.new in
    let f = has_refused c.args.self.now in
    let h = has_refused n.self in
    let b = known_output g.O.Sink c.args.output.now in
    let m = known_output g.O.Sink l.output in
    let a = known_output g.O.Sink n.output in
    let e = c.in_err-push.field-0.0 in
    let whole : SendsReplies f h b a (Err e) = sent-then f (has_refused l.self) h b m a l.invariant.replied (Err e) c.in_err-push.ensures.replied in
    let p = err_from_is_err_and c.from_residual.result c.from_residual.ensures.1 in rw (p.1, p.2) whole

pub returns-in_err-push-clause-file : goal.returns-in_err-push-clause-file
returns-in_err-push-clause-file g c =
    version-later (g.D.Disk.known c.args.disk.now) (g.D.Disk.known c.loop-byte.disk) (g.D.Disk.known c.push.new.disk) c.loop-byte.invariant.uses.disk.same c.loop-byte.invariant.file c.in_err-push.ensures.file
