use Rattle.std.proofs.Common.{◌≤◌, ◌+◌, length, IfOk, None, false, sym, subst}
use Rattle.cp_reply.specs.Lines.{lines}
use Rattle.cp_reply.specs.declared.reply.Reply.{Reply}
use Rattle.cp_workspace.specs.declared.limits.TheConstants.{FILE_MAX}
use Rattle.cp_workspace.specs.Files.{known_files}
use Rattle.cp_interpreter.specs.Job.{is_refusal}
use Rattle.cp_interpreter.specs.Outside.{KnownInput, known_clock, known_output, known_world}
use Rattle.cp_interpreter.specs.Scripts.{commit_text, refused_script}
use Rattle.cp_interpreter.specs.Story.{SaidLine, WorldCauses, DiskCauses}
use Rattle.cp_interpreter.specs.Begins.{GivesScriptOf}
use Rattle.cp_interpreter.specs.Turns.{RanScript, end_of_stop, session_at}
use Rattle.cp_interpreter.proofs.Whole.{causes-refused, causes-early, early-no-disk, disk-still}
use Rattle.cp_interpreter.proofs.Scripted.{script-ran, script-refused, script-stopped, script-causes, said-disk}
use Rattle.cp_interpreter.specs.Replied.{WroteReplies}
use Rattle.cp_interpreter.proofs.Replied.{replied-said}
use Rattle.cp_program.proofs.FileVersions.{replied-unread}
use Rattle.cp_program.proofs.commit.play_file.Goals as goal

-- no input
unread : KnownInput
unread = record { left = None; given = 0; faults = 0 }

pub returns-in-Ok-Ok-clause-ran : goal.returns-in-Ok-Ok-clause-ran
returns-in-Ok-Ok-clause-ran g c =
    let name = c.args.file.now in
    script-ran g.R.TreeRep.contents g.S.TreeRep.contents c.args.session.now c.turns.new.session name (known_files g.F.Files c.args.files.now) (known_files g.F.Files c.read_script.new.files) (known_clock g.K.Clock c.args.clock.now) (known_output g.O.Sink c.args.output.now)
    (g.D.Disk.known c.args.disk.now) c.turns.result c.in-Ok-Ok.script c.turns.new.input (known_files g.F.Files c.turns.new.files) (known_clock g.K.Clock c.turns.new.clock) (known_output g.O.Sink c.turns.new.output) (g.D.Disk.known c.turns.new.disk)
    c.read_script.ensures.read c.turns.ensures.ran c.in-Ok-Ok.ensures.used.same
    (subst (λ r. IfOk r (λ s. length s.left ≤ FILE_MAX + length commit_text)) c.in-Ok-Ok.field-0-is c.in-Ok-Ok.ensures.short)
    (subst (GivesScriptOf (known_files g.F.Files c.args.files.now) name) c.in-Ok-Ok.field-0-is c.in-Ok-Ok.ensures.gives) c.turns.ensures.causes.input

pub returns-in-Ok-Ok-clause-causes : goal.returns-in-Ok-Ok-clause-causes
returns-in-Ok-Ok-clause-causes g c =
    script-causes (known_files g.F.Files c.args.files.now) (known_files g.F.Files c.read_script.new.files) (known_clock g.K.Clock c.args.clock.now) (known_output g.O.Sink c.args.output.now)
    (known_world g.F.Files g.K.Clock g.O.Sink c.turns.new.files c.turns.new.clock c.turns.new.output) c.turns.result c.in-Ok-Ok.ensures.used.same c.in-Ok-Ok.ensures.used.account.steady c.turns.ensures.causes.world

pub returns-in-Ok-Err-clause-ran : goal.returns-in-Ok-Err-clause-ran
returns-in-Ok-Err-clause-ran g c =
    let name = c.args.file.now in
    let o = known_output g.O.Sink c.args.output.now in
    let p = known_output g.O.Sink c.end_with.new.output in
    let P : Reply → Type 0 = λ r. SaidLine (lines r) (is_refusal r) o p c.end_with.result in
    script-refused g.R.TreeRep.contents g.S.TreeRep.contents c.args.session.now c.args.session.now name (known_files g.F.Files c.args.files.now) (known_files g.F.Files c.read_script.new.files) (known_clock g.K.Clock c.args.clock.now) o
    (g.D.Disk.known c.args.disk.now) c.end_with.result p c.in-Ok-Err.why c.read_script.ensures.read
    (subst (GivesScriptOf (known_files g.F.Files c.args.files.now) name) c.in-Ok-Err.field-0-is c.in-Ok-Err.ensures.gives) (subst P c.refused.ensures c.end_with.ensures.said)

pub returns-in-Ok-Err-clause-causes : goal.returns-in-Ok-Err-clause-causes
returns-in-Ok-Err-clause-causes g c =
    let o = known_output g.O.Sink c.args.output.now in
    let p = known_output g.O.Sink c.end_with.new.output in
    let P : Reply → Type 0 = λ r. SaidLine (lines r) (is_refusal r) o p c.end_with.result in
    (causes-refused unread (known_files g.F.Files c.args.files.now) (known_files g.F.Files c.read_script.new.files) (known_clock g.K.Clock c.args.clock.now) o p
    (refused_script c.in-Ok-Err.why) c.end_with.result c.in-Ok-Err.ensures.used.same c.in-Ok-Err.ensures.used.account.steady (subst P c.refused.ensures c.end_with.ensures.said) c.end_with.ensures.cause).world

pub returns-in-Ok-Err-clause-disk : goal.returns-in-Ok-Err-clause-disk
returns-in-Ok-Err-clause-disk g c =
    let o = known_output g.O.Sink c.args.output.now in
    let p = known_output g.O.Sink c.end_with.new.output in
    let P : Reply → Type 0 = λ r. SaidLine (lines r) (is_refusal r) o p c.end_with.result in
    said-disk (refused_script c.in-Ok-Err.why) o p (g.D.Disk.known c.args.disk.now) c.end_with.result (subst P c.refused.ensures c.end_with.ensures.said)

pub returns-in-Err-clause-ran : goal.returns-in-Err-clause-ran
returns-in-Err-clause-ran g c =
    let f = known_files g.F.Files c.args.files.now in
    let fb = known_files g.F.Files c.read_script.new.files in
    let v = g.D.Disk.known c.args.disk.now in
    let b = known_world g.F.Files g.K.Clock g.O.Sink c.args.files.now c.args.clock.now c.args.output.now in
    let a = known_world g.F.Files g.K.Clock g.O.Sink c.read_script.new.files c.args.clock.now c.stopped.new.output in
    subst (λ e. RanScript g.R.TreeRep.contents g.S.TreeRep.contents c.args.file.now (session_at c.args.session.now v b) (session_at c.args.session.now v a) e) (sym c.stopped.ensures.end)
    (script-stopped g.R.TreeRep.contents g.S.TreeRep.contents c.args.session.now c.args.session.now c.args.file.now f fb (known_clock g.K.Clock c.args.clock.now) (known_output g.O.Sink c.args.output.now) (known_output g.O.Sink c.stopped.new.output) v
    c.in-Err.fault c.from.result c.from.ensures c.read_script.ensures.read c.stopped.ensures.wrote)

pub returns-in-Err-clause-causes : goal.returns-in-Err-clause-causes
returns-in-Err-clause-causes g c =
    let f = known_files g.F.Files c.args.files.now in
    let fb = known_files g.F.Files c.read_script.new.files in
    let b = known_world g.F.Files g.K.Clock g.O.Sink c.args.files.now c.args.clock.now c.args.output.now in
    let a = known_world g.F.Files g.K.Clock g.O.Sink c.read_script.new.files c.args.clock.now c.stopped.new.output in
    let used = c.in-Err.ensures.used in
    subst (λ e. WorldCauses b a e) (sym c.stopped.ensures.end)
    (causes-early unread f fb (known_clock g.K.Clock c.args.clock.now) (known_output g.O.Sink c.args.output.now) (known_output g.O.Sink c.stopped.new.output) c.in-Err.fault c.from.result c.from.ensures used.same used.account.later used.account.blamed c.stopped.ensures.later).world

pub returns-in-Err-clause-disk : goal.returns-in-Err-clause-disk
returns-in-Err-clause-disk g c =
    let v = g.D.Disk.known c.args.disk.now in
    subst (λ e. DiskCauses v v e) (sym c.stopped.ensures.end) (disk-still v (end_of_stop c.from.result) (early-no-disk c.in-Err.fault c.from.result c.from.ensures))

pub returns-in-Ok-Ok-clause-replied : goal.returns-in-Ok-Ok-clause-replied
returns-in-Ok-Ok-clause-replied g c =
    subst (λ z. WroteReplies z (known_output g.O.Sink c.args.output.now) (known_output g.O.Sink c.turns.new.output) c.turns.result) c.requires.fresh c.turns.ensures.replied

pub returns-in-Ok-Err-clause-replied : goal.returns-in-Ok-Err-clause-replied
returns-in-Ok-Err-clause-replied g c = replied-said c.refused.result (known_output g.O.Sink c.args.output.now) (known_output g.O.Sink c.end_with.new.output) c.end_with.result c.end_with.ensures.said

pub returns-in-Err-clause-replied : goal.returns-in-Err-clause-replied
returns-in-Err-clause-replied g c =
    let o = known_output g.O.Sink c.args.output.now in
    let p = known_output g.O.Sink c.stopped.new.output in
    subst (λ e. WroteReplies false o p e) (sym c.stopped.ensures.end) (replied-unread o p c.in-Err.fault c.from.result c.from.ensures c.stopped.ensures.wrote)
