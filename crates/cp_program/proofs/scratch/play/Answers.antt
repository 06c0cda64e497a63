use Rattle.std.proofs.Common.{◌≡◌, ◌∙◌, false, IfOk, sym, subst}
use Rattle.cp_outside.specs.FileReads.{FileTable}
use Rattle.cp_reply.specs.Session.{FetchedFile}
use Rattle.cp_workspace.specs.Files.{known_files}
use Rattle.cp_reply.specs.Lines.{lines}
use Rattle.cp_reply.specs.declared.reply.Reply.{Reply}
use Rattle.cp_scratch.specs.Starts.{start_given, start_reads}
use Rattle.cp_program.specs.InMemory.{refused_start, Ran}
use Rattle.cp_interpreter.specs.Job.{is_refusal}
use Rattle.cp_interpreter.specs.Outside.{known_input, known_clock, known_output, known_outside}
use Rattle.cp_interpreter.specs.Story.{SaidLine, HasCauses}
use Rattle.cp_scratch.specs.Sessions.{sure_disk}
use Rattle.cp_program.specs.Begun.{BegunFrom}
use Rattle.cp_interpreter.specs.Turns.{MayGoOn, has_refused}
use Rattle.cp_interpreter.specs.declared.end.End.{End}
use Rattle.cp_interpreter.proofs.Runs.{parts}
use Rattle.cp_program.proofs.FromStart.{ran-begun, ran-refused, ran-early}
use Rattle.cp_interpreter.proofs.Whole.{causes-refused, causes-early, early-no-disk}
use Rattle.cp_interpreter.specs.Replied.{WroteReplies}
use Rattle.cp_interpreter.proofs.Replied.{replied-said}
use Rattle.cp_program.proofs.FileVersions.{replied-unread}
use Rattle.cp_program.proofs.scratch.play.Goals as goal

pub returns-in-Ok-Ok-clause-ran : goal.returns-in-Ok-Ok-clause-ran
returns-in-Ok-Ok-clause-ran g c =
    let view = g.R.TreeRep.contents in
    let source_view = g.S.TreeRep.contents in
    let given : FileTable → FetchedFile = λ t. start_given t c.args.start in
    let i = known_input g.I.Source c.args.input.now in
    let f = known_files g.F.Files c.args.files.now in
    let fb = known_files g.F.Files c.begin.new.files in
    let k = known_clock g.K.Clock c.args.clock.now in
    let o = known_output g.O.Sink c.args.output.now in
    let v = sure_disk c.begin.new.disk in
    ran-begun view source_view c.args.kind given (start_reads c.args.start) c.in-Ok-Ok.session i f fb k o
    (known_outside g.F.Files g.K.Clock g.I.Source g.O.Sink c.turns-end.new.files c.turns-end.new.clock c.turns-end.new.input c.turns-end.new.output) v (sure_disk c.turns-end.new.disk) c.turns-end.result
    c.in-Ok-Ok.ensures.used.same c.in-Ok-Ok.ensures.reads
    (subst (λ r. IfOk r (λ x. MayGoOn view source_view v x × (has_refused x ≡ false))) c.in-Ok-Ok.field-0-is c.in-Ok-Ok.ensures.goes_on).1
    (subst (BegunFrom view source_view v c.args.kind f given) c.in-Ok-Ok.field-0-is c.in-Ok-Ok.ensures.begun) c.turns-end.ensures.ran

pub returns-in-Ok-Err-clause-ran : goal.returns-in-Ok-Err-clause-ran
returns-in-Ok-Err-clause-ran g c =
    let view = g.R.TreeRep.contents in
    let source_view = g.S.TreeRep.contents in
    let given : FileTable → FetchedFile = λ t. start_given t c.args.start in
    let v = sure_disk c.begin.new.disk in
    let o = known_output g.O.Sink c.args.output.now in
    let p = known_output g.O.Sink c.end_with.new.output in
    let P : Reply → Type 0 = λ r. SaidLine (lines r) (is_refusal r) o p c.end_with.result in
    ran-refused c.args.kind given (start_reads c.args.start) (known_input g.I.Source c.args.input.now) (known_files g.F.Files c.args.files.now) (known_files g.F.Files c.begin.new.files) (known_clock g.K.Clock c.args.clock.now) o p
    view source_view v c.in-Ok-Err.why c.end_with.result c.in-Ok-Err.ensures.reads
    (subst (BegunFrom view source_view v c.args.kind (known_files g.F.Files c.args.files.now) given) c.in-Ok-Err.field-0-is c.in-Ok-Err.ensures.begun) (subst P c.refused_start.ensures c.end_with.ensures.said)

pub returns-in-Ok-Err-clause-causes : goal.returns-in-Ok-Err-clause-causes
returns-in-Ok-Err-clause-causes g c =
    let o = known_output g.O.Sink c.args.output.now in
    let p = known_output g.O.Sink c.end_with.new.output in
    let P : Reply → Type 0 = λ r. SaidLine (lines r) (is_refusal r) o p c.end_with.result in
    causes-refused (known_input g.I.Source c.args.input.now) (known_files g.F.Files c.args.files.now) (known_files g.F.Files c.begin.new.files) (known_clock g.K.Clock c.args.clock.now) o p
    (refused_start c.in-Ok-Err.why) c.end_with.result c.in-Ok-Err.ensures.used.same c.in-Ok-Err.ensures.used.account.steady (subst P c.refused_start.ensures c.end_with.ensures.said) c.end_with.ensures.cause

pub returns-in-Err-clause-ran : goal.returns-in-Err-clause-ran
returns-in-Err-clause-ran g c =
    let given : FileTable → FetchedFile = λ t. start_given t c.args.start in
    let n = start_reads c.args.start in
    let i = known_input g.I.Source c.args.input.now in
    let f = known_files g.F.Files c.args.files.now in
    let fb = known_files g.F.Files c.begin.new.files in
    let k = known_clock g.K.Clock c.args.clock.now in
    let o = known_output g.O.Sink c.args.output.now in
    let p = known_output g.O.Sink c.stopped.new.output in
    let P : End → Type 0 = λ e. Ran c.args.kind given n (parts i f k o) (parts i fb k p) e in
    subst P (sym c.stopped.ensures.end) (ran-early c.args.kind given n i f fb k o p c.in-Err.fault c.from.result c.from.ensures c.in-Err.ensures.reads c.stopped.ensures.wrote)

pub returns-in-Err-clause-causes : goal.returns-in-Err-clause-causes
returns-in-Err-clause-causes g c =
    let i = known_input g.I.Source c.args.input.now in
    let f = known_files g.F.Files c.args.files.now in
    let fb = known_files g.F.Files c.begin.new.files in
    let k = known_clock g.K.Clock c.args.clock.now in
    let o = known_output g.O.Sink c.args.output.now in
    let p = known_output g.O.Sink c.stopped.new.output in
    let a = c.in-Err.ensures.used.account in
    let P : End → Type 0 = λ e. HasCauses (parts i f k o) (parts i fb k p) e in
    subst P (sym c.stopped.ensures.end) (causes-early i f fb k o p c.in-Err.fault c.from.result c.from.ensures c.in-Err.ensures.used.same a.later a.blamed c.stopped.ensures.later)

pub returns-in-Err-clause-disk : goal.returns-in-Err-clause-disk
returns-in-Err-clause-disk g c = λ h. absurd (early-no-disk c.in-Err.fault c.from.result c.from.ensures (sym c.stopped.ensures.end ∙ h))

pub returns-in-Ok-Ok-clause-replied : goal.returns-in-Ok-Ok-clause-replied
returns-in-Ok-Ok-clause-replied g c =
    let view = g.R.TreeRep.contents in
    let source_view = g.S.TreeRep.contents in
    let v = sure_disk c.begin.new.disk in
    subst (λ z. WroteReplies z (known_output g.O.Sink c.args.output.now) (known_output g.O.Sink c.turns-end.new.output) c.turns-end.result)
    (subst (λ r. IfOk r (λ x. MayGoOn view source_view v x × (has_refused x ≡ false))) c.in-Ok-Ok.field-0-is c.in-Ok-Ok.ensures.goes_on).1 c.turns-end.ensures.replied

pub returns-in-Ok-Err-clause-replied : goal.returns-in-Ok-Err-clause-replied
returns-in-Ok-Err-clause-replied g c = replied-said c.refused_start.result (known_output g.O.Sink c.args.output.now) (known_output g.O.Sink c.end_with.new.output) c.end_with.result c.end_with.ensures.said

pub returns-in-Err-clause-replied : goal.returns-in-Err-clause-replied
returns-in-Err-clause-replied g c =
    let o = known_output g.O.Sink c.args.output.now in
    let p = known_output g.O.Sink c.stopped.new.output in
    let P : End → Type 0 = λ e. WroteReplies false o p e in
    subst P (sym c.stopped.ensures.end) (replied-unread o p c.in-Err.fault c.from.result c.from.ensures c.stopped.ensures.wrote)
