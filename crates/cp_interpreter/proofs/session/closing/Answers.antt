use Rattle.std.proofs.Common.{sym, subst, ◌∙◌}
use Rattle.cp_workspace.specs.Files.{known_files}
use Rattle.cp_interpreter.specs.Outside.{known_clock, known_output}
use Rattle.cp_interpreter.specs.Turns.{RanLast, HasClosed, has_refused, session_at}
use Rattle.cp_interpreter.specs.declared.end.End.{End}
use Rattle.cp_interpreter.proofs.Runs.{world, closed-stopped, closed-refused, closed-done}
use Rattle.cp_interpreter.specs.Replied.{WroteReplies}
use Rattle.cp_interpreter.proofs.Replied.{replied-done, replied-refused, replied-stopped}
use Rattle.cp_interpreter.proofs.session.closing.Goals as goal

pub returns-in-Err-clause-closed : goal.returns-in-Err-clause-closed
returns-in-Err-clause-closed g c =
    let view = g.R.TreeRep.contents in
    let source_view = g.S.TreeRep.contents in
    let first = c.args.session.now in
    let fb = known_files g.F.Files c.args.files.now in
    let fm = known_files g.F.Files c.close.new.files in
    let kb = known_clock g.K.Clock c.args.clock.now in
    let km = known_clock g.K.Clock c.close.new.clock in
    let ob = known_output g.O.Sink c.args.output.now in
    let om = known_output g.O.Sink c.close.new.output in
    let oa = known_output g.O.Sink c.stopped.new.output in
    let v = g.D.Disk.known c.args.disk.now in
    let w = g.D.Disk.known c.close.new.disk in
    let P : End → Type 0 = λ e. HasClosed view source_view (session_at first v (world fb kb ob)) (session_at c.close.new.self w (world fm km oa)) e in
    let ran = subst (RanLast view source_view (session_at first v (world fb kb ob)) (session_at c.close.new.self w (world fm km om))) c.in-Err.is c.close.ensures.went in
    subst P (sym c.stopped.ensures.end) (closed-stopped view source_view first c.close.new.self fb fm kb km ob om oa v w c.in-Err.stop c.in-Err.ensures.opened ran c.in-Err.ensures.uses.output.refuses c.stopped.ensures.wrote)

pub returns-in-Ok-clause-closed : goal.returns-in-Ok-clause-closed
returns-in-Ok-clause-closed g c =
    let view = g.R.TreeRep.contents in
    let source_view = g.S.TreeRep.contents in
    let first = c.args.session.now in
    let fb = known_files g.F.Files c.args.files.now in
    let fm = known_files g.F.Files c.close.new.files in
    let kb = known_clock g.K.Clock c.args.clock.now in
    let km = known_clock g.K.Clock c.close.new.clock in
    let ob = known_output g.O.Sink c.args.output.now in
    let om = known_output g.O.Sink c.close.new.output in
    let v = g.D.Disk.known c.args.disk.now in
    let w = g.D.Disk.known c.close.new.disk in
    let ran = subst (RanLast view source_view (session_at first v (world fb kb ob)) (session_at c.close.new.self w (world fm km om))) c.in-Ok.is c.close.ensures.went in
    closed-refused view source_view first c.close.new.self fb fm kb km ob om om v w ran c.in-Ok.ensures.uses.output.refuses (sym c.refused.ensures ∙ c.if-refused.true)

pub returns-in-Ok-2-clause-closed : goal.returns-in-Ok-2-clause-closed
returns-in-Ok-2-clause-closed g c =
    let view = g.R.TreeRep.contents in
    let source_view = g.S.TreeRep.contents in
    let first = c.args.session.now in
    let fb = known_files g.F.Files c.args.files.now in
    let fm = known_files g.F.Files c.close.new.files in
    let kb = known_clock g.K.Clock c.args.clock.now in
    let km = known_clock g.K.Clock c.close.new.clock in
    let ob = known_output g.O.Sink c.args.output.now in
    let om = known_output g.O.Sink c.close.new.output in
    let v = g.D.Disk.known c.args.disk.now in
    let w = g.D.Disk.known c.close.new.disk in
    let ran = subst (RanLast view source_view (session_at first v (world fb kb ob)) (session_at c.close.new.self w (world fm km om))) c.in-Ok-2.is c.close.ensures.went in
    closed-done view source_view first c.close.new.self fb fm kb km ob om om v w ran c.in-Ok-2.ensures.uses.output.refuses (sym c.refused.ensures ∙ c.if-refused.false)

pub returns-in-Err-clause-replied : goal.returns-in-Err-clause-replied
returns-in-Err-clause-replied g c =
    let f = has_refused c.args.session.now in
    let b = known_output g.O.Sink c.args.output.now in
    let m = known_output g.O.Sink c.close.new.output in
    let a = known_output g.O.Sink c.stopped.new.output in
    subst (λ (e : End). WroteReplies f b a e) (sym c.stopped.ensures.end) (replied-stopped f (has_refused c.close.new.self) b m a c.in-Err.stop c.in-Err.ensures.replied c.stopped.ensures.wrote)

pub returns-in-Ok-clause-replied : goal.returns-in-Ok-clause-replied
returns-in-Ok-clause-replied g c =
    replied-refused (has_refused c.args.session.now) (has_refused c.close.new.self) (known_output g.O.Sink c.args.output.now) (known_output g.O.Sink c.close.new.output) c.in-Ok.ensures.replied (sym c.refused.ensures ∙ c.if-refused.true)

pub returns-in-Ok-2-clause-replied : goal.returns-in-Ok-2-clause-replied
returns-in-Ok-2-clause-replied g c =
    replied-done (has_refused c.args.session.now) (has_refused c.close.new.self) (known_output g.O.Sink c.args.output.now) (known_output g.O.Sink c.close.new.output) c.in-Ok-2.ensures.replied (sym c.refused.ensures ∙ c.if-refused.false)
