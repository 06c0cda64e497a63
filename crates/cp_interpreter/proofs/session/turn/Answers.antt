use Rattle.std.proofs.Common.{◌≡◌, ℕ, [], length, take, subst, sym, rules, arith}
use Rattle.std.proofs.lemmas.List.{length-take-le}
use Rattle.std.specs.Io.KnownBytes.{Consumes, IsAtEnd}
use Rattle.cp_workspace.specs.Files.{known_files}
use Rattle.cp_interpreter.specs.Outside.{call_at, known_input, known_clock, known_output, known_outside}
use Rattle.cp_interpreter.specs.Turns.{RanFrom, WasFed, has_refused, session_at}
use Rattle.cp_interpreter.specs.declared.end.End.{End}
use Rattle.cp_interpreter.proofs.Runs.{parts, world, ran-input, ran-closed, ran-too-long, ran-stopped}
use Rattle.cp_db.proofs.FileVersions.{version-none}
use Rattle.cp_interpreter.specs.Replied.{WroteReplies}
use Rattle.cp_interpreter.proofs.Replied.{replied-input, replied-stopped, replied-too-long}
use Rattle.cp_interpreter.proofs.session.turn.Goals as goal

pub returns-in_default-clause-ends : goal.returns-in_default-clause-ends
returns-in_default-clause-ends g c =
    ran-input g.R.TreeRep.contents g.S.TreeRep.contents c.args.session.now c.args.before (known_input g.I.Source c.args.input.now) (known_input g.I.Source c.read.new.self) (known_files g.F.Files c.args.files.now) (known_clock g.K.Clock c.args.clock.now)
    (known_output g.O.Sink c.args.output.now) (known_output g.O.Sink c.last_line.new.output) (g.D.Disk.known c.args.disk.now) c.requires.taken c.in_default.ensures.bytes c.in_default.ensures.counted c.last_line.ensures.wrote

pub returns-then-count-eq0-clause-ends : goal.returns-then-count-eq0-clause-ends
returns-then-count-eq0-clause-ends g c =
    let l0 = g.I.Source.left c.args.input.now in
    let l1 = g.I.Source.left c.read.new.self in
    let none : c.in-Ok.count ≡ 0 = c.if-count-eq0.true in
    let took : Consumes l0 l1 [] = let P : ℕ → Type 0 = λ n. Consumes l0 l1 (take n c.read.new.into) in subst P none c.in-Ok.ensures.bytes.0 in
    let end : IsAtEnd l1 = c.in-Ok.ensures.bytes.1 none (search rules) in
    ran-closed g.R.TreeRep.contents g.S.TreeRep.contents c.args.session.now c.closing.new.session c.args.before
    (known_outside g.F.Files g.K.Clock g.I.Source g.O.Sink c.args.files.now c.args.clock.now c.args.input.now c.args.output.now)
    (known_outside g.F.Files g.K.Clock g.I.Source g.O.Sink c.closing.new.files c.closing.new.clock c.read.new.self c.closing.new.output)
    (g.D.Disk.known c.args.disk.now) (g.D.Disk.known c.closing.new.disk) c.closing.result c.requires.taken took (omega (arith, none, c.in-Ok.ensures.counted)) end c.closing.ensures.closed

pub returns-then-now-gt-INPUT_MAX-clause-ends : goal.returns-then-now-gt-INPUT_MAX-clause-ends
returns-then-now-gt-INPUT_MAX-clause-ends g c =
    let bytes = take c.in-Ok.count c.read.new.into in
    let same : length c.read.new.into ≡ length c.args.piece.now = search rules in
    let count : length bytes ≡ c.in-Ok.count = length-take-le c.in-Ok.count c.read.new.into (omega (arith, c.in-Ok.ensures.bound)) in
    ran-too-long g.R.TreeRep.contents g.S.TreeRep.contents c.args.session.now c.args.before bytes (known_input g.I.Source c.args.input.now) (known_input g.I.Source c.read.new.self) (known_files g.F.Files c.args.files.now) (known_clock g.K.Clock c.args.clock.now)
    (known_output g.O.Sink c.args.output.now) (known_output g.O.Sink c.last_line-then-now-gt-INPUT_MAX.new.output) (g.D.Disk.known c.args.disk.now) c.requires.taken
    c.in-Ok.ensures.bytes.0 (omega (arith, count, c.in-Ok.ensures.counted)) (omega (arith, count, c.if-now-gt-INPUT_MAX.true)) (omega (arith, count, same, c.in-Ok.ensures.bound, c.requires.bounded)) c.last_line-then-now-gt-INPUT_MAX.ensures.wrote

pub returns-in-Err-clause-ends : goal.returns-in-Err-clause-ends
returns-in-Err-clause-ends g c =
    let ib = known_input g.I.Source c.args.input.now in
    let ia = known_input g.I.Source c.read.new.self in
    let fb = known_files g.F.Files c.args.files.now in
    let fm = known_files g.F.Files c.feed.new.files in
    let kb = known_clock g.K.Clock c.args.clock.now in
    let km = known_clock g.K.Clock c.feed.new.clock in
    let ob = known_output g.O.Sink c.args.output.now in
    let om = known_output g.O.Sink c.feed.new.output in
    let oa = known_output g.O.Sink c.stopped.new.output in
    let v = g.D.Disk.known c.args.disk.now in
    let w = g.D.Disk.known c.feed.new.disk in
    let bytes = take c.in-Ok.count c.read.new.into in
    let count : length bytes ≡ c.in-Ok.count = length-take-le c.in-Ok.count c.read.new.into (omega (arith, c.in-Ok.ensures.bound)) in
    let first = c.args.session.now in
    let view = g.R.TreeRep.contents in
    let source_view = g.S.TreeRep.contents in
    let P : End → Type 0 = λ e. RanFrom view source_view first c.args.before (call_at v (parts ib fb kb ob)) (call_at w (parts ia fm km oa)) e in
    let fed = subst (WasFed view source_view bytes (session_at first v (world fb kb ob)) (session_at c.feed.new.self w (world fm km om))) c.in-Err.is c.feed.ensures.went in
    subst P (sym c.stopped.ensures.end) (
    ran-stopped view source_view first c.feed.new.self c.args.before bytes ib ia fb fm kb km ob om oa v w c.in-Err.stop c.in-Err.ensures.opened
    (omega (arith, count, c.if-now-gt-INPUT_MAX.false)) c.in-Ok.ensures.bytes.0 (omega (arith, count, c.in-Ok.ensures.counted)) fed c.in-Err.ensures.uses.output.refuses c.stopped.ensures.wrote
    )

pub returns-in_default-clause-replied : goal.returns-in_default-clause-replied
returns-in_default-clause-replied g c = replied-input (has_refused c.args.session.now) (known_output g.O.Sink c.args.output.now) (known_output g.O.Sink c.last_line.new.output) c.last_line.ensures.wrote

pub returns-then-now-gt-INPUT_MAX-clause-replied : goal.returns-then-now-gt-INPUT_MAX-clause-replied
returns-then-now-gt-INPUT_MAX-clause-replied g c =
    replied-too-long (has_refused c.args.session.now) (known_output g.O.Sink c.args.output.now) (known_output g.O.Sink c.last_line-then-now-gt-INPUT_MAX.new.output) c.last_line-then-now-gt-INPUT_MAX.ensures.wrote

pub returns-in-Err-clause-replied : goal.returns-in-Err-clause-replied
returns-in-Err-clause-replied g c =
    let f = has_refused c.args.session.now in
    let b = known_output g.O.Sink c.args.output.now in
    let m = known_output g.O.Sink c.feed.new.output in
    let a = known_output g.O.Sink c.stopped.new.output in
    subst (λ (e : End). WroteReplies f b a e) (sym c.stopped.ensures.end) (replied-stopped f (has_refused c.feed.new.self) b m a c.in-Err.stop c.in-Err.ensures.replied c.stopped.ensures.wrote)

pub returns-in_default-clause-file : goal.returns-in_default-clause-file
returns-in_default-clause-file g c = λ known. version-none (g.D.Disk.known c.args.disk.now).view

pub returns-then-now-gt-INPUT_MAX-clause-file : goal.returns-then-now-gt-INPUT_MAX-clause-file
returns-then-now-gt-INPUT_MAX-clause-file g c = λ known. version-none (g.D.Disk.known c.args.disk.now).view
