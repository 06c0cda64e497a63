use Rattle.std.proofs.Common.{◌≡◌, Err, inr, false, refl, sym, subst}
use Rattle.std.specs.Prelude.{IsTrue}
use Rattle.cp_program.proofs.Answered.{disk-then}
use Rattle.cp_disk.proofs.Composing.{still}
use Rattle.cp_outside.specs.Causes.{Accounts}
use Rattle.cp_workspace.specs.Files.{known_files}
use Rattle.cp_interpreter.specs.Outside.{Outside, known_input, known_clock, known_output, known_outside}
use Rattle.cp_interpreter.specs.Begins.{BegunOn}
use Rattle.cp_interpreter.specs.Story.{Committers, RanOn, HasCauses, DiskCauses, result_of}
use Rattle.cp_interpreter.specs.Turns.{end_of_stop}
use Rattle.cp_interpreter.specs.declared.end.End.TheVariants as how
use Rattle.cp_interpreter.proofs.Opened.{same-rests, rests-leave, stop-early, causes-early-end, stop-disk, none-stopped, never-stopped, ran-early-on, ran-on, out-disk}
use Rattle.cp_interpreter.specs.Replied.{WroteReplies}
use Rattle.cp_interpreter.proofs.Replied.{replied-memory}
use Rattle.cp_program.specs.FileVersions.{RunsOnNewest}
use Rattle.cp_program.proofs.FileVersions.{newest-begun, newest-unbegun, newest-untouched, replied-unopened}
use Rattle.cp_program.proofs.store.run.Goals as goal

pub returns-in_default-clause-ran : goal.returns-in_default-clause-ran
returns-in_default-clause-ran g c =
    let i = known_input g.I.Source c.args.input.now in
    let f = known_files g.F.Files c.args.files.now in
    let k = known_clock g.K.Clock c.args.clock.now in
    let o = known_output g.O.Sink c.args.output.now in
    let p = known_output g.O.Sink c.out_of_memory.new.output in
    let v = g.D.Disk.known c.args.disk.now in
    let b : Outside = record { input = i; files = f; clock = k; output = o } in
    let a : Outside = record { input = i; files = f; clock = k; output = p } in
    let who : Committers = record { curator = c.args.curator; shared = c.args.shared } in
    subst (λ e. RanOn who b a v v e) (sym c.out_of_memory.ensures.end)
    (ran-early-on who i f k o p v v how.Memory (inr (inr refl)) c.out_of_memory.ensures.wrote (λ known at h. absurd (cc)) (λ known never. same-rests v.view) (λ known h store. rests-leave h v v store (same-rests v.view)))

pub returns-in_default-clause-causes : goal.returns-in_default-clause-causes
returns-in_default-clause-causes g c =
    let i = known_input g.I.Source c.args.input.now in
    let f = known_files g.F.Files c.args.files.now in
    let k = known_clock g.K.Clock c.args.clock.now in
    let o = known_output g.O.Sink c.args.output.now in
    let p = known_output g.O.Sink c.out_of_memory.new.output in
    let b : Outside = record { input = i; files = f; clock = k; output = o } in
    let a : Outside = record { input = i; files = f; clock = k; output = p } in
    subst (λ e. HasCauses b a e) (sym c.out_of_memory.ensures.end) (causes-early-end i f k o p how.Memory (inr (inr refl)) c.out_of_memory.ensures.later)

pub returns-in_default-clause-disk : goal.returns-in_default-clause-disk
returns-in_default-clause-disk g c =
    let v = g.D.Disk.known c.args.disk.now in
    subst (λ e. DiskCauses v v e) (sym c.out_of_memory.ensures.end) (out-disk v)

pub returns-in-Ok-begin-clause-ran : goal.returns-in-Ok-begin-clause-ran
returns-in-Ok-begin-clause-ran g c =
    let view = g.R.TreeRep.contents in
    let source_view = g.S.TreeRep.contents in
    let v = g.D.Disk.known c.args.disk.now in
    let m = g.D.Disk.known c.begin.new.disk in
    let w = g.D.Disk.known c.turns-end.new.disk in
    let who : Committers = record { curator = c.args.curator; shared = c.args.shared } in
    ran-on view source_view who c.in-Ok-begin.session
    (known_outside g.F.Files g.K.Clock g.I.Source g.O.Sink c.args.files.now c.args.clock.now c.args.input.now c.args.output.now)
    (known_outside g.F.Files g.K.Clock g.I.Source g.O.Sink c.turns-end.new.files c.turns-end.new.clock c.turns-end.new.input c.turns-end.new.output) v m w c.turns-end.result
    c.in-Ok-begin.ensures.goes_on.1 (still c.in-Ok-begin.ensures.cause.same) (λ known. subst (BegunOn view source_view who v m) c.in-Ok-begin.is (c.begin.ensures.begun known)) c.begin.ensures.leaves c.turns-end.ensures.ran

pub returns-in-Ok-begin-clause-disk : goal.returns-in-Ok-begin-clause-disk
returns-in-Ok-begin-clause-disk g c =
    let v = g.D.Disk.known c.args.disk.now in
    let m = g.D.Disk.known c.begin.new.disk in
    let w = g.D.Disk.known c.turns-end.new.disk in
    disk-then v m w c.turns-end.result c.in-Ok-begin.ensures.cause c.turns-end.ensures.disk

pub returns-clause-ran : goal.returns-clause-ran
returns-clause-ran g c =
    let view = g.R.TreeRep.contents in
    let source_view = g.S.TreeRep.contents in
    let i = known_input g.I.Source c.args.input.now in
    let f = known_files g.F.Files c.args.files.now in
    let k = known_clock g.K.Clock c.args.clock.now in
    let o = known_output g.O.Sink c.args.output.now in
    let p = known_output g.O.Sink c.stopped.new.output in
    let v = g.D.Disk.known c.args.disk.now in
    let m = g.D.Disk.known c.begin.new.disk in
    let stop = c.in-Err.stop in
    let kind = c.in-Err.ensures.kinds in
    let early = stop-early o p stop kind c.stopped.ensures.wrote in
    let who : Committers = record { curator = c.args.curator; shared = c.args.shared } in
    let begun : IsTrue v.known → BegunOn view source_view who v m (Err stop) = λ known. subst (BegunOn view source_view who v m) c.in-Err.is (c.begin.ensures.begun known) in
    let b : Outside = record { input = i; files = f; clock = k; output = o } in
    let a : Outside = record { input = i; files = f; clock = k; output = p } in
    subst (λ e. RanOn who b a v m e) (sym c.stopped.ensures.end)
    (ran-early-on who i f k o p v m (end_of_stop stop) early.0 early.1 (λ known at h. none-stopped view source_view who v m stop kind at h (begun known)) (λ known never. never-stopped view source_view who v m stop kind never (begun known)) c.begin.ensures.leaves)

pub returns-clause-causes : goal.returns-clause-causes
returns-clause-causes g c =
    let i = known_input g.I.Source c.args.input.now in
    let f = known_files g.F.Files c.args.files.now in
    let k = known_clock g.K.Clock c.args.clock.now in
    let o = known_output g.O.Sink c.args.output.now in
    let p = known_output g.O.Sink c.stopped.new.output in
    let b : Outside = record { input = i; files = f; clock = k; output = o } in
    let a : Outside = record { input = i; files = f; clock = k; output = p } in
    let early = stop-early o p c.in-Err.stop c.in-Err.ensures.kinds c.stopped.ensures.wrote in
    subst (λ e. HasCauses b a e) (sym c.stopped.ensures.end) (causes-early-end i f k o p (end_of_stop c.in-Err.stop) early.0 c.stopped.ensures.later)

pub returns-clause-disk : goal.returns-clause-disk
returns-clause-disk g c =
    let v = g.D.Disk.known c.args.disk.now in
    let m = g.D.Disk.known c.begin.new.disk in
    let a = c.in-Err.ensures.cause in
    subst (λ e. DiskCauses v m e) (sym c.stopped.ensures.end) (stop-disk v m c.in-Err.stop c.in-Err.ensures.kinds a)

pub returns-in_default-clause-replied : goal.returns-in_default-clause-replied
returns-in_default-clause-replied g c =
    let o = known_output g.O.Sink c.args.output.now in
    let p = known_output g.O.Sink c.out_of_memory.new.output in
    subst (λ e. WroteReplies false o p e) (sym c.out_of_memory.ensures.end) (replied-memory false o p c.out_of_memory.ensures.wrote)

pub returns-in_default-clause-file : goal.returns-in_default-clause-file
returns-in_default-clause-file g c = λ known.
    let i = known_input g.I.Source c.args.input.now in
    let f = known_files g.F.Files c.args.files.now in
    let k = known_clock g.K.Clock c.args.clock.now in
    let o = known_output g.O.Sink c.args.output.now in
    let p = known_output g.O.Sink c.out_of_memory.new.output in
    let v = g.D.Disk.known c.args.disk.now in
    let b : Outside = record { input = i; files = f; clock = k; output = o } in
    let a : Outside = record { input = i; files = f; clock = k; output = p } in
    subst (λ e. RunsOnNewest b a v v e) (sym c.out_of_memory.ensures.end) (newest-untouched i f k o p v how.Memory (inr (inr refl)) c.out_of_memory.ensures.wrote)

pub returns-in-Ok-begin-clause-replied : goal.returns-in-Ok-begin-clause-replied
returns-in-Ok-begin-clause-replied g c =
    subst (λ z. WroteReplies z (known_output g.O.Sink c.args.output.now) (known_output g.O.Sink c.turns-end.new.output) c.turns-end.result) c.in-Ok-begin.ensures.goes_on.1 c.turns-end.ensures.replied

pub returns-in-Ok-begin-clause-file : goal.returns-in-Ok-begin-clause-file
returns-in-Ok-begin-clause-file g c = λ known.
    let began = still c.in-Ok-begin.ensures.cause.same known in
    newest-begun _ _ (g.D.Disk.known c.args.disk.now) (g.D.Disk.known c.begin.new.disk) (g.D.Disk.known c.turns-end.new.disk) c.turns-end.result
    (c.begin.ensures.file known) (c.in-Ok-begin.ensures.newest began) (c.turns-end.ensures.file began)

pub returns-clause-replied : goal.returns-clause-replied
returns-clause-replied g c =
    let o = known_output g.O.Sink c.args.output.now in
    let p = known_output g.O.Sink c.stopped.new.output in
    subst (λ e. WroteReplies false o p e) (sym c.stopped.ensures.end) (replied-unopened o p c.in-Err.stop c.in-Err.ensures.kinds c.stopped.ensures.wrote)

pub returns-clause-file : goal.returns-clause-file
returns-clause-file g c = λ known.
    let i = known_input g.I.Source c.args.input.now in
    let f = known_files g.F.Files c.args.files.now in
    let k = known_clock g.K.Clock c.args.clock.now in
    let o = known_output g.O.Sink c.args.output.now in
    let p = known_output g.O.Sink c.stopped.new.output in
    let v = g.D.Disk.known c.args.disk.now in
    let m = g.D.Disk.known c.begin.new.disk in
    let b : Outside = record { input = i; files = f; clock = k; output = o } in
    let a : Outside = record { input = i; files = f; clock = k; output = p } in
    let early = stop-early o p c.in-Err.stop c.in-Err.ensures.kinds c.stopped.ensures.wrote in
    subst (λ e. RunsOnNewest b a v m e) (sym c.stopped.ensures.end)
    (newest-unbegun i f k o p v m (end_of_stop c.in-Err.stop) early.0 early.1 (c.begin.ensures.file known) (c.in-Err.ensures.kept known))
