use Rattle.std.proofs.Common.{◌≡◌, Err, inr, false, refl, sym, subst}
use Rattle.std.specs.Prelude.{IsTrue}
use Rattle.cp_program.proofs.Answered.{disk-then}
use Rattle.cp_disk.proofs.Composing.{still}
use Rattle.cp_outside.specs.Causes.{Accounts}
use Rattle.cp_workspace.specs.Files.{known_files}
use Rattle.cp_interpreter.specs.Outside.{known_clock, known_output}
use Rattle.cp_interpreter.specs.Begins.{BegunOn}
use Rattle.cp_interpreter.specs.Scripts.{Committed}
use Rattle.cp_interpreter.specs.Story.{one_curator, HasCauses, DiskCauses, result_of}
use Rattle.cp_interpreter.specs.Turns.{RanScript, end_of_stop, session_at}
use Rattle.cp_interpreter.specs.declared.end.End.TheVariants as how
use Rattle.cp_interpreter.proofs.Runs.{parts, world}
use Rattle.cp_interpreter.proofs.Opened.{same-rests, rests-leave, stop-early, causes-early-end, stop-disk, none-stopped, never-stopped, out-disk}
use Rattle.cp_interpreter.proofs.Scripted.{committed-early, committed-ran, causes-unread}
use Rattle.cp_interpreter.specs.Replied.{WroteReplies}
use Rattle.cp_interpreter.proofs.Replied.{replied-memory}
use Rattle.cp_program.specs.FileVersions.{RunsOnNewest}
use Rattle.cp_program.proofs.FileVersions.{newest-begun, newest-unbegun, newest-untouched, replied-unopened}
use Rattle.cp_program.proofs.commit.commit.Goals as goal

pub returns-in_default-clause-ran : goal.returns-in_default-clause-ran
returns-in_default-clause-ran g c = λ i.
    let f = known_files g.F.Files c.args.files.now in
    let k = known_clock g.K.Clock c.args.clock.now in
    let o = known_output g.O.Sink c.args.output.now in
    let p = known_output g.O.Sink c.out_of_memory.new.output in
    let v = g.D.Disk.known c.args.disk.now in
    subst (λ e. Committed c.args.file c.args.curator (parts i f k o) (parts i f k p) v v e) (sym c.out_of_memory.ensures.end)
    (committed-early c.args.file c.args.curator i f k o p v v how.Memory (inr (inr refl)) c.out_of_memory.ensures.wrote (λ known at h. absurd (cc)) (λ known never. same-rests v.view) (λ known h store. rests-leave h v v store (same-rests v.view)))

pub returns-in_default-clause-causes : goal.returns-in_default-clause-causes
returns-in_default-clause-causes g c = λ i.
    let f = known_files g.F.Files c.args.files.now in
    let k = known_clock g.K.Clock c.args.clock.now in
    let o = known_output g.O.Sink c.args.output.now in
    let p = known_output g.O.Sink c.out_of_memory.new.output in
    subst (λ e. HasCauses (parts i f k o) (parts i f k p) e) (sym c.out_of_memory.ensures.end) (causes-early-end i f k o p how.Memory (inr (inr refl)) c.out_of_memory.ensures.later)

pub returns-in_default-clause-disk : goal.returns-in_default-clause-disk
returns-in_default-clause-disk g c =
    let v = g.D.Disk.known c.args.disk.now in
    subst (λ e. DiskCauses v v e) (sym c.out_of_memory.ensures.end) (out-disk v)

pub returns-in-Ok-begin-clause-ran : goal.returns-in-Ok-begin-clause-ran
returns-in-Ok-begin-clause-ran g c = λ i.
    let view = g.R.TreeRep.contents in
    let source_view = g.S.TreeRep.contents in
    let f = known_files g.F.Files c.args.files.now in
    let fa = known_files g.F.Files c.play_file-end.new.files in
    let k = known_clock g.K.Clock c.args.clock.now in
    let ka = known_clock g.K.Clock c.play_file-end.new.clock in
    let o = known_output g.O.Sink c.args.output.now in
    let oa = known_output g.O.Sink c.play_file-end.new.output in
    let v = g.D.Disk.known c.args.disk.now in
    let m = g.D.Disk.known c.begin.new.disk in
    let w = g.D.Disk.known c.play_file-end.new.disk in
    committed-ran view source_view c.args.file c.args.curator c.in-Ok-begin.session c.play_file-end.new.session i f fa k ka o oa v m w c.play_file-end.result
    c.in-Ok-begin.ensures.goes_on.1 (still c.in-Ok-begin.ensures.cause.same) (λ known. subst (BegunOn view source_view (one_curator c.args.curator) v m) c.in-Ok-begin.is (c.begin.ensures.begun known)) c.begin.ensures.leaves
    (subst (λ n. RanScript view source_view n (session_at c.in-Ok-begin.session m (world f k o)) (session_at c.play_file-end.new.session w (world fa ka oa)) c.play_file-end.result) c.as_str.ensures c.play_file-end.ensures.ran)

pub returns-in-Ok-begin-clause-causes : goal.returns-in-Ok-begin-clause-causes
returns-in-Ok-begin-clause-causes g c = λ i.
    causes-unread i (known_files g.F.Files c.args.files.now) (known_files g.F.Files c.play_file-end.new.files) (known_clock g.K.Clock c.args.clock.now) (known_clock g.K.Clock c.play_file-end.new.clock) (known_output g.O.Sink c.args.output.now) (known_output g.O.Sink c.play_file-end.new.output)
    c.play_file-end.result c.play_file-end.ensures.ran.closing.input c.play_file-end.ensures.causes

pub returns-in-Ok-begin-clause-disk : goal.returns-in-Ok-begin-clause-disk
returns-in-Ok-begin-clause-disk g c =
    let v = g.D.Disk.known c.args.disk.now in
    let m = g.D.Disk.known c.begin.new.disk in
    let w = g.D.Disk.known c.play_file-end.new.disk in
    disk-then v m w c.play_file-end.result c.in-Ok-begin.ensures.cause c.play_file-end.ensures.disk

pub returns-clause-ran : goal.returns-clause-ran
returns-clause-ran g c = λ i.
    let view = g.R.TreeRep.contents in
    let source_view = g.S.TreeRep.contents in
    let f = known_files g.F.Files c.args.files.now in
    let k = known_clock g.K.Clock c.args.clock.now in
    let o = known_output g.O.Sink c.args.output.now in
    let p = known_output g.O.Sink c.stopped.new.output in
    let v = g.D.Disk.known c.args.disk.now in
    let m = g.D.Disk.known c.begin.new.disk in
    let stop = c.in-Err.stop in
    let kind = c.in-Err.ensures.kinds in
    let early = stop-early o p stop kind c.stopped.ensures.wrote in
    let begun : IsTrue v.known → BegunOn view source_view (one_curator c.args.curator) v m (Err stop) = λ known. subst (BegunOn view source_view (one_curator c.args.curator) v m) c.in-Err.is (c.begin.ensures.begun known) in
    subst (λ e. Committed c.args.file c.args.curator (parts i f k o) (parts i f k p) v m e) (sym c.stopped.ensures.end)
    (committed-early c.args.file c.args.curator i f k o p v m (end_of_stop stop) early.0 early.1 (λ known at h. none-stopped view source_view (one_curator c.args.curator) v m stop kind at h (begun known)) (λ known never. never-stopped view source_view (one_curator c.args.curator) v m stop kind never (begun known)) c.begin.ensures.leaves)

pub returns-clause-causes : goal.returns-clause-causes
returns-clause-causes g c = λ i.
    let f = known_files g.F.Files c.args.files.now in
    let k = known_clock g.K.Clock c.args.clock.now in
    let o = known_output g.O.Sink c.args.output.now in
    let p = known_output g.O.Sink c.stopped.new.output in
    let early = stop-early o p c.in-Err.stop c.in-Err.ensures.kinds c.stopped.ensures.wrote in
    subst (λ e. HasCauses (parts i f k o) (parts i f k p) e) (sym c.stopped.ensures.end) (causes-early-end i f k o p (end_of_stop c.in-Err.stop) early.0 c.stopped.ensures.later)

pub returns-clause-disk : goal.returns-clause-disk
returns-clause-disk g c =
    let v = g.D.Disk.known c.args.disk.now in
    let m = g.D.Disk.known c.begin.new.disk in
    let a = c.in-Err.ensures.cause in
    subst (λ e. DiskCauses v m e) (sym c.stopped.ensures.end) (stop-disk v m c.in-Err.stop c.in-Err.ensures.kinds a)

pub returns-in_default-clause-replied : goal.returns-in_default-clause-replied
returns-in_default-clause-replied g c =
    let o = known_output g.O.Sink c.args.output.now in
    let p = known_output g.O.Sink c.out_of_memory.new.output in
    subst (λ e. WroteReplies false o p e) (sym c.out_of_memory.ensures.end) (replied-memory false o p c.out_of_memory.ensures.wrote)

pub returns-in_default-clause-file : goal.returns-in_default-clause-file
returns-in_default-clause-file g c = λ known i.
    let f = known_files g.F.Files c.args.files.now in
    let k = known_clock g.K.Clock c.args.clock.now in
    let o = known_output g.O.Sink c.args.output.now in
    let p = known_output g.O.Sink c.out_of_memory.new.output in
    let v = g.D.Disk.known c.args.disk.now in
    subst (λ e. RunsOnNewest (parts i f k o) (parts i f k p) v v e) (sym c.out_of_memory.ensures.end) (newest-untouched i f k o p v how.Memory (inr (inr refl)) c.out_of_memory.ensures.wrote)

pub returns-in-Ok-begin-clause-file : goal.returns-in-Ok-begin-clause-file
returns-in-Ok-begin-clause-file g c = λ known i.
    let began = still c.in-Ok-begin.ensures.cause.same known in
    newest-begun _ _ (g.D.Disk.known c.args.disk.now) (g.D.Disk.known c.begin.new.disk) (g.D.Disk.known c.play_file-end.new.disk) c.play_file-end.result
    (c.begin.ensures.file known) (c.in-Ok-begin.ensures.newest began) (c.play_file-end.ensures.file began)

pub returns-clause-replied : goal.returns-clause-replied
returns-clause-replied g c =
    let o = known_output g.O.Sink c.args.output.now in
    let p = known_output g.O.Sink c.stopped.new.output in
    subst (λ e. WroteReplies false o p e) (sym c.stopped.ensures.end) (replied-unopened o p c.in-Err.stop c.in-Err.ensures.kinds c.stopped.ensures.wrote)

pub returns-clause-file : goal.returns-clause-file
returns-clause-file g c = λ known i.
    let f = known_files g.F.Files c.args.files.now in
    let k = known_clock g.K.Clock c.args.clock.now in
    let o = known_output g.O.Sink c.args.output.now in
    let p = known_output g.O.Sink c.stopped.new.output in
    let v = g.D.Disk.known c.args.disk.now in
    let m = g.D.Disk.known c.begin.new.disk in
    let early = stop-early o p c.in-Err.stop c.in-Err.ensures.kinds c.stopped.ensures.wrote in
    subst (λ e. RunsOnNewest (parts i f k o) (parts i f k p) v m e) (sym c.stopped.ensures.end)
    (newest-unbegun i f k o p v m (end_of_stop c.in-Err.stop) early.0 early.1 (c.begin.ensures.file known) (c.in-Err.ensures.kept known))
