use Rattle.std.specs.Prelude.{◌≡◌}
use Rattle.std.proofs.Common.{None, false, sym, subst}
use Rattle.cp_reply.specs.Lines.{lines}
use Rattle.cp_workspace.specs.Files.{known_files, UsesFiles}
use Rattle.cp_interpreter.specs.Alone.{Loaded}
use Rattle.cp_interpreter.specs.Begins.{LoadedAs}
use Rattle.cp_interpreter.specs.Job.{is_refusal}
use Rattle.cp_interpreter.specs.Outside.{Outside, KnownClock, known_output}
use Rattle.cp_interpreter.specs.Story.{HasCauses, DiskCauses}
use Rattle.cp_interpreter.proofs.Said.{causes-said, disk-said}
use Rattle.cp_interpreter.proofs.LoadedAlone.{load-said, load-stopped, causes-stopped, disk-stopped}
use Rattle.cp_interpreter.specs.Replied.{WroteReplies}
use Rattle.cp_interpreter.proofs.Replied.{replied-said, replied-unbegun}
use Rattle.cp_program.proofs.load.load.Goals as goal
use Rattle.cp_interpreter.specs.declared.stop.Stop.TheVariants.{File}

-- no clock
no_clock : KnownClock
no_clock = record { left = None; asked = 0; faults = 0 }

pub returns-in-Ok-clause-ran : goal.returns-in-Ok-clause-ran
returns-in-Ok-clause-ran g c = λ i k.
    let f = known_files g.F.Files c.args.files.now in
    let h = known_files g.F.Files c.reply_to_load.new.files in
    let o = known_output g.O.Sink c.args.output.now in
    let p = known_output g.O.Sink c.end_with.new.output in
    let v = g.D.Disk.known c.args.disk.now in
    let w = g.D.Disk.known c.reply_to_load.new.disk in
    load-said i f h k o p c.args.source v w c.in-Ok.reply c.end_with.result (subst (LoadedAs c.args.source k f h v w) c.in-Ok.is (c.reply_to_load.ensures.loaded k)) c.end_with.ensures.said

pub returns-in-Ok-clause-causes : goal.returns-in-Ok-clause-causes
returns-in-Ok-clause-causes g c = λ i k.
    let used = c.in-Ok.ensures.used in
    causes-said i (known_files g.F.Files c.args.files.now) (known_files g.F.Files c.reply_to_load.new.files) k (known_output g.O.Sink c.args.output.now) (known_output g.O.Sink c.end_with.new.output)
    (lines c.in-Ok.reply) (is_refusal c.in-Ok.reply) c.end_with.result used.same used.account.steady c.end_with.ensures.said c.end_with.ensures.cause

pub returns-in-Ok-clause-disk : goal.returns-in-Ok-clause-disk
returns-in-Ok-clause-disk g c =
    disk-said (g.D.Disk.known c.args.disk.now) (g.D.Disk.known c.reply_to_load.new.disk) (lines c.in-Ok.reply) (is_refusal c.in-Ok.reply)
    (known_output g.O.Sink c.args.output.now) (known_output g.O.Sink c.end_with.new.output) c.end_with.result c.in-Ok.ensures.cause.same c.in-Ok.ensures.cause.account.steady c.end_with.ensures.said

pub returns-in-Err-clause-ran : goal.returns-in-Err-clause-ran
returns-in-Err-clause-ran g c = λ i k.
    let f = known_files g.F.Files c.args.files.now in
    let h = known_files g.F.Files c.reply_to_load.new.files in
    let o = known_output g.O.Sink c.args.output.now in
    let p = known_output g.O.Sink c.stopped.new.output in
    let v = g.D.Disk.known c.args.disk.now in
    let w = g.D.Disk.known c.reply_to_load.new.disk in
    let b : Outside = record { input = i; files = f; clock = k; output = o } in
    let a : Outside = record { input = i; files = h; clock = k; output = p } in
    subst (λ e. Loaded c.args.source b a v w e) (sym c.stopped.ensures.end)
    (load-stopped i f h k o p c.args.source v w c.in-Err.stop (subst (LoadedAs c.args.source k f h v w) c.in-Err.is (c.reply_to_load.ensures.loaded k)) c.stopped.ensures.wrote)

pub returns-in-Err-clause-causes : goal.returns-in-Err-clause-causes
returns-in-Err-clause-causes g c = λ i k.
    let f = known_files g.F.Files c.args.files.now in
    let h = known_files g.F.Files c.reply_to_load.new.files in
    let o = known_output g.O.Sink c.args.output.now in
    let p = known_output g.O.Sink c.stopped.new.output in
    let b : Outside = record { input = i; files = f; clock = k; output = o } in
    let a : Outside = record { input = i; files = h; clock = k; output = p } in
    let used = subst (λ r. UsesFiles (λ e. e ≡ File) f h r) c.in-Err.is c.reply_to_load.ensures.used in
    subst (λ e. HasCauses b a e) (sym c.stopped.ensures.end) (causes-stopped i f h k o p c.in-Err.stop (c.in-Err.ensures.loaded k).kinds used c.stopped.ensures.later)

pub returns-in-Err-clause-disk : goal.returns-in-Err-clause-disk
returns-in-Err-clause-disk g c =
    let v = g.D.Disk.known c.args.disk.now in
    let w = g.D.Disk.known c.reply_to_load.new.disk in
    let cause = c.in-Err.ensures.cause in
    subst (λ e. DiskCauses v w e) (sym c.stopped.ensures.end) (disk-stopped v w c.in-Err.stop (c.in-Err.ensures.loaded no_clock).kinds cause)

pub returns-in-Ok-clause-replied : goal.returns-in-Ok-clause-replied
returns-in-Ok-clause-replied g c = replied-said c.in-Ok.reply (known_output g.O.Sink c.args.output.now) (known_output g.O.Sink c.end_with.new.output) c.end_with.result c.end_with.ensures.said

pub returns-in-Err-clause-replied : goal.returns-in-Err-clause-replied
returns-in-Err-clause-replied g c =
    let o = known_output g.O.Sink c.args.output.now in
    let p = known_output g.O.Sink c.stopped.new.output in
    let kinds = (c.in-Err.ensures.loaded no_clock).kinds in
    subst (λ e. WroteReplies false o p e) (sym c.stopped.ensures.end) (replied-unbegun false o p c.in-Err.stop kinds.0 kinds.1 c.stopped.ensures.wrote)
