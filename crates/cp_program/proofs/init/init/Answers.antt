use Rattle.std.proofs.Common.{false, sym, subst}
use Rattle.cp_disk.proofs.Composing.{still}
use Rattle.cp_workspace.specs.Files.{known_files}
use Rattle.cp_scratch.specs.Starts.{start_given, start_reads}
use Rattle.cp_interpreter.specs.Outside.{known_output, Outside}
use Rattle.cp_interpreter.specs.Begins.{StoreMade}
use Rattle.cp_interpreter.specs.Story.{Made}
use Rattle.cp_interpreter.proofs.Made.{made-said, made-stopped}
use Rattle.cp_interpreter.specs.Job.{is_refusal}
use Rattle.cp_interpreter.specs.Replied.{WroteReplies}
use Rattle.cp_interpreter.proofs.Replied.{replied-said}
use Rattle.cp_reply.specs.Lines.{lines}
use Rattle.cp_program.specs.FileVersions.{MakesNewest}
use Rattle.cp_program.proofs.FileVersions.{makes-said, makes-stopped, replied-unmade}
use Rattle.cp_program.proofs.init.init.Goals as goal

pub returns-in-Ok-clause-made : goal.returns-in-Ok-clause-made
returns-in-Ok-clause-made g c = λ i k.
    let f = known_files g.F.Files c.args.files.now in
    let h = known_files g.F.Files c.make.new.files in
    let o = known_output g.O.Sink c.args.output.now in
    let p = known_output g.O.Sink c.end_with.new.output in
    let v = g.D.Disk.known c.args.disk.now in
    let w = g.D.Disk.known c.make.new.disk in
    let n = start_reads c.args.start in
    made-said c.args.kind (λ t. start_given t c.args.start) n i k f h o p v w c.in-Ok.reply c.end_with.result
    (subst (StoreMade c.args.kind (λ t. start_given t c.args.start) n f h v w) c.in-Ok.is c.make.ensures.made) c.end_with.ensures.said

pub returns-in-Err-clause-made : goal.returns-in-Err-clause-made
returns-in-Err-clause-made g c = λ i k.
    let f = known_files g.F.Files c.args.files.now in
    let h = known_files g.F.Files c.make.new.files in
    let o = known_output g.O.Sink c.args.output.now in
    let p = known_output g.O.Sink c.stopped.new.output in
    let v = g.D.Disk.known c.args.disk.now in
    let w = g.D.Disk.known c.make.new.disk in
    let n = start_reads c.args.start in
    let b : Outside = record { input = i; files = f; clock = k; output = o } in
    let a : Outside = record { input = i; files = h; clock = k; output = p } in
    subst (λ e. Made c.args.kind (λ t. start_given t c.args.start) n b a v w e) (sym c.stopped.ensures.end)
    (made-stopped c.args.kind (λ t. start_given t c.args.start) n i k f h o p v w c.in-Err.stop
    (subst (StoreMade c.args.kind (λ t. start_given t c.args.start) n f h v w) c.in-Err.is c.make.ensures.made) c.stopped.ensures.wrote)

pub returns-in-Ok-clause-replied : goal.returns-in-Ok-clause-replied
returns-in-Ok-clause-replied g c = replied-said c.in-Ok.reply (known_output g.O.Sink c.args.output.now) (known_output g.O.Sink c.end_with.new.output) c.end_with.result c.end_with.ensures.said

pub returns-in-Err-clause-replied : goal.returns-in-Err-clause-replied
returns-in-Err-clause-replied g c =
    let o = known_output g.O.Sink c.args.output.now in
    let p = known_output g.O.Sink c.stopped.new.output in
    subst (λ e. WroteReplies false o p e) (sym c.stopped.ensures.end) (replied-unmade o p c.in-Err.stop c.in-Err.ensures.made.stops c.stopped.ensures.wrote)

pub returns-in-Ok-clause-file : goal.returns-in-Ok-clause-file
returns-in-Ok-clause-file g c = λ known.
    let v = g.D.Disk.known c.args.disk.now in
    let w = g.D.Disk.known c.make.new.disk in
    let now = still c.in-Ok.ensures.cause.same known in
    makes-said (lines c.in-Ok.reply) (is_refusal c.in-Ok.reply) (known_output g.O.Sink c.args.output.now) (known_output g.O.Sink c.end_with.new.output) v w c.end_with.result c.end_with.ensures.said
    (λ accepted. c.in-Ok.ensures.newest accepted now) (λ refused. c.in-Ok.ensures.refused refused known) (λ none. (c.make.ensures.made.exists known none).1) (λ vacant. c.make.ensures.file known vacant)

pub returns-in-Err-clause-file : goal.returns-in-Err-clause-file
returns-in-Err-clause-file g c = λ known.
    let v = g.D.Disk.known c.args.disk.now in
    let w = g.D.Disk.known c.make.new.disk in
    subst (λ e. MakesNewest v w e) (sym c.stopped.ensures.end) (makes-stopped v w c.in-Err.stop (λ none. (c.make.ensures.made.exists known none).1) (λ vacant. c.make.ensures.file known vacant))
