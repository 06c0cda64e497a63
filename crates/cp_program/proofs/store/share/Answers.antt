use Rattle.std.proofs.Common.{inr, false, refl, sym, subst}
use Rattle.cp_workspace.specs.Files.{known_files}
use Rattle.cp_interpreter.specs.Outside.{Outside, known_input, known_clock, known_output}
use Rattle.cp_interpreter.specs.Story.{several_curators, RanOn, HasCauses, DiskCauses}
use Rattle.cp_interpreter.specs.declared.end.End.TheVariants as how
use Rattle.cp_interpreter.proofs.Opened.{same-rests, rests-leave, causes-early-end, ran-early-on, out-disk}
use Rattle.cp_interpreter.specs.Replied.{WroteReplies}
use Rattle.cp_interpreter.proofs.Replied.{replied-memory}
use Rattle.cp_program.specs.FileVersions.{RunsOnNewest}
use Rattle.cp_program.proofs.FileVersions.{newest-untouched}
use Rattle.cp_program.proofs.store.share.Goals as goal

pub returns-in_default-clause-ran : goal.returns-in_default-clause-ran
returns-in_default-clause-ran g c =
    let i = known_input g.I.Source c.args.input.now in
    let f = known_files g.F.Files c.args.files.now in
    let k = known_clock g.K.Clock c.args.clock.now in
    let o = known_output g.O.Sink c.args.output.now in
    let p = known_output g.O.Sink c.out_of_memory.new.output in
    let v = g.D.Disk.known c.args.disk.now in
    let b : Outside = record { input = i; files = f; clock = k; output = o } in
    let a : Outside = record { input = i; files = f; clock = k; output = p } in
    subst (λ e. RanOn several_curators b a v v e) (sym c.out_of_memory.ensures.end)
    (ran-early-on several_curators i f k o p v v how.Memory (inr (inr refl)) c.out_of_memory.ensures.wrote (λ known at h. absurd (cc)) (λ known never. same-rests v.view) (λ known h store. rests-leave h v v store (same-rests v.view)))

pub returns-in_default-clause-causes : goal.returns-in_default-clause-causes
returns-in_default-clause-causes g c =
    let i = known_input g.I.Source c.args.input.now in
    let f = known_files g.F.Files c.args.files.now in
    let k = known_clock g.K.Clock c.args.clock.now in
    let o = known_output g.O.Sink c.args.output.now in
    let p = known_output g.O.Sink c.out_of_memory.new.output in
    let b : Outside = record { input = i; files = f; clock = k; output = o } in
    let a : Outside = record { input = i; files = f; clock = k; output = p } in
    subst (λ e. HasCauses b a e) (sym c.out_of_memory.ensures.end) (causes-early-end i f k o p how.Memory (inr (inr refl)) c.out_of_memory.ensures.later)

pub returns-in_default-clause-disk : goal.returns-in_default-clause-disk
returns-in_default-clause-disk g c =
    let v = g.D.Disk.known c.args.disk.now in
    subst (λ e. DiskCauses v v e) (sym c.out_of_memory.ensures.end) (out-disk v)

pub returns-in_default-clause-replied : goal.returns-in_default-clause-replied
returns-in_default-clause-replied g c =
    let o = known_output g.O.Sink c.args.output.now in
    let p = known_output g.O.Sink c.out_of_memory.new.output in
    subst (λ e. WroteReplies false o p e) (sym c.out_of_memory.ensures.end) (replied-memory false o p c.out_of_memory.ensures.wrote)

pub returns-in_default-clause-file : goal.returns-in_default-clause-file
returns-in_default-clause-file g c = λ known.
    let i = known_input g.I.Source c.args.input.now in
    let f = known_files g.F.Files c.args.files.now in
    let k = known_clock g.K.Clock c.args.clock.now in
    let o = known_output g.O.Sink c.args.output.now in
    let p = known_output g.O.Sink c.out_of_memory.new.output in
    let v = g.D.Disk.known c.args.disk.now in
    let b : Outside = record { input = i; files = f; clock = k; output = o } in
    let a : Outside = record { input = i; files = f; clock = k; output = p } in
    subst (λ e. RunsOnNewest b a v v e) (sym c.out_of_memory.ensures.end) (newest-untouched i f k o p v how.Memory (inr (inr refl)) c.out_of_memory.ensures.wrote)
