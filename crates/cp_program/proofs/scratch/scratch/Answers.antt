use Rattle.std.proofs.Common.{false, inl, refl, sym, subst}
use Rattle.cp_outside.specs.FileReads.{FileTable}
use Rattle.cp_reply.specs.Session.{FetchedFile}
use Rattle.cp_workspace.specs.Files.{known_files}
use Rattle.cp_scratch.specs.Starts.{start_given, start_reads}
use Rattle.cp_program.specs.InMemory.{Ran}
use Rattle.cp_interpreter.specs.Outside.{known_input, known_clock, known_output}
use Rattle.cp_interpreter.specs.declared.end.End.{End}
use Rattle.cp_interpreter.proofs.Runs.{parts}
use Rattle.cp_program.proofs.FromStart.{ran-out}
use Rattle.cp_interpreter.specs.Replied.{WroteReplies}
use Rattle.cp_interpreter.proofs.Replied.{replied-memory}
use Rattle.cp_program.proofs.scratch.scratch.Goals as goal

pub returns-in_default-clause-ran : goal.returns-in_default-clause-ran
returns-in_default-clause-ran g c =
    let f = known_files g.F.Files c.args.files.now in
    let given : FileTable → FetchedFile = λ t. start_given t c.args.start in
    let i = known_input g.I.Source c.args.input.now in
    let k = known_clock g.K.Clock c.args.clock.now in
    let o = known_output g.O.Sink c.args.output.now in
    let p = known_output g.O.Sink c.out_of_memory.new.output in
    let n = start_reads c.args.start in
    let P : End → Type 0 = λ e. Ran c.args.kind given n (parts i f k o) (parts i f k p) e in
    subst P (sym c.out_of_memory.ensures.end) (ran-out c.args.kind given n i f f k o p c.out_of_memory.ensures.wrote (inl refl))

pub returns-in_default-new-clause-ran : goal.returns-in_default-new-clause-ran
returns-in_default-new-clause-ran g c =
    let f = known_files g.F.Files c.args.files.now in
    let given : FileTable → FetchedFile = λ t. start_given t c.args.start in
    let i = known_input g.I.Source c.args.input.now in
    let k = known_clock g.K.Clock c.args.clock.now in
    let o = known_output g.O.Sink c.args.output.now in
    let p = known_output g.O.Sink c.out_of_memory-in_default-new.new.output in
    let n = start_reads c.args.start in
    let P : End → Type 0 = λ e. Ran c.args.kind given n (parts i f k o) (parts i f k p) e in
    subst P (sym c.out_of_memory-in_default-new.ensures.end) (ran-out c.args.kind given n i f f k o p c.out_of_memory-in_default-new.ensures.wrote (inl refl))

pub returns-in_default-clause-replied : goal.returns-in_default-clause-replied
returns-in_default-clause-replied g c =
    let o = known_output g.O.Sink c.args.output.now in
    let p = known_output g.O.Sink c.out_of_memory.new.output in
    let P : End → Type 0 = λ e. WroteReplies false o p e in
    subst P (sym c.out_of_memory.ensures.end) (replied-memory false o p c.out_of_memory.ensures.wrote)

pub returns-in_default-new-clause-replied : goal.returns-in_default-new-clause-replied
returns-in_default-new-clause-replied g c =
    let o = known_output g.O.Sink c.args.output.now in
    let p = known_output g.O.Sink c.out_of_memory-in_default-new.new.output in
    let P : End → Type 0 = λ e. WroteReplies false o p e in
    subst P (sym c.out_of_memory-in_default-new.ensures.end) (replied-memory false o p c.out_of_memory-in_default-new.ensures.wrote)
