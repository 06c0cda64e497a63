use Rattle.std.proofs.Common.{ap, map, string_bytes, sym, ◌∙◌}
use Rattle.cp_words.specs.Commands.{command_of}
use Rattle.cp_interpreter.specs.Ends.{code_of}
use Rattle.cp_interpreter.specs.Outside.{known_output, known_outside}
use Rattle.cp_program.proofs.Called.{called, called-out, called-refused}
use Rattle.cp_program.proofs.run.run_cpdb.Goals as goal

pub returns-in_default-clause-call : goal.returns-in_default-clause-call
returns-in_default-clause-call g c =
    let b = known_outside g.F.Files g.K.Clock g.I.Source g.O.Sink c.args.files.now c.args.clock.now c.args.input.now c.args.output.now in
    let out = c.out_of_memory.ensures in
    called-out (command_of (map string_bytes c.args.words.now)) b.input b.files b.clock b.output (known_output g.O.Sink c.out_of_memory.new.output)
    (g.D.Disk.known c.args.disk.now) _ (c.status_of.ensures ∙ ap code_of out.end) out.wrote out.later

pub returns-clause-call : goal.returns-clause-call
returns-clause-call g c =
    let fits = sym c.in-Ok.ensures.command ∙ c.in-Some.is in
    let ran = c.run_command-end.ensures in
    rw (fits)
    (called c.in-Some.command (known_outside g.F.Files g.K.Clock g.I.Source g.O.Sink c.args.files.now c.args.clock.now c.args.input.now c.args.output.now)
    (known_outside g.F.Files g.K.Clock g.I.Source g.O.Sink c.run_command-end.new.files c.run_command-end.new.clock c.run_command-end.new.input c.run_command-end.new.output)
    (g.D.Disk.known c.args.disk.now) (g.D.Disk.known c.run_command-end.new.disk) c.run_command-end.result _ c.status_of-2.ensures ran.ran ran.causes ran.disk ran.short ran.replied ran.file)

pub returns-clause-refused : goal.returns-clause-refused
returns-clause-refused g c = λ one.
    called-refused c.run_command-end.result _ (known_output g.O.Sink c.args.output.now) (known_output g.O.Sink c.run_command-end.new.output) c.status_of-2.ensures c.run_command-end.ensures.replied one
