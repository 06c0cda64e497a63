use Rattle.std.proofs.Common.{rules, arith, sym, ◌∙◌}
use Rattle.cp_outside.proofs.Named.{named_here, named_later, named_nowhere}
use Rattle.cp_outside.proofs.memory_files.bytes_of.Goals as goal

pub returns-then-eq : goal.returns-then-eq
returns-then-eq c =
    let here = named_here c.args.files.now c.loop-file.file-index c.file-item.result c.args.name.now (omega arith) c.file-item.is (search rules) in
    search (rules, here)

pub loop-file-preserved : goal.loop-file-preserved
loop-file-preserved c = c.loop-file.invariant ∙ named_later c.args.files.now c.loop-file.file-index c.file-item.result c.args.name.now (omega arith) c.file-item.is (search rules)

pub returns : goal.returns
returns c = sym (c.loop-file.invariant ∙ named_nowhere c.args.files.now c.loop-file.file-index c.args.name.now (omega arith))
