use Rattle.cp_workspace.specs.declared.limits.TheConstants.{FILE_MAX}
use Rattle.std.proofs.Common.{ap, subst}
use Rattle.cp_outside.specs.FileReads.{ReadsFile}
use Rattle.cp_outside.specs.declared.files.FileEnd.TheVariants.{Whole, TooLong, Missing}
use Rattle.cp_workspace.specs.Files.{known_files}
use Rattle.cp_workspace.proofs.Supplied.{found-read}
use Rattle.cp_interpreter.proofs.Scripted.{script-whole, script-long, script-none}
use Rattle.cp_interpreter.proofs.script.read_script.Goals as goal

pub returns-in_ok-extend_from_slice-in-Whole-clause-gives : goal.returns-in_ok-extend_from_slice-in-Whole-clause-gives
returns-in_ok-extend_from_slice-in-Whole-clause-gives g c =
    let known = known_files g.F.Files c.args.files.now in
    let name = c.args.file.now in
    let bytes = c.read_file.new.into.items in
    let read = subst (ReadsFile known.found name FILE_MAX bytes) c.in-Whole.is c.in_ok-read_file.ensures.read in
    let x = found-read known name FILE_MAX bytes Whole read in
    (x.0, x.1, script-whole (x.0 name) bytes _ x.2.0 x.2.1 (ap (λ xs. record { left = xs; given = 0 }) c.in_ok-extend_from_slice-in-Whole.ensures.items))

pub returns-in-TooLong-clause-gives : goal.returns-in-TooLong-clause-gives
returns-in-TooLong-clause-gives g c =
    let known = known_files g.F.Files c.args.files.now in
    let name = c.args.file.now in
    let bytes = c.read_file.new.into.items in
    let read = subst (ReadsFile known.found name FILE_MAX bytes) c.in-TooLong.is c.in_ok-read_file.ensures.read in
    let x = found-read known name FILE_MAX bytes TooLong read in
    (x.0, x.1, script-long (x.0 name) x.2.0 x.2.1 x.2.2)

pub returns-in-Missing-clause-gives : goal.returns-in-Missing-clause-gives
returns-in-Missing-clause-gives g c =
    let known = known_files g.F.Files c.args.files.now in
    let name = c.args.file.now in
    let bytes = c.read_file.new.into.items in
    let read = subst (ReadsFile known.found name FILE_MAX bytes) c.in-Missing.is c.in_ok-read_file.ensures.read in
    let x = found-read known name FILE_MAX bytes Missing read in
    (x.0, x.1, script-none (x.0 name) x.2.0)
