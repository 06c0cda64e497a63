use Rattle.cp_workspace.specs.declared.limits.TheConstants.{FILE_MAX}
use Rattle.std.proofs.Common.{subst}
use Rattle.cp_outside.specs.FileReads.{ReadsFile}
use Rattle.cp_outside.specs.declared.files.FileEnd.TheVariants.{Whole, TooLong, Missing}
use Rattle.cp_workspace.specs.Fetching.{form_given}
use Rattle.cp_workspace.specs.Fetched.{Gives}
use Rattle.cp_workspace.specs.Files.{known_files}
use Rattle.cp_workspace.proofs.Fetched.{gives-whole, gives-long, gives-none}
use Rattle.cp_workspace.proofs.Supplied.{found-read}
use Rattle.cp_workspace.proofs.source_file.fetch.Goals as goal

pub returns-in-Whole-clause-gives : goal.returns-in-Whole-clause-gives
returns-in-Whole-clause-gives g c =
    let view = g.R.TreeRep.contents in
    let known = known_files g.F.Files c.args.files.now in
    let name = c.args.file.now in
    let bytes = c.read_file.new.into.items in
    let read = subst (ReadsFile known.found name FILE_MAX bytes) c.in-Whole.is c.in_ok-read_file.ensures.read in
    let x = found-read known name FILE_MAX bytes Whole read in (
      x.0,
      x.1,
      gives-whole view c.args.name.now c.args.form.now (x.0 name) bytes c.in_ok-from_text-in-Whole.field-0 x.2.0 x.2.1
          (subst (λ b. Gives view (form_given c.args.name.now c.args.form.now b) c.in_ok-from_text-in-Whole.field-0) c.as_slice.ensures.value c.in_ok-from_text-in-Whole.ensures.gives),
    )

pub returns-in-TooLong-clause-gives : goal.returns-in-TooLong-clause-gives
returns-in-TooLong-clause-gives g c =
    let known = known_files g.F.Files c.args.files.now in
    let name = c.args.file.now in
    let bytes = c.read_file.new.into.items in
    let read = subst (ReadsFile known.found name FILE_MAX bytes) c.in-TooLong.is c.in_ok-read_file.ensures.read in
    let x = found-read known name FILE_MAX bytes TooLong read in
    (x.0, x.1, gives-long g.R.TreeRep.contents c.args.name.now c.args.form.now (x.0 name) x.2.0 x.2.1 x.2.2)

pub returns-clause-gives : goal.returns-clause-gives
returns-clause-gives g c =
    let known = known_files g.F.Files c.args.files.now in
    let name = c.args.file.now in
    let bytes = c.read_file.new.into.items in
    let read = subst (ReadsFile known.found name FILE_MAX bytes) c.in-Missing.is c.in_ok-read_file.ensures.read in
    let x = found-read known name FILE_MAX bytes Missing read in
    (x.0, x.1, gives-none g.R.TreeRep.contents c.args.name.now c.args.form.now (x.0 name) x.2.0)
