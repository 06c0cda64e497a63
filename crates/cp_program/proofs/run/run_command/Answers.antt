use Rattle.std.proofs.Common.{sym, subst}
use Rattle.cp_workspace.specs.Files.{known_files}
use Rattle.cp_words.specs.declared.command.Command.{Command}
use Rattle.cp_interpreter.specs.Outside.{known_input, known_clock, known_outside}
use Rattle.cp_program.specs.Calls.{DidCommand}
use Rattle.cp_db.proofs.FileVersions.{version-none, version-rested}
use Rattle.cp_program.specs.FileVersions.{LeavesVersion}
use Rattle.cp_program.proofs.FileVersions.{replied-answered, replied-generated}
use Rattle.cp_program.proofs.Called.{too-long}
use Rattle.cp_program.proofs.run.run_command.Goals as goal

pub returns-in-Scratch-clause-ran : goal.returns-in-Scratch-clause-ran
returns-in-Scratch-clause-ran g c =
    let before = known_outside g.F.Files g.K.Clock g.I.Source g.O.Sink c.args.files.now c.args.clock.now c.args.input.now c.args.output.now in
    let now = known_outside g.F.Files g.K.Clock g.I.Source g.O.Sink c.scratch.new.files c.scratch.new.clock c.scratch.new.input c.scratch.new.output in
    let v = g.D.Disk.known c.args.disk.now in
    subst (λ (a : Command). DidCommand a before now v v c.scratch.result) (sym c.in-Scratch.is) (c.scratch.ensures.ran, c.scratch.ensures.disk)

pub returns-in-Scratch-clause-short : goal.returns-in-Scratch-clause-short
returns-in-Scratch-clause-short g c = too-long (g.I.Source.given c.args.input.now) (g.I.Source.given c.scratch.new.input) c.scratch.ensures.ran.taken c.scratch.result c.scratch.ensures.ran.counted c.scratch.ensures.ran.too_much

pub returns-in-Init-clause-ran : goal.returns-in-Init-clause-ran
returns-in-Init-clause-ran g c =
    let before = known_outside g.F.Files g.K.Clock g.I.Source g.O.Sink c.args.files.now c.args.clock.now c.args.input.now c.args.output.now in
    let now = known_outside g.F.Files g.K.Clock g.I.Source g.O.Sink c.init.new.files c.args.clock.now c.args.input.now c.init.new.output in
    let v = g.D.Disk.known c.args.disk.now in
    let w = g.D.Disk.known c.init.new.disk in
    subst (λ (a : Command). DidCommand a before now v w c.init.result) (sym c.in-Init.is) (c.init.ensures.made (known_input g.I.Source c.args.input.now) (known_clock g.K.Clock c.args.clock.now), c.init.ensures.short)

pub returns-in-Init-clause-causes : goal.returns-in-Init-clause-causes
returns-in-Init-clause-causes g c = c.init.ensures.causes (known_input g.I.Source c.args.input.now) (known_clock g.K.Clock c.args.clock.now)

pub returns-in-Run-clause-short : goal.returns-in-Run-clause-short
returns-in-Run-clause-short g c = too-long (g.I.Source.given c.args.input.now) (g.I.Source.given c.run.new.input) c.run.ensures.ran.taken c.run.result c.run.ensures.ran.counted c.run.ensures.ran.too_much

pub returns-in-Share-clause-short : goal.returns-in-Share-clause-short
returns-in-Share-clause-short g c = too-long (g.I.Source.given c.args.input.now) (g.I.Source.given c.share.new.input) c.share.ensures.ran.taken c.share.result c.share.ensures.ran.counted c.share.ensures.ran.too_much

pub returns-in-Commit-clause-ran : goal.returns-in-Commit-clause-ran
returns-in-Commit-clause-ran g c =
    let before = known_outside g.F.Files g.K.Clock g.I.Source g.O.Sink c.args.files.now c.args.clock.now c.args.input.now c.args.output.now in
    let now = known_outside g.F.Files g.K.Clock g.I.Source g.O.Sink c.commit.new.files c.commit.new.clock c.args.input.now c.commit.new.output in
    let v = g.D.Disk.known c.args.disk.now in
    let w = g.D.Disk.known c.commit.new.disk in
    subst (λ (a : Command). DidCommand a before now v w c.commit.result) (sym c.in-Commit.is) (c.commit.ensures.ran (known_input g.I.Source c.args.input.now))

pub returns-in-Commit-clause-causes : goal.returns-in-Commit-clause-causes
returns-in-Commit-clause-causes g c = c.commit.ensures.causes (known_input g.I.Source c.args.input.now)

pub returns-in-Load-clause-ran : goal.returns-in-Load-clause-ran
returns-in-Load-clause-ran g c =
    let before = known_outside g.F.Files g.K.Clock g.I.Source g.O.Sink c.args.files.now c.args.clock.now c.args.input.now c.args.output.now in
    let now = known_outside g.F.Files g.K.Clock g.I.Source g.O.Sink c.load.new.files c.args.clock.now c.args.input.now c.load.new.output in
    let v = g.D.Disk.known c.args.disk.now in
    let w = g.D.Disk.known c.load.new.disk in
    subst (λ (a : Command). DidCommand a before now v w c.load.result) (sym c.in-Load.is) (c.load.ensures.ran (known_input g.I.Source c.args.input.now) (known_clock g.K.Clock c.args.clock.now))

pub returns-in-Load-clause-causes : goal.returns-in-Load-clause-causes
returns-in-Load-clause-causes g c = c.load.ensures.causes (known_input g.I.Source c.args.input.now) (known_clock g.K.Clock c.args.clock.now)

pub returns-in-Ask-clause-ran : goal.returns-in-Ask-clause-ran
returns-in-Ask-clause-ran g c =
    let before = known_outside g.F.Files g.K.Clock g.I.Source g.O.Sink c.args.files.now c.args.clock.now c.args.input.now c.args.output.now in
    let now = known_outside g.F.Files g.K.Clock g.I.Source g.O.Sink c.args.files.now c.args.clock.now c.args.input.now c.ask.new.output in
    let v = g.D.Disk.known c.args.disk.now in
    let w = g.D.Disk.known c.ask.new.disk in
    subst (λ (a : Command). DidCommand a before now v w c.ask.result) (sym c.in-Ask.is) (c.ask.ensures.ran (known_input g.I.Source c.args.input.now) (known_files g.F.Files c.args.files.now) (known_clock g.K.Clock c.args.clock.now))

pub returns-in-Ask-clause-causes : goal.returns-in-Ask-clause-causes
returns-in-Ask-clause-causes g c = c.ask.ensures.causes (known_input g.I.Source c.args.input.now) (known_files g.F.Files c.args.files.now) (known_clock g.K.Clock c.args.clock.now)

pub returns-in-Show-clause-ran : goal.returns-in-Show-clause-ran
returns-in-Show-clause-ran g c =
    let before = known_outside g.F.Files g.K.Clock g.I.Source g.O.Sink c.args.files.now c.args.clock.now c.args.input.now c.args.output.now in
    let now = known_outside g.F.Files g.K.Clock g.I.Source g.O.Sink c.args.files.now c.args.clock.now c.args.input.now c.show.new.output in
    let v = g.D.Disk.known c.args.disk.now in
    let w = g.D.Disk.known c.show.new.disk in
    subst (λ (a : Command). DidCommand a before now v w c.show.result) (sym c.in-Show.is) (c.show.ensures.ran (known_input g.I.Source c.args.input.now) (known_files g.F.Files c.args.files.now) (known_clock g.K.Clock c.args.clock.now))

pub returns-in-Show-clause-causes : goal.returns-in-Show-clause-causes
returns-in-Show-clause-causes g c = c.show.ensures.causes (known_input g.I.Source c.args.input.now) (known_files g.F.Files c.args.files.now) (known_clock g.K.Clock c.args.clock.now)

pub returns-in-Log-clause-ran : goal.returns-in-Log-clause-ran
returns-in-Log-clause-ran g c =
    let before = known_outside g.F.Files g.K.Clock g.I.Source g.O.Sink c.args.files.now c.args.clock.now c.args.input.now c.args.output.now in
    let now = known_outside g.F.Files g.K.Clock g.I.Source g.O.Sink c.args.files.now c.args.clock.now c.args.input.now c.list_commits.new.output in
    let v = g.D.Disk.known c.args.disk.now in
    let w = g.D.Disk.known c.list_commits.new.disk in
    subst (λ (a : Command). DidCommand a before now v w c.list_commits.result) (sym c.in-Log.is) (c.list_commits.ensures.ran (known_input g.I.Source c.args.input.now) (known_files g.F.Files c.args.files.now) (known_clock g.K.Clock c.args.clock.now))

pub returns-in-Log-clause-causes : goal.returns-in-Log-clause-causes
returns-in-Log-clause-causes g c = c.list_commits.ensures.causes (known_input g.I.Source c.args.input.now) (known_files g.F.Files c.args.files.now) (known_clock g.K.Clock c.args.clock.now)

pub returns-in-Verify-clause-ran : goal.returns-in-Verify-clause-ran
returns-in-Verify-clause-ran g c =
    let before = known_outside g.F.Files g.K.Clock g.I.Source g.O.Sink c.args.files.now c.args.clock.now c.args.input.now c.args.output.now in
    let now = known_outside g.F.Files g.K.Clock g.I.Source g.O.Sink c.args.files.now c.args.clock.now c.args.input.now c.verify_records.new.output in
    let v = g.D.Disk.known c.args.disk.now in
    let w = g.D.Disk.known c.verify_records.new.disk in
    subst (λ (a : Command). DidCommand a before now v w c.verify_records.result) (sym c.in-Verify.is) (c.verify_records.ensures.ran (known_input g.I.Source c.args.input.now) (known_files g.F.Files c.args.files.now) (known_clock g.K.Clock c.args.clock.now))

pub returns-in-Verify-clause-causes : goal.returns-in-Verify-clause-causes
returns-in-Verify-clause-causes g c = c.verify_records.ensures.causes (known_input g.I.Source c.args.input.now) (known_files g.F.Files c.args.files.now) (known_clock g.K.Clock c.args.clock.now)

pub returns-in-Commit-clause-short : goal.returns-in-Commit-clause-short
returns-in-Commit-clause-short g c = λ h. absurd ((c.commit.ensures.ran (known_input g.I.Source c.args.input.now)).short h)

pub returns-in-Load-clause-short : goal.returns-in-Load-clause-short
returns-in-Load-clause-short g c = λ h. absurd ((c.load.ensures.ran (known_input g.I.Source c.args.input.now) (known_clock g.K.Clock c.args.clock.now)).short h)

pub returns-in-Generate-clause-ran : goal.returns-in-Generate-clause-ran
returns-in-Generate-clause-ran g c =
    let before = known_outside g.F.Files g.K.Clock g.I.Source g.O.Sink c.args.files.now c.args.clock.now c.args.input.now c.args.output.now in
    let now = known_outside g.F.Files g.K.Clock g.I.Source g.O.Sink c.args.files.now c.args.clock.now c.args.input.now c.generate.new.output in
    let v = g.D.Disk.known c.args.disk.now in
    subst (λ (a : Command). DidCommand a before now v v c.generate.result) (sym c.in-Generate.is) (c.generate.ensures.ran (known_input g.I.Source c.args.input.now) (known_files g.F.Files c.args.files.now) (known_clock g.K.Clock c.args.clock.now))

pub returns-in-Generate-clause-causes : goal.returns-in-Generate-clause-causes
returns-in-Generate-clause-causes g c = c.generate.ensures.causes (known_input g.I.Source c.args.input.now) (known_files g.F.Files c.args.files.now) (known_clock g.K.Clock c.args.clock.now)

pub returns-in-Uses-clause-ran : goal.returns-in-Uses-clause-ran
returns-in-Uses-clause-ran g c =
    let before = known_outside g.F.Files g.K.Clock g.I.Source g.O.Sink c.args.files.now c.args.clock.now c.args.input.now c.args.output.now in
    let now = known_outside g.F.Files g.K.Clock g.I.Source g.O.Sink c.args.files.now c.args.clock.now c.args.input.now c.uses.new.output in
    let v = g.D.Disk.known c.args.disk.now in
    let w = g.D.Disk.known c.uses.new.disk in
    subst (λ (a : Command). DidCommand a before now v w c.uses.result) (sym c.in-Uses.is) (c.uses.ensures.ran (known_input g.I.Source c.args.input.now) (known_files g.F.Files c.args.files.now) (known_clock g.K.Clock c.args.clock.now))

pub returns-in-Uses-clause-causes : goal.returns-in-Uses-clause-causes
returns-in-Uses-clause-causes g c = c.uses.ensures.causes (known_input g.I.Source c.args.input.now) (known_files g.F.Files c.args.files.now) (known_clock g.K.Clock c.args.clock.now)

pub returns-in-Scratch-clause-file : goal.returns-in-Scratch-clause-file
returns-in-Scratch-clause-file g c = λ known.
    let before = known_outside g.F.Files g.K.Clock g.I.Source g.O.Sink c.args.files.now c.args.clock.now c.args.input.now c.args.output.now in
    let now = known_outside g.F.Files g.K.Clock g.I.Source g.O.Sink c.scratch.new.files c.scratch.new.clock c.scratch.new.input c.scratch.new.output in
    let v = g.D.Disk.known c.args.disk.now in
    let w = v in
    subst (λ (a : Command). LeavesVersion a before now v w c.scratch.result) (sym c.in-Scratch.is) (version-none v.view)

pub returns-in-Init-clause-file : goal.returns-in-Init-clause-file
returns-in-Init-clause-file g c = λ known.
    let before = known_outside g.F.Files g.K.Clock g.I.Source g.O.Sink c.args.files.now c.args.clock.now c.args.input.now c.args.output.now in
    let now = known_outside g.F.Files g.K.Clock g.I.Source g.O.Sink c.init.new.files c.args.clock.now c.args.input.now c.init.new.output in
    let v = g.D.Disk.known c.args.disk.now in
    let w = g.D.Disk.known c.init.new.disk in
    subst (λ (a : Command). LeavesVersion a before now v w c.init.result) (sym c.in-Init.is) (c.init.ensures.file known)

pub returns-in-Run-clause-file : goal.returns-in-Run-clause-file
returns-in-Run-clause-file g c = λ known.
    let before = known_outside g.F.Files g.K.Clock g.I.Source g.O.Sink c.args.files.now c.args.clock.now c.args.input.now c.args.output.now in
    let now = known_outside g.F.Files g.K.Clock g.I.Source g.O.Sink c.run.new.files c.run.new.clock c.run.new.input c.run.new.output in
    let v = g.D.Disk.known c.args.disk.now in
    let w = g.D.Disk.known c.run.new.disk in
    subst (λ (a : Command). LeavesVersion a before now v w c.run.result) (sym c.in-Run.is) (c.run.ensures.file known)

pub returns-in-Share-clause-file : goal.returns-in-Share-clause-file
returns-in-Share-clause-file g c = λ known.
    let before = known_outside g.F.Files g.K.Clock g.I.Source g.O.Sink c.args.files.now c.args.clock.now c.args.input.now c.args.output.now in
    let now = known_outside g.F.Files g.K.Clock g.I.Source g.O.Sink c.share.new.files c.share.new.clock c.share.new.input c.share.new.output in
    let v = g.D.Disk.known c.args.disk.now in
    let w = g.D.Disk.known c.share.new.disk in
    subst (λ (a : Command). LeavesVersion a before now v w c.share.result) (sym c.in-Share.is) (c.share.ensures.file known)

pub returns-in-Commit-clause-file : goal.returns-in-Commit-clause-file
returns-in-Commit-clause-file g c = λ known.
    let before = known_outside g.F.Files g.K.Clock g.I.Source g.O.Sink c.args.files.now c.args.clock.now c.args.input.now c.args.output.now in
    let now = known_outside g.F.Files g.K.Clock g.I.Source g.O.Sink c.commit.new.files c.commit.new.clock c.args.input.now c.commit.new.output in
    let v = g.D.Disk.known c.args.disk.now in
    let w = g.D.Disk.known c.commit.new.disk in
    subst (λ (a : Command). LeavesVersion a before now v w c.commit.result) (sym c.in-Commit.is) (c.commit.ensures.file known (known_input g.I.Source c.args.input.now))

pub returns-in-Load-clause-file : goal.returns-in-Load-clause-file
returns-in-Load-clause-file g c = λ known.
    let before = known_outside g.F.Files g.K.Clock g.I.Source g.O.Sink c.args.files.now c.args.clock.now c.args.input.now c.args.output.now in
    let now = known_outside g.F.Files g.K.Clock g.I.Source g.O.Sink c.load.new.files c.args.clock.now c.args.input.now c.load.new.output in
    let v = g.D.Disk.known c.args.disk.now in
    let w = g.D.Disk.known c.load.new.disk in
    subst (λ (a : Command). LeavesVersion a before now v w c.load.result) (sym c.in-Load.is) (c.load.ensures.file known)

pub returns-in-Ask-clause-file : goal.returns-in-Ask-clause-file
returns-in-Ask-clause-file g c = λ known.
    let before = known_outside g.F.Files g.K.Clock g.I.Source g.O.Sink c.args.files.now c.args.clock.now c.args.input.now c.args.output.now in
    let now = known_outside g.F.Files g.K.Clock g.I.Source g.O.Sink c.args.files.now c.args.clock.now c.args.input.now c.ask.new.output in
    let v = g.D.Disk.known c.args.disk.now in
    let w = g.D.Disk.known c.ask.new.disk in
    subst (λ (a : Command). LeavesVersion a before now v w c.ask.result) (sym c.in-Ask.is) (version-rested v.view w.view ((c.ask.ensures.ran (known_input g.I.Source c.args.input.now) (known_files g.F.Files c.args.files.now) (known_clock g.K.Clock c.args.clock.now)).rests known))

pub returns-in-Ask-clause-replied : goal.returns-in-Ask-clause-replied
returns-in-Ask-clause-replied g c = replied-answered _ _ _ _ _ _ c.ask.result (c.ask.ensures.ran (known_input g.I.Source c.args.input.now) (known_files g.F.Files c.args.files.now) (known_clock g.K.Clock c.args.clock.now))

pub returns-in-Show-clause-file : goal.returns-in-Show-clause-file
returns-in-Show-clause-file g c = λ known.
    let before = known_outside g.F.Files g.K.Clock g.I.Source g.O.Sink c.args.files.now c.args.clock.now c.args.input.now c.args.output.now in
    let now = known_outside g.F.Files g.K.Clock g.I.Source g.O.Sink c.args.files.now c.args.clock.now c.args.input.now c.show.new.output in
    let v = g.D.Disk.known c.args.disk.now in
    let w = g.D.Disk.known c.show.new.disk in
    subst (λ (a : Command). LeavesVersion a before now v w c.show.result) (sym c.in-Show.is) (version-rested v.view w.view ((c.show.ensures.ran (known_input g.I.Source c.args.input.now) (known_files g.F.Files c.args.files.now) (known_clock g.K.Clock c.args.clock.now)).rests known))

pub returns-in-Show-clause-replied : goal.returns-in-Show-clause-replied
returns-in-Show-clause-replied g c = replied-answered _ _ _ _ _ _ c.show.result (c.show.ensures.ran (known_input g.I.Source c.args.input.now) (known_files g.F.Files c.args.files.now) (known_clock g.K.Clock c.args.clock.now))

pub returns-in-Log-clause-file : goal.returns-in-Log-clause-file
returns-in-Log-clause-file g c = λ known.
    let before = known_outside g.F.Files g.K.Clock g.I.Source g.O.Sink c.args.files.now c.args.clock.now c.args.input.now c.args.output.now in
    let now = known_outside g.F.Files g.K.Clock g.I.Source g.O.Sink c.args.files.now c.args.clock.now c.args.input.now c.list_commits.new.output in
    let v = g.D.Disk.known c.args.disk.now in
    let w = g.D.Disk.known c.list_commits.new.disk in
    subst (λ (a : Command). LeavesVersion a before now v w c.list_commits.result) (sym c.in-Log.is) (version-rested v.view w.view ((c.list_commits.ensures.ran (known_input g.I.Source c.args.input.now) (known_files g.F.Files c.args.files.now) (known_clock g.K.Clock c.args.clock.now)).rests known))

pub returns-in-Log-clause-replied : goal.returns-in-Log-clause-replied
returns-in-Log-clause-replied g c = replied-answered _ _ _ _ _ _ c.list_commits.result (c.list_commits.ensures.ran (known_input g.I.Source c.args.input.now) (known_files g.F.Files c.args.files.now) (known_clock g.K.Clock c.args.clock.now))

pub returns-in-Verify-clause-file : goal.returns-in-Verify-clause-file
returns-in-Verify-clause-file g c = λ known.
    let before = known_outside g.F.Files g.K.Clock g.I.Source g.O.Sink c.args.files.now c.args.clock.now c.args.input.now c.args.output.now in
    let now = known_outside g.F.Files g.K.Clock g.I.Source g.O.Sink c.args.files.now c.args.clock.now c.args.input.now c.verify_records.new.output in
    let v = g.D.Disk.known c.args.disk.now in
    let w = g.D.Disk.known c.verify_records.new.disk in
    subst (λ (a : Command). LeavesVersion a before now v w c.verify_records.result) (sym c.in-Verify.is) (version-rested v.view w.view ((c.verify_records.ensures.ran (known_input g.I.Source c.args.input.now) (known_files g.F.Files c.args.files.now) (known_clock g.K.Clock c.args.clock.now)).rests known))

pub returns-in-Verify-clause-replied : goal.returns-in-Verify-clause-replied
returns-in-Verify-clause-replied g c = replied-answered _ _ _ _ _ _ c.verify_records.result (c.verify_records.ensures.ran (known_input g.I.Source c.args.input.now) (known_files g.F.Files c.args.files.now) (known_clock g.K.Clock c.args.clock.now))

pub returns-in-Uses-clause-file : goal.returns-in-Uses-clause-file
returns-in-Uses-clause-file g c = λ known.
    let before = known_outside g.F.Files g.K.Clock g.I.Source g.O.Sink c.args.files.now c.args.clock.now c.args.input.now c.args.output.now in
    let now = known_outside g.F.Files g.K.Clock g.I.Source g.O.Sink c.args.files.now c.args.clock.now c.args.input.now c.uses.new.output in
    let v = g.D.Disk.known c.args.disk.now in
    let w = g.D.Disk.known c.uses.new.disk in
    subst (λ (a : Command). LeavesVersion a before now v w c.uses.result) (sym c.in-Uses.is) (version-rested v.view w.view ((c.uses.ensures.ran (known_input g.I.Source c.args.input.now) (known_files g.F.Files c.args.files.now) (known_clock g.K.Clock c.args.clock.now)).rests known))

pub returns-in-Uses-clause-replied : goal.returns-in-Uses-clause-replied
returns-in-Uses-clause-replied g c = replied-answered _ _ _ _ _ _ c.uses.result (c.uses.ensures.ran (known_input g.I.Source c.args.input.now) (known_files g.F.Files c.args.files.now) (known_clock g.K.Clock c.args.clock.now))

pub returns-in-Generate-clause-file : goal.returns-in-Generate-clause-file
returns-in-Generate-clause-file g c = λ known.
    let before = known_outside g.F.Files g.K.Clock g.I.Source g.O.Sink c.args.files.now c.args.clock.now c.args.input.now c.args.output.now in
    let now = known_outside g.F.Files g.K.Clock g.I.Source g.O.Sink c.args.files.now c.args.clock.now c.args.input.now c.generate.new.output in
    let v = g.D.Disk.known c.args.disk.now in
    let w = v in
    subst (λ (a : Command). LeavesVersion a before now v w c.generate.result) (sym c.in-Generate.is) (version-none v.view)

pub returns-in-Generate-clause-replied : goal.returns-in-Generate-clause-replied
returns-in-Generate-clause-replied g c = replied-generated _ _ _ _ _ c.generate.result (c.generate.ensures.ran (known_input g.I.Source c.args.input.now) (known_files g.F.Files c.args.files.now) (known_clock g.K.Clock c.args.clock.now))

pub returns-in-At-clause-ran : goal.returns-in-At-clause-ran
returns-in-At-clause-ran g c =
    let before = known_outside g.F.Files g.K.Clock g.I.Source g.O.Sink c.args.files.now c.args.clock.now c.args.input.now c.args.output.now in
    let now = known_outside g.F.Files g.K.Clock g.I.Source g.O.Sink c.args.files.now c.args.clock.now c.args.input.now c.ask_version.new.output in
    let v = g.D.Disk.known c.args.disk.now in
    let w = g.D.Disk.known c.ask_version.new.disk in
    subst (λ (a : Command). DidCommand a before now v w c.ask_version.result) (sym c.in-At.is) (c.ask_version.ensures.ran (known_input g.I.Source c.args.input.now) (known_files g.F.Files c.args.files.now) (known_clock g.K.Clock c.args.clock.now))

pub returns-in-At-clause-causes : goal.returns-in-At-clause-causes
returns-in-At-clause-causes g c = c.ask_version.ensures.causes (known_input g.I.Source c.args.input.now) (known_files g.F.Files c.args.files.now) (known_clock g.K.Clock c.args.clock.now)

pub returns-in-At-clause-file : goal.returns-in-At-clause-file
returns-in-At-clause-file g c = λ known.
    let before = known_outside g.F.Files g.K.Clock g.I.Source g.O.Sink c.args.files.now c.args.clock.now c.args.input.now c.args.output.now in
    let now = known_outside g.F.Files g.K.Clock g.I.Source g.O.Sink c.args.files.now c.args.clock.now c.args.input.now c.ask_version.new.output in
    let v = g.D.Disk.known c.args.disk.now in
    let w = g.D.Disk.known c.ask_version.new.disk in
    subst (λ (a : Command). LeavesVersion a before now v w c.ask_version.result) (sym c.in-At.is) (version-rested v.view w.view ((c.ask_version.ensures.ran (known_input g.I.Source c.args.input.now) (known_files g.F.Files c.args.files.now) (known_clock g.K.Clock c.args.clock.now)).rests known))

pub returns-in-At-clause-replied : goal.returns-in-At-clause-replied
returns-in-At-clause-replied g c = replied-answered _ _ _ _ _ _ c.ask_version.result (c.ask_version.ensures.ran (known_input g.I.Source c.args.input.now) (known_files g.F.Files c.args.files.now) (known_clock g.K.Clock c.args.clock.now))

pub returns-in-Archive-clause-ran : goal.returns-in-Archive-clause-ran
returns-in-Archive-clause-ran g c =
    let before = known_outside g.F.Files g.K.Clock g.I.Source g.O.Sink c.args.files.now c.args.clock.now c.args.input.now c.args.output.now in
    let now = known_outside g.F.Files g.K.Clock g.I.Source g.O.Sink c.args.files.now c.args.clock.now c.args.input.now c.count_versions.new.output in
    let v = g.D.Disk.known c.args.disk.now in
    let w = g.D.Disk.known c.count_versions.new.disk in
    subst (λ (a : Command). DidCommand a before now v w c.count_versions.result) (sym c.in-Archive.is) (c.count_versions.ensures.ran (known_input g.I.Source c.args.input.now) (known_files g.F.Files c.args.files.now) (known_clock g.K.Clock c.args.clock.now))

pub returns-in-Archive-clause-causes : goal.returns-in-Archive-clause-causes
returns-in-Archive-clause-causes g c = c.count_versions.ensures.causes (known_input g.I.Source c.args.input.now) (known_files g.F.Files c.args.files.now) (known_clock g.K.Clock c.args.clock.now)

pub returns-in-Archive-clause-file : goal.returns-in-Archive-clause-file
returns-in-Archive-clause-file g c = λ known.
    let before = known_outside g.F.Files g.K.Clock g.I.Source g.O.Sink c.args.files.now c.args.clock.now c.args.input.now c.args.output.now in
    let now = known_outside g.F.Files g.K.Clock g.I.Source g.O.Sink c.args.files.now c.args.clock.now c.args.input.now c.count_versions.new.output in
    let v = g.D.Disk.known c.args.disk.now in
    let w = g.D.Disk.known c.count_versions.new.disk in
    subst (λ (a : Command). LeavesVersion a before now v w c.count_versions.result) (sym c.in-Archive.is) (version-rested v.view w.view ((c.count_versions.ensures.ran (known_input g.I.Source c.args.input.now) (known_files g.F.Files c.args.files.now) (known_clock g.K.Clock c.args.clock.now)).rests known))

pub returns-in-Archive-clause-replied : goal.returns-in-Archive-clause-replied
returns-in-Archive-clause-replied g c = replied-answered _ _ _ _ _ _ c.count_versions.result (c.count_versions.ensures.ran (known_input g.I.Source c.args.input.now) (known_files g.F.Files c.args.files.now) (known_clock g.K.Clock c.args.clock.now))
