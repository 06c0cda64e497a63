use Rattle.std.proofs.Common.{refl, ◌∙◌}
use Rattle.std.specs.Option.{option_to_list}
use Rattle.cp_lang.specs.Cuts.{scan_start}
use Rattle.cp_interpreter.specs.Outside.{known_world}
use Rattle.cp_interpreter.proofs.Plays.{after_cutter, goes_on-cutter, ran-last}
use Rattle.cp_interpreter.proofs.interpreter.Interpreter.close.Goals as goal

pub run-requires : goal.run-requires
run-requires g c = record {
  goes_on = goes_on-cutter g.R.TreeRep.contents g.S.TreeRep.contents (g.D.Disk.known c.args.disk.now) c.args.self.now (after_cutter c.args.self.now c.replace-cutter.new.dest) scan_start c.requires.goes_on (c.replace-cutter.ensures.after ∙ c.new.ensures) refl;
}

pub returns-clause-went : goal.returns-clause-went
returns-clause-went g c =
    let old = c.args.self.now in
    let n = c.run.new in
    ran-last g.R.TreeRep.contents g.S.TreeRep.contents scan_start (option_to_list c.rest.result) old (after_cutter old c.replace-cutter.new.dest) n.self
    (known_world g.F.Files g.K.Clock g.O.Sink c.args.files.now c.args.clock.now c.args.output.now) (known_world g.F.Files g.K.Clock g.O.Sink n.files n.clock n.output)
    (g.D.Disk.known c.args.disk.now) (g.D.Disk.known n.disk) c.run.result (λ t e. c.rest.ensures t (c.replace-cutter.ensures.value ∙ e)) (c.replace-cutter.ensures.after ∙ c.new.ensures) refl refl c.run.ensures.went
