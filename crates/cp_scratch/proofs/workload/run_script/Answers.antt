use Rattle.std.proofs.Common.{length, arith, ap, subst}
use Rattle.std.specs.Prelude.{IfSome}
use Rattle.cp_gen.specs.Script.{GivesNext, IsOpOrCommit}
use Rattle.cp_scratch.proofs.Running.{way-begins, way-next, way-ends}
use Rattle.cp_scratch.proofs.workload.run_script.Goals as goal

pub loop-script-init : goal.loop-script-init
loop-script-init g c = record {
  usable = c.requires.usable;
  stamps = c.requires.stamps;
  alone = c.requires.alone;
  silent = c.requires.silent;
  way = λ terms s z e. way-begins g.R.TreeRep.contents g.S.TreeRep.contents terms s c.args.script c.args.workspace.now z e;
}

pub run_statement-requires-clause-usable : goal.run_statement-requires-clause-usable
run_statement-requires-clause-usable g c = c.loop-script.invariant.usable

pub run_statement-requires-clause-stamps : goal.run_statement-requires-clause-stamps
run_statement-requires-clause-stamps g c = c.loop-script.invariant.stamps

pub run_statement-requires-clause-alone : goal.run_statement-requires-clause-alone
run_statement-requires-clause-alone g c = c.loop-script.invariant.alone

pub run_statement-requires-clause-silent : goal.run_statement-requires-clause-silent
run_statement-requires-clause-silent g c = c.loop-script.invariant.silent

pub loop-script-smaller : goal.loop-script-smaller
loop-script-smaller g c = omega (arith, ap length (subst (λ o. GivesNext o c.loop-script.script c.next.new.self) c.in-Some.is c.in_ok-statement.ensures.gives))

pub loop-script-preserved : goal.loop-script-preserved
loop-script-preserved g c = record {
  usable = c.in_ok-run_statement.ensures.stays;
  stamps = c.in_ok-run_statement.ensures.stamps;
  alone = c.run_statement.ensures.alone;
  silent = c.in_ok-run_statement.ensures.silent;
  way = λ terms s z e.
      way-next g.R.TreeRep.contents g.S.TreeRep.contents terms s c.args.script c.loop-script.script c.next.new.self c.in-Some.statement c.loop-script.workspace c.run_statement.new.workspace
      (subst (λ o. GivesNext o c.loop-script.script c.next.new.self) c.in-Some.is c.in_ok-statement.ensures.gives)
      (subst (λ o. IfSome o IsOpOrCommit) c.in-Some.is c.in_ok-statement.ensures.only)
      (c.loop-script.invariant.way terms s z e) c.in_ok-run_statement.ensures.turned;
}

pub returns-clause-ran : goal.returns-clause-ran
returns-clause-ran g c = λ terms s z e.
    way-ends g.R.TreeRep.contents g.S.TreeRep.contents terms s c.args.script c.loop-script.script c.loop-script.workspace
    (subst (λ o. GivesNext o c.loop-script.script c.next.new.self) c.in_default.is c.in_ok-statement.ensures.gives).0 (c.loop-script.invariant.way terms s z e)

pub returns-clause-stays : goal.returns-clause-stays
returns-clause-stays g c = c.loop-script.invariant.usable.workspace
