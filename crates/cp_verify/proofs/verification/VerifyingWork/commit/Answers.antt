use Rattle.std.proofs.Common.{◌+◌, rules}
use Rattle.cp_operation.specs.Loaded.{sources_in}
use Rattle.cp_operation.specs.Passed.{records_of}
use Rattle.cp_verify.specs.Verdicts.{Judges}
use Rattle.cp_verify.proofs.Working.{verdict-commit}
use Rattle.cp_verify.proofs.verification.VerifyingWork.commit.Goals as goal

pub returns-clause-done : goal.returns-clause-done
returns-clause-done g c = λ first place items s x done at.
    let ss = sources_in g.S.TreeRep.contents c.args.sources.now in
    let t = g.R.TreeRep.contents c.args.tree.now in
    let judged : Judges c.args.commit.at c.args.commit.records (records_of c.args.kind ss t (c.args.last + 1) c.args.commit.ops) c.args.self.now.verdict c.judge.new.verdict = search rules in
    verdict-commit c.args.self.now.verdict c.judge.new.verdict (record { first = first; place = place }) items s x c.args.commit (record { kind = c.args.kind; last = c.args.last; sources = ss; tree = t }) done at judged
