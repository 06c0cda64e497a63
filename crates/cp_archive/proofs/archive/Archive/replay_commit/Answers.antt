use Rattle.std.proofs.Common.{ap, ◌∙◌}
use Rattle.std.proofs.lemmas.Result.{IfOk-weaker}
use Rattle.cp_model.specs.Keyed.{empty}
use Rattle.cp_archive.specs.Trees.{newest}
use Rattle.cp_archive.proofs.HistoryTrees.{newest-last}
use Rattle.cp_archive.proofs.archive.Archive.replay_commit.Goals as goal

pub returns-in-T-clause-newest : goal.returns-in-T-clause-newest
returns-in-T-clause-newest g c =
    IfOk-weaker c.replay_step.result _ _ (λ b added yes. ap newest (added yes) ∙ newest-last empty (g.R.TreeRep.contents c.replay_step.new.tree) c.args.self.now) c.replay_step.ensures.added
