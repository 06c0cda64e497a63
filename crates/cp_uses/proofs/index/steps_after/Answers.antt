use Rattle.std.proofs.Common.{◌∙◌, leb, rules}
use Rattle.std.proofs.lemmas.List.Sorted.{IsPartitionPoint-from_clause, IsPartitionedBy-leb}
use Rattle.cp_uses.proofs.CopySteps.{steps-after}
use Rattle.cp_uses.proofs.index.steps_after.Goals as goal

pub returns : goal.returns
returns c =
    let steps = c.args.steps.now in
    let point = IsPartitionPoint-from_clause (λ s. leb s.tid c.args.after) _ _ c.partition_point-count.ensures.partitioned (IsPartitionedBy-leb (λ s. s.tid) steps c.args.after c.requires) (λ a r q k. search rules) in
    c.split_at.ensures.back ∙ steps-after steps c.args.after c.partition_point-count.result point
