use Rattle.std.proofs.Common.{◌<◌, sym, ◌∙◌, rules, leb, arith}
use Rattle.std.proofs.lemmas.List.Sorted.{IsPartitionPoint-from_clause, IsPartitionedBy-leb}
use Rattle.cp_archive.proofs.PhaseLemmas.{rising-order, newest-some, newest-none}
use Rattle.cp_archive.proofs.phase.content_at.Goals as goal

pub returns-then-count-eq0 : goal.returns-then-count-eq0
returns-then-count-eq0 c =
    let xs = c.args.phases.now in
    let point = IsPartitionPoint-from_clause (λ x. leb x.since c.args.version) _ _ c.partition_point-count.ensures.partitioned (IsPartitionedBy-leb (λ x. x.since) xs c.args.version (rising-order xs c.requires)) (λ a r q k. search rules) in
    sym (newest-none xs c.args.version c.partition_point-count.result point c.if-count-eq0.true)

pub returns : goal.returns
returns c =
    let xs = c.args.phases.now in
    let point = IsPartitionPoint-from_clause (λ x. leb x.since c.args.version) _ _ c.partition_point-count.ensures.partitioned (IsPartitionedBy-leb (λ x. x.since) xs c.args.version (rising-order xs c.requires)) (λ a r q k. search rules) in
    let some : 0 < c.partition_point-count.result = omega (arith, c.if-count-eq0.false) in
    c.as_ref.ensures.value ∙ newest-some xs c.args.version c.partition_point-count.result _ point c.partition_point-count.ensures.bound some
