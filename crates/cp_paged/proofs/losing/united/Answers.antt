use Rattle.std.proofs.Common.{ap, subst, ◌∙◌, ◌++◌}
use Rattle.std.proofs.lemmas.List.Filters.{dedup_is}
use Rattle.std.specs.List.Sorted.{IsPermutation}
use Rattle.cp_paged.proofs.Uniting.{united-rise, united-all}
use Rattle.cp_paged.proofs.losing.united.Goals as goal

pub returns-clause-rise : goal.returns-clause-rise
returns-clause-rise c = λ rise. united-rise _ _ c.in_ok-sort.ensures.sorted (dedup_is _ _ _ c.dedup.ensures.filtered)

pub returns-clause-all : goal.returns-clause-all
returns-clause-all c =
    united-all c.args.lost c.args.others.now _ _
    (subst (λ l. IsPermutation l c.sort.new.self.items) (c.in_ok-extend_from_slice.ensures.items ∙ ap (λ l. l ++ c.args.others.now) c.lost.view_is) c.sort.ensures.permutation)
    (dedup_is _ _ _ c.dedup.ensures.filtered)
