use Rattle.std.proofs.Common.{rules, is_lt}
use Rattle.std.specs.Cmp.Lexicographic.{nat_list_cmp_total}
use Rattle.std.proofs.lemmas.List.Sorted.{answers_always, ranks_by}
use Rattle.cp_path.specs.Text.{text_cmp}
use Rattle.cp_run.proofs.between.sort.Goals as goal

pub returns-clause-sorted : goal.returns-clause-sorted
returns-clause-sorted c = c.sort_unstable_by.ensures.sorted (λ a b. is_lt (text_cmp a.key b.key)) (ranks_by nat_list_cmp_total (λ r. r.key)) (answers_always _ _ _ (λ f a r g h. search rules))
