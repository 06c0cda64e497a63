use Rattle.std.proofs.Common.{◌≡◌, ◌++◌, take, flat_map}
use Rattle.cp_reply.specs.Front.{Begins}
use Rattle.cp_reply.specs.Lines.{line_for, commit_text}
use Rattle.cp_reply.proofs.write.put_commits.Given as goal

abbrev pub invariant-loop-commit : goal.invariant-loop-commit
invariant-loop-commit l = record {
  put : l.out.items ≡ l.fn.out.items ++ flat_map (λ x. line_for l.whose (commit_text x)) (take l.commit-index l.commits);
  front : Begins l.fn.out.items l.out.items;
}
