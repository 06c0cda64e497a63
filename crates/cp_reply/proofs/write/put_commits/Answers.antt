use Rattle.std.proofs.Common.{rules}
use Rattle.cp_reply.specs.Lines.{line_for, commit_text}
use Rattle.cp_reply.proofs.Front.{begins_same, begins_then, lines_step}
use Rattle.cp_reply.proofs.write.put_commits.Goals as goal

pub loop-commit-init : goal.loop-commit-init
loop-commit-init c = record { put = search rules; front = begins_same c.args.out.now.items }

pub loop-commit-preserved : goal.loop-commit-preserved
loop-commit-preserved c = record {
  put = lines_step (λ x. line_for c.args.whose.now (commit_text x)) c.args.out.now.items c.loop-commit.out.items c.put_commit.new.out.items c.args.commits.now c.loop-commit.commit-index c.commit-item.result
      c.loop-commit-test.true c.commit-item.is c.loop-commit.invariant.put c.in_ok-put_commit.ensures.ok;
  front = begins_then c.args.out.now.items c.loop-commit.out.items c.put_commit.new.out.items c.loop-commit.invariant.front c.in_ok-put_commit.ensures.front;
}

pub returns-in_err-put_commit-clause-front : goal.returns-in_err-put_commit-clause-front
returns-in_err-put_commit-clause-front c = begins_then c.args.out.now.items c.loop-commit.out.items c.put_commit.new.out.items c.loop-commit.invariant.front c.in_err-put_commit.ensures.front
