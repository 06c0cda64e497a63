use Rattle.std.proofs.Common.{rules, arith, ap, ◌∙◌, length, subst, List, ℕ, ◌≤◌, ◌+◌}
use Rattle.cp_disk.proofs.Composing.{still, rests_then}
use Rattle.cp_journal.specs.Walks.{IsWholeAt}
use Rattle.cp_journal.proofs.Places.{in_range-pushed}
use Rattle.cp_journal.proofs.Stretch.{stretch_more, reads_few}
use Rattle.cp_journal.proofs.walk.walk_frames.Goals as goal

pub loop-frames-preserved : goal.loop-frames-preserved
loop-frames-preserved g c = record {
  within =
      let room : c.loop-frames.next + 10 + c.in-Whole.len ≤ c.look.new.size = search rules in
      omega (arith, room, c.look.ensures.most);
  most = c.look.ensures.most;
  size = λ known. c.look.ensures.size (still c.loop-frames.invariant.same known) ∙ ap length (c.loop-frames.invariant.rests known).content;
  range =
      let room : c.loop-frames.next + 10 + c.in-Whole.len ≤ c.look.new.size = search rules in
      in_range-pushed _ _ _ _ _ c.in_ok-push-in-Whole.ensures.items c.loop-frames.invariant.range (omega (arith, room, c.look.ensures.most));
  same = search rules;
  faults = search rules;
  reads = search rules;
  rests = λ known. rests_then _ _ _ (c.loop-frames.invariant.rests known) (c.look.ensures.rests (still c.loop-frames.invariant.same known));
  found = λ known.
      let here_known = still c.loop-frames.invariant.same known in
      let seen : IsWholeAt c.loop-frames.next (g.D.Disk.known c.loop-frames.disk).view.content c.in-Whole.tag c.in-Whole.len = search rules in
      let here = subst (λ (l : List ℕ). IsWholeAt c.loop-frames.next l c.in-Whole.tag c.in-Whole.len) (c.loop-frames.invariant.rests known).content seen in
      stretch_more _ _ _ _ _ _ _ (c.loop-frames.invariant.found known) here c.in_ok-push-in-Whole.ensures.items;
}

pub returns-in_err-look-clause-most_reads : goal.returns-in_err-look-clause-most_reads
returns-in_err-look-clause-most_reads g c = λ known. reads_few _ _ _ _ _ _ _ (c.loop-frames.invariant.found known) c.loop-frames.invariant.reads c.look.ensures.reads

pub returns-in-Closed-clause-most_reads : goal.returns-in-Closed-clause-most_reads
returns-in-Closed-clause-most_reads g c = λ known. reads_few _ _ _ _ _ _ _ (c.loop-frames.invariant.found known) c.loop-frames.invariant.reads c.look.ensures.reads

pub returns-in-Broken-clause-most_reads : goal.returns-in-Broken-clause-most_reads
returns-in-Broken-clause-most_reads g c = λ known. reads_few _ _ _ _ _ _ _ (c.loop-frames.invariant.found known) c.loop-frames.invariant.reads c.look.ensures.reads

pub returns-in_err-push-in-Whole-clause-most_reads : goal.returns-in_err-push-in-Whole-clause-most_reads
returns-in_err-push-in-Whole-clause-most_reads g c = λ known. reads_few _ _ _ _ _ _ _ (c.loop-frames.invariant.found known) c.loop-frames.invariant.reads c.look.ensures.reads
