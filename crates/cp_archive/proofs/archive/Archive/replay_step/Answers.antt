use Rattle.std.proofs.Common.{ap, ◌∙◌, map, rules}
use Rattle.cp_operation.specs.Loaded.{sources_in}
use Rattle.cp_archive.specs.Touching.{touched_before, with_after}
use Rattle.cp_archive.specs.Trees.{newest}
use Rattle.cp_archive.proofs.Following.{replay-leads, whole-made}
use Rattle.cp_archive.proofs.archive.Archive.replay_step.Goals as goal

pub add_step-requires-clause-step : goal.add_step-requires-clause-step
add_step-requires-clause-step g c = (
  g.R.TreeRep.contents c.replay.new.tree,
  replay-leads (sources_in g.S.TreeRep.contents c.args.sources.now) (g.R.TreeRep.contents c.args.tree.now) (g.R.TreeRep.contents c.replay.new.tree) (newest c.args.self.now) c.args.ops.now c.in_ok-places.places.items
      c.in_ok-touched.touched.items c.as_slice-2.result.now c.requires.newest (c.in_ok-replay.ensures.accepted.0 c.if-not-branch.false) c.in_ok-replay.ensures.stops (g.met.R.TreeRep.is_tree c.replay.new.tree)
      c.in_ok-places.ensures.apart c.in_ok-places.ensures.covers
      (c.in_ok-touched.ensures ∙ ap (map (touched_before (g.R.TreeRep.contents c.args.tree.now))) c.as_slice.ensures.value)
      (c.as_slice-2.ensures.value ∙ whole-made (with_after (g.R.TreeRep.contents c.replay.new.tree)) c.in_ok-touched.touched.len c.add_rows_after.new.touched c.in_ok-touched.touched.items (search rules) (c.in_ok-add_rows_after.ensures ∙ ap (map (with_after (g.R.TreeRep.contents c.replay.new.tree))) c.as_mut_slice.ensures.value)),
)

pub returns-clause-added : goal.returns-clause-added
returns-clause-added g c = λ _.
    c.in_ok-add_step.ensures.ok (g.R.TreeRep.contents c.replay.new.tree)
    (replay-leads (sources_in g.S.TreeRep.contents c.args.sources.now) (g.R.TreeRep.contents c.args.tree.now) (g.R.TreeRep.contents c.replay.new.tree) (newest c.args.self.now) c.args.ops.now c.in_ok-places.places.items
    c.in_ok-touched.touched.items c.as_slice-2.result.now c.requires.newest (c.in_ok-replay.ensures.accepted.0 c.if-not-branch.false) c.in_ok-replay.ensures.stops (g.met.R.TreeRep.is_tree c.replay.new.tree)
    c.in_ok-places.ensures.apart c.in_ok-places.ensures.covers
    (c.in_ok-touched.ensures ∙ ap (map (touched_before (g.R.TreeRep.contents c.args.tree.now))) c.as_slice.ensures.value)
    (c.as_slice-2.ensures.value ∙ whole-made (with_after (g.R.TreeRep.contents c.replay.new.tree)) c.in_ok-touched.touched.len c.add_rows_after.new.touched c.in_ok-touched.touched.items (search rules) (c.in_ok-add_rows_after.ensures ∙ ap (map (with_after (g.R.TreeRep.contents c.replay.new.tree))) c.as_mut_slice.ensures.value)))
