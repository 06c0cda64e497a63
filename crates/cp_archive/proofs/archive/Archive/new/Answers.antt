use Rattle.cp_model.specs.Tree.{Tree}
use Rattle.cp_archive.specs.declared.touched.Touched.{Touched}
use Rattle.cp_archive.proofs.Adding.{start-leads, start-differs, start-kept}
use Rattle.cp_archive.proofs.VersionTrees.{no-entries}
use Rattle.cp_archive.proofs.archive.Archive.new.Goals as goal

pub note_step-requires : goal.note_step-requires
note_step-requires g c =
    let x : Touched = record { place = c.root-place.result; before = c.new.result.items; after = c.in_ok-after.after } in
    let tree : Tree = g.R.TreeRep.contents c.args.start.now in
    start-differs x tree (start-leads x tree c.root-place.ensures c.new.ensures.items c.in_ok-after.ensures (g.met.R.TreeRep.is_tree c.args.start.now))

pub invariant_of-result : goal.invariant_of-result
invariant_of-result g c =
    let x : Touched = record { place = c.root-place.result; before = c.new.result.items; after = c.in_ok-after.after } in
    let tree : Tree = g.R.TreeRep.contents c.args.start.now in
    (start-kept c.new-paths.result c.note_step.new.paths c.in_ok-ranges.ranges _ tree (no-entries c.new-paths.result c.new-paths.ensures.empty)
    (start-leads x tree c.root-place.ensures c.new.ensures.items c.in_ok-after.ensures (g.met.R.TreeRep.is_tree c.args.start.now)) c.in_ok-ranges.ensures.ok c.in_ok-ranges.ensures.ranges).1

pub returns : goal.returns
returns g c =
    let x : Touched = record { place = c.root-place.result; before = c.new.result.items; after = c.in_ok-after.after } in
    let tree : Tree = g.R.TreeRep.contents c.args.start.now in
    (start-kept c.new-paths.result c.note_step.new.paths c.in_ok-ranges.ranges _ tree (no-entries c.new-paths.result c.new-paths.ensures.empty)
    (start-leads x tree c.root-place.ensures c.new.ensures.items c.in_ok-after.ensures (g.met.R.TreeRep.is_tree c.args.start.now)) c.in_ok-ranges.ensures.ok c.in_ok-ranges.ensures.ranges).0
