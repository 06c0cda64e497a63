use Rattle.std.proofs.Common.{◌≡◌, arith, true}
use Rattle.std.proofs.lemmas.Bool.Decides.{nat_tests}
use Rattle.cp_model.specs.declared.row.Content.TheVariants.{Node}
use Rattle.cp_tree_rows.proofs.Reading.{facts}
use Rattle.cp_tree_rows.proofs.Opening.{opened_child, opened_either, never}
use Rattle.cp_tree_rows.proofs.change.open_here.Goals as goal
use Rattle.cp_tree_rows.proofs.change.open_here.Goals.{then-added-gt0, else-added-gt0}

pub returns-in-Ok : goal.returns-in-Ok
returns-in-Ok c = opened_child c.args.rows.now c.args.last.now c.args.label.now c.in-Ok.at c.index-rows-at.result c.args.added c.requires.part c.in-Ok.ensures c.index-rows-at.is

pub returns-after-added-gt0 : goal.returns-after-added-gt0
returns-after-added-gt0 c =
    let rs = c.args.rows.now in
    let i = c.in-Err.at in
    let t = c.if-added-gt0.index_if in
    opened_either rs c.args.last.now c.args.label.now i c.args.added c.requires.part c.in-Err.ensures t
    (λ e. elim c.if-added-gt0.branch [
      | then-added-gt0 w ↦ (let same : t ≡ true = e in let is = w.index_if-is in (grind (arith, nat_tests), w.if-added-gt0.true))
      | else-added-gt0 w ↦ absurd (never t c.args.added e w.index_if-is w.if-added-gt0.false)
    ])
    c.index_if.result c.index_if.ensures

pub child-requires-clause-nested : goal.child-requires-clause-nested
child-requires-clause-nested c = (facts Node c.args.last.now c.args.rows.now c.requires.part).nested

pub child-requires-clause-sorted : goal.child-requires-clause-sorted
child-requires-clause-sorted c = (facts Node c.args.last.now c.args.rows.now c.requires.part).sorted

pub child-requires-clause-points : goal.child-requires-clause-points
child-requires-clause-points c = (facts Node c.args.last.now c.args.rows.now c.requires.part).points
