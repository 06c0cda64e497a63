use Rattle.std.proofs.Common.{sym}
use Rattle.cp_tree_rows.proofs.Stretches.{none_passed, gap_end, child_found, passed, gap_before}
use Rattle.cp_tree_rows.proofs.search.scan.Goals as goal

pub loop-at-init : goal.loop-at-init
loop-at-init c =
    let p = none_passed c.args.rows.now c.args.label.now c.requires.nested in
    record { within = p.within; front = p.front; back = p.back; before = p.before }

pub returns-in-Less : goal.returns-in-Less
returns-in-Less c =
    let l = c.loop-at.invariant in
    let r = c.index-rows-at in
    gap_before _ c.args.label.now c.loop-at.at r.result c.loop-at-test.true r.is l.front l.back l.before c.requires.sorted (sym c.in-Less.ensures)

pub returns-in-Equal : goal.returns-in-Equal
returns-in-Equal c =
    let r = c.index-rows-at in
    child_found _ c.args.label.now c.loop-at.at r.result c.loop-at-test.true r.is c.loop-at.invariant.front (sym c.in-Equal.ensures)

pub loop-at-preserved : goal.loop-at-preserved
loop-at-preserved c =
    let l = c.loop-at.invariant in
    let r = c.index-rows-at in
    let p = passed _ c.args.label.now c.loop-at.at r.result c.loop-at-test.true r.is l.front l.back l.before (sym c.in-Greater.ensures) in
    record { within = p.within; front = p.front; back = p.back; before = p.before }

pub returns : goal.returns
returns c =
    let l = c.loop-at.invariant in
    gap_end _ c.args.label.now c.loop-at.at (record { within = l.within; front = l.front; back = l.back; before = l.before }) c.loop-at-test.false
