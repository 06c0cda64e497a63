use Rattle.std.proofs.Common.{sym, arith}
use Rattle.cp_tree_rows.proofs.Reading.{facts}
use Rattle.cp_tree_rows.proofs.Stretches.{inside, nothing_in_gap}
use Rattle.cp_tree_rows.proofs.search.find_child.Goals as goal

pub returns-in-Ok-clause-part : goal.returns-in-Ok-clause-part
returns-in-Ok-clause-part c =
    let p = c.args.part in
    let r = c.index-part-at in
    let f = facts p.item.now p.last p.rows.now c.requires.part in
    (inside p.rows.now c.args.label.now c.in-Ok.at r.result _ f.nested f.sorted c.in-Ok.ensures r.is (sym r.is)).part

pub returns-in-Ok-clause-there : goal.returns-in-Ok-clause-there
returns-in-Ok-clause-there c =
    let p = c.args.part in
    let r = c.index-part-at in
    let f = facts p.item.now p.last p.rows.now c.requires.part in
    (inside p.rows.now c.args.label.now c.in-Ok.at r.result _ f.nested f.sorted c.in-Ok.ensures r.is (sym r.is)).found

pub returns-in-Err-clause-gone : goal.returns-in-Err-clause-gone
returns-in-Err-clause-gone c = nothing_in_gap c.args.part.rows.now c.args.label.now _ c.in-Err.ensures

pub slice_bounds-rows-end : goal.slice_bounds-rows-end
slice_bounds-rows-end c =
    let p = c.args.part in
    let r = c.index-part-at in
    let f = facts p.item.now p.last p.rows.now c.requires.part in
    let d = inside p.rows.now c.args.label.now c.in-Ok.at r.result _ f.nested f.sorted c.in-Ok.ensures r.is (sym r.is) in
    omega (arith, d.fits)

pub child-requires-clause-nested : goal.child-requires-clause-nested
child-requires-clause-nested c = (let p = c.args.part in (facts p.item.now p.last p.rows.now c.requires.part).nested)

pub child-requires-clause-sorted : goal.child-requires-clause-sorted
child-requires-clause-sorted c = (let p = c.args.part in (facts p.item.now p.last p.rows.now c.requires.part).sorted)

pub child-requires-clause-points : goal.child-requires-clause-points
child-requires-clause-points c = (let p = c.args.part in (facts p.item.now p.last p.rows.now c.requires.part).points)
