use Rattle.std.proofs.Common.{sym, refl}
use Rattle.cp_tree.proofs.BranchLemmas.{sub-root}
use Rattle.cp_tree.proofs.GoodLemmas.{get_below, get_nothing, sub_below}
use Rattle.cp_tree_rows.specs.Forest.{edges, tree_of}
use Rattle.cp_tree.proofs.Found.{no_length}
use Rattle.cp_tree_rows.proofs.Reading.{good_part}
use Rattle.cp_tree_rows.proofs.search.+find.Goals as goal

pub returns-in-None-clause-there : goal.returns-in-None-clause-there
returns-in-None-clause-there t c = rw (no_length _ c.in-None.ensures.cases) (sym (sub-root (tree_of c.args.part.item.now c.args.part.rows.now)))

pub returns-in-Some-find_child-clause-there : goal.returns-in-Some-find_child-clause-there
returns-in-Some-find_child-clause-there t c =
    let p = c.args.part in
    let g = good_part p.item.now p.last p.rows.now c.requires.part in
    let below = sub_below (tree_of p.item.now p.rows.now) p.item.now (edges p.rows.now) (edges p.rows.now) c.in-Some.first.now refl g c.in-Some.rest.now _ c.in-Some-find_child.ensures.there in
    rw (c.in-Some.ensures.cases.0, below) c.find.ensures.there

pub returns-in-Some-find_child-clause-gone : goal.returns-in-Some-find_child-clause-gone
returns-in-Some-find_child-clause-gone t c =
    let p = c.args.part in
    let g = good_part p.item.now p.last p.rows.now c.requires.part in
    let below = get_below (tree_of p.item.now p.rows.now) p.item.now (edges p.rows.now) (edges p.rows.now) c.in-Some.first.now refl g c.in-Some.rest.now _ c.in-Some-find_child.ensures.there in
    rw (c.in-Some.ensures.cases.0, below) c.find.ensures.gone

pub returns-in-None-find_child-clause-gone : goal.returns-in-None-find_child-clause-gone
returns-in-None-find_child-clause-gone t c =
    let p = c.args.part in
    let g = good_part p.item.now p.last p.rows.now c.requires.part in
    rw c.in-Some.ensures.cases.0 (get_nothing (tree_of p.item.now p.rows.now) p.item.now (edges p.rows.now) (edges p.rows.now) c.in-Some.first.now refl g c.in-Some.rest.now c.in-None-find_child.ensures.gone)
