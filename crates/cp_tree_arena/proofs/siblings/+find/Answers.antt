use Rattle.std.proofs.Common.{sym, ap, arith}
use Rattle.std.specs.FinMap.Entries.{find}
use Rattle.cp_path.specs.Text.{text_cmp}
use Rattle.cp_tree_arena.proofs.Reading.{kept_slot, kept_none, find_before, find_after, find_here}
use Rattle.cp_tree_arena.proofs.siblings.+find.Goals as goal

pub find-requires : goal.find-requires
find-requires t c = (let k = kept_slot _ _ c.requires _ c.in-Some.ensures.there in (omega (arith, k.fewer_left), k.left))

pub find-requires-in-Greater : goal.find-requires-in-Greater
find-requires-in-Greater t c = (let k = kept_slot _ _ c.requires _ c.in-Some.ensures.there in (omega (arith, k.fewer_right), k.right))

pub returns-in-None-clause-gone : goal.returns-in-None-clause-gone
returns-in-None-clause-gone t c = ap (find text_cmp c.args.label.now) (kept_none _ _ c.requires c.in-None.ensures.gone)

pub returns-in-Less-clause-there : goal.returns-in-Less-clause-there
returns-in-Less-clause-there t c =
    let k = kept_slot _ _ c.requires _ c.in-Some.ensures.there in
    rw (find_before _ _ _ k c.args.label.now (sym c.in-Less.ensures)) c.find.ensures.there

pub returns-in-Less-clause-gone : goal.returns-in-Less-clause-gone
returns-in-Less-clause-gone t c =
    let k = kept_slot _ _ c.requires _ c.in-Some.ensures.there in
    rw (find_before _ _ _ k c.args.label.now (sym c.in-Less.ensures)) c.find.ensures.gone

pub returns-in-Equal-clause-there : goal.returns-in-Equal-clause-there
returns-in-Equal-clause-there t c =
    let k = kept_slot _ _ c.requires _ c.in-Some.ensures.there in
    find_here _ _ _ k c.args.label.now (sym c.in-Equal.ensures)

pub returns-in-Equal-clause-node : goal.returns-in-Equal-clause-node
returns-in-Equal-clause-node t c = (kept_slot _ _ c.requires _ c.in-Some.ensures.there).node

pub returns-in-Greater-clause-there : goal.returns-in-Greater-clause-there
returns-in-Greater-clause-there t c =
    let k = kept_slot _ _ c.requires _ c.in-Some.ensures.there in
    rw (find_after _ _ _ k c.args.label.now (sym c.in-Greater.ensures)) c.find-in-Greater.ensures.there

pub returns-in-Greater-clause-gone : goal.returns-in-Greater-clause-gone
returns-in-Greater-clause-gone t c =
    let k = kept_slot _ _ c.requires _ c.in-Some.ensures.there in
    rw (find_after _ _ _ k c.args.label.now (sym c.in-Greater.ensures)) c.find-in-Greater.ensures.gone
