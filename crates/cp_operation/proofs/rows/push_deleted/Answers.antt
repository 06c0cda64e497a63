use Rattle.std.proofs.Common.{ap, ◌∙◌}
use Rattle.cp_model.specs.Place.{child}
use Rattle.cp_model.specs.Subtrees.{below, is_there}
use Rattle.cp_tree.specs.Rows.{deepest}
use Rattle.cp_operation.proofs.Depths.{below-within}
use Rattle.cp_operation.proofs.OpRows.{child-room, rows-within, del-added}
use Rattle.cp_operation.proofs.rows.push_deleted.Goals as goal

pub child-requires : goal.child-requires
child-requires g c =
    let t = g.R.TreeRep.contents c.args.tree.now in
    let q = child c.args.from.now.path c.args.label.now in
    record { room = child-room c.args.from.now.path c.args.label.now (deepest (below q t)) (below-within t q (g.met.R.TreeRep.is_tree c.args.tree.now) c.requires.there) }

pub rows-requires : goal.rows-requires
rows-requires g c = record { there = ap (is_there (g.R.TreeRep.contents c.args.tree.now)) c.in_ok-base.ensures ∙ c.requires.there }

pub push_gone-requires : goal.push_gone-requires
push_gone-requires g c =
    let t = g.R.TreeRep.contents c.args.tree.now in
    let q = child c.args.from.now.path c.args.label.now in
    record { shallow = rows-within t q c.in_ok-base.base c.in_ok-list.list (g.met.R.TreeRep.is_tree c.args.tree.now) c.requires.there c.in_ok-base.ensures c.in_ok-list.ensures }

pub returns-clause-ok : goal.returns-clause-ok
returns-clause-ok g c =
    let t = g.R.TreeRep.contents c.args.tree.now in
    λ ss. del-added c.push_gone.result c.args.tid ss t c.in_ok-base.base c.args.from.now c.args.label.now c.in_ok-list.list _ _ c.in_ok-base.ensures c.in_ok-list.ensures c.push_gone.ensures.ok
