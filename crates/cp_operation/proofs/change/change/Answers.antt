use Rattle.std.proofs.Common.{[], ap, subst, refl}
use Rattle.std.specs.Prelude.{is_some}
use Rattle.cp_model.specs.History.{IsWritten}
use Rattle.cp_model.proofs.Accepted.{ins_accepted, del_accepted}
use Rattle.cp_operation.specs.Loaded.{sources_in}
use Rattle.cp_operation.proofs.LoadedLemmas.{trees-loaded}
use Rattle.cp_operation.proofs.Changed.{accepts, ins-changed, del-changed, ins-tree, made, on-ok, on-err}
use Rattle.cp_operation.proofs.OpRows.{ins-within, ins-rows, op-added}
use Rattle.cp_operation.proofs.Recorded.{grown-appended}
use Rattle.cp_operation.proofs.change.change.Goals as goal

pub insert_tree-requires-clause-node : goal.insert_tree-requires-clause-node
insert_tree-requires-clause-node g c =
    let ss = sources_in g.S.TreeRep.contents c.args.sources.now in
    let t = g.R.TreeRep.contents c.args.tree.now in
    (ins_accepted ss t c.in-Ins.into c.in-Ins.label c.in-Ins.literal (accepts ss t _ _ c.in-Ins.is c.requires.accepted)).node

pub insert_tree-requires-clause-free : goal.insert_tree-requires-clause-free
insert_tree-requires-clause-free g c =
    let ss = sources_in g.S.TreeRep.contents c.args.sources.now in
    let t = g.R.TreeRep.contents c.args.tree.now in
    ap is_some (ins_accepted ss t c.in-Ins.into c.in-Ins.label c.in-Ins.literal (accepts ss t _ _ c.in-Ins.is c.requires.accepted)).free

pub insert_tree-requires-clause-fits : goal.insert_tree-requires-clause-fits
insert_tree-requires-clause-fits g c =
    let ss = sources_in g.S.TreeRep.contents c.args.sources.now in
    let t = g.R.TreeRep.contents c.args.tree.now in
    ins-tree ss t c.in-Ins.into c.in-Ins.label c.in-Ins.literal (g.met.R.TreeRep.is_tree c.args.tree.now) (trees-loaded g.S.TreeRep.contents g.met.S.TreeRep.is_tree c.args.sources.now) (subst IsWritten c.in-Ins.is c.requires.written) (accepts ss t _ _ c.in-Ins.is c.requires.accepted)

pub remove-requires : goal.remove-requires
remove-requires g c =
    let ss = sources_in g.S.TreeRep.contents c.args.sources.now in
    let t = g.R.TreeRep.contents c.args.tree.now in
    record { there = (del_accepted ss t c.in-Del.from c.in-Del.label (accepts ss t _ _ c.in-Del.is c.requires.accepted)).there }

pub push_inserted-requires : goal.push_inserted-requires
push_inserted-requires g c =
    let ss = sources_in g.S.TreeRep.contents c.args.sources.now in
    let t = g.R.TreeRep.contents c.args.tree.now in
    record { shallow = ins-within ss t c.in-Ins.into c.in-Ins.label c.in-Ins.literal (accepts ss t _ _ c.in-Ins.is c.requires.accepted) }

pub push_deleted-requires : goal.push_deleted-requires
push_deleted-requires g c =
    let ss = sources_in g.S.TreeRep.contents c.args.sources.now in
    let t = g.R.TreeRep.contents c.args.tree.now in
    record { there = (del_accepted ss t c.in-Del.from c.in-Del.label (accepts ss t _ _ c.in-Del.is c.requires.accepted)).there }

pub returns-in_ok-push_inserted-in-Ins-clause-tree : goal.returns-in_ok-push_inserted-in-Ins-clause-tree
returns-in_ok-push_inserted-in-Ins-clause-tree g c =
    let ss = sources_in g.S.TreeRep.contents c.args.sources.now in
    let t = g.R.TreeRep.contents c.args.tree.now in
    made c.insert_tree.result ss t _ _ _ _ c.in-Ins.is (ins-changed ss t c.in-Ins.into c.in-Ins.label c.in-Ins.literal) c.insert_tree.ensures.ok

pub returns-in_ok-push_inserted-in-Ins-clause-rows : goal.returns-in_ok-push_inserted-in-Ins-clause-rows
returns-in_ok-push_inserted-in-Ins-clause-rows g c =
    let ss = sources_in g.S.TreeRep.contents c.args.sources.now in
    let t = g.R.TreeRep.contents c.args.tree.now in
    ins-rows c.insert_tree.result c.args.tid ss t c.in-Ins.into c.in-Ins.label c.in-Ins.literal c.args.op.now _ _ c.in-Ins.is (on-ok _ c.in_ok-push_inserted-in-Ins.ensures.ok)

pub returns-in_ok-push_inserted-in-Ins-clause-grown : goal.returns-in_ok-push_inserted-in-Ins-clause-grown
returns-in_ok-push_inserted-in-Ins-clause-grown g c = on-err _ (grown-appended _ _ _ c.in_ok-push_inserted-in-Ins.ensures.ok)

pub returns-in_ok-push_deleted-in-Del-clause-tree : goal.returns-in_ok-push_deleted-in-Del-clause-tree
returns-in_ok-push_deleted-in-Del-clause-tree g c =
    let ss = sources_in g.S.TreeRep.contents c.args.sources.now in
    let t = g.R.TreeRep.contents c.args.tree.now in
    made c.remove.result ss t _ _ _ _ c.in-Del.is (del-changed ss t c.in-Del.from c.in-Del.label) c.remove.ensures.ok

pub returns-in_ok-push_deleted-in-Del-clause-rows : goal.returns-in_ok-push_deleted-in-Del-clause-rows
returns-in_ok-push_deleted-in-Del-clause-rows g c =
    let ss = sources_in g.S.TreeRep.contents c.args.sources.now in
    let t = g.R.TreeRep.contents c.args.tree.now in
    op-added c.remove.result c.args.tid ss t _ c.args.op.now _ _ c.in-Del.is (on-ok _ (c.in_ok-push_deleted-in-Del.ensures.ok ss))

pub returns-in_ok-push_deleted-in-Del-clause-grown : goal.returns-in_ok-push_deleted-in-Del-clause-grown
returns-in_ok-push_deleted-in-Del-clause-grown g c = on-err _ (grown-appended _ _ _ (c.in_ok-push_deleted-in-Del.ensures.ok []))

pub copy_onto-requires : goal.copy_onto-requires
copy_onto-requires g c =
    let ss = sources_in g.S.TreeRep.contents c.args.sources.now in
    record { accepted = accepts ss (g.R.TreeRep.contents c.args.tree.now) _ _ c.in-Copy.is c.requires.accepted }

pub returns-in-Copy-clause-tree : goal.returns-in-Copy-clause-tree
returns-in-Copy-clause-tree g c =
    let ss = sources_in g.S.TreeRep.contents c.args.sources.now in
    made c.copy_onto.result ss (g.R.TreeRep.contents c.args.tree.now) _ _ _ _ c.in-Copy.is refl c.copy_onto.ensures.tree

pub returns-in-Copy-clause-rows : goal.returns-in-Copy-clause-rows
returns-in-Copy-clause-rows g c =
    let ss = sources_in g.S.TreeRep.contents c.args.sources.now in
    op-added c.copy_onto.result c.args.tid ss (g.R.TreeRep.contents c.args.tree.now) _ c.args.op.now _ _ c.in-Copy.is c.copy_onto.ensures.rows
