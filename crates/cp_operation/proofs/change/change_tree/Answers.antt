use Rattle.std.proofs.Common.{ap, subst}
use Rattle.std.specs.Prelude.{is_some}
use Rattle.cp_model.specs.History.{IsWritten}
use Rattle.cp_model.proofs.Accepted.{ins_accepted, del_accepted}
use Rattle.cp_operation.specs.Loaded.{sources_in}
use Rattle.cp_operation.proofs.LoadedLemmas.{trees-loaded}
use Rattle.cp_operation.proofs.Changed.{accepts, ins-changed, del-changed, ins-tree, made}
use Rattle.cp_operation.proofs.change.change_tree.Goals as goal

pub insert_tree-requires-clause-node : goal.insert_tree-requires-clause-node
insert_tree-requires-clause-node g c =
    let ss = sources_in g.S.TreeRep.contents c.args.sources.now in
    let t = g.R.TreeRep.contents c.args.tree.now in
    (ins_accepted ss t c.in-Ins.into c.in-Ins.label c.in-Ins.literal (accepts ss t _ _ c.in-Ins.is c.requires.accepted)).node

pub insert_tree-requires-clause-free : goal.insert_tree-requires-clause-free
insert_tree-requires-clause-free g c =
    let ss = sources_in g.S.TreeRep.contents c.args.sources.now in
    let t = g.R.TreeRep.contents c.args.tree.now in
    ap is_some (ins_accepted ss t c.in-Ins.into c.in-Ins.label c.in-Ins.literal (accepts ss t _ _ c.in-Ins.is c.requires.accepted)).free

pub insert_tree-requires-clause-fits : goal.insert_tree-requires-clause-fits
insert_tree-requires-clause-fits g c =
    let ss = sources_in g.S.TreeRep.contents c.args.sources.now in
    let t = g.R.TreeRep.contents c.args.tree.now in
    ins-tree ss t c.in-Ins.into c.in-Ins.label c.in-Ins.literal (g.met.R.TreeRep.is_tree c.args.tree.now) (trees-loaded g.S.TreeRep.contents g.met.S.TreeRep.is_tree c.args.sources.now) (subst IsWritten c.in-Ins.is c.requires.written) (accepts ss t _ _ c.in-Ins.is c.requires.accepted)

pub remove-requires : goal.remove-requires
remove-requires g c =
    let ss = sources_in g.S.TreeRep.contents c.args.sources.now in
    let t = g.R.TreeRep.contents c.args.tree.now in
    record { there = (del_accepted ss t c.in-Del.from c.in-Del.label (accepts ss t _ _ c.in-Del.is c.requires.accepted)).there }

pub returns-in-Ins-clause-tree : goal.returns-in-Ins-clause-tree
returns-in-Ins-clause-tree g c =
    let ss = sources_in g.S.TreeRep.contents c.args.sources.now in
    let t = g.R.TreeRep.contents c.args.tree.now in
    made c.insert_tree.result ss t _ _ _ _ c.in-Ins.is (ins-changed ss t c.in-Ins.into c.in-Ins.label c.in-Ins.literal) c.insert_tree.ensures.ok

pub returns-in-Del-clause-tree : goal.returns-in-Del-clause-tree
returns-in-Del-clause-tree g c =
    let ss = sources_in g.S.TreeRep.contents c.args.sources.now in
    let t = g.R.TreeRep.contents c.args.tree.now in
    made c.remove.result ss t _ _ _ _ c.in-Del.is (del-changed ss t c.in-Del.from c.in-Del.label) c.remove.ensures.ok
