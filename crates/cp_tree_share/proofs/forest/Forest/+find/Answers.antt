use Rattle.std.proofs.Common.{sym}
use Rattle.cp_tree.proofs.BranchLemmas.{label_same}
use Rattle.cp_tree_share.proofs.At.{at_full, find_in_left, find_in_right, find_in_mid}
use Rattle.cp_tree_share.proofs.forest.Forest.+find.Goals as goal

pub returns-in-Less-clause-there : goal.returns-in-Less-clause-there
returns-in-Less-clause-there t c =
    let f = at_full c.in-Full.fork c.self.view_is c.self.invariant c.in-Full.is in
    rw (find_in_left _ _ f c.args.label.now (sym (rw c.deref-fork.ensures at c.in-Less.ensures)), ← c.deref-fork.ensures) c.find.ensures.there

pub returns-in-Less-clause-gone : goal.returns-in-Less-clause-gone
returns-in-Less-clause-gone t c =
    let f = at_full c.in-Full.fork c.self.view_is c.self.invariant c.in-Full.is in
    rw (find_in_left _ _ f c.args.label.now (sym (rw c.deref-fork.ensures at c.in-Less.ensures)), ← c.deref-fork.ensures) c.find.ensures.gone

pub returns-in-Equal-clause-there : goal.returns-in-Equal-clause-there
returns-in-Equal-clause-there t c =
    let f = at_full c.in-Full.fork c.self.view_is c.self.invariant c.in-Full.is in
    rw c.deref-fork.ensures (find_in_mid _ _ f c.args.label.now (sym (rw c.deref-fork.ensures at c.in-Equal.ensures)))

pub returns-in-Greater-clause-there : goal.returns-in-Greater-clause-there
returns-in-Greater-clause-there t c =
    let f = at_full c.in-Full.fork c.self.view_is c.self.invariant c.in-Full.is in
    rw (find_in_right _ _ f c.args.label.now (sym (rw c.deref-fork.ensures at c.in-Greater.ensures)), ← c.deref-fork.ensures) c.find-in-Greater.ensures.there

pub returns-in-Greater-clause-gone : goal.returns-in-Greater-clause-gone
returns-in-Greater-clause-gone t c =
    let f = at_full c.in-Full.fork c.self.view_is c.self.invariant c.in-Full.is in
    rw (find_in_right _ _ f c.args.label.now (sym (rw c.deref-fork.ensures at c.in-Greater.ensures)), ← c.deref-fork.ensures) c.find-in-Greater.ensures.gone

pub returns-in-Equal-clause-label : goal.returns-in-Equal-clause-label
returns-in-Equal-clause-label t c = sym (label_same _ _ (sym c.in-Equal.ensures))
