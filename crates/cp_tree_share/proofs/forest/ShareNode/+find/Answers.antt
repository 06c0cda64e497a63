use Rattle.std.proofs.Common.{sym, arith}
use Rattle.cp_tree.proofs.BranchLemmas.{sub-root}
use Rattle.cp_tree.proofs.GoodLemmas.{get_below, get_nothing, sub_below}
use Rattle.cp_tree.proofs.Found.{no_length}
use Rattle.cp_tree_share.proofs.At.{rooted_view}
use Rattle.cp_tree_share.proofs.forest.ShareNode.+find.Goals as goal

pub find-requires-in-Some-find : goal.find-requires-in-Some-find
find-requires-in-Some-find t c = omega (arith, c.in-Some.ensures.cases.1)

pub returns-in-None-clause-there : goal.returns-in-None-clause-there
returns-in-None-clause-there t c = rw (no_length _ c.in-None.ensures.cases) (sym (sub-root c.args.self.now))

pub returns-in-None-clause-rooted : goal.returns-in-None-clause-rooted
returns-in-None-clause-rooted t c = rooted_view _ _ _ c.self.view_is c.self.invariant

pub returns-in-None-clause-whole : goal.returns-in-None-clause-whole
returns-in-None-clause-whole t c = rooted_view _ _ _ c.self.view_is c.self.invariant

pub returns-in-Some-find-clause-there : goal.returns-in-Some-find-clause-there
returns-in-Some-find-clause-there t c =
    let below = sub_below c.args.self.now _ _ c.self.inside.children.0 c.in-Some.first.now c.self.view_is c.self.invariant c.in-Some.rest.now _ c.in-Some-find.ensures.there in
    rw (c.in-Some.ensures.cases.0, below, ← c.entry.view_is) c.find-in-Some-find.ensures.there

pub returns-in-Some-find-clause-gone : goal.returns-in-Some-find-clause-gone
returns-in-Some-find-clause-gone t c =
    let below = get_below c.args.self.now _ _ c.self.inside.children.0 c.in-Some.first.now c.self.view_is c.self.invariant c.in-Some.rest.now _ c.in-Some-find.ensures.there in
    rw (c.in-Some.ensures.cases.0, below, ← c.entry.view_is) c.find-in-Some-find.ensures.gone

pub returns-in-Some-find-clause-whole : goal.returns-in-Some-find-clause-whole
returns-in-Some-find-clause-whole t c = rooted_view _ _ _ c.self.view_is c.self.invariant

pub returns-in-None-find-clause-gone : goal.returns-in-None-find-clause-gone
returns-in-None-find-clause-gone t c =
    rw c.in-Some.ensures.cases.0 (get_nothing c.args.self.now _ _ c.self.inside.children.0 c.in-Some.first.now c.self.view_is c.self.invariant c.in-Some.rest.now c.in-None-find.ensures.gone)

pub returns-in-None-find-clause-whole : goal.returns-in-None-find-clause-whole
returns-in-None-find-clause-whole t c = rooted_view _ _ _ c.self.view_is c.self.invariant
