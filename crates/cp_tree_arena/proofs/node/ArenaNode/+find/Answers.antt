use Rattle.std.proofs.Common.{sym}
use Rattle.cp_tree.proofs.BranchLemmas.{sub-root}
use Rattle.cp_tree.proofs.Found.{no_length}
use Rattle.cp_tree_arena.proofs.Nodes.{sub_further, get_further, gone_further}
use Rattle.cp_tree_arena.proofs.node.ArenaNode.+find.Goals as goal

pub returns-in-None-clause-there : goal.returns-in-None-clause-there
returns-in-None-clause-there t c = rw (no_length _ c.in-None.ensures.cases) (sym (sub-root _))

pub returns-in-Some-child-clause-there : goal.returns-in-Some-child-clause-there
returns-in-Some-child-clause-there t c = rw (c.in-Some.ensures.cases.0, ← sub_further _ _ _ c.in-Some-child.ensures.there c.in-Some.rest.now) c.find.ensures.there

pub returns-in-Some-child-clause-gone : goal.returns-in-Some-child-clause-gone
returns-in-Some-child-clause-gone t c = rw (c.in-Some.ensures.cases.0, ← get_further _ _ _ c.in-Some-child.ensures.there c.in-Some.rest.now) c.find.ensures.gone

pub returns-in-None-child-clause-gone : goal.returns-in-None-child-clause-gone
returns-in-None-child-clause-gone t c = rw c.in-Some.ensures.cases.0 (gone_further _ _ _ c.in-Some.rest.now c.requires.good c.in-None-child.ensures.gone)
