use Rattle.cp_tree.proofs.Building.{no_rows}
use Rattle.cp_tree.proofs.FewRows.{first_text}
use Rattle.cp_tree.proofs.Found.{no_length}
use Rattle.cp_tree_share.proofs.Read.{have_whole, all_short, whole_read}
use Rattle.cp_tree_share.proofs.build.build.Goals as goal

pub unreachable-requires : goal.unreachable-requires
unreachable-requires c = no_rows _ (no_length _ c.in-None.ensures.cases) c.requires.rows

pub read_node-requires-clause-tree : goal.read_node-requires-clause-tree
read_node-requires-clause-tree c = have_whole _ _ _ c.in-Some.ensures.cases.0 c.requires.rows c.requires.small

pub read_node-requires-clause-text : goal.read_node-requires-clause-text
read_node-requires-clause-text c = first_text _ _ _ c.in-Some.ensures.cases.0 c.requires.rows

pub read_node-requires-clause-texts : goal.read_node-requires-clause-texts
read_node-requires-clause-texts c = all_short _ _ _ c.in-Some.ensures.cases.0 c.requires.rows

pub returns : goal.returns
returns c = whole_read _ _ _ c.in-Some.ensures.cases.0 c.requires.rows c.requires.small _ _ c.in_ok-root-in-Some.ensures.tree
