use Rattle.cp_reply.proofs.OnLastTree.{commits-are-on-the-last-tree}
use Rattle.cp_reply.proofs.AnsweredAlone.{curators-are-answered-alone}
use Rattle.cp_reply.proofs.stated.laws.Goals as goal

pub returns-clause-commits : goal.returns-clause-commits
returns-clause-commits c = commits-are-on-the-last-tree

pub returns-clause-alone : goal.returns-clause-alone
returns-clause-alone c = curators-are-answered-alone
