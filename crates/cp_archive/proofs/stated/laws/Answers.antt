use Rattle.cp_archive.proofs.Covering.{touched-places-cover}
use Rattle.cp_archive.proofs.HistoryTrees.{trees-are-versions}
use Rattle.cp_archive.proofs.stated.laws.Goals as goal

pub returns-clause-cover : goal.returns-clause-cover
returns-clause-cover c = touched-places-cover

pub returns-clause-versions : goal.returns-clause-versions
returns-clause-versions c = trees-are-versions
