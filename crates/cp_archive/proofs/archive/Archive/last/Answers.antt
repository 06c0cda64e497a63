use Rattle.std.proofs.Common.{sym, ap, ◌∙◌, length}
use Rattle.cp_archive.proofs.VersionTrees.{versions-length}
use Rattle.cp_archive.proofs.archive.Archive.last.Goals as goal

pub returns : goal.returns
returns c = sym (versions-length c.self.inside.paths c.self.inside.last) ∙ ap length c.self.view_is
