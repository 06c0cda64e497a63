use Rattle.std.proofs.Common.{◌+◌}
use Rattle.cp_program.proofs.Versioned.{answered-archive}
use Rattle.cp_program.proofs.version.versions_in.Goals as goal

pub returns-clause-answered : goal.returns-clause-answered
returns-clause-answered g c = λ known.
    answered-archive (g.D.Disk.known c.args.disk.now) c.in_ok-kept.kept (c.last-versions.result + 1) c.ranges-ranges.result (c.in_ok-kept.ensures.archived known) c.last-versions.ensures c.ranges-ranges.ensures
