use Rattle.std.proofs.Common.{arith, ◌+◌}
use Rattle.cp_paged.specs.Stored.{log_up, most_pages}
use Rattle.cp_paged.proofs.RunsRead.{looks_by_place}
use Rattle.cp_paged.proofs.run_rows.RunRowsKeyedRows.greatest_by_place.Goals as goal

pub returns-clause-reads : goal.returns-clause-reads
returns-clause-reads g c =
    let runs = c.args.self.now.runs.now.runs in
    let most = looks_by_place runs (2 + log_up (most_pages runs)) in
    let read = c.greatest_of.ensures.reads in
    omega (arith, most, read)
