use Rattle.std.proofs.Common.{arith, ◌+◌}
use Rattle.cp_paged.specs.Stored.{log_up, most_pages}
use Rattle.cp_paged.proofs.RunsRead.{looks_by_loser}
use Rattle.cp_paged.proofs.run_rows.RunRowsKeyedRows.between_by_loser.Goals as goal

pub returns-clause-reads : goal.returns-clause-reads
returns-clause-reads g c = λ stored has.
    let runs = c.args.self.now.runs.now.runs in
    let most = looks_by_loser runs (log_up (most_pages runs)) in
    let read = c.between_of.ensures.reads stored has in
    omega (arith, most, read)
