use Rattle.std.proofs.Common.{◌+◌}
use Rattle.cp_paged.proofs.Both.{on-ok, grown}
use Rattle.cp_paged.specs.Keyed.{HasRecords}
use Rattle.cp_paged.specs.Paged.{KeepsMore}
use Rattle.cp_paged.specs.Stored.{HasRowsOf}
use Rattle.cp_paged.proofs.paged.PagedProvStore.absorb_packed.Goals as goal

pub returns-clause-rows : goal.returns-clause-rows
returns-clause-rows g c = λ rs kept.
    let s = c.args.self.now.store.now in
    on-ok c.absorb_packed.result (KeepsMore s.later c.absorb_packed.new.store c.args.rows.now) _ (grown (HasRecords (HasRowsOf (g.D.Disk.known c.args.self.now.disk.now) s.runs) s.kind) s.kind s.later c.absorb_packed.new.store rs c.args.rows.now (s.later.tail.rows.upto + c.args.tids) c.requires.next kept) c.absorb_packed.ensures.rows
