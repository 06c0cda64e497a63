use Rattle.std.proofs.Common.{refl}
use Rattle.cp_paged.proofs.Both.{more-of}
use Rattle.cp_paged.proofs.answers.absorb_packed.Goals as goal

pub returns-clause-rows : goal.returns-clause-rows
returns-clause-rows c = more-of c.absorb_packed.result c.args.store.now c.store.inside.tail c.absorb_packed.new.self c.store.inside.upto c.args.tids c.args.rows.now c.store.view_is c.absorb_packed.ensures.kind c.absorb_packed.ensures.last (c.absorb_packed.ensures.rows c.store.inside.tail.rows.list refl)
