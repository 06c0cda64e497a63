use Rattle.std.proofs.Common.{arith}
use Rattle.cp_page.proofs.Cases.{read_some}
use Rattle.cp_page.proofs.PathBytes.{too_large}
use Rattle.cp_page.proofs.place_key.place_of_key.Goals as goal

pub returns-then-size-gt-LOC_MAX : goal.returns-then-size-gt-LOC_MAX
returns-then-size-gt-LOC_MAX c =
    let read = read_some _ _ _ _ _ c.in-Some-2.is c.in_ok-path.ensures in
    let size = c.size.ensures.size in
    let large = c.if-size-gt-LOC_MAX.true in
    too_large c.args.key.now c.in-Some.rest.now c.in_ok-db.db c.in-Some-2.path c.in-Some.ensures read.1 c.in_ok-db.ensures (omega (arith, size, large))
