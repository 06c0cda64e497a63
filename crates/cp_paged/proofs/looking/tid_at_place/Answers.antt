use Rattle.std.proofs.Common.{arith}
use Rattle.cp_page.proofs.OrderRows.{parts_are, number_of, last_are}
use Rattle.cp_paged.proofs.TidsBehind.{tid-other, tid-here, differ, alike}
use Rattle.cp_paged.proofs.looking.tid_at_place.Goals as goal

pub returns-then-ne : goal.returns-then-ne
returns-then-ne c = λ q u e.
    let rows = c.in-Some.ensures.cases in
    let keys = c.in-Some-split_last_chunk.ensures.cases in
    let last = last_are c.args.row_key.now c.in-Some.front.now c.in-Some.last.now rows.1 rows.2 (λ i. omega (arith, c.type_inv.row_key i)) in
    let tail = last_are c.args.key.now c.in-Some-split_last_chunk.place.now c.in-Some-split_last_chunk.field-0-1.now keys.1 keys.2 (λ i. omega (arith, c.type_inv.key i)) in
    tid-other c.args.row_key.now c.in-Some.front.now c.in-Some.last.now c.args.key.now c.in-Some-split_last_chunk.place.now c.in-Some-split_last_chunk.field-0-1.now (parts_are _ _ _ _ rows.0 rows.1) last.0 (parts_are _ _ _ _ keys.0 keys.1) tail.0 q u e
    (differ _ _ _ c.ne.ensures c.if-ne.true)

pub returns : goal.returns
returns c = λ q u e.
    let rows = c.in-Some.ensures.cases in
    let keys = c.in-Some-split_last_chunk.ensures.cases in
    let last = last_are c.args.row_key.now c.in-Some.front.now c.in-Some.last.now rows.1 rows.2 (λ i. omega (arith, c.type_inv.row_key i)) in
    let tail = last_are c.args.key.now c.in-Some-split_last_chunk.place.now c.in-Some-split_last_chunk.field-0-1.now keys.1 keys.2 (λ i. omega (arith, c.type_inv.key i)) in
    let number = number_of c.in-Some.last.now c.from_be_bytes.result last.0 last.1 c.from_be_bytes.ensures in (
      number.0,
      tid-here c.args.row_key.now c.in-Some.front.now c.in-Some.last.now c.args.key.now c.in-Some-split_last_chunk.place.now c.in-Some-split_last_chunk.field-0-1.now (parts_are _ _ _ _ rows.0 rows.1) last.0 (parts_are _ _ _ _ keys.0 keys.1) tail.0 q u e
          (alike _ _ _ c.ne.ensures c.if-ne.false) c.from_be_bytes.result number.1,
    )
