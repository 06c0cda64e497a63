use Rattle.std.proofs.Common.{arith}
use Rattle.cp_page.proofs.Cases.{read_some, read_none}
use Rattle.cp_page.proofs.OrderRows.{a_record_by_step, no_mark_by_step, parts_are, number_of, first_are}
use Rattle.cp_page.proofs.order.record_by_step.Goals as goal

pub returns-in_default-3 : goal.returns-in_default-3
returns-in_default-3 c = no_mark_by_step c.args.key.now c.args.value.now (read_none _ _ _ _ c.in_default-3.is c.in_ok-op.ensures)

pub returns : goal.returns
returns c =
    let cases = c.in-Some.ensures.cases in
    let bytes = first_are c.args.key.now c.in-Some.first.now c.in-Some.behind.now cases.0 cases.2 (λ i. omega (arith, c.type_inv.key i)) in
    let number = number_of c.in-Some.first.now c.from_be_bytes-tid.result bytes.0 bytes.1 c.from_be_bytes-tid.ensures in
    a_record_by_step c.args.key.now c.args.value.now c.in-Some.first.now c.in-Some.behind.now (parts_are _ _ _ 8 cases.0 cases.1) bytes.0
    c.from_be_bytes-tid.result c.in-Some-3.op c.in-Some-2.loc c.in-Some-3.src number.0 number.1
    (read_some _ _ _ _ _ c.in-Some-2.is c.in_ok-loc.ensures) (read_some _ _ _ _ _ c.in-Some-3.is c.in_ok-op.ensures)
