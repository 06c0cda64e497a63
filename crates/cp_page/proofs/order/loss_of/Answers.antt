use Rattle.std.proofs.Common.{rules, arith}
use Rattle.cp_page.proofs.Cases.{read_some}
use Rattle.cp_page.proofs.OrderRows.{a_loss, parts_are, number_of, last_are, empty_list}
use Rattle.cp_page.proofs.order.loss_of.Goals as goal

pub returns-in-Some-2 : goal.returns-in-Some-2
returns-in-Some-2 c =
    let cases = c.in-Some.ensures.cases in
    let bytes = last_are c.args.key.now c.in-Some.front.now c.in-Some.last.now cases.1 cases.2 (λ i. omega (arith, c.type_inv.key i)) in
    let number = number_of c.in-Some.last.now c.from_be_bytes.result bytes.0 bytes.1 c.from_be_bytes.ensures in
    a_loss c.args.key.now c.args.value.now c.in-Some.front.now c.in-Some.last.now (parts_are _ _ _ _ cases.0 cases.1) bytes.0
    c.from_be_bytes.result c.in-Some-2.place number.0 number.1 (read_some _ _ _ _ _ c.in-Some-2.is c.in_ok-place.ensures) (empty_list c.args.value.now (search rules))
