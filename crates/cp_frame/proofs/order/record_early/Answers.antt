use Rattle.std.proofs.Common.{rules, ◌+◌, ◌<◌, ◌≤◌, ◌^◌, subst, ap, ◌∙◌, refl, get_or, arith}
use Rattle.std.specs.Int.{to_be_bytes, w64}
use Rattle.std.proofs.lemmas.List.{take_rest}
use Rattle.cp_frame.specs.OrderReading.{PathIsEarly, PathMayFollow}
use Rattle.cp_frame.proofs.Early.{common}
use Rattle.cp_frame.proofs.EarlyRecords.{all_follow, greater_path, greater_tid, lesser_path, lesser_tid}
use Rattle.cp_frame.proofs.order.record_early.Goals as goal

pub returns-then-same-begun-clause-follows : goal.returns-then-same-begun-clause-follows
returns-then-same-begun-clause-follows c = λ none.
    (let few : c.tid.result < 2 ^ 64 = search (rules, c.tid.auto) in
    let fits : c.args.elder.now.tid < 2 ^ 64 = subst (λ n. n < 2 ^ 64) c.tid.ensures few in
    let bytes = c.to_be_bytes-tid.ensures ∙ ap (to_be_bytes w64) c.tid.ensures in
    let is = c.common-same.ensures ∙ ap (λ l. common l c.args.begun.now) bytes in
    all_follow c.args.elder.now c.args.begun.now fits c.common-same.result is c.if-same-begun.true)

pub returns-then-tid-same-clause-follows : goal.returns-then-tid-same-clause-follows
returns-then-tid-same-clause-follows c = λ none.
    (let few : c.tid.result < 2 ^ 64 = search (rules, c.tid.auto) in
    let fits : c.args.elder.now.tid < 2 ^ 64 = subst (λ n. n < 2 ^ 64) c.tid.ensures few in
    let bytes = c.to_be_bytes-tid.ensures ∙ ap (to_be_bytes w64) c.tid.ensures in
    let is = c.common-same.ensures ∙ ap (λ l. common l c.args.begun.now) bytes in
    let lt = subst (λ l. get_or l c.common-same.result 0 < get_or c.args.begun.now c.common-same.result 0) bytes c.if-tid-same.true in
    greater_tid c.args.elder.now c.args.begun.now fits c.common-same.result is c.if-same-begun.false c.if-same-lt8.true lt)

pub returns-then-same-lt8-clause-early : goal.returns-then-same-lt8-clause-early
returns-then-same-lt8-clause-early c =
    let few : c.tid.result < 2 ^ 64 = search (rules, c.tid.auto) in
    let fits : c.args.elder.now.tid < 2 ^ 64 = subst (λ n. n < 2 ^ 64) c.tid.ensures few in
    let bytes = c.to_be_bytes-tid.ensures ∙ ap (to_be_bytes w64) c.tid.ensures in
    let is = c.common-same.ensures ∙ ap (λ l. common l c.args.begun.now) bytes in
    let le = subst (λ l. get_or c.args.begun.now c.common-same.result 0 ≤ get_or l c.common-same.result 0) bytes c.if-tid-same.false in
    lesser_tid c.args.elder.now c.args.begun.now fits c.common-same.result is c.if-same-begun.false c.if-same-lt8.true le

pub returns-in_err-early-clause-follows : goal.returns-in_err-early-clause-follows
returns-in_err-early-clause-follows c = λ none.
    (let few : c.tid.result < 2 ^ 64 = search (rules, c.tid.auto) in
    let fits : c.args.elder.now.tid < 2 ^ 64 = subst (λ n. n < 2 ^ 64) c.tid.ensures few in
    let bytes = c.to_be_bytes-tid.ensures ∙ ap (to_be_bytes w64) c.tid.ensures in
    let is = c.common-same.ensures ∙ ap (λ l. common l c.args.begun.now) bytes in
    let path = c.args.elder.now.loc.path in
    let may = subst (λ l. PathMayFollow path l) (take_rest c.args.begun.now (c.common-same.result + 1)) (c.in_err-early.ensures.follows path c.labels.ensures refl) in
    greater_path c.args.elder.now c.args.begun.now fits c.common-same.result is c.if-same-begun.false (λ lt. absurd (omega (arith, lt, c.if-same-lt8.false))) may)

pub returns-clause-early : goal.returns-clause-early
returns-clause-early c =
    let few : c.tid.result < 2 ^ 64 = search (rules, c.tid.auto) in
    let fits : c.args.elder.now.tid < 2 ^ 64 = subst (λ n. n < 2 ^ 64) c.tid.ensures few in
    let bytes = c.to_be_bytes-tid.ensures ∙ ap (to_be_bytes w64) c.tid.ensures in
    let is = c.common-same.ensures ∙ ap (λ l. common l c.args.begun.now) bytes in
    let path = c.args.elder.now.loc.path in
    let early = subst (λ l. PathIsEarly path l c.in_ok-early.early) (take_rest c.args.begun.now (c.common-same.result + 1)) (c.in_ok-early.ensures.early path c.labels.ensures) in
    lesser_path c.args.elder.now c.args.begun.now fits c.common-same.result is c.if-same-begun.false (λ lt. absurd (omega (arith, lt, c.if-same-lt8.false))) c.in_ok-early.early early
