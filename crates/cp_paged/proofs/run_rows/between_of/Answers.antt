use Rattle.std.proofs.Common.{sym, subst, IfOk, List, arith, ap, length}
use Rattle.cp_page.specs.Ranges.{rows_between}
use Rattle.cp_page.specs.declared.row.PageRow.{PageRow}
use Rattle.cp_run.specs.Answers.{IsBetween}
use Rattle.cp_paged.proofs.RunsHeld.{of_rows, none_bad}
use Rattle.cp_paged.proofs.RunsRead.{pages_fit, read_within}
use Rattle.cp_paged.proofs.RunsTold.{told_of}
use Rattle.cp_paged.proofs.run_rows.between_of.Goals as goal

pub returns-clause-found : goal.returns-clause-found
returns-clause-found g c = λ stored has.
    let e = c.between-found.ensures in
    let file = (g.D.Disk.known c.args.disk.now).view.content in
    let runs = c.args.runs.now.runs in
    let low = c.args.low.now in
    let high = c.args.high.now in
    subst (λ r. IfOk r (λ v. IsBetween low high (stored c.args.order) v.items)) (sym c.unless_bad.ensures)
    (told_of _ (λ v. IsBetween low high (stored c.args.order) v.items) c.between-found.result
    (λ n is. none_bad file c.args.order runs n has.runs (e.bad has.known has.pages n is))
    (subst (λ (rows : List PageRow). IfOk c.between-found.result (λ v. IsBetween low high rows v.items)) (sym (has.rows c.args.order)) (e.rows has.known has.pages (of_rows file c.args.order runs has.runs))))

pub returns-clause-reads : goal.returns-clause-reads
returns-clause-reads g c = λ stored has.
    let file = (g.D.Disk.known c.args.disk.now).view.content in
    let runs = c.args.runs.now.runs in
    let same = ap (λ (rows : List PageRow). length (rows_between c.args.low.now c.args.high.now rows)) (has.rows c.args.order) in
    read_within _ _ _ _ _ _ c.between-found.result c.between-found.ensures.looks
    (λ looks few. let h = few has.known has.pages (of_rows file c.args.order runs has.runs) _ (pages_fit c.args.order runs) in omega (arith, h, same))
