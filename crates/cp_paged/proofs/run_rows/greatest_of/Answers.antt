use Rattle.std.proofs.Common.{sym, subst, IfOk, List, None}
use Rattle.cp_page.specs.declared.row.PageRow.{PageRow}
use Rattle.cp_run.specs.Answers.{IsGreatest}
use Rattle.cp_paged.proofs.RunsHeld.{of_rows, none_bad}
use Rattle.cp_paged.proofs.RunsRead.{pages_fit, read_within}
use Rattle.cp_paged.proofs.RunsTold.{told_of}
use Rattle.cp_paged.proofs.run_rows.greatest_of.Goals as goal

pub returns-clause-found : goal.returns-clause-found
returns-clause-found g c = λ stored has.
    let e = c.greatest-found.ensures in
    let file = (g.D.Disk.known c.args.disk.now).view.content in
    let runs = c.args.runs.now.runs in
    let key = c.args.key.now in
    subst (λ r. IfOk r (IsGreatest key (stored c.args.order))) (sym c.unless_bad.ensures)
    (told_of None (IsGreatest key (stored c.args.order)) c.greatest-found.result
    (λ n is. none_bad file c.args.order runs n has.runs (e.bad has.known has.pages n is))
    (subst (λ (rows : List PageRow). IfOk c.greatest-found.result (IsGreatest key rows)) (sym (has.rows c.args.order)) (e.row has.known has.pages (of_rows file c.args.order runs has.runs))))

pub returns-clause-reads : goal.returns-clause-reads
returns-clause-reads g c =
    read_within _ _ _ _ _ _ c.greatest-found.result c.greatest-found.ensures.looks
    (λ looks few. few _ (pages_fit c.args.order c.args.runs.now.runs))
