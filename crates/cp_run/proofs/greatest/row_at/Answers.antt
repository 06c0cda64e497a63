use Rattle.std.proofs.Common.{◌∙◌, ap, sym, Err}
use Rattle.std.specs.Option.{option_map}
use Rattle.cp_page.specs.Rows.{rows_of, greatest}
use Rattle.cp_run.proofs.BadPages.{fault_of_page}
use Rattle.cp_run.proofs.Composing.{kept_page}
use Rattle.cp_run.proofs.greatest.row_at.Goals as goal

pub returns-in-Ok-clause-row : goal.returns-in-Ok-clause-row
returns-in-Ok-clause-row c = λ content all.
    let page = kept_page content c.args.at c.in-Some.page.now c.args.cache.now.entries c.in-Some.ensures all in
    sym (ap (λ l. option_map (greatest c.args.key.now) (rows_of l)) page.bytes) ∙ c.in-Ok.ensures.found

pub returns-in-Err-clause-bad : goal.returns-in-Err-clause-bad
returns-in-Err-clause-bad c = λ content all n e.
    let page = kept_page content c.args.at c.in-Some.page.now c.args.cache.now.entries c.in-Some.ensures all in
    let fault = c.fault_at.ensures.bad n (fault_of_page _ _ e) in
    (fault.0, sym (ap rows_of page.bytes) ∙ c.in-Err.ensures.bad (ap Err fault.1))
